-- Strings, a unit at a time. What is read are the bytes of the text.
use Rattle.std.specs.Prelude.{ℕ, zero, suc, ◌+◌, ◌-◌, ◌*◌, ◌==◌, nat_lt, nat_le}
use Rattle.std.specs.Prelude.{Result, Ok, Err, encode_utf8}
use Rattle.std.specs.Prelude.{Bool, true, false, ◌||◌, ◌&&◌, if◌then◌else◌}
use Rattle.std.specs.Prelude.{List, [], ◌∷◌, ◌++◌, length, take, drop}
use Rattle.pv_json_grammar.specs.Bytes.{space, tab, line_feed, carriage_return}
use Rattle.pv_json_grammar.specs.Bytes.{backspace, form_feed}
use Rattle.pv_json_grammar.specs.Bytes.{quote, slash, backslash}
use Rattle.pv_json_grammar.specs.Bytes.{lower_b, lower_f, lower_n, lower_r, lower_t, lower_u}
use Rattle.pv_json_grammar.specs.Bytes.{first_high, first_low}
use Rattle.pv_json_grammar.specs.Reading.{Reads, byte_in}
use Rattle.pv_number.specs.Scanning.{◌>>=◌}

-- UTF-8 (RFC 3629): the least second byte behind this first one
abbrev pub second_least : ℕ → ℕ
second_least b = if b == 224 then 160 else (if b == 240 then 144 else 128)

-- the greatest second byte behind this first one
abbrev pub second_most : ℕ → ℕ
second_most b = if b == 237 then 159 else (if b == 244 then 143 else 191)

-- the third byte of a character that begins with these two, and its fourth where it has one
abbrev pub raw_third : ℕ → ℕ → List ℕ → Reads (List ℕ)
raw_third b c bs = byte_in 128 191 bs >>= λ d.
    if nat_lt b 240 then Ok (b ∷ c ∷ d.0 ∷ [], d.1)
    else byte_in 128 191 d.1 >>= λ e. Ok (b ∷ c ∷ d.0 ∷ e.0 ∷ [], e.1)

-- a character of two to four bytes
unfoldable pub raw : List ℕ → Reads (List ℕ)
raw [] = Err 0
raw (b ∷ bs) =
    if nat_lt b 194 || nat_lt 244 b then Err (length bs + 1)
    else byte_in (second_least b) (second_most b) bs >>= λ c.
    if nat_lt b 224 then Ok (b ∷ c.0 ∷ [], c.1) else raw_third b c.0 c.1

-- what a hexadecimal digit counts, and 16 for no digit: 0 to 9, A to F, a to f
unfoldable pub hex_value : ℕ → ℕ
hex_value b =
    if nat_lt b 48 then 16
    else (if nat_lt b 58 then b - 48
    else (if nat_lt b 65 then 16
    else (if nat_lt b 71 then b - 55
    else (if nat_lt b 97 then 16
    else (if nat_lt b 103 then b - 87
    else 16)))))

-- a digit of this range
unfoldable pub hex : ℕ → ℕ → List ℕ → Reads ℕ
hex lo hi [] = Err 0
hex lo hi (b ∷ bs) =
    if nat_le lo (hex_value b) && nat_le (hex_value b) hi then Ok (hex_value b, bs)
    else Err (length bs + 1)

-- two more digits
unfoldable pub two : ℕ → List ℕ → Reads ℕ
two n bs = hex 0 15 bs >>= λ c. hex 0 15 c.1 >>= λ d. Ok ((n * 16 + c.0) * 16 + d.0, d.1)

-- four digits that are no low surrogate
unfoldable pub first_code : List ℕ → Reads ℕ
first_code bs =
    hex 0 15 bs >>= λ a.
    hex 0 (if a.0 == 13 then 11 else 15) a.1 >>= λ b. two (a.0 * 16 + b.0) b.1

-- the escape of a low surrogate
unfoldable pub low_code : List ℕ → Reads ℕ
low_code bs =
    byte_in backslash backslash bs >>= λ p.
    byte_in lower_u lower_u p.1 >>= λ q.
    hex 13 13 q.1 >>= λ a.
    hex 12 15 a.1 >>= λ b. two (208 + b.0) b.1

-- a high surrogate
abbrev pub is_high : ℕ → Bool
is_high u = nat_le first_high u && nat_lt u first_low

-- the code of a high and a low surrogate
abbrev pub joined : ℕ → ℕ → ℕ
joined u v = (u - first_high) * 1024 + (v - first_low) + 65536

-- what follows backslash and u
unfoldable pub unicode : List ℕ → Reads (List ℕ)
unicode bs = first_code bs >>= λ u.
    if is_high u.0 then low_code u.1 >>= (λ v. Ok (encode_utf8 (joined u.0 v.0), v.1))
    else Ok (encode_utf8 u.0, u.1)

-- what one letter behind a backslash stands for, and 0 for no such letter
unfoldable pub escaped : ℕ → ℕ
escaped b =
    if b == quote || b == backslash || b == slash then b
    else (if b == lower_b then backspace
    else (if b == lower_f then form_feed
    else (if b == lower_n then line_feed
    else (if b == lower_r then carriage_return
    else (if b == lower_t then tab
    else 0)))))

-- what follows a backslash
unfoldable pub escape : List ℕ → Reads (List ℕ)
escape [] = Err 0
escape (b ∷ bs) =
    if b == lower_u then unicode bs
    else (if escaped b == 0 then Err (length bs + 1) else Ok (escaped b ∷ [], bs))

-- a byte that does not stand for itself alone
abbrev pub ends_plain : ℕ → Bool
ends_plain b = nat_lt b space || nat_le 128 b || b == quote || b == backslash

-- how many bytes stand for themselves from here on
unfoldable pub plain : List ℕ → ℕ
plain [] = 0
plain (b ∷ bs) = if ends_plain b then 0 else plain bs + 1

-- one turn gives whether the string ends here, what was read, and what follows
abbrev pub Turn : Type 0
Turn = Result (Bool × List ℕ × List ℕ) ℕ

-- what was read of a unit, behind what was there before
abbrev pub goes_on : List ℕ → Reads (List ℕ) → Turn
goes_on out r = r >>= λ x. Ok (false, out ++ x.0, x.1)

-- what follows the bytes that stand for themselves
abbrev pub after_plain : List ℕ → List ℕ → Turn
after_plain out [] = Err 0
after_plain out (b ∷ bs) =
    if b == quote then Ok (true, out, bs)
    else (if b == backslash then goes_on out (escape bs) else goes_on out (raw (b ∷ bs)))

-- the bytes that stand for themselves, and one unit more or the closing quote
unfoldable pub turn : List ℕ → List ℕ → Turn
turn out bs = after_plain (out ++ take (plain bs) bs) (drop (plain bs) bs)

-- the end of the string, or more turns
abbrev pub after_turn : (List ℕ → List ℕ → Reads (List ℕ)) → Turn → Reads (List ℕ)
after_turn more r = r >>= λ x. if x.0 then Ok (x.1, x.2) else more x.1 x.2

-- Behind the opening quote, when `out` was read. Each turn takes a byte.
unfoldable pub string_from : ℕ → List ℕ → List ℕ → Reads (List ℕ)
string_from zero out bs = Err (length bs)
string_from (suc k) out bs = after_turn (string_from k) (turn out bs)

-- the text behind an opening quote
abbrev pub string : List ℕ → Reads (List ℕ)
string bs = string_from (length bs) [] bs
