-- The bytes and the codes that JSON gives a meaning.
use Rattle.std.specs.Prelude.{ℕ}

-- a tab
abbrev pub tab : ℕ
tab = 9

-- a line feed
abbrev pub line_feed : ℕ
line_feed = 10

-- a carriage return
abbrev pub carriage_return : ℕ
carriage_return = 13

-- a space
abbrev pub space : ℕ
space = 32

-- a quotation mark, which opens and closes a string
abbrev pub quote : ℕ
quote = 34

-- a comma, which stands between items and between members
abbrev pub comma : ℕ
comma = 44

-- a slash
abbrev pub slash : ℕ
slash = 47

-- a colon, which stands between a name and its value
abbrev pub colon : ℕ
colon = 58

-- the bracket that opens an array
abbrev pub open_bracket : ℕ
open_bracket = 91

-- a backslash, which begins an escape
abbrev pub backslash : ℕ
backslash = 92

-- the bracket that closes an array
abbrev pub close_bracket : ℕ
close_bracket = 93

-- the brace that opens an object
abbrev pub open_brace : ℕ
open_brace = 123

-- the brace that closes an object
abbrev pub close_brace : ℕ
close_brace = 125

-- the letter b
abbrev pub lower_b : ℕ
lower_b = 98

-- the letter f
abbrev pub lower_f : ℕ
lower_f = 102

-- the letter n
abbrev pub lower_n : ℕ
lower_n = 110

-- the letter r
abbrev pub lower_r : ℕ
lower_r = 114

-- the letter t
abbrev pub lower_t : ℕ
lower_t = 116

-- the letter u
abbrev pub lower_u : ℕ
lower_u = 117

-- a backspace
abbrev pub backspace : ℕ
backspace = 8

-- a form feed
abbrev pub form_feed : ℕ
form_feed = 12

-- the first high surrogate
abbrev pub first_high : ℕ
first_high = 55296

-- the first low surrogate, behind the last high one
abbrev pub first_low : ℕ
first_low = 56320

-- the first code behind the surrogates
abbrev pub past_surrogates : ℕ
past_surrogates = 57344
