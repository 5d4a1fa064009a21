-- What a reader in code returns is what reading gives.
use Rattle.std.specs.Prelude.{◌≡◌, ℕ, Result, Ok, Err}
use Rattle.pv_json.specs.declared.fault.ReadError.{ReadError}
use Rattle.pv_json.specs.declared.fault.ReadError.TheVariants as errors

-- an error that is where reading fails, or want of memory, of which nothing is said
abbrev pub Fails : {Y : Type 0} → ReadError → Result Y ℕ → Type 0
Fails errors.Memory read = Unit {0}
Fails (errors.Fault left) read = read ≡ Err left

-- what was returned, seen by `view`, is what reading gives, unless memory ran out
abbrev pub Gives : {X Y : Type 0} → (X → Y) → Result X ReadError → Result Y ℕ → Type 0
Gives view (Ok x) read = read ≡ Ok (view x)
Gives view (Err e) read = Fails e read
