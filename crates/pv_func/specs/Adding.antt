-- What an addition to a registry answers.
use Rattle.std.specs.Prelude.{◌≡◌, ℕ, List, length, Result, Err, MatchOption}
use Rattle.std.specs.Result.{MatchResult}
use Rattle.pv_func.specs.declared.func.FuncId.{FuncId}
use Rattle.pv_func.specs.declared.registry.AddFault.{AddFault}
use Rattle.pv_func.specs.declared.registry.AddFault.TheVariants.{NameTaken, Memory}
use Rattle.pv_func.specs.Functions.{Named, named}

-- where a function of the name is there, that the name is taken; else the next number, or want of
-- memory
abbrev pub AddGives : {X : Type 0} → Named X → List ℕ → Result FuncId AddFault → Type 0
AddGives fs name result =
    MatchOption (named fs name) (MatchResult result (λ id. id.number ≡ length fs) (λ e. e ≡ Memory))
    (λ f. result ≡ Err (NameTaken name))
