-- What is found among objects, and among what they do.
use Rattle.std.proofs.Common.{◌≡◌, ℕ, Bool, true, false, cond, List, [], ◌∷◌, refl, sym, ap, ◌∙◌}
use Rattle.std.specs.Prelude.{Option, None, Some, option_map, bytes_eq}
use Rattle.std.specs.Option.{option_and_then}
use Rattle.pv_tree.specs.declared.Tree.{Tree}
use Rattle.pv_tree.specs.declared.Value.{Value}
use Rattle.pv_func.specs.declared.raise.Raw.{Raw}
use Rattle.pv_func.specs.declared.raise.Made.{Made}
use Rattle.pv_func.specs.Wrapper.{Wrapper}
use Rattle.pv_func.specs.declared.func.Func.{Func}
use Rattle.pv_func.specs.declared.func.Func.TheVariants.{Before, After, Plain, Wrap}
use Rattle.pv_func.specs.Functions.{Named, named, kind_of, kind_named, before_of, after_of, plain_of, wrap_of, before_named, after_named, plain_named, wrap_named, meaning_of, meanings}

module _ {B A P W : Type 0} (before : B → Tree → Raw) (after : A → Value → Made) (plain : P → Tree → Made) (wrapper : W → Wrapper) where
  found_by : (b : Bool) (f : Func B A P W) (fs : Named (Func B A P W)) (name : List ℕ)
      → named (meanings before after plain wrapper fs) name ≡ option_map (meaning_of before after plain wrapper) (named fs name)
      → cond b (Some (meaning_of before after plain wrapper f)) (named (meanings before after plain wrapper fs) name) ≡ option_map (meaning_of before after plain wrapper) (cond b (Some f) (named fs name))
  found_by true f fs name h = refl
  found_by false f fs name h = h

  pub found : (fs : Named (Func B A P W)) (name : List ℕ) → named (meanings before after plain wrapper fs) name ≡ option_map (meaning_of before after plain wrapper) (named fs name)
  found [] name = refl
  found (f ∷ fs) name = found_by (bytes_eq name f.0) f.1 fs name (found fs name)

  kind_by : (f : Option (Func B A P W)) → option_map kind_of (option_map (meaning_of before after plain wrapper) f) ≡ option_map kind_of f
  kind_by None = refl
  kind_by (Some (Before b)) = refl
  kind_by (Some (After a)) = refl
  kind_by (Some (Plain p)) = refl
  kind_by (Some (Wrap w)) = refl

  pub kinds : (fs : Named (Func B A P W)) (name : List ℕ) (f : Option (Func B A P W)) → f ≡ named fs name → kind_named (meanings before after plain wrapper fs) name ≡ option_map kind_of f
  kinds fs name f e = ap (option_map kind_of) (found fs name) ∙ kind_by (named fs name) ∙ ap (option_map kind_of) (sym e)

  before_by : (f : Option (Func B A P W)) → option_and_then before_of (option_map (meaning_of before after plain wrapper) f) ≡ option_map before (option_and_then before_of f)
  before_by None = refl
  before_by (Some (Before b)) = refl
  before_by (Some (After a)) = refl
  before_by (Some (Plain p)) = refl
  before_by (Some (Wrap w)) = refl

  pub befores : (fs : Named (Func B A P W)) (name : List ℕ) (f : Option (Func B A P W)) → f ≡ named fs name
      → before_named (meanings before after plain wrapper fs) name ≡ option_map before (option_and_then before_of f)
  befores fs name f e = ap (option_and_then before_of) (found fs name) ∙ before_by (named fs name) ∙ ap (λ o. option_map before (option_and_then before_of o)) (sym e)

  after_by : (f : Option (Func B A P W)) → option_and_then after_of (option_map (meaning_of before after plain wrapper) f) ≡ option_map after (option_and_then after_of f)
  after_by None = refl
  after_by (Some (Before b)) = refl
  after_by (Some (After a)) = refl
  after_by (Some (Plain p)) = refl
  after_by (Some (Wrap w)) = refl

  pub afters : (fs : Named (Func B A P W)) (name : List ℕ) (f : Option (Func B A P W)) → f ≡ named fs name
      → after_named (meanings before after plain wrapper fs) name ≡ option_map after (option_and_then after_of f)
  afters fs name f e = ap (option_and_then after_of) (found fs name) ∙ after_by (named fs name) ∙ ap (λ o. option_map after (option_and_then after_of o)) (sym e)

  plain_by : (f : Option (Func B A P W)) → option_and_then plain_of (option_map (meaning_of before after plain wrapper) f) ≡ option_map plain (option_and_then plain_of f)
  plain_by None = refl
  plain_by (Some (Before b)) = refl
  plain_by (Some (After a)) = refl
  plain_by (Some (Plain p)) = refl
  plain_by (Some (Wrap w)) = refl

  pub plains : (fs : Named (Func B A P W)) (name : List ℕ) (f : Option (Func B A P W)) → f ≡ named fs name
      → plain_named (meanings before after plain wrapper fs) name ≡ option_map plain (option_and_then plain_of f)
  plains fs name f e = ap (option_and_then plain_of) (found fs name) ∙ plain_by (named fs name) ∙ ap (λ o. option_map plain (option_and_then plain_of o)) (sym e)

  wrap_by : (f : Option (Func B A P W)) → option_and_then wrap_of (option_map (meaning_of before after plain wrapper) f) ≡ option_map wrapper (option_and_then wrap_of f)
  wrap_by None = refl
  wrap_by (Some (Before b)) = refl
  wrap_by (Some (After a)) = refl
  wrap_by (Some (Plain p)) = refl
  wrap_by (Some (Wrap w)) = refl

  pub wraps : (fs : Named (Func B A P W)) (name : List ℕ) (f : Option (Func B A P W)) → f ≡ named fs name
      → wrap_named (meanings before after plain wrapper fs) name ≡ option_map wrapper (option_and_then wrap_of f)
  wraps fs name f e = ap (option_and_then wrap_of) (found fs name) ∙ wrap_by (named fs name) ∙ ap (λ o. option_map wrapper (option_and_then wrap_of o)) (sym e)
