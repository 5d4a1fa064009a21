use Rattle.std.proofs.Common.{◌≡◌, Option, None, Some, true, false, option_map, refl, sym, true≢false}
use Rattle.uuid.specs.Text.{parsed}
use Rattle.pv_formats.specs.Uuids.{uuid_of}
use Rattle.pv_formats.proofs.uuids.uuid.Goals as goal

none_of : {A B : Type 0} (f : A → B) (o : Option A) → ((u : A) × (o ≡ Some u) → false ≡ true) → None ≡ option_map f o
none_of f None h = refl
none_of f (Some u) h = absurd (true≢false (sym (h (u, refl))))

pub returns-in-Err : goal.returns-in-Err
unfolding uuid_of
returns-in-Err c = none_of _ (parsed c.args.text.now) c.in-Err.ensures.ok.1
