use Rattle.std.proofs.Common.{ap, sym, subst}
use Rattle.std.specs.Prelude.{IsUtf8}
use Rattle.std.proofs.lemmas.Str.{IsUtf8-string_bytes}
use Rattle.pv_shipped.proofs.upper.in_upper_case.Goals as goal

pub from_utf8-requires : goal.from_utf8-requires
from_utf8-requires c = subst IsUtf8 (ap (λ v. v.items) (sym c.into_bytes.ensures.value)) (IsUtf8-string_bytes c.make_ascii_uppercase.new.self)
