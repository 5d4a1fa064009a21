use Rattle.std.proofs.Common.{◌≡◌, ◌∷◌, ◌++◌, take}
use Rattle.std.specs.List.{flat_map}
use Rattle.pv_notation.specs.Compact.{member_text}
use Rattle.pv_fault.specs.Wordings.{key_and_json}
use Rattle.pv_fault.proofs.printing.write_members.Given as goal

abbrev pub invariant-loop-member : goal.invariant-loop-member
invariant-loop-member l = l.out ≡ l.initial.out ++ flat_map (λ m. 44 ∷ member_text (key_and_json m)) (take l.member-index l.rest)
