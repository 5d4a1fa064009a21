-- What the writer has appended after the last piece of an error and of a context.
use Rattle.std.proofs.Common.{◌≡◌, ℕ, false, nat_eq, List, [], ◌∷◌, ◌++◌, length, map, ap, ◌∙◌, append_assoc, append-nil}
use Rattle.std.specs.Prelude.{codes}
use Rattle.std.specs.List.{flat_map}
use Rattle.pv_notation.specs.Strings.{quoted}
use Rattle.pv_notation.specs.Lists.{joined}
use Rattle.pv_notation.specs.Compact.{compact, member_text}
use Rattle.pv_notation.specs.Locations.{loc_text}
use Rattle.pv_fault.specs.declared.faults.LineError.{LineError}
use Rattle.pv_fault.specs.declared.pieces.Member.{Member}
use Rattle.pv_fault.specs.Wordings.{key_and_json}
use Rattle.pv_fault.specs.Table.{Printed, printed_as}
use Rattle.pv_fault.specs.Errors.{object_text, context_member, error_members, error_text}

-- one more piece
step : (old a new p q : List ℕ) → a ≡ old ++ p → new ≡ a ++ q → new ≡ old ++ (p ++ q)
step old a new p q e f = f ∙ ap (λ x. x ++ q) e ∙ append_assoc old p q

object : (t l m i more : List ℕ) → (123 ∷ (t ++ 44 ∷ l)) ++ ((((44 ∷ m) ++ 44 ∷ []) ++ i) ++ more) ≡ 123 ∷ (t ++ (44 ∷ (l ++ (44 ∷ (m ++ (44 ∷ (i ++ more)))))))
object t l m i more =
    ap (λ x. (123 ∷ (t ++ 44 ∷ l)) ++ x) (ap (λ x. x ++ more) (append_assoc (44 ∷ m) (44 ∷ []) i) ∙ append_assoc (44 ∷ m) (44 ∷ i) more)
    ∙ append_assoc (123 ∷ t) (44 ∷ l) (44 ∷ (m ++ (44 ∷ (i ++ more))))

object_written : (old a b c d e f g new t l m i : List ℕ) (more : List (List ℕ))
    → a ≡ old ++ 123 ∷ [] → b ≡ a ++ (t ++ 44 ∷ l) → c ≡ b ++ 44 ∷ [] → d ≡ c ++ m → e ≡ d ++ 44 ∷ [] → f ≡ e ++ i → g ≡ f ++ flat_map (λ y. 44 ∷ y) more → new ≡ g ++ 125 ∷ []
    → new ≡ old ++ (123 ∷ joined (t ∷ l ∷ m ∷ i ∷ more) ++ 125 ∷ [])
object_written old a b c d e f g new t l m i more p1 p2 p3 p4 p5 p6 p7 p8 =
    let rest : g ≡ b ++ ((((44 ∷ m) ++ 44 ∷ []) ++ i) ++ flat_map (λ y. 44 ∷ y) more) = step b f g _ _ (step b e f _ _ (step b d e _ _ (step b c d _ _ p3 p4) p5) p6) p7 in
    step old g new _ _ (step old b g _ _ (step old a b _ _ p1 p2) rest) p8
    ∙ ap (λ x. old ++ (x ++ 125 ∷ [])) (object t l m i (flat_map (λ y. 44 ∷ y) more))

pub error_written : (old a b c d e f g new : List ℕ) (p : Printed) (x : LineError) → p ≡ printed_as x.kind
    → a ≡ old ++ 123 ∷ []
    → b ≡ a ++ (member_text (codes "type", quoted p.name) ++ 44 ∷ member_text (codes "loc", loc_text x.loc)) → c ≡ b ++ 44 ∷ []
    → d ≡ c ++ member_text (codes "msg", quoted p.message) → e ≡ d ++ 44 ∷ []
    → f ≡ e ++ member_text (codes "input", compact x.input)
    → g ≡ f ++ flat_map (λ y. 44 ∷ y) (map member_text (context_member p.context)) → new ≡ g ++ 125 ∷ []
    → new ≡ old ++ error_text x
unfolding error_text
error_written old a b c d e f g new p x same p1 p2 p3 p4 p5 p6 p7 p8 =
    object_written old a b c d e f g new (member_text (codes "type", quoted p.name)) (member_text (codes "loc", loc_text x.loc)) _ _ _ p1 p2 p3 p4 p5 p6 p7 p8 ∙ ap (λ q. old ++ object_text (error_members q x)) same

context : (key members : List ℕ) → ((((44 ∷ [] ++ (key ++ 58 ∷ [])) ++ 123 ∷ []) ++ members) ++ 125 ∷ []) ≡ (44 ∷ (key ++ 58 ∷ (123 ∷ members ++ 125 ∷ []))) ++ []
context key members = simp (append_assoc, append-nil)

pub context_written : (old a b c d new : List ℕ) (ms : List Member) → nat_eq (length ms) 0 ≡ false
    → a ≡ old ++ 44 ∷ [] → b ≡ a ++ (quoted (codes "ctx") ++ 58 ∷ []) → c ≡ b ++ 123 ∷ [] → d ≡ c ++ joined (map member_text (map key_and_json ms)) → new ≡ d ++ 125 ∷ []
    → new ≡ old ++ flat_map (λ m. 44 ∷ m) (map member_text (context_member (map key_and_json ms)))
context_written old a b c d new [] some p1 p2 p3 p4 p5 = cc
context_written old a b c d new (m ∷ ms) some p1 p2 p3 p4 p5 =
    step old d new _ _ (step old c d _ _ (step old b c _ _ (step old a b _ _ p1 p2) p3) p4) p5
    ∙ ap (λ x. old ++ x) (context (quoted (codes "ctx")) (joined (map member_text (map key_and_json (m ∷ ms)))))
