-- The numbers of nodes by their names.
use Rattle.std.proofs.Common.{◌≡◌, ℕ, ◌+◌, Bool, true, false, cond, List, [], ◌∷◌, ◌++◌, length, Option, Some, None, if◌then◌else◌, bytes_eq, unwrap_or, refl, ap, sym, ◌∙◌, subst, arith}
use Rattle.std.specs.BTreeMap.{BTreeMap, get, Updates}
use Rattle.std.specs.Cmp.Lexicographic.{texts_ties, bytes_decides}
use Rattle.pv_tree.specs.Merging.{name_cmp}
use Rattle.pv_node.specs.declared.Node.{Node, out-Node}
use Rattle.pv_node.specs.Preorder.{preorder}
use Rattle.pv_node.specs.References.{has_name, is_name}
use Rattle.pv_references.specs.Numbers.{number_from, number_named}
use Rattle.pv_references.specs.Nodes.{IsNumbering}

abbrev or_else : Option ℕ → Option ℕ → Option ℕ
or_else None o = o
or_else (Some i) o = Some i

-- one node more
one_more_by : (b : Bool) (at : ℕ) (rest : Option ℕ) (here last : Option ℕ) → rest ≡ or_else here last → (if b then Some at else rest) ≡ or_else (if b then Some at else here) last
one_more_by true at rest here last e = refl
one_more_by false at rest here last e = e

abbrev at_last : Bool → ℕ → Option ℕ
at_last b last = if b then Some last else None

one_more : (at last : ℕ) (q : List ℕ) (n : Node) (ns : List Node) → last ≡ at + length ns
    → number_from at q (ns ++ n ∷ []) ≡ or_else (number_from at q ns) (at_last (has_name q n) last)
one_more at last q n [] e = let same : at ≡ last = omega (arith, e) in ap (at_last (has_name q n)) same
one_more at last q n (m ∷ ns) e =
    one_more_by (has_name q m) at (number_from (at + 1) q (ns ++ n ∷ [])) (number_from (at + 1) q ns) (at_last (has_name q n) last)
    (one_more (at + 1) last q n ns (omega (arith, e)))

or_none : (o : Option ℕ) → or_else o None ≡ o
or_none None = refl
or_none (Some i) = refl

-- a node without a name
pub unnamed : (numbers : BTreeMap (List ℕ) ℕ) (earlier : List Node) (n : Node) → (out-Node n).own_ref ≡ None → IsNumbering numbers earlier → IsNumbering numbers (earlier ++ n ∷ [])
unnamed numbers earlier n none index = λ q.
    index q
    ∙ sym (one_more 0 (length earlier) q n earlier (omega arith) ∙ ap (λ o. or_else (number_from 0 q earlier) (at_last (is_name q o) (length earlier))) none ∙ or_none (number_from 0 q earlier))

-- a node whose name an earlier node has
kept_by : (b : Bool) (q k : List ℕ) (last i : ℕ) (found : Option ℕ) → (b ≡ true → q ≡ k) → (q ≡ k → found ≡ Some i) → found ≡ or_else found (at_last b last)
kept_by true q k last i found same there =
    let here = there (same refl) in
    here ∙ ap (λ o. or_else o (Some last)) (sym here)
kept_by false q k last i found same there = sym (or_none found)

pub named_before : (numbers : BTreeMap (List ℕ) ℕ) (earlier : List Node) (n : Node) (k : List ℕ) (i : ℕ) → (out-Node n).own_ref ≡ Some k → get name_cmp numbers k ≡ Some i
    → IsNumbering numbers earlier → IsNumbering numbers (earlier ++ n ∷ [])
named_before numbers earlier n k i own there index = λ q.
    index q
    ∙ kept_by (bytes_eq q k) q k (length earlier) i (number_from 0 q earlier) ((bytes_decides q k).0) (λ e. ap (λ x. number_from 0 x earlier) e ∙ sym (index k) ∙ there)
    ∙ sym (one_more 0 (length earlier) q n earlier (omega arith) ∙ ap (λ o. or_else (number_from 0 q earlier) (at_last (is_name q o) (length earlier))) own)

-- a node with a new name
added_by : (b : Bool) (q k : List ℕ) (last : ℕ) (found new : Option ℕ) → (b ≡ true → q ≡ k) → (q ≡ k → found ≡ None)
    → new ≡ cond b (Some last) found → new ≡ or_else found (at_last b last)
added_by true q k last found new same absent e = e ∙ ap (λ o. or_else o (Some last)) (sym (absent (same refl)))
added_by false q k last None new same absent e = e
added_by false q k last (Some i) new same absent e = e

turned : (k q : List ℕ) → bytes_eq k q ≡ bytes_eq q k
turned k q = by (bytes_eq k q) (bytes_eq q k) refl refl
  where
    by : (b c : Bool) → bytes_eq k q ≡ b → bytes_eq q k ≡ c → b ≡ c
    by true true e f = refl
    by false false e f = refl
    by true false e f = sym ((bytes_decides q k).1 (sym ((bytes_decides k q).0 e))) ∙ f
    by false true e f = sym e ∙ (bytes_decides k q).1 (sym ((bytes_decides q k).0 f))

named_new_at : (numbers more : BTreeMap (List ℕ) ℕ) (earlier : List Node) (n : Node) (k : List ℕ) → (out-Node n).own_ref ≡ Some k → get name_cmp numbers k ≡ None
    → Updates name_cmp numbers more k (Some (length earlier)) → IsNumbering numbers earlier → IsNumbering more (earlier ++ n ∷ [])
named_new_at numbers more earlier n k own absent u index = λ q.
    added_by (bytes_eq q k) q k (length earlier) (number_from 0 q earlier) (get name_cmp more q) ((bytes_decides q k).0) (λ e. ap (λ x. number_from 0 x earlier) e ∙ sym (index k) ∙ absent)
    (u.0 q ∙ ap (λ b. cond b (Some (length earlier)) (get name_cmp numbers q)) (sym (texts_ties k q) ∙ turned k q) ∙ ap (λ o. cond (bytes_eq q k) (Some (length earlier)) o) (index q))
    ∙ sym (one_more 0 (length earlier) q n earlier (omega arith) ∙ ap (λ o. or_else (number_from 0 q earlier) (at_last (is_name q o) (length earlier))) own)

-- the same, as an insertion says it
pub named_new : (numbers more : BTreeMap (List ℕ) ℕ) (earlier : List Node) (n : Node) (k l : List ℕ) (place number : ℕ) → (out-Node n).own_ref ≡ Some k → get name_cmp numbers k ≡ None
    → l ≡ k → length earlier ≡ place → number ≡ place → Updates name_cmp numbers more l (Some number) → IsNumbering numbers earlier → IsNumbering more (earlier ++ n ∷ [])
named_new numbers more earlier n k l place number own absent e f g u index =
    let named : Updates name_cmp numbers more k (Some number) = subst (λ x. Updates name_cmp numbers more x (Some number)) e u in
    named_new_at numbers more earlier n k own absent (subst (λ x. Updates name_cmp numbers more k (Some x)) (g ∙ sym f) named) index

-- the number that is looked up
pub number_found : (numbers : BTreeMap (List ℕ) ℕ) (root self : Node) (name : List ℕ) (last number : ℕ) → IsNumbering numbers (preorder root) → root ≡ self → get name_cmp numbers name ≡ Some number
    → number ≡ number_named self last name
number_found numbers root self name last number index same e =
    ap (λ o. unwrap_or o last) (sym e ∙ index name) ∙ ap (λ r. number_named r last name) same

pub number_absent : (numbers : BTreeMap (List ℕ) ℕ) (root self : Node) (name : List ℕ) (last : ℕ) → IsNumbering numbers (preorder root) → root ≡ self → get name_cmp numbers name ≡ None
    → last ≡ number_named self last name
number_absent numbers root self name last index same e =
    ap (λ o. unwrap_or o last) (sym e ∙ index name) ∙ ap (λ r. number_named r last name) same
