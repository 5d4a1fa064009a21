use Rattle.std.proofs.Common.{◌≡◌, ℕ, List, Ok, Err, sym, ◌∙◌}
use Rattle.std.specs.Prelude.{Result, IfOk, IfErr}
use Rattle.pv_tree.specs.declared.Tree.{Tree}
use Rattle.pv_json_grammar.specs.Documents.{whole, bad, ends_early, reading}
use Rattle.pv_json_grammar.specs.Spells.{SpellsDocument}
use Rattle.pv_json_grammar.proofs.Readings.{reading_sound, reading_complete}
use Rattle.pv_json.specs.Refuses.{IsWithoutTree, Refuses}
use Rattle.pv_json.specs.declared.fault.ReadFault.{ReadFault}
use Rattle.pv_json.specs.declared.fault.ReadFault.TheVariants as faults
use Rattle.pv_json.specs.declared.reading.TheConstants.{NESTING}
use Rattle.pv_json.proofs.reading.read.Goals as goal

spelled : (n : ℕ) (bs : List ℕ) (r : Result Tree ReadFault) → IfOk r (λ t. reading n bs ≡ whole t) → IfOk r (λ t. SpellsDocument n bs t)
spelled n bs (Ok t) e = reading_sound n bs t e
spelled n bs (Err x) e = tt

-- no tree where reading fails
refused : (n : ℕ) (bs : List ℕ) (x : ReadFault) → Refuses x (reading n bs) → IsWithoutTree x n bs
refused n bs (faults.Bad at) e = λ t s. let both : whole t ≡ bad at = sym (reading_complete n bs t s) ∙ e in cc
refused n bs faults.End e = λ t s. let both : whole t ≡ ends_early = sym (reading_complete n bs t s) ∙ e in cc
refused n bs faults.Memory e = tt

unspelled : (n : ℕ) (bs : List ℕ) (r : Result Tree ReadFault) → IfErr r (λ x. Refuses x (reading n bs)) → IfErr r (λ x. IsWithoutTree x n bs)
unspelled n bs (Ok t) e = tt
unspelled n bs (Err x) e = refused n bs x e

pub returns-clause-spelled : goal.returns-clause-spelled
returns-clause-spelled c = spelled NESTING c.args.input.now c.read_whole.result c.read_whole.ensures.tree

pub returns-clause-unspelled : goal.returns-clause-unspelled
returns-clause-unspelled c = unspelled NESTING c.args.input.now c.read_whole.result c.read_whole.ensures.fault
