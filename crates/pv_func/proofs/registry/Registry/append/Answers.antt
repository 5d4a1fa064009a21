use Rattle.std.proofs.Common.{rules, ◌≡◌, ◌∷◌, [], ◌++◌, ◌∙◌, length, None, refl, sym, ap, subst}
use Rattle.pv_tree.specs.Merging.{place_of}
use Rattle.pv_func.proofs.Names.{index_unchanged, index_appended, cut_back}
use Rattle.pv_func.proofs.registry.Registry.append.Goals.{in-Ok, in-Err}
use Rattle.pv_func.proofs.registry.Registry.append.Goals as goal

pub invariant_of-self : goal.invariant_of-self
invariant_of-self g c =
    index_unchanged c.self.inside.numbers c.self.inside.numbers c.self.inside.functions.items c.push.new.self.items c.self.invariant refl c.in_err-push.ensures.items

pub invariant_of-self-in-Ok : goal.invariant_of-self-in-Ok
invariant_of-self-in-Ok g c =
    let none : place_of c.self.inside.functions.items c.args.name ≡ None = subst (λ xs. place_of xs c.args.name ≡ None) (sym c.self.view_is) c.requires in
    let last : c.len-number.result ≡ length c.self.inside.functions.items = search rules in
    index_appended c.self.inside.numbers c.insert.new.self c.self.inside.functions.items c.push.new.self.items c.args.name c.in_ok-key.key c.args.function
    c.len-number.result c.self.invariant none c.in_ok-key.ensures last c.in-Ok.ensures.updates c.in_ok-push.ensures.items

pub invariant_of-self-in-Err : goal.invariant_of-self-in-Err
invariant_of-self-in-Err g c =
    let last : c.len-number.result ≡ length c.self.inside.functions.items = search rules in
    index_unchanged c.self.inside.numbers c.insert.new.self c.self.inside.functions.items c.truncate.new.self.items c.self.invariant c.in-Err.ensures.err
    (cut_back c.self.inside.functions.items c.push.new.self.items c.truncate.new.self.items (c.args.name, c.args.function) c.len-number.result last
    c.in_ok-push.ensures.items c.truncate.ensures.items)

pub returns-clause-answer : goal.returns-clause-answer
returns-clause-answer g c =
    let last : c.len-number.result ≡ length c.self.inside.functions.items = search rules in
    elim c.match-insert.branch [
      | in-Ok w ↦ rw w.result-is (last ∙ ap length c.self.view_is)
      | in-Err w ↦ rw w.result-is refl
    ]

pub returns-clause-ok : goal.returns-clause-ok
returns-clause-ok g c = elim c.match-insert.branch [
  | in-Ok w ↦ rw w.result-is (w.self-is ∙ c.in_ok-push.ensures.items ∙ ap (λ xs. xs ++ (c.args.name, c.args.function) ∷ []) c.self.view_is)
  | in-Err w ↦ rw w.result-is tt
]

pub returns-clause-err : goal.returns-clause-err
returns-clause-err g c =
    let last : c.len-number.result ≡ length c.self.inside.functions.items = search rules in
    elim c.match-insert.branch [
      | in-Ok w ↦ rw w.result-is tt
      | in-Err w ↦ rw w.result-is
          (w.self-is
          ∙ cut_back c.self.inside.functions.items c.push.new.self.items w.truncate.new.self.items (c.args.name, c.args.function) c.len-number.result last
          c.in_ok-push.ensures.items w.truncate.ensures.items
          ∙ c.self.view_is)
    ]
