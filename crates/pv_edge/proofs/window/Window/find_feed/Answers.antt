use Rattle.std.proofs.Common.{◌≡◌, ◌∙◌, ◌+◌, arith, length, drop, take, ap, subst, sym, length-drop}
use Rattle.std.proofs.lemmas.List.{take_all}
use Rattle.pv_edge.specs.Cutting.{HasNoFeed}
use Rattle.pv_edge.proofs.Feeds.{found, found_within, from_place, not_found}
use Rattle.pv_edge.proofs.window.Window.find_feed.Goals as goal

pub returns-in-Some-clause-first : goal.returns-in-Some-clause-first
returns-in-Some-clause-first c =
    let same : drop c.self.inside.start c.self.inside.bytes.items ≡ c.args.self.now.waiting = ap (λ w. w.waiting) c.self.view_is in
    found c.args.self.now.waiting _ c.self.inside.clear c.in-Some.place c.memchr.result (from_place c.args.self.now.waiting c.waiting.result.now c.self.inside.clear c.waiting.ensures) c.in-Some.is
    (subst (λ l. HasNoFeed (take c.self.inside.clear l)) same c.self.invariant.3) c.memchr.ensures

pub returns-in-None-clause-none : goal.returns-in-None-clause-none
returns-in-None-clause-none c =
    let same : drop c.self.inside.start c.self.inside.bytes.items ≡ c.args.self.now.waiting = ap (λ w. w.waiting) c.self.view_is in
    not_found c.args.self.now.waiting _ c.self.inside.clear c.memchr.result (from_place c.args.self.now.waiting c.waiting.result.now c.self.inside.clear c.waiting.ensures) c.in-None.is
    (subst (λ l. HasNoFeed (take c.self.inside.clear l)) same c.self.invariant.3) c.memchr.ensures

pub invariant_of-self : goal.invariant_of-self
invariant_of-self c =
    let same : c.args.self.now.waiting ≡ drop c.self.inside.start c.self.inside.bytes.items = sym (ap (λ w. w.waiting) c.self.view_is) in
    let seen = found_within c.args.self.now.waiting _ c.self.inside.clear c.in-Some.place c.memchr.result (from_place c.args.self.now.waiting c.waiting.result.now c.self.inside.clear c.waiting.ensures) c.in-Some.is c.memchr.ensures in
    let long : length c.args.self.now.waiting ≡ length (drop c.self.inside.start c.self.inside.bytes.items) = ap length same in
    (c.self.invariant.0, c.self.invariant.1, omega (arith, seen, long, c.self.invariant.2, c.self.inside.bytes.ok.0, length-drop c.self.inside.start c.self.inside.bytes.items), subst (λ l. HasNoFeed (take (c.self.inside.clear + c.in-Some.place) l)) same (returns-in-Some-clause-first c))

pub invariant_of-self-in-None : goal.invariant_of-self-in-None
invariant_of-self-in-None c =
    let items = c.self.inside.bytes.items in
    let same : c.args.self.now.waiting ≡ drop c.self.inside.start items = sym (ap (λ w. w.waiting) c.self.view_is) in
    let long : length c.waiting-in-None.result.now ≡ length (drop c.self.inside.start items) = ap length (c.waiting-in-None.ensures ∙ same) in
    (c.self.invariant.0, c.self.invariant.1, omega (arith, long, c.self.invariant.2, c.self.inside.bytes.ok.0, length-drop c.self.inside.start items), subst HasNoFeed (sym (take_all (length c.waiting-in-None.result.now) (drop c.self.inside.start items) (omega (arith, long)))) (subst HasNoFeed same (returns-in-None-clause-none c)))
