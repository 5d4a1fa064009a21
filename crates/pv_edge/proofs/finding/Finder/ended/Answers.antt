use Rattle.std.proofs.Common.{arith, ap, inl, inr}
use Rattle.pv_edge.proofs.Limits.{ended_too_large}
use Rattle.pv_edge.proofs.finding.Finder.ended.Goals.{then-at-self-via-then-at-self, then-at-self-via-else-at-self+then-at-self-2}
use Rattle.pv_edge.proofs.finding.Finder.ended.Goals as goal

pub returns-then-at-self-clause-found : goal.returns-then-at-self-clause-found
returns-then-at-self-clause-found c =
    let limit = ap (λ f. f.line_limit) c.self.view_is in
    let file = ap (λ f. f.file_limit) c.self.view_is in
    let place = ap (λ f. f.place) c.self.view_is in
    ended_too_large c.args.self.now.line_limit c.args.self.now.file_limit c.args.self.now.place c.args.self.now.waiting c.args.at c.requires.within c.requires.feed c.requires.first
    (elim c.then-at-self.branch [ then-at-self-via-then-at-self w ↦ inl (omega (arith, w.if-at-self.true, limit)) | then-at-self-via-else-at-self+then-at-self-2 w ↦ inr (omega (arith, w.if-at-self-2.true, file, place)) ])
