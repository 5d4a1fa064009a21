use Rattle.std.proofs.Common.{arith, ap, subst, sym}
use Rattle.pv_edge.specs.Cutting.{HasNoFeed}
use Rattle.pv_edge.proofs.Limits.{none_found, not_fitting}
use Rattle.pv_edge.proofs.Taking.{moved_on, takes_so}
use Rattle.pv_edge.proofs.finding.Finder.seek.Goals as goal

pub returns-then-not-fits-clause-takes : goal.returns-then-not-fits-clause-takes
returns-then-not-fits-clause-takes g c =
    let now = c.find_feed.new.self in
    let place = ap (λ f. f.place) c.self.view_is in
    let file = ap (λ f. f.file_limit) c.self.view_is in
    let none : HasNoFeed now.waiting = subst (λ f. HasNoFeed f.waiting) (sym c.find_feed.ensures.kept) (none_found c.find_feed.result _ c.find_feed.ensures.none c.in_default.not-Some) in
    takes_so _ _ _ _ _ _ c.loop-at.invariant.takes (λ more whole. (
      moved_on now c.loop-at.self c.args.self.now more c.find_feed.ensures.kept whole,
      not_fitting c.fits.result now.line_limit now.file_limit now.place now.waiting (omega (arith, place, file, c.self.invariant.1)) c.fits.ensures.1 c.if-not-fits.true none,
    ))
