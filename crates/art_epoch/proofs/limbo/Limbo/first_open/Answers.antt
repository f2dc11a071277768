-- The first place that may go stands at its index.
use Rattle.std.proofs.Common.{◌≡◌, List, arith, get_or, subst, sym, true, ◌∙◌}
use Rattle.art_epoch.specs.Limbo.{lets_go, no_place, places_of}
use Rattle.art_epoch.specs.declared.limbo.Place.{Place}
use Rattle.art_epoch.proofs.Waiting.{none_open, open_here}
use Rattle.art_epoch.proofs.limbo.Limbo.first_open.Goals as goal

pub returns-then-lets_go-clause-some : goal.returns-then-lets_go-clause-some
returns-then-lets_go-clause-some c =
    let low = c.loop-index-test.true in
    let goes = subst (λ (ps : List Place). lets_go c.args.least (get_or ps c.loop-index.index no_place).label ≡ true) c.deref.ensures.0 (sym c.lets_go.ensures ∙ c.if-lets_go.true) in
    (open_here c.args.least (places_of c.args.self.now) c.loop-index.index (omega (arith, low)) c.loop-index.invariant goes, omega (arith, low))

pub returns-clause-none : goal.returns-clause-none
returns-clause-none c = none_open c.args.least (places_of c.args.self.now) (λ j low. c.loop-index.invariant j (omega (arith, low, c.loop-index-test.false)))
