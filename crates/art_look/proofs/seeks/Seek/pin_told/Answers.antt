use Rattle.std.proofs.Common.{ℕ, sym, ap, subst, arith, ◌+◌}
use Rattle.art_look.proofs.Pinned.{pinned_reads}
use Rattle.art_look.proofs.seeks.Seek.pin_told.Goals as goal
use Rattle.art_look.specs.Walks.{Fits}

pub returns-in-None-clause-fits : goal.returns-in-None-clause-fits
returns-in-None-clause-fits c z k hi u v w t asked p is row =
    let m = c.args.self.now in
    let pins_to = c.next.ensures.ended z u w (c.told.ensures.fits z u v w asked p.pinning is row) c.in-None.is in
    let none = p.none in
    let full = p.full in
    let few = p.few in
    c.turn.ensures.fits z k hi u w t (record {
      opened = w;
      may = p.may;
      pins_to = pins_to;
      walk = subst (λ (n : ℕ). Fits z k hi w m.walk t n w) (sym p.none) (p.fresh.fits w (pinned_reads z u w p.may pins_to));
      counted = ap (λ (n : ℕ). w.steps + n) p.full;
      within = omega (arith, full);
      few = omega (arith, none, full, few);
    }) p.fresh.going
