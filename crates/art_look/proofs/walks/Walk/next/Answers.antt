use Rattle.std.proofs.Common.{sym, subst}
use Rattle.std.specs.Prelude.{IfSome}
use Rattle.art_find.specs.Asking.{MayLook}
use Rattle.art_find.specs.Driven.{get_done}
use Rattle.art_look.proofs.walks.Walk.next.Goals as goal
use Rattle.art_look.specs.Walks.{Fits, Settles}
use Rattle.art_look.specs.declared.walks.Walk.{Walk as WalkOf}

pub returns-in-Key-clause-allowed : goal.returns-in-Key-clause-allowed
returns-in-Key-clause-allowed c z k hi t u v n fits =
    let f = subst (λ (w : WalkOf). Fits z k hi u w t n v) c.in-Key.is fits in
    subst (λ (w : WalkOf). IfSome c.next.result (MayLook z (Settles w k t) v)) (sym c.in-Key.is) (c.next.ensures.allowed z k (get_done k) u v f.fits)
