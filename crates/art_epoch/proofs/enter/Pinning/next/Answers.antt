-- The epoch that was noted may be stored.
use Rattle.std.proofs.Common.{subst}
use Rattle.art_epoch.specs.Pins.{Fits}
use Rattle.art_epoch.specs.declared.enter.Pinning.{Pinning}
use Rattle.art_epoch.proofs.Pinned.{may_store}
use Rattle.art_epoch.proofs.enter.Pinning.next.Goals as goal

pub returns-in-Storing-clause-allowed : goal.returns-in-Storing-clause-allowed
returns-in-Storing-clause-allowed c = λ z v0 v fits. may_store z v0 v c.in-Storing.epoch (subst (λ (m : Pinning). Fits z v0 m v) c.in-Storing.is fits)
