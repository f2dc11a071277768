-- Once the machine has ended, what may go has gone.
use Rattle.std.proofs.Common.{ℕ, ap, subst}
use Rattle.art_epoch.specs.Reclaiming.{Reclaims, freed_at}
use Rattle.art_epoch.specs.declared.limbo.ReclaimStage.{ReclaimStage}
use Rattle.art_epoch.proofs.Reclaimed.{reclaim_ends}
use Rattle.art_epoch.proofs.limbo.Reclaiming.freed.Goals as goal

pub returns-in-Freeing-clause-reclaims : goal.returns-in-Freeing-clause-reclaims
returns-in-Freeing-clause-reclaims c = λ z v0 v ps qs fits none.
    subst (λ (n : ℕ). Reclaims z v0 v ps qs n) (ap (λ (s : ReclaimStage). freed_at s) c.in-Freeing.is) (reclaim_ends z v0 ps qs c.args.self.now v fits none)
