use Rattle.std.proofs.Common.{subst, sym}
use Rattle.art_runs.specs.ArtChange.Calls.{IsCaller}
use Rattle.art_runs.specs.ArtChange.declared.callers.Caller.{Caller}
use Rattle.art_runs_uses.proofs.benches.ended.Goals as goal

pub returns-in-Some-clause-ended : goal.returns-in-Some-clause-ended
returns-in-Some-clause-ended c z v under =
    subst (λ (k : Caller). IsCaller z v k) (sym c.into_caller.ensures) (c.in-Some.ensures.called z under.wish under.given under.turns under.began v under.calling).caller
