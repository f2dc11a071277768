use Rattle.art_workers.proofs.Chains.{HasHad}
use Rattle.art_workers.proofs.serving.work.Given as goal

abbrev pub invariant-loop-ended : goal.invariant-loop-ended
invariant-loop-ended g l = HasHad l.table l.fn.pass l.pass l.ended
