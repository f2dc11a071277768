use Rattle.art_shared_uses.specs.Clients.{Writes}
use Rattle.art_shared_uses.proofs.contention.contends.Given as goal

abbrev pub invariant-loop-round : goal.invariant-loop-round
invariant-loop-round g l = Writes l.shared l.pass l.caller
