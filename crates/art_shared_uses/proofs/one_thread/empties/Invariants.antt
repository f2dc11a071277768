use Rattle.art_shared_uses.specs.Clients.{Writes}
use Rattle.art_shared_uses.proofs.one_thread.empties.Given as goal

abbrev pub invariant-loop-number : goal.invariant-loop-number
invariant-loop-number g l = Writes l.shared l.pass l.caller
