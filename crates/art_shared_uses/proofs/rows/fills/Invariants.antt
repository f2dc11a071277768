use Rattle.art_shared_uses.specs.Clients.{Writes}
use Rattle.art_shared_uses.proofs.rows.fills.Given as goal

abbrev pub invariant-loop-row : goal.invariant-loop-row
invariant-loop-row g l = Writes l.shared l.pass l.caller
