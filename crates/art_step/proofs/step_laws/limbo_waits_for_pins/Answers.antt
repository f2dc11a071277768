use Rattle.art_step.proofs.LimboWaits.{limbo_law}
use Rattle.art_step.proofs.PinsStay.{marked_law, pins_law}
use Rattle.art_step.proofs.step_laws.limbo_waits_for_pins.Goals as goal

pub returns-clause-waits : goal.returns-clause-waits
returns-clause-waits c = limbo_law

pub returns-clause-pins : goal.returns-clause-pins
returns-clause-pins c = pins_law

pub returns-clause-marked : goal.returns-clause-marked
returns-clause-marked c = marked_law
