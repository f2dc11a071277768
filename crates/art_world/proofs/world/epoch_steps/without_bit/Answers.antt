use Rattle.std.proofs.Common.{arith}
use Rattle.art_world.proofs.world.epoch_steps.without_bit.Goals as goal

pub returns-in-Some : goal.returns-in-Some
returns-in-Some c = rw c.in-Some.is (grind arith)
