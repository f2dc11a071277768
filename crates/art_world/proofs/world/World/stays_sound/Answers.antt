use Rattle.std.proofs.Common.{subst}
use Rattle.art_step.specs.Sound.{IsSound}
use Rattle.art_world.specs.Contents.{Contents, memory_now}
use Rattle.art_world.specs.Lasting.{IsLasting}
use Rattle.art_step.specs.WordRows.{views_of}
use Rattle.art_world.proofs.world.World.stays_sound.Goals as goal

pub returns-clause-sound : goal.returns-clause-sound
returns-clause-sound c = subst (λ (k : Contents). IsSound k.sizes (memory_now k) (views_of k.views)) c.self.view_is c.self.invariant.sound

pub returns-clause-lasting : goal.returns-clause-lasting
returns-clause-lasting c = subst (λ (k : Contents). IsLasting k.sizes (memory_now k) (views_of k.views)) c.self.view_is c.self.invariant.lasting
