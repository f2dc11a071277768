use Rattle.std.proofs.Common.{◌∙◌, sym, ap, arith}
use Rattle.art_world_uses.proofs.Ready.{opened_ready}
use Rattle.art_world_uses.proofs.traces.last_steps.Goals as goal
use Rattle.art_epoch.specs.Limbo.{places_of}
use Rattle.art_world.specs.Contents.{Contents}

pub loop-number-init : goal.loop-number-init
loop-number-init g c = record {
  sizes = c.empty-room.ensures.sizes ∙ sym (ap (λ (w : Contents). w.sizes) c.at-stepper.ensures.world ∙ c.opened-world.ensures.sizes);
  ready = opened_ready c.args.sizes.now 0 c.opened-world.result c.at-stepper.result (places_of c.empty-room.result.1) c.empty-room.result.0.stock c.opened-world.ensures (omega arith) c.at-stepper.ensures.world c.at-stepper.ensures.pass
      c.empty-room.ensures.ready;
}
