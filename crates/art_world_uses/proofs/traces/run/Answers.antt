use Rattle.std.proofs.Common.{◌∙◌, sym, subst}
use Rattle.art_change.proofs.Ready.{ready_again, ready_may}
use Rattle.art_change.specs.Writes.{Fits, IsReady}
use Rattle.art_world_uses.proofs.traces.run.Goals as goal
use Rattle.art_epoch.specs.Limbo.{places_of}
use Rattle.art_step.specs.declared.views.Sizes.{Sizes as SizesOf}
use Rattle.art_world.specs.Stepper.{only_same, only_sizes, only_then, sizes_of, view_of}

pub loop-outcome-init : goal.loop-outcome-init
loop-outcome-init g c =
    let z = sizes_of c.args.stepper.now in
    let u = view_of c.args.stepper.now in
    let ps = places_of c.args.limbo.now in
    record { only = only_same c.args.stepper.now; fits = c.new-write.ensures.fits z u (ready_may z u 0 ps c.args.room.now c.requires.ready c.requires.room) }

pub loop-outcome-preserved : goal.loop-outcome-preserved
loop-outcome-preserved g c =
    let a = c.args.stepper.now in
    let l = c.loop-outcome in
    let u = view_of a in
    let ps = places_of c.args.limbo.now in
    let same = only_sizes a l.stepper l.invariant.only in
    record {
      only = only_then a l.stepper c.step.new.steps l.invariant.only c.step.ensures.only;
      fits = subst (λ (z : SizesOf). Fits z u ps c.step.new.write c.step.new.room (places_of c.step.new.limbo) (view_of c.step.new.steps)) same
          (c.step.ensures.fits u ps (subst (λ (z : SizesOf). Fits z u ps l.write l.room (places_of l.limbo) (view_of l.stepper)) (sym same) l.invariant.fits));
    }

pub returns-in-Some-clause-ready : goal.returns-in-Some-clause-ready
returns-in-Some-clause-ready g c =
    let a = c.args.stepper.now in
    let l = c.loop-outcome in
    let ps = places_of c.args.limbo.now in
    let same = only_sizes a l.stepper l.invariant.only in
    subst (λ (z : SizesOf). IsReady z (view_of l.stepper) 0 (places_of l.limbo) l.room.stock) (sym same)
    (ready_again (sizes_of a) (view_of a) 0 c.args.room.now.stock ps l.write l.room (places_of l.limbo) (view_of l.stepper) c.requires.ready
    c.in-Some.outcome (sym c.ended.ensures.at ∙ c.in-Some.is) l.invariant.fits)
