-- What a step makes of the views stands in the list.
use Rattle.std.proofs.Common.{List, ◌<◌, length, ap, sym, ◌∙◌, subst, slice_set, arith, length-set}
use Rattle.art_step.specs.declared.views.View.{View}
use Rattle.art_world.specs.Contents.{Contents, IsSoundWorld, StepBy}
use Rattle.art_world.proofs.ViewLists.{next, sound_after, stepped}
use Rattle.art_world.proofs.world.World.put.Goals as goal

pub changed-requires : goal.changed-requires
changed-requires g c =
    let Row = g.K.Shows.shown in
    let so = g.K.Shows.happens in
    rw c.copied.ensures (subst (λ (k : Contents). (new : List View) × StepBy k.sizes k.words (slice_set k.words c.args.place c.args.word) c.args.pass Row so k.views new) (sym c.self.view_is)
    (next _ _ _ c.args.pass _ Row so c.requires.pass (c.requires.moves (subst IsSoundWorld c.self.view_is c.self.invariant))))

pub returns : goal.returns
returns g c = stepped g.K.Shows.shown g.K.Shows.happens c.self.view_is c.copied.ensures c.requires.pass c.changed.ensures

pub index_mut-requires : goal.index_mut-requires
index_mut-requires g c =
    let low = subst (λ (k : Contents). c.args.place < length k.words) (sym c.self.view_is) (c.requires.place (subst IsSoundWorld c.self.view_is c.self.invariant)) in
    omega (arith, low)

pub invariant_of-self : goal.invariant_of-self
invariant_of-self g c = sound_after g.K.Shows.shown g.K.Shows.happens c.copied.ensures (length-set _ c.args.place c.args.word ∙ ap length (sym c.copied.ensures)) (subst (λ (k : Contents). c.args.pass < length k.views) (sym c.self.view_is) c.requires.pass) c.changed.ensures c.self.invariant
