-- The words of the one leaf in hand are written.
use Rattle.art_world.specs.Stepper.{pass_of, view_of, world_of}
use Rattle.art_step.specs.WordRows.{views_of}
use Rattle.art_world.proofs.ViewLists.{at_view}
use Rattle.std.proofs.Common.{◌∙◌, sym}
use Rattle.art_step.proofs.Changing.{moves_writes_leaf}
use Rattle.art_world.proofs.Moving.{leaf_named, word_low}
use Rattle.art_cell.specs.declared.cells.Cell.TheVariants as cell
use Rattle.art_step.specs.Tokens.{link_of_number}
use Rattle.art_world.proofs.world.steps.StepperSteps.write_leaf.Goals as goal

pub put-requires-clause-place : goal.put-requires-clause-place
put-requires-clause-place c i =
    let k = world_of c.args.self.now in
    let o = leaf_named (link_of_number c.args.number.now) c.in-Leaf.leaf (sym c.link.ensures ∙ c.in-Leaf.is) k.sizes (view_of c.args.self.now) c.args.place c.args.value c.requires.inside in
    rw c.place_of-first.ensures (word_low k (cell.Leaf c.in-Leaf.leaf) c.args.place i o.1 o.2.place)

pub put-requires-clause-moves : goal.put-requires-clause-moves
put-requires-clause-moves c i =
    let s = c.args.self.now in
    let k = world_of s in
    let o = leaf_named (link_of_number c.args.number.now) c.in-Leaf.leaf (sym c.link.ensures ∙ c.in-Leaf.is) k.sizes (view_of s) c.args.place c.args.value c.requires.inside in
    rw c.place_of-first.ensures (moves_writes_leaf k.sizes k.words (views_of k.views) (pass_of s) (view_of s) i.sound (at_view k.views (pass_of s) s.inside) i.long o.0 c.in-Leaf.leaf c.args.place c.args.value o.1 o.2 o.3)
