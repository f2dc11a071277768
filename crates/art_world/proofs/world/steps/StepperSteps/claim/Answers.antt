-- The node is one that may be claimed.
use Rattle.art_world.specs.Stepper.{pass_of, view_of, world_of}
use Rattle.art_step.specs.WordRows.{views_of}
use Rattle.art_world.proofs.ViewLists.{at_view}
use Rattle.std.proofs.Common.{◌≡◌, ◌∙◌, sym}
use Rattle.art_cell.specs.declared.cells.Link.TheVariants.{Node as node}
use Rattle.art_cell.specs.declared.cells.Cell.TheVariants as cell
use Rattle.art_step.specs.Tokens.{link_of_number}
use Rattle.art_step.proofs.Changing.{moves_claims}
use Rattle.art_world.proofs.Moving.{claim_named, version_low}
use Rattle.art_world.proofs.world.steps.StepperSteps.claim.Goals as goal

pub put-requires-clause-place : goal.put-requires-clause-place
put-requires-clause-place c i =
    let s = c.args.self.now in
    let k = world_of s in
    let may = claim_named k.sizes (view_of s) (link_of_number c.args.number) c.in-Node.node c.requires.inside (sym c.spend.ensures ∙ c.in-Node.is) in
    rw (c.place_of-place.ensures, c.sizes.ensures) (version_low k (cell.Node c.in-Node.node) i may.0)

pub put-requires-clause-moves : goal.put-requires-clause-moves
put-requires-clause-moves c i =
    let s = c.args.self.now in
    let k = world_of s in
    let may = claim_named k.sizes (view_of s) (link_of_number c.args.number) c.in-Node.node c.requires.inside (sym c.spend.ensures ∙ c.in-Node.is) in
    rw (c.place_of-place.ensures, c.sizes.ensures, c.claimed.ensures) (moves_claims k.sizes k.words (views_of k.views) (pass_of s) (view_of s) i.sound (at_view k.views (pass_of s) s.inside) i.long c.in-Node.node may.0 may.1)

pub returns-clause-row : goal.returns-clause-row
returns-clause-row c n is =
    let named : node c.in-Node.node ≡ node n = sym c.in-Node.is ∙ c.spend.ensures ∙ is in
    let same : c.in-Node.node ≡ n = cc in
    (rw (sym same) c.of.ensures, rw (sym same) c.put.ensures.row)
