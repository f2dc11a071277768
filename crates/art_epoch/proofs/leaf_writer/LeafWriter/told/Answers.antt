-- One word more is written.
use Rattle.std.proofs.Common.{◌≡◌, Bool, if◌then◌else◌, Some, None, sym, ap, ◌∙◌, subst, arith}
use Rattle.std.proofs.lemmas.Bool.{lt-ltb}
use Rattle.std.proofs.lemmas.Option.{same_Some}
use Rattle.art_cell.specs.Leaves.{leaf_word}
use Rattle.art_step.proofs.Words.{done_row}
use Rattle.art_step.specs.Acting.{Answers}
use Rattle.art_step.specs.declared.actions.Action.{Action}
use Rattle.art_step.specs.declared.actions.Action.TheVariants.{WriteLeaf}
use Rattle.art_epoch.proofs.PackedLeaves.{pack_on, pack_steps, packs_on}
use Rattle.art_epoch.proofs.leaf_writer.LeafWriter.told.Goals as goal

pub returns-clause-fits : goal.returns-clause-fits
returns-clause-fits c z l k value u v w a answer fits is row =
    let place = c.args.self.now.place in
    let low = c.requires in
    let put : Action = WriteLeaf l place (leaf_word k value place) in
    let same : put ≡ a = same_Some put a (sym (ap (λ (b : Bool). if b then Some put else None) (lt-ltb place 10 low)) ∙ is) in
    let wrote = done_row z None put answer v w tt (subst (λ (b : Action). Answers z None b answer v w) (sym same) row) in
    record {
      low = omega arith;
      packed = pack_on z l k value place u v w low fits.packed wrote;
      only = packs_on z l k value place u v w low fits.packed wrote fits.only;
      steps = let one = pack_steps z l k value place u v w low fits.packed wrote in let before = fits.steps in omega arith;
    }
