-- The words of the layout are copied, and each behind them takes 64 bits as before.
use Rattle.std.proofs.Common.{refl, ◌≡◌, ◌∙◌, sym, subst, arith}
use Rattle.art_cell.specs.declared.cells.Cell.TheVariants as cell
use Rattle.art_cell.specs.declared.cells.Node.{Node}
use Rattle.art_plan.specs.ChooseInsert.Bodies.{HasWords}
use Rattle.art_find.proofs.Keeping.{cell_fits}
use Rattle.art_plan.proofs.changes.fill.Goals as goal
use Rattle.art_plan.proofs.changes.fill.Goals.{After-are_words}

pub copy_to-requires : goal.copy_to-requires
copy_to-requires c = let long = c.size.ensures in let fits = cell_fits (cell.Node c.in-Node.node) in omega (arith, long, fits)

filled : (c : After-are_words) → HasWords c.in-Node.node c.args.reads.now (record { layout = c.in-Node.node.layout; words = c.copy_to.new.words })
filled c =
    let long = c.size.ensures in
    record {
      layout = refl;
      words = λ i low. c.copy_to.ensures.here i (omega (arith, low, long));
      behind = λ i high. c.are_words.ensures i;
    }

pub returns : goal.returns
returns c = λ n at.
    let same : cell.Node c.in-Node.node ≡ cell.Node n = sym c.in-Node.is ∙ at in
    let is : c.in-Node.node ≡ n = cc in
    subst (λ (m : Node). HasWords m c.args.reads.now (record { layout = c.in-Node.node.layout; words = c.copy_to.new.words })) is (filled c)
