use Rattle.art_cell.specs.declared.cells.Pool.TheVariants.{Leaves as leaves}
use Rattle.art_attempt.proofs.Reserves.{told_sought}
use Rattle.art_attempt.proofs.reserve.leaf_told.Goals as goal

pub leaf_sought-requires : goal.leaf_sought-requires
leaf_sought-requires c =
    let r = c.requires in
    let p = r.8.stage.2.sought in
    (r.0, p.early, r.6, c.told.ensures.fits r.0 p.early r.5 r.6 r.7 p.seeks r.9 r.10)

pub returns : goal.returns
returns c z demand k value u v w asked fits is row =
    let p = fits.stage.2.sought in
    c.leaf_sought.ensures z demand k value u w fits.sizes fits.stage.0 fits.stage.1
    (told_sought z k value c.args.stock.now u c.args.taking c.told.new.self leaves v w p asked c.args.answer is row c.told.ensures.pool (c.told.ensures.fits z p.early v w asked p.seeks is row))
