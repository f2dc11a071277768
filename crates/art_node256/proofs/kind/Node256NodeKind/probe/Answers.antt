use Rattle.std.proofs.Common.{◌∙◌, sym, ap, arith}
use Rattle.art_cell.specs.Words.{nonzero}
use Rattle.art_cell.specs.Lemmas.Entries.{nonzero_some}
use Rattle.art_node256.proofs.kind.Node256NodeKind.probe.Goals as goal

pub returns-in-Some-eq0-clause-tells : goal.returns-in-Some-eq0-clause-tells
returns-in-Some-eq0-clause-tells c w body agrees =
    ap nonzero (ap w (sym c.place_of-place.ensures) ∙ agrees c.place_of-place.result c.in-Some-eq0.field-0 (sym c.in-Some-eq0.ensures) ∙ c.in-Some-eq0.field-0-test)

pub returns-in-Some-clause-tells : goal.returns-in-Some-clause-tells
returns-in-Some-clause-tells c w body agrees =
    ap nonzero (ap w (sym c.place_of-place.ensures) ∙ agrees c.place_of-place.result c.in-Some.child (sym c.in-Some.ensures)) ∙ nonzero_some c.in-Some.child (omega (arith, c.in-Some.child-test.1))
