use Rattle.std.proofs.Common.{sym, ap, ◌∙◌}
use Rattle.std.proofs.lemmas.Result.{err_from_is_err_and}
use Rattle.art_lines.specs.Lines.{tuple_of_values}
use Rattle.art_lines.proofs.TupleLaws.{tuple_said-many, tuple_said-few, values_said-stop, values_said-done}
use Rattle.art_lines.proofs.lines.tuple_of.Goals as goal

pub returns-then-elements-gt-COLUMNS : goal.returns-then-elements-gt-COLUMNS
returns-then-elements-gt-COLUMNS c = rw (tuple_said-many c.args.elements.now c.if-elements-gt-COLUMNS.true)

pub returns-in_err-value_in : goal.returns-in_err-value_in
returns-in_err-value_in c =
    let elements = c.args.elements.now in
    let stop = values_said-stop elements c.loop-place.tuple.items c.loop-place.place c.loop-place.invariant c.index-elements-place.result
    c.loop-place-test.true c.index-elements-place.is
    c.in_err-value_in.field-0.0 (sym c.in_err-value_in.ensures) in
    let told = err_from_is_err_and c.from_residual.result c.from_residual.ensures.1 in
    rw (told.1, told.2) (sym (tuple_said-few elements c.if-elements-gt-COLUMNS.false ∙ ap tuple_of_values stop))

pub returns : goal.returns
returns c =
    let elements = c.args.elements.now in
    let done = values_said-done elements c.loop-place.tuple.items c.loop-place.place c.loop-place.invariant c.loop-place-test.false in
    sym (tuple_said-few elements c.if-elements-gt-COLUMNS.false ∙ ap tuple_of_values done)
