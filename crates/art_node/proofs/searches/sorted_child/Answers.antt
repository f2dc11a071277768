use Rattle.std.proofs.Common.{◌+◌, sym, ap, ◌∙◌, arith}
use Rattle.art_cell.specs.Words.{child_of, nonzero}
use Rattle.art_node4.specs.Sorted.{layout_of}
use Rattle.art_node4.proofs.NodeWords.{none_before, none_past}
use Rattle.art_node.proofs.SoughtWords.{below_known, keys_few, keys_inside, child_found}
use Rattle.art_node.proofs.searches.sorted_child.Goals as goal

pub returns-then-found-byte-clause-tells : goal.returns-then-found-byte-clause-tells
returns-then-found-byte-clause-tells c = (
  omega (arith, c.first_child.ensures.after_keys),
  omega (arith, c.first_child.ensures.last, c.in-At.ensures.tells.0),
  λ w body is.
      ap (child_of (layout_of c.args.sorted) w) (sym c.if-found-byte.true)
      ∙ child_found c.args.sorted w c.args.byte c.in-At.index c.in-At.found body (c.in-At.ensures.tells.2 w body is)
      ∙ ap (λ first. nonzero (w (first + c.in-At.index))) (sym c.first_child.ensures.value),
)

pub returns-else-found-byte-clause-tells : goal.returns-else-found-byte-clause-tells
returns-else-found-byte-clause-tells c w body is =
    let first = c.in-At.ensures.tells.2 w body is in
    none_before c.args.sorted w c.args.byte c.in-At.index c.in-At.found body first c.args.byte (omega arith) (omega (arith, first.above))

pub returns-in-Later-clause-tells : goal.returns-in-Later-clause-tells
returns-in-Later-clause-tells c =
    let inside = keys_inside c.args.sorted (c.args.number + 1) c.in-Later.ensures.tells.0 in
    (inside.0, inside.1, λ w body is. below_known c.args.sorted c.args.byte w (c.args.number + 1) (c.in-Later.ensures.tells.1 w body is))

pub returns-in-Later-clause-later : goal.returns-in-Later-clause-later
returns-in-Later-clause-later c = (omega arith, keys_few c.args.sorted (c.args.number + 1) c.in-Later.ensures.tells.0)

pub returns-in-Nothing-clause-tells : goal.returns-in-Nothing-clause-tells
returns-in-Nothing-clause-tells c w body is =
    none_past c.args.sorted w c.args.byte body (c.in-Nothing.ensures.tells w body is) c.args.byte (omega arith) c.ranges.byte.fits
