use Rattle.std.proofs.Common.{ℕ, ◌+◌, sym, ap, ◌∙◌, arith}
use Rattle.art_cell.specs.Words.{nonzero}
use Rattle.art_node4.proofs.NodeWords.{none_before, none_past}
use Rattle.art_node.proofs.SoughtWords.{below_known_from, keys_inside, child_found, found_occupied}
use Rattle.art_node.proofs.searches.sorted_child_from.Goals as goal

pub returns-in-At-clause-tells : goal.returns-in-At-clause-tells
returns-in-At-clause-tells c = (
  omega (arith, c.first_child.ensures.after_keys),
  omega (arith, c.first_child.ensures.last, c.in-At.ensures.tells.0),
  c.in-At.ensures.tells.1,
  omega arith,
  λ w body is.
      let first = c.in-At.ensures.tells.2 w body is in (
        none_before c.args.sorted w c.args.low c.in-At.index c.in-At.found body first,
        child_found c.args.sorted w c.args.low c.in-At.index c.in-At.found body first ∙ ap (λ first. nonzero (w (first + c.in-At.index))) (sym c.first_child.ensures.value),
        found_occupied c.args.sorted w c.args.low c.in-At.index c.in-At.found (c.first_child.result + c.in-At.index) body first (ap (λ (i : ℕ). i + c.in-At.index) (sym c.first_child.ensures.value)),
      ),
)

pub returns-in-Later-clause-tells : goal.returns-in-Later-clause-tells
returns-in-Later-clause-tells c =
    let inside = keys_inside c.args.sorted (c.args.number + 1) c.in-Later.ensures.tells.0 in
    (inside.0, inside.1, λ w body is. below_known_from c.args.sorted c.args.low w (c.args.number + 1) (c.in-Later.ensures.tells.1 w body is))

pub returns-in-Nothing-clause-tells : goal.returns-in-Nothing-clause-tells
returns-in-Nothing-clause-tells c w body is = none_past c.args.sorted w c.args.low body (c.in-Nothing.ensures.tells w body is)
