use Rattle.std.proofs.Common.{◌+◌, arith}
use Rattle.art_cell.specs.declared.cells.Layout.TheVariants.{Node48}
use Rattle.art_cell.specs.Words.{child_of}
use Rattle.art_cell.specs.Lemmas.Entries.{none_from_more}
use Rattle.art_node.proofs.SoughtWords.{has_word}
use Rattle.art_node.proofs.searches.indexed_child_from.Goals as goal

pub returns-in-Some-clause-tells : goal.returns-in-Some-clause-tells
returns-in-Some-clause-tells c = (
  c.in-Some.ensures.0,
  c.in-Some.ensures.1,
  omega arith,
  omega arith,
  λ w body has.
      let here = has_word w c.args.number c.loop-at.at c.args.word (omega arith) (omega arith) has.0 in
      (c.loop-at.invariant w body has, c.in-Some.ensures.2 w here, c.in-Some.ensures.3 w body here),
)

pub loop-at-init : goal.loop-at-init
loop-at-init c w body has b above below = has.1.1 b above (omega (arith, c.max-at.ensures, c.from-first.ensures, c.from.ensures))

pub loop-at-preserved : goal.loop-at-preserved
loop-at-preserved c w body has =
    none_from_more (child_of Node48 w) c.args.low c.loop-at.at (c.loop-at.at + 1) (omega arith) (c.loop-at.invariant w body has)
    (c.in_default.ensures w body (has_word w c.args.number c.loop-at.at c.args.word (omega arith) (omega arith) has.0))

pub returns-then-number-lt-LAST_INDEX_WORD-clause-tells : goal.returns-then-number-lt-LAST_INDEX_WORD-clause-tells
returns-then-number-lt-LAST_INDEX_WORD-clause-tells c = (
  omega arith,
  omega arith,
  λ w body has. (omega (arith, has.1.0), λ b above below. c.loop-at.invariant w body has b above (omega arith)),
)

pub returns-else-number-lt-LAST_INDEX_WORD-clause-tells : goal.returns-else-number-lt-LAST_INDEX_WORD-clause-tells
returns-else-number-lt-LAST_INDEX_WORD-clause-tells c w body has b above below = c.loop-at.invariant w body has b above (omega arith)
