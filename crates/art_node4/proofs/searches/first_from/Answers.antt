use Rattle.std.proofs.Common.{sym, ◌∙◌, arith, below_more}
use Rattle.art_cell.specs.Lemmas.Packed.{packed_is}
use Rattle.art_node4.proofs.searches.first_from.Goals as goal

pub returns-then-found-byte-clause-tells : goal.returns-then-found-byte-clause-tells
returns-then-found-byte-clause-tells c w few agrees =
    let header = agrees 1 c.in-Some.header (sym c.in-Some.ensures) in
    let word = agrees _ c.in-Some-get.word (sym c.in-Some-get.ensures) in
    record {
      used = omega (arith, header);
      here = c.byte_at-found.ensures ∙ sym (packed_is w 10 c.loop-index.index c.in-Some-get.word (sym word));
      above = omega arith;
      before = c.loop-index.invariant w agrees;
    }

pub loop-index-preserved : goal.loop-index-preserved
loop-index-preserved c w agrees =
    let word = agrees _ c.in-Some-get.word (sym c.in-Some-get.ensures) in
    let key = packed_is w 10 c.loop-index.index c.in-Some-get.word (sym word) in
    below_more _ _ (c.loop-index.invariant w agrees) (omega (arith, key, c.byte_at-found.ensures))
