use Rattle.std.proofs.Common.{◌+◌, ◌<◌, length, refl, ap, subst, ◌∙◌, arith}
use Rattle.art_cell.specs.declared.cells.Layout.{Layout}
use Rattle.art_cell.specs.declared.node_kinds.Entry.{Entry}
use Rattle.art_cell.specs.Lemmas.Empty.{IsEmpty}
use Rattle.art_cell.specs.Words.{child_of, entries}
use Rattle.art_cell.specs.Reads.{word_of}
use Rattle.art_node.proofs.Copies.{true_from, copied_start, copied_more, copied_end, next_child, next_is_free, next_is_some, next_has_room}
use Rattle.art_node.proofs.InOrder.{in_order_start, in_order_more, in_order_end}
use Rattle.art_node.proofs.Lookups.{listed_upto}
use Rattle.art_node.proofs.relaid.relaid.Goals as goal

pub loop-index-init : goal.loop-index-init
loop-index-init g c =
    let k = g.Old.NodeKind.layout in
    let l = g.New.NodeKind.layout in
    let w = word_of c.args.body.now in
    let next = word_of c.emptied.new.after in
    let none = copied_start k l w next c.requires.old.meaning (subst (λ (l : Layout). IsEmpty l w next) c.requires.new c.emptied.ensures.empty) in
    record {
      layout = c.emptied.ensures.layout ∙ c.requires.new;
      copied = none;
      order = in_order_start k l w next none;
      within = omega arith;
      before = refl;
    }

pub nth-entry-requires : goal.nth-entry-requires
nth-entry-requires g c = record {
  body = c.requires.old;
  there = omega (arith, c.loop-index-test.true, c.requires.old.meaning.counted);
  within = c.loop-index.invariant.within;
  before = c.loop-index.invariant.before;
}

pub add-requires-clause-free : goal.add-requires-clause-free
add-requires-clause-free g c =
    let d : Entry = record { byte = 0; child = 0 } in
    next_is_free g.Old.NodeKind.layout g.New.NodeKind.layout (word_of c.args.body.now) (word_of c.loop-index.after) c.loop-index.index d _ c.loop-index.invariant.copied
    (omega (arith, c.loop-index-test.true, c.requires.old.meaning.counted)) c.nth-entry.ensures

pub add-requires-clause-child : goal.add-requires-clause-child
add-requires-clause-child g c =
    let d : Entry = record { byte = 0; child = 0 } in
    next_is_some g.Old.NodeKind.layout (word_of c.args.body.now) c.loop-index.index d _
    (omega (arith, c.loop-index-test.true, c.requires.old.meaning.counted)) c.nth-entry.ensures

pub loop-index-preserved : goal.loop-index-preserved
loop-index-preserved g c =
    let d : Entry = record { byte = 0; child = 0 } in
    let k = g.Old.NodeKind.layout in
    let w = word_of c.args.body.now in
    let lt : c.loop-index.index < length (entries k w) = omega (arith, c.loop-index-test.true, c.requires.old.meaning.counted) in
    let room = next_has_room k g.New.NodeKind.layout w (word_of c.loop-index.after) c.loop-index.index c.requires.old.meaning c.requires.fits c.loop-index.invariant.copied lt in
    let added = true_from c.add.result (λ refused. room (c.add.ensures.full.0 refused)) in
    let here = next_child k w c.loop-index.index d _ lt c.nth-entry.ensures in
    let byte = ap (λ (e : Entry). e.byte) c.nth-entry.ensures in
    record {
      layout = c.add.ensures.layout ∙ c.loop-index.invariant.layout;
      copied =
          copied_more k g.New.NodeKind.layout w (word_of c.loop-index.after) (word_of c.add.new.body) c.loop-index.index d _ c.loop-index.invariant.copied lt
          c.nth-entry.ensures (c.add.ensures.added added);
      order =
          in_order_more k g.New.NodeKind.layout w (word_of c.loop-index.after) (word_of c.add.new.body) c.loop-index.index d _ c.requires.old.meaning c.requires.fits c.loop-index.invariant.copied lt
          c.nth-entry.ensures (c.add.ensures.added added) (c.add.ensures.lowest added) c.loop-index.invariant.order;
      within = omega (arith, here.high, c.from-from.ensures);
      before = listed_upto (child_of k w) 0 256 c.loop-index.index (c.from-from.result + 1) d lt (omega (arith, c.from-from.ensures, byte));
    }

pub returns-clause-relaid : goal.returns-clause-relaid
returns-clause-relaid g c =
    copied_end g.Old.NodeKind.layout g.New.NodeKind.layout (word_of c.args.body.now) (word_of c.loop-index.after) c.loop-index.index (omega (arith, c.loop-index-test.false, c.requires.old.meaning.counted)) c.loop-index.invariant.copied

pub returns-clause-order : goal.returns-clause-order
returns-clause-order g c =
    in_order_end g.Old.NodeKind.layout g.New.NodeKind.layout (word_of c.args.body.now) (word_of c.loop-index.after) c.loop-index.index (omega (arith, c.loop-index-test.false, c.requires.old.meaning.counted)) c.loop-index.invariant.copied
    c.loop-index.invariant.order
