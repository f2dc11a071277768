use Rattle.std.proofs.Common.{ap, arith, below_more}
use Rattle.art_cell.specs.declared.node_kinds.Entry.{Entry}
use Rattle.art_node4.proofs.lists.position.Goals as goal

pub loop-index-init : goal.loop-index-init
loop-index-init c i h = absurd (omega arith)

pub loop-index-preserved : goal.loop-index-preserved
loop-index-preserved c =
    let byte = ap (λ (e : Entry). e.byte) c.entry_at.ensures in
    below_more _ _ c.loop-index.invariant (omega (arith, byte))

pub returns-then-entry_at-byte : goal.returns-then-entry_at-byte
returns-then-entry_at-byte c =
    let byte = ap (λ (e : Entry). e.byte) c.entry_at.ensures in
    record {
      within = omega (arith, c.requires.meaning.counted);
      before = c.loop-index.invariant;
      above = λ h. omega (arith, byte);
    }

pub returns : goal.returns
returns c =
    let counted = c.requires.meaning.counted in
    record {
      within = omega (arith, counted);
      before = λ i h. c.loop-index.invariant i (omega (arith, c.loop-index.auto.index-end, c.loop-index-test.false));
      above = λ h. absurd (omega (arith, h, counted));
    }
