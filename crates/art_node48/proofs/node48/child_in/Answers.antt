use Rattle.std.proofs.Common.{◌+◌, ◌∙◌, sym, arith}
use Rattle.art_cell.specs.Reads.{word_of}
use Rattle.art_node48.proofs.Index.{no_child_at_none, child_at_entry, entry_within, nonzero_none, nonzero_some}
use Rattle.art_node48.proofs.node48.child_in.Goals as goal

pub returns-then-entry-eq0 : goal.returns-then-entry-eq0
returns-then-entry-eq0 c =
    let w = word_of c.args.body.now in
    let is = sym c.entry_of-entry.ensures in
    sym (no_child_at_none w c.args.byte (is ∙ c.if-entry-eq0.true))

pub bounds-body-entry : goal.bounds-body-entry
bounds-body-entry c =
    let w = word_of c.args.body.now in
    let is = sym c.entry_of-entry.ensures in
    omega (arith, entry_within w c.args.byte c.entry_of-entry.result c.requires.meaning c.ranges.byte.fits is)

pub returns-then-child-eq0 : goal.returns-then-child-eq0
returns-then-child-eq0 c =
    let w = word_of c.args.body.now in
    let is = sym c.entry_of-entry.ensures in
    sym (child_at_entry w c.args.byte c.entry_of-entry.result is c.if-entry-eq0.false ∙ nonzero_none (w (41 + c.entry_of-entry.result)) c.if-child-eq0.true)

pub returns-else-child-eq0 : goal.returns-else-child-eq0
returns-else-child-eq0 c =
    let w = word_of c.args.body.now in
    let is = sym c.entry_of-entry.ensures in
    sym (child_at_entry w c.args.byte c.entry_of-entry.result is c.if-entry-eq0.false ∙ nonzero_some (w (41 + c.entry_of-entry.result)) c.if-child-eq0.false)
