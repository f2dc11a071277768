use Rattle.std.proofs.Common.{◌-◌, sym, refl, arith}
use Rattle.art_cell.specs.Reads.{word_of}
use Rattle.art_node48.proofs.Differing.{one_wrote}
use Rattle.art_node48.proofs.Index.{entry_within}
use Rattle.art_node48.proofs.Steps.{entry_some, stands, becomes_set}
use Rattle.art_node48.proofs.node48.Node48NodeKind.set.Goals as goal

pub overflow_sub-entry : goal.overflow_sub-entry
overflow_sub-entry c = entry_some (word_of c.args.body.now) c.args.byte c.entry_of-entry.result c.requires.there (sym c.entry_of-entry.ensures)

pub write-requires-clause-entry : goal.write-requires-clause-entry
write-requires-clause-entry c = entry_within (word_of c.args.body.now) c.args.byte c.entry_of-entry.result c.requires.body.meaning c.ranges.byte.fits (sym c.entry_of-entry.ensures)

pub write-requires-clause-place : goal.write-requires-clause-place
write-requires-clause-place c =
    (stands (word_of c.args.body.now) c.args.byte c.entry_of-entry.result (c.entry_of-entry.result - 1) c.requires.body.meaning c.ranges.byte.fits c.requires.there (sym c.entry_of-entry.ensures) refl).within

pub returns-clause-set : goal.returns-clause-set
returns-clause-set c =
    let w = word_of c.args.body.now in
    let entry = c.entry_of-entry.result in
    let some = entry_some w c.args.byte entry c.requires.there (sym c.entry_of-entry.ensures) in
    let stand = stands w c.args.byte entry (entry - 1) c.requires.body.meaning c.ranges.byte.fits c.requires.there (sym c.entry_of-entry.ensures) refl in
    becomes_set w (word_of c.write.new.body) (w 1) c.args.byte entry (entry - 1) c.args.child c.requires.body.meaning c.ranges.byte.fits c.requires.there stand (omega (arith, some)) refl c.requires.child c.ranges.child.fits c.write.ensures.wrote

pub returns-clause-one : goal.returns-clause-one
returns-clause-one c =
    let w = word_of c.args.body.now in
    let entry = c.entry_of-entry.result in
    let was = c.requires.body.meaning.words in
    let fits = c.write.ensures.wrote.below was (was 1) c.ranges.child.fits in
    one_wrote w (word_of c.write.new.body) was fits (w 1) c.args.byte entry (entry - 1) c.args.child c.write.ensures.wrote refl c.entry_of-entry.ensures
