use Rattle.std.proofs.Common.{◌-◌, ◌+◌, ◌*◌, ◌^◌, ◌%◌, ◌<◌, sym, refl, arith}
use Rattle.art_cell.specs.Reads.{word_of}
use Rattle.art_node48.proofs.Differing.{few_wrote}
use Rattle.art_node48.proofs.Steps.{entry_some, stands, header_less, header_frees, becomes_taken}
use Rattle.art_node48.proofs.node48.Node48NodeKind.take.Goals as goal

pub overflow_sub-place : goal.overflow_sub-place
overflow_sub-place c = entry_some (word_of c.args.body.now) c.args.byte c.entry_of-place.result c.requires.there (sym c.entry_of-place.ensures)

pub overflow_shl-header : goal.overflow_shl-header
overflow_shl-header c =
    let stand = stands (word_of c.args.body.now) c.args.byte c.entry_of-place.result (c.entry_of-place.result - 1) c.requires.body.meaning c.ranges.byte.fits c.requires.there (sym c.entry_of-place.ensures) refl in
    omega (arith, stand.within)

pub overflow_sub-header : goal.overflow_sub-header
overflow_sub-header c =
    let stand = stands (word_of c.args.body.now) c.args.byte c.entry_of-place.result (c.entry_of-place.result - 1) c.requires.body.meaning c.ranges.byte.fits c.requires.there (sym c.entry_of-place.ensures) refl in
    omega (arith, header_less (word_of c.args.body.now) c.args.byte (c.entry_of-place.result - 1) c.requires.body.meaning c.ranges.byte.fits c.requires.there stand)

pub overflow_sub-header-2 : goal.overflow_sub-header-2
overflow_sub-header-2 c =
    let stand = stands (word_of c.args.body.now) c.args.byte c.entry_of-place.result (c.entry_of-place.result - 1) c.requires.body.meaning c.ranges.byte.fits c.requires.there (sym c.entry_of-place.ensures) refl in
    omega (arith, header_less (word_of c.args.body.now) c.args.byte (c.entry_of-place.result - 1) c.requires.body.meaning c.ranges.byte.fits c.requires.there stand)

pub write-requires-clause-place : goal.write-requires-clause-place
write-requires-clause-place c =
    (stands (word_of c.args.body.now) c.args.byte c.entry_of-place.result (c.entry_of-place.result - 1) c.requires.body.meaning c.ranges.byte.fits c.requires.there (sym c.entry_of-place.ensures) refl).within

pub returns-clause-taken : goal.returns-clause-taken
returns-clause-taken c =
    let w = word_of c.args.body.now in
    let place = c.entry_of-place.result - 1 in
    let header = w 1 - 1 * 2 ^ (16 + place) % 2 ^ 64 - 1 in
    let stand = stands w c.args.byte c.entry_of-place.result place c.requires.body.meaning c.ranges.byte.fits c.requires.there (sym c.entry_of-place.ensures) refl in
    let fits : header < 2 ^ 64 = omega (arith, c.requires.body.meaning.words 1) in
    becomes_taken w (word_of c.write.new.body) header c.args.byte place c.requires.body.meaning c.ranges.byte.fits c.requires.there stand (
    header_frees w c.args.byte place header c.requires.body.meaning c.ranges.byte.fits c.requires.there stand refl
    ) fits c.write.ensures.wrote

pub returns-clause-few : goal.returns-clause-few
returns-clause-few c =
    let w = word_of c.args.body.now in
    let place = c.entry_of-place.result - 1 in
    let header = w 1 - 1 * 2 ^ (16 + place) % 2 ^ 64 - 1 in
    let was = c.requires.body.meaning.words in
    let low : header < 2 ^ 64 = omega (arith, was 1) in
    few_wrote w (word_of c.write.new.body) was (c.write.ensures.wrote.below was low (omega arith)) header c.args.byte 0 place 0 c.write.ensures.wrote
