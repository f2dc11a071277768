use Rattle.std.proofs.Common.{◌+◌, ◌*◌, ◌^◌, ◌%◌, refl, arith}
use Rattle.art_cell.specs.Reads.{word_of}
use Rattle.art_node48.proofs.Differing.{few_wrote}
use Rattle.art_node48.proofs.Steps.{full_where_all, not_full, header_more, header_uses, becomes_added, takes_lowest}
use Rattle.art_node48.proofs.node48.Node48NodeKind.add.Goals as goal

pub returns-in_default-clause-full : goal.returns-in_default-clause-full
returns-in_default-clause-full c = (λ e. full_where_all (word_of c.args.body.now) c.requires.body.meaning.form c.in_default.ensures, λ e. refl)

pub overflow_add-header-2 : goal.overflow_add-header-2
overflow_add-header-2 c = omega (arith, header_more (word_of c.args.body.now) c.in-Some.place c.requires.body.meaning c.in-Some.ensures)

pub overflow_add-header-3 : goal.overflow_add-header-3
overflow_add-header-3 c = omega (arith, header_more (word_of c.args.body.now) c.in-Some.place c.requires.body.meaning c.in-Some.ensures)

pub returns-clause-full : goal.returns-clause-full
returns-clause-full c = (λ e. absurd cc, λ full. absurd (omega (arith, full, not_full (word_of c.args.body.now) c.in-Some.place c.requires.body.meaning.form c.in-Some.ensures.within c.in-Some.ensures.free)))

pub returns-clause-added : goal.returns-clause-added
returns-clause-added c = λ e.
    let w = word_of c.args.body.now in
    let place = c.in-Some.place in
    let header = w 1 + 1 * 2 ^ (16 + place) % 2 ^ 64 + 1 in
    becomes_added w (word_of c.write.new.body) header c.args.byte place c.args.child c.requires.body.meaning c.ranges.byte.fits c.requires.free c.in-Some.ensures.within (header_uses w place header c.requires.body.meaning c.in-Some.ensures refl)
    c.requires.child (header_more w place c.requires.body.meaning c.in-Some.ensures) c.ranges.child.fits c.write.ensures.wrote

pub returns-clause-lowest : goal.returns-clause-lowest
returns-clause-lowest c = λ _.
    let place = c.in-Some.place in
    takes_lowest (word_of c.args.body.now) (word_of c.write.new.body) _ c.args.byte place c.args.child c.in-Some.ensures c.write.ensures.wrote

pub returns-clause-few : goal.returns-clause-few
returns-clause-few c = λ _.
    let w = word_of c.args.body.now in
    let place = c.in-Some.place in
    let was = c.requires.body.meaning.words in
    let fits = c.write.ensures.wrote.below was (header_more w place c.requires.body.meaning c.in-Some.ensures) c.ranges.child.fits in
    few_wrote w (word_of c.write.new.body) was fits (w 1 + 1 * 2 ^ (16 + place) % 2 ^ 64 + 1) c.args.byte (place + 1) place c.args.child c.write.ensures.wrote
