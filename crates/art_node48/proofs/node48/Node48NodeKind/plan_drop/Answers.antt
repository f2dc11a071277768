use Rattle.std.proofs.Common.{◌-◌, ◌+◌, ◌*◌, ◌^◌, ◌%◌, ◌<◌, List, refl, sym, subst, arith}
use Rattle.art_cell.specs.Reads.{IsPlan, without_child, word_of}
use Rattle.art_cell.specs.Words.{indexed_child}
use Rattle.art_cell.specs.declared.cells.Layout.TheVariants.{Node48}
use Rattle.art_cell.specs.declared.cells.Write.{Write}
use Rattle.art_node48.proofs.Plans.{three_exact, three_outside, three_wrote}
use Rattle.art_node48.proofs.Steps.{becomes_taken, entry_some, header_frees, header_less, stands}
use Rattle.art_node48.proofs.node48.Node48NodeKind.plan_drop.Goals as goal

pub overflow_sub-place : goal.overflow_sub-place
overflow_sub-place c = entry_some (word_of c.args.body.now) c.args.byte c.entry_of-place.result c.requires.there (sym c.entry_of-place.ensures)

pub overflow_shl-header : goal.overflow_shl-header
overflow_shl-header c =
    let stand = stands (word_of c.args.body.now) c.args.byte c.entry_of-place.result (c.entry_of-place.result - 1) c.requires.body.meaning c.ranges.byte.fits c.requires.there (sym c.entry_of-place.ensures) refl in
    omega (arith, stand.within)

pub overflow_sub-header : goal.overflow_sub-header
overflow_sub-header c =
    let stand = stands (word_of c.args.body.now) c.args.byte c.entry_of-place.result (c.entry_of-place.result - 1) c.requires.body.meaning c.ranges.byte.fits c.requires.there (sym c.entry_of-place.ensures) refl in
    omega (arith, header_less (word_of c.args.body.now) c.args.byte (c.entry_of-place.result - 1) c.requires.body.meaning c.ranges.byte.fits c.requires.there stand)

pub overflow_sub-header-2 : goal.overflow_sub-header-2
overflow_sub-header-2 c =
    let stand = stands (word_of c.args.body.now) c.args.byte c.entry_of-place.result (c.entry_of-place.result - 1) c.requires.body.meaning c.ranges.byte.fits c.requires.there (sym c.entry_of-place.ensures) refl in
    omega (arith, header_less (word_of c.args.body.now) c.args.byte (c.entry_of-place.result - 1) c.requires.body.meaning c.ranges.byte.fits c.requires.there stand)

pub plan_three-requires-clause-place : goal.plan_three-requires-clause-place
plan_three-requires-clause-place c =
    (stands (word_of c.args.body.now) c.args.byte c.entry_of-place.result (c.entry_of-place.result - 1) c.requires.body.meaning c.ranges.byte.fits c.requires.there (sym c.entry_of-place.ensures) refl).within

pub returns-clause-plan : goal.returns-clause-plan
returns-clause-plan c =
    let w = word_of c.args.body.now in
    let byte = c.args.byte in
    let body = c.requires.body.meaning in
    let low = c.ranges.byte.fits in
    let there = c.requires.there in
    let place = c.entry_of-place.result - 1 in
    let header = w 1 - 1 * 2 ^ (16 + place) % 2 ^ 64 - 1 in
    let stand = stands w byte c.entry_of-place.result place body low there (sym c.entry_of-place.ensures) refl in
    let within = stand.within in
    let less = header_less w byte place body low there stand in
    let fits : header < 2 ^ 64 = omega (arith, body.words 1) in
    let some = (body.form.named byte place low stand.names).1 in
    let names = stand.names in
    subst (λ (xs : List Write). IsPlan Node48 w xs (without_child (indexed_child w) byte)) (sym c.plan_three.ensures) (record {
      becomes = becomes_taken w _ header byte place body low there stand (header_frees w byte place header body low there stand refl) fits (three_wrote w header byte 0 place 0 low within (omega arith));
      exact = three_exact w header byte 0 place 0 low within (omega arith) (λ e. omega (arith, e, less)) (λ e. omega (arith, e, names)) (λ e. omega (arith, e, some));
      outside = three_outside w header byte 0 place 0 low within;
    })
