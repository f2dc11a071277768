use Rattle.std.proofs.Common.{◌+◌, ◌*◌, ◌^◌, ◌%◌, ◌<◌, List, refl, sym, subst, arith}
use Rattle.art_cell.specs.Bodies.{TakesPlace}
use Rattle.art_cell.specs.Reads.{IsPlan, with_child, word_of, written}
use Rattle.art_cell.specs.Words.{indexed_child}
use Rattle.art_cell.specs.declared.cells.Layout.TheVariants.{Node48}
use Rattle.art_cell.specs.declared.cells.Write.{Write}
use Rattle.art_node48.proofs.Plans.{three_exact, three_outside, three_wrote}
use Rattle.art_node48.proofs.Steps.{becomes_added, full_where_all, header_more, header_uses, no_entry, not_full, takes_lowest}
use Rattle.art_node48.proofs.node48.Node48NodeKind.plan_add.Goals as goal

pub returns-in_default-clause-full : goal.returns-in_default-clause-full
returns-in_default-clause-full c = (λ e. full_where_all (word_of c.args.body.now) c.requires.body.meaning.form c.in_default.ensures, λ e. refl)

pub overflow_add-header-2 : goal.overflow_add-header-2
overflow_add-header-2 c = omega (arith, header_more (word_of c.args.body.now) c.in-Some.place c.requires.body.meaning c.in-Some.ensures)

pub overflow_add-header-3 : goal.overflow_add-header-3
overflow_add-header-3 c = omega (arith, header_more (word_of c.args.body.now) c.in-Some.place c.requires.body.meaning c.in-Some.ensures)

pub returns-clause-full : goal.returns-clause-full
returns-clause-full c = (λ e. absurd cc, λ full. absurd (omega (arith, full, not_full (word_of c.args.body.now) c.in-Some.place c.requires.body.meaning.form c.in-Some.ensures.within c.in-Some.ensures.free)))

pub returns-clause-plan : goal.returns-clause-plan
returns-clause-plan c = λ e.
    let w = word_of c.args.body.now in
    let byte = c.args.byte in
    let child = c.args.child in
    let body = c.requires.body.meaning in
    let low = c.ranges.byte.fits in
    let some = c.requires.child in
    let place = c.in-Some.place in
    let within = c.in-Some.ensures.within in
    let header = w 1 + 1 * 2 ^ (16 + place) % 2 ^ 64 + 1 in
    let entry = place + 1 in
    let named : entry < 49 = omega (arith, within) in
    let none = no_entry w byte body.form low c.requires.free in
    let free = body.form.free place within c.in-Some.ensures.free in
    subst (λ (xs : List Write). IsPlan Node48 w xs (with_child (indexed_child w) byte child)) (sym c.plan_three.ensures) (record {
      becomes = becomes_added w _ header byte place child body low c.requires.free within (header_uses w place header body c.in-Some.ensures refl) some (header_more w place body c.in-Some.ensures) c.ranges.child.fits
          (three_wrote w header byte entry place child low within (omega (arith, named)));
      exact = three_exact w header byte entry place child low within (omega (arith, named)) (λ e. omega (arith, e)) (λ e. omega (arith, e, none)) (λ e. omega (arith, e, free, some));
      outside = three_outside w header byte entry place child low within;
    })

pub returns-clause-lowest : goal.returns-clause-lowest
returns-clause-lowest c = λ _.
    let w = word_of c.args.body.now in
    let byte = c.args.byte in
    let child = c.args.child in
    let place = c.in-Some.place in
    let within = c.in-Some.ensures.within in
    let header = w 1 + 1 * 2 ^ (16 + place) % 2 ^ 64 + 1 in
    let wrote = three_wrote w header byte (place + 1) place child c.ranges.byte.fits within (omega (arith, within)) in
    subst (λ (xs : List Write). TakesPlace w (written w xs) byte) (sym c.plan_three.ensures) (takes_lowest w _ header byte place child c.in-Some.ensures wrote)
