use Rattle.std.proofs.Common.{◌≡◌, ◌==◌, ◌<◌, ◌≤◌, ◌-◌, ℕ, Bool, true, false, cond, List, [], ◌∷◌, length, Some, refl, sym, subst, arith}
use Rattle.art_cell.specs.declared.cells.Body.{Body}
use Rattle.art_cell.specs.Reads.{IsBodyOf, IsPlan, with_child, word_of}
use Rattle.art_cell.specs.Words.{indexed_child, key_byte}
use Rattle.art_cell.specs.declared.cells.Layout.TheVariants.{Node48}
use Rattle.art_cell.specs.declared.cells.Write.{Write}
use Rattle.art_node48.specs.Changes.{child_words}
use Rattle.art_node48.proofs.Plans.{child_plan}
use Rattle.art_node48.proofs.Steps.{entry_some, stands}
use Rattle.art_node48.proofs.node48.Node48NodeKind.plan_set.Goals as goal

one_word : (had place child : ℕ) → length (child_words had place child) ≤ 1
one_word had place child = at_most (had == child) (record { place = place; value = child })
  where
    at_most : (b : Bool) (write : Write) → length (cond b [] (write ∷ [])) ≤ 1
    at_most true write = omega arith
    at_most false write = omega arith

place_within : (body : Body) (byte entry : ℕ) → IsBodyOf Node48 body → byte < 256 → (c : ℕ) × (indexed_child (word_of body) byte ≡ Some c)
    → entry ≡ key_byte (word_of body) byte → entry - 1 < 48
place_within body byte entry whole low there is = (stands (word_of body) byte entry (entry - 1) whole.meaning low there (sym is) refl).within

pub overflow_sub-place : goal.overflow_sub-place
overflow_sub-place c = entry_some (word_of c.args.body.now) c.args.byte c.entry_of-place.result c.requires.there (sym c.entry_of-place.ensures)

pub bounds-body-place : goal.bounds-body-place
bounds-body-place c =
    omega (arith, place_within c.args.body.now c.args.byte c.entry_of-place.result c.requires.body c.ranges.byte.fits c.requires.there c.entry_of-place.ensures)

pub overflow_add-place : goal.overflow_add-place
overflow_add-place c =
    omega (arith, place_within c.args.body.now c.args.byte c.entry_of-place.result c.requires.body c.ranges.byte.fits c.requires.there c.entry_of-place.ensures)

pub overflow_add-place-2 : goal.overflow_add-place-2
overflow_add-place-2 c =
    omega (arith, place_within c.args.body.now c.args.byte c.entry_of-place.result c.requires.body c.ranges.byte.fits c.requires.there c.entry_of-place.ensures)

pub returns-clause-one : goal.returns-clause-one
returns-clause-one c = subst (λ (xs : List Write). length xs ≤ 1) (sym c.plan_child.ensures) (one_word _ _ c.args.child)

pub returns-clause-plan : goal.returns-clause-plan
returns-clause-plan c =
    let w = word_of c.args.body.now in
    let entry = c.entry_of-place.result in
    let some = entry_some w c.args.byte entry c.requires.there (sym c.entry_of-place.ensures) in
    let stand = stands w c.args.byte entry (entry - 1) c.requires.body.meaning c.ranges.byte.fits c.requires.there (sym c.entry_of-place.ensures) refl in
    subst (λ (xs : List Write). IsPlan Node48 w xs (with_child (indexed_child w) c.args.byte c.args.child)) (sym c.plan_child.ensures)
    (child_plan w c.args.byte entry (entry - 1) c.args.child c.ranges.byte.fits stand.within (sym c.entry_of-place.ensures) c.requires.body.meaning c.requires.there stand (omega (arith, some)) c.requires.child c.ranges.child.fits)
