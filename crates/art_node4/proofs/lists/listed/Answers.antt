use Rattle.std.proofs.Common.{◌≡◌, ℕ, ◌+◌, ◌<◌, List, length, map, refl, sym, ap, ◌∙◌, arith}
use Rattle.std.specs.List.{range_with_len}
use Rattle.std.proofs.lemmas.List.FromFn.{length-map-range_with_len}
use Rattle.art_cell.specs.declared.node_kinds.Entry.{Entry}
use Rattle.art_cell.specs.Words.{first_child, count_of}
use Rattle.art_cell.specs.Reads.{word_of}
use Rattle.art_cell.specs.Lemmas.Packed.{packed_is}
use Rattle.art_node4.specs.Sorted.{layout_of}
use Rattle.art_node4.proofs.NodeWords.{fits, form_is, entry_here, entries_is, list_more}
use Rattle.art_node4.proofs.lists.listed.Goals as goal

pub loop-index-init : goal.loop-index-init
loop-index-init g c = c.new-list.ensures

pub push-requires : goal.push-requires
push-requires g c =
    let w = word_of c.args.body.now in
    let form = form_is c.args.sorted w c.requires.body.meaning.form in
    let so_far = ap (λ (xs : List Entry). length xs) c.loop-index.invariant ∙ length-map-range_with_len (entry_here (first_child (layout_of c.args.sorted)) w) 0 c.loop-index.index in
    let few : c.loop-index.index < 16 = omega (arith, form.few, (fits c.args.sorted).few, c.loop-index-test.true) in
    (omega arith, omega (arith, so_far, few, c.requires.room))

pub loop-index-preserved : goal.loop-index-preserved
loop-index-preserved g c =
    let w = word_of c.args.body.now in
    let first = first_child (layout_of c.args.sorted) in
    let index = c.loop-index.index in
    list_more first w index c.byte_at-byte.result _ c.loop-index.list.items c.push.new.self.items c.loop-index.invariant
    (c.byte_at-byte.ensures ∙ sym (packed_is w 10 index _ refl)) (ap (λ (f : ℕ). w (f + index)) c.first_child-first_child.ensures.value) c.push.ensures.items

pub returns : goal.returns
returns g c =
    let w = word_of c.args.body.now in
    let all : c.loop-index.index ≡ count_of w = omega (arith, c.loop-index-test.false, c.loop-index.auto.index-end) in
    c.loop-index.invariant
    ∙ ap (λ (n : ℕ). map (entry_here (first_child (layout_of c.args.sorted)) w) (range_with_len 0 n)) all
    ∙ sym (entries_is c.args.sorted w (form_is c.args.sorted w c.requires.body.meaning.form))
