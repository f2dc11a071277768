use Rattle.std.proofs.Common.{◌≡◌, ◌+◌, ◌-◌, ◌/◌, ◌∙◌, refl, ap, subst, sym, arith, ℕ, ◌<◌, ◌≤◌}
use Rattle.art_cell.specs.Reads.{word_of}
use Rattle.art_cell.specs.Words.{Words, count_of, entries, places, size}
use Rattle.art_node4.specs.Edits.{changes_to, most_used, words_after}
use Rattle.art_node4.specs.Sorted.{layout_of}
use Rattle.art_node4.proofs.Edited.{child_stays, keys_within, low_stays, position_within, pushed, skips, unused_stays, used_within}
use Rattle.art_node4.proofs.NodeWords.{few_in_use, fits}
use Rattle.art_node4.proofs.plans.plan.Goals as goal

pub most_used-requires : goal.most_used-requires
most_used-requires c =
    let s = c.args.sorted in
    let few = few_in_use s (word_of c.args.body.now) c.requires.body.meaning in
    let small = (fits s).few in
    omega (arith, few, small, c.count.ensures)

pub push_all-requires : goal.push_all-requires
push_all-requires c =
    let s = c.args.sorted in
    let w = word_of c.args.body.now in
    let then : Words = words_after s c.args.body.now c.args.edit in
    let at = c.position.result in
    let is = c.position.ensures in
    let low = keys_within s w c.args.edit c.requires.can in
    let header : c.push_changed.new.writes.items ≡ changes_to w then 2 = pushed w then 1 c.header_after.result c.clear.new.self.items _ (omega arith) c.header_after.ensures c.clear.ensures c.push_changed.ensures in
    record {
      edit = c.requires;
      low = omega arith;
      order = omega arith;
      within = omega arith;
      so_far = header ∙ skips w then (8 + at / 8) 2 (10 + at / 8) (omega arith) (omega arith) (λ p from before. low_stays s w c.args.edit c.requires.body.meaning c.requires.can p from (omega (arith, is, before)));
    }

pub push_all-requires-2 : goal.push_all-requires-2
push_all-requires-2 c =
    let s = c.args.sorted in
    let w = word_of c.args.body.now in
    let then : Words = words_after s c.args.body.now c.args.edit in
    let at = c.position-2.result in
    let is = c.position-2.ensures in
    let first = c.first_child-first_child.ensures.value in
    let used = subst (λ (n : ℕ). c.most_used.result ≡ most_used c.args.edit n) c.count.ensures c.most_used.ensures in
    let within = used_within s w c.args.edit c.requires.body.meaning c.requires.can in
    let last = (fits s).last in
    record {
      edit = c.requires;
      low = omega arith;
      order = omega (arith, is, used, within.0);
      within = omega (arith, first, used, within.1, last);
      so_far =
          c.push_all.ensures
          ∙ skips w then at c.first_child-first_child.result (c.first_child-first_child.result + at) (omega arith) refl
          (λ p from before. child_stays s w c.args.edit c.requires.body.meaning c.requires.can p (omega (arith, first, from)) (omega (arith, first, is, before)));
    }

pub returns : goal.returns
returns c =
    let s = c.args.sorted in
    let w = word_of c.args.body.now in
    let then : Words = words_after s c.args.body.now c.args.edit in
    let first = c.first_child-first_child.ensures.value in
    let used = subst (λ (n : ℕ). c.most_used.result ≡ most_used c.args.edit n) c.count.ensures c.most_used.ensures in
    let within = used_within s w c.args.edit c.requires.body.meaning c.requires.can in
    let last = (fits s).last in
    let end = c.first_child-first_child.result + c.most_used.result in
    c.push_all-2.ensures
    ∙ skips w then (size (layout_of s) - end) end (size (layout_of s)) (omega arith) (omega (arith, first, used, within.1, last))
    (λ p from before. unused_stays s w c.args.edit c.requires.body.meaning c.requires.can p (omega (arith, first, used, from)) before)
