use Rattle.std.proofs.Common.{◌+◌, ◌-◌, ◌*◌, ◌≤◌, ℕ, Option, inl, inr, length, get_or, set, bit_or, arith, ap, sym, ◌∙◌, get_or-set_other, get_or-set_same}
use Rattle.std.specs.Prelude.{unwrap_or}
use Rattle.std.proofs.lemmas.Bool.{cases_eq}
use borrow.Rule.Slice.PartMut.{put_mid}
use Rattle.art_cell.specs.Reads.{word_read}
use Rattle.art_cell.proofs.KnownLemmas.{known_of_full}
use Rattle.art_cell.proofs.Parts.{long_part, same_part}
use Rattle.art_cell.proofs.reads.Reads.copy_first.Goals as goal

pub returns-then-self-group-clause-here : goal.returns-then-self-group-clause-here
returns-then-self-group-clause-here c p low high =
    let s = c.self.inside in
    let from = 64 * c.args.group in
    let count = c.args.count in
    let k = from + count - from in
    let part = c.copy_from_slice.new.self in
    let words = c.args.words.now in
    let is = c.copy_from_slice.ensures.after in
    let long = c.self.told.0 in
    let group = c.requires.group in
    let few = c.requires.few in
    let fits = c.requires.room in
    let room : from + k ≤ length words = omega (arith, c.told-words, fits) in
    let some : from + k ≤ length s.words = omega (arith, long, fits) in
    elim (cases_eq p from) [
      | inl here ↦
          ap (λ (q : ℕ). get_or (set (put_mid from k words part) from c.unwrap_or.result) q 0) here
          ∙ get_or-set_same (put_mid from k words part) from c.unwrap_or.result 0 (let all = long_part words s.words part from k is room some in omega (arith, all, c.told-words, group))
          ∙ c.unwrap_or.ensures ∙ ap (λ (o : Option ℕ). unwrap_or o 0) c.get.ensures ∙ ap (λ (q : ℕ). unwrap_or (word_read c.args.self.now q) 0) (sym here)
      | inr other ↦
          get_or-set_other (put_mid from k words part) from p c.unwrap_or.result 0 other
          ∙ same_part words s.words part from k p is room some low (omega (arith, high))
          ∙ known_of_full s.words s.known c.args.self.now p count c.self.view_is
          (ap (λ (g : ℕ). bit_or (get_or s.known g 0) 1) (omega (arith, low, high, few)) ∙ c.if-self-group.true ∙ c.mask.ensures)
          (λ e. omega (arith, e, other, low, high, few)) (omega (arith, low, high, few)) (omega (arith, high, fits))
    ]
