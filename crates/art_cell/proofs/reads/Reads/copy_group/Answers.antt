use Rattle.std.proofs.Common.{◌≡◌, ◌+◌, ◌*◌, ◌/◌, ◌%◌, ℕ, Option, inl, inr, get_or, arith, ap, ◌∙◌}
use Rattle.std.specs.Prelude.{unwrap_or}
use Rattle.std.proofs.lemmas.Bool.{cases_lt}
use Rattle.std.specs.Int.{bit_at}
use Rattle.art_cell.specs.KnownWords.{known_bit}
use Rattle.art_cell.proofs.KnownLemmas.{read_unknown}
use Rattle.art_cell.proofs.reads.Reads.copy_group.Goals as goal

pub returns-clause-here : goal.returns-clause-here
returns-clause-here c p low high =
    let s = c.self.inside in
    let length = c.min-length.ensures in
    let end = c.min-end.ensures in
    let few = c.requires.few in
    elim (cases_lt p (64 * c.args.group + c.min-length.result)) [
      | inl before ↦ c.clear.ensures.below p before ∙ c.copy_first.ensures.here p low before
      | inr after ↦
          let group : p / 64 ≡ c.args.group = omega (arith, low, high) in
          let none : known_bit s.known p ≡ 0 = ap (λ (g : ℕ). bit_at (get_or s.known g 0) (p % 64)) group ∙ c.bit_length.ensures.zero (p % 64) (omega (arith, low, high, after, length, end)) in
          c.clear.ensures.here p after (omega (arith, high, end))
          ∙ ap (λ (o : Option ℕ). unwrap_or o 0) (read_unknown s.words s.known c.args.self.now p c.self.view_is (omega (arith, high, few)) (λ one. omega (arith, none, one)))
    ]
