use Rattle.std.proofs.Common.{sym, ◌∙◌, ap, inl, inr, arith}
use Rattle.std.proofs.lemmas.Bool.{cases_eq}
use Rattle.art_cell.specs.Reads.{word_read}
use Rattle.art_find.proofs.read_sets.unknown_from.Goals as goal

pub loop-place-preserved : goal.loop-place-preserved
loop-place-preserved c = λ place after before. elim (cases_eq place c.loop-place.place) [
  | inl here ↦ (c.in-Some.field-0, ap (word_read c.args.reads.now) here ∙ sym c.in-Some.ensures)
  | inr other ↦ c.loop-place.invariant place after (omega (arith, before, other))
]
