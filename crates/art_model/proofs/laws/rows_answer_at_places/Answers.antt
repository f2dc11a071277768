use Rattle.std.proofs.Common.{sym, subst}
use Rattle.art_model.specs.Rows.{IsSortedRows}
use Rattle.art_model.proofs.Places.{found_value, found_without, found_sorted, absent_value, added_with, added_sorted}
use Rattle.art_model.proofs.laws.rows_answer_at_places.Goals as goal

pub returns : goal.returns
returns c = record {
  place = λ order rows t i place. (found_value order rows t i place, found_without order rows t i place);
  gap = λ order rows t i gap. (absent_value order rows t i gap, added_with order rows t i gap);
  sorted = λ order rows t i v sorted gap. subst (IsSortedRows order) (sym (added_with order rows t i gap v)) (added_sorted order rows t i gap v sorted);
  sorted_without = λ order rows t i sorted place. subst (IsSortedRows order) (sym (found_without order rows t i place)) (found_sorted order rows t i place sorted);
}
