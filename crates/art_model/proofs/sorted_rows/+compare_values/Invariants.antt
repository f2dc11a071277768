use Rattle.std.proofs.Common.{length}
use Rattle.art_model.proofs.sorted_rows.+compare_values.Given as goal

abbrev pub decreases-compare_values : goal.decreases-compare_values
decreases-compare_values l = length l.descends.now
