use Rattle.std.proofs.Common.{◌≡◌}
use Rattle.art_cell.specs.Reads.{word_of}
use Rattle.art_node4.specs.Edits.{changes_to, words_after}
use Rattle.art_node4.proofs.plans.push_all.Given as goal

abbrev pub invariant-loop-place : goal.invariant-loop-place
invariant-loop-place l = l.writes.items ≡ changes_to (word_of l.body) (words_after l.fn.sorted l.body l.fn.edit) l.place
