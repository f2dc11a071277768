-- At each step the words so far are those of the places so far.
use Rattle.std.proofs.Common.{◌≡◌, map}
use Rattle.std.specs.List.{range_with_len}
use Rattle.art_step.specs.OpeningWords.{opening_word}
use Rattle.art_step.proofs.opening.opening_words.Given as goal

abbrev pub invariant-loop-place : goal.invariant-loop-place
invariant-loop-place l = l.words.items ≡ map (opening_word l.sizes l.counter_start) (range_with_len 0 l.place)
