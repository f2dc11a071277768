-- A word more is that of one place more, and in the end there is a word for each place.
use Rattle.std.proofs.Common.{◌≡◌, ℕ, List, [], ◌∷◌, ◌++◌, map, sym, ap, ap₂, ◌∙◌, arith}
use Rattle.std.specs.List.{range_with_len}
use Rattle.std.proofs.lemmas.List.FromFn.{map-range_with_len_more}
use Rattle.art_step.specs.OpeningWords.{opening_word, opening_words}
use Rattle.art_step.specs.WordPlaces.{word_count}
use Rattle.art_step.proofs.opening.opening_words.Goals as goal

pub loop-place-preserved : goal.loop-place-preserved
loop-place-preserved c =
    c.in_ok-push.ensures.items
    ∙ (ap₂ (λ (words : List ℕ) (word : ℕ). words ++ word ∷ []) c.loop-place.invariant c.opening_word.ensures
    ∙ sym (map-range_with_len_more (opening_word c.args.sizes c.args.counter_start) 0 c.loop-place.place c.loop-place.place (omega arith)))

pub returns : goal.returns
unfolding opening_words
returns c =
    let all : c.loop-place.place ≡ word_count c.args.sizes = omega arith in
    c.loop-place.invariant ∙ ap (λ (count : ℕ). map (opening_word c.args.sizes c.args.counter_start) (range_with_len 0 count)) all
