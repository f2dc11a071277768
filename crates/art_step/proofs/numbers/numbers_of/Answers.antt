-- The first three words are all of them, so their numbers are those of the list.
use Rattle.std.proofs.Common.{◌≡◌, ◌≤◌, ℕ, List, [], ◌∷◌, length, refl, arith}
use Rattle.std.specs.Option.{option_and_then}
use Rattle.std.specs.List.{cons_option, slice_get}
use Rattle.art_cell.specs.declared.cells.Link.{Link}
use Rattle.art_cell.specs.Children.{link_of}
use Rattle.art_step.specs.Tokens.{links_of}
use Rattle.art_step.proofs.numbers.numbers_of.Goals as goal

abbrev link_at : List ℕ → ℕ → List Link → List Link
link_at words i rest = cons_option (option_and_then link_of (slice_get words i)) rest

three_links : (words : List ℕ) → length words ≤ 3 → link_at words 0 (link_at words 1 (link_at words 2 [])) ≡ links_of words
three_links [] few = refl
three_links (a ∷ []) few = refl
three_links (a ∷ b ∷ []) few = refl
three_links (a ∷ b ∷ c ∷ []) few = refl
three_links (a ∷ b ∷ c ∷ d ∷ words) few = absurd (omega arith)

pub returns : goal.returns
returns c = rw (c.number_at.ensures, c.number_at-2.ensures, c.number_at-3.ensures) (three_links c.args.words.now c.requires)
