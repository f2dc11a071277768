use Rattle.std.proofs.Common.{◌≡◌, ◌≢◌, ◌∙◌, ◌*◌, ◌<◌, ◌≤◌, ◌==◌, if◌then◌else◌, ℕ, eq-eqb, le-ltb, lt-ltb, nat_lt, ne_eqb, refl, subst, sym}
use Rattle.std.proofs.lemmas.Bool.{cond-false, cond-true}
use Rattle.art_cell.specs.declared.cells.Pool.TheVariants.{N4}
use Rattle.art_step.specs.declared.views.Sizes.{Sizes}
use Rattle.art_step.specs.OpeningWords.{opening_free_word, opening_node_word, opening_word}
use Rattle.art_step.specs.WordPlaces.{cells_end, epoch_place, first_cell, free_words_end}
use Rattle.art_step.proofs.opening.opening_word.Goals as goal

-- the places in their order, which are tested one after another
module _ (z : Sizes) (k place : ℕ) (late : place ≢ 0) where
  of_leaves : place < first_cell z N4 → opening_word z k place ≡ 0
  of_leaves low =
      cond-false (place == 0) _ _ (ne_eqb place 0 late)
      ∙ cond-true (nat_lt place (first_cell z N4)) _ _ (lt-ltb place (first_cell z N4) low)

  module _ (from : first_cell z N4 ≤ place) where
    past_leaves : opening_word z k place
        ≡ (if nat_lt place (cells_end z) then opening_node_word z k place
        else if nat_lt place (free_words_end z) then opening_free_word z place
        else if place == epoch_place z then 1 else 0)
    past_leaves =
        cond-false (place == 0) _ _ (ne_eqb place 0 late)
        ∙ cond-false (nat_lt place (first_cell z N4)) _ _ (le-ltb place (first_cell z N4) from)

    of_nodes : place < cells_end z → opening_word z k place ≡ opening_node_word z k place
    of_nodes low = past_leaves ∙ cond-true (nat_lt place (cells_end z)) _ _ (lt-ltb place (cells_end z) low)

    module _ (cells : cells_end z ≤ place) where
      past_nodes : opening_word z k place
          ≡ (if nat_lt place (free_words_end z) then opening_free_word z place else if place == epoch_place z then 1 else 0)
      past_nodes = past_leaves ∙ cond-false (nat_lt place (cells_end z)) _ _ (le-ltb place (cells_end z) cells)

      of_free : place < free_words_end z → opening_word z k place ≡ opening_free_word z place
      of_free low = past_nodes ∙ cond-true (nat_lt place (free_words_end z)) _ _ (lt-ltb place (free_words_end z) low)

      past_free : free_words_end z ≤ place → opening_word z k place ≡ (if place == epoch_place z then 1 else 0)
      past_free free = past_nodes ∙ cond-false (nat_lt place (free_words_end z)) _ _ (le-ltb place (free_words_end z) free)

pub returns-then-place-eq0 : goal.returns-then-place-eq0
returns-then-place-eq0 c =
    subst (λ (p : ℕ). 4 * c.args.counter_start ≡ opening_word c.args.sizes c.args.counter_start p) (sym c.if-place-eq0.true) refl

pub returns-then-place-first_cell : goal.returns-then-place-first_cell
returns-then-place-first_cell c =
    let low = subst (λ (n : ℕ). c.args.place < n) c.first_cell.ensures c.if-place-first_cell.true in
    sym (of_leaves c.args.sizes c.args.counter_start c.args.place c.if-place-eq0.false low)

pub returns-then-place-cells_end : goal.returns-then-place-cells_end
returns-then-place-cells_end c =
    let from = subst (λ (n : ℕ). n ≤ c.args.place) c.first_cell.ensures c.if-place-first_cell.false in
    let low = subst (λ (n : ℕ). c.args.place < n) c.cells_end.ensures c.if-place-cells_end.true in
    c.node_word.ensures ∙ sym (of_nodes c.args.sizes c.args.counter_start c.args.place c.if-place-eq0.false from low)

pub returns-then-place-free_words_end : goal.returns-then-place-free_words_end
returns-then-place-free_words_end c =
    let from = subst (λ (n : ℕ). n ≤ c.args.place) c.first_cell.ensures c.if-place-first_cell.false in
    let cells = subst (λ (n : ℕ). n ≤ c.args.place) c.cells_end.ensures c.if-place-cells_end.false in
    let low = subst (λ (n : ℕ). c.args.place < n) c.free_words_end.ensures c.if-place-free_words_end.true in
    c.free_word.ensures ∙ sym (of_free c.args.sizes c.args.counter_start c.args.place c.if-place-eq0.false from cells low)

pub returns-then-place-epoch_place : goal.returns-then-place-epoch_place
returns-then-place-epoch_place c =
    let from = subst (λ (n : ℕ). n ≤ c.args.place) c.first_cell.ensures c.if-place-first_cell.false in
    let cells = subst (λ (n : ℕ). n ≤ c.args.place) c.cells_end.ensures c.if-place-cells_end.false in
    let free = subst (λ (n : ℕ). n ≤ c.args.place) c.free_words_end.ensures c.if-place-free_words_end.false in
    let e = epoch_place c.args.sizes in
    sym (past_free c.args.sizes c.args.counter_start c.args.place c.if-place-eq0.false from cells free
    ∙ cond-true (c.args.place == e) 1 0 (eq-eqb c.args.place e (c.if-place-epoch_place.true ∙ c.epoch_place.ensures)))

pub returns-else-place-epoch_place : goal.returns-else-place-epoch_place
returns-else-place-epoch_place c =
    let from = subst (λ (n : ℕ). n ≤ c.args.place) c.first_cell.ensures c.if-place-first_cell.false in
    let cells = subst (λ (n : ℕ). n ≤ c.args.place) c.cells_end.ensures c.if-place-cells_end.false in
    let free = subst (λ (n : ℕ). n ≤ c.args.place) c.free_words_end.ensures c.if-place-free_words_end.false in
    let e = epoch_place c.args.sizes in
    let other : c.args.place ≢ e = λ is. c.if-place-epoch_place.false (is ∙ sym c.epoch_place.ensures) in
    sym (past_free c.args.sizes c.args.counter_start c.args.place c.if-place-eq0.false from cells free
    ∙ cond-false (c.args.place == e) 1 0 (ne_eqb c.args.place e other))
