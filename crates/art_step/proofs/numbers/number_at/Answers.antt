use Rattle.std.proofs.Common.{◌≡◌, ◌∙◌, ◌<◌, ℕ, List, Some, ap, get_or, length, sym}
use Rattle.std.proofs.lemmas.Option.{slice_get-get_or, slice_get_past}
use Rattle.std.specs.List.{slice_get}
use Rattle.std.specs.Option.{option_and_then, option_map}
use Rattle.art_cell.specs.Children.{link_of}
use Rattle.art_cell.specs.declared.cells.Link.{Link}
use Rattle.art_step.specs.Tokens.{link_of_number}
use Rattle.art_step.proofs.numbers.number_at.Goals as goal

link_at : (words : List ℕ) (index word : ℕ) → index < length words → word ≡ get_or words index 0
    → link_of word ≡ option_and_then link_of (slice_get words index)
link_at words index word low is =
    ap (option_and_then link_of) (sym (slice_get-get_or words index 0 low ∙ ap (λ (n : ℕ). Some n) (sym is)))

pub returns : goal.returns
returns c =
    let there = c.in_ok-get.ensures.lookup.3 in
    ap (λ (l : Link). Some l) c.of.ensures
    ∙ sym c.in_ok-link.was
    ∙ c.named_by.ensures
    ∙ link_at c.args.words.now c.args.index c.in_ok-get.field-0.now there.0 (there.1 0)

pub returns-in_err-get : goal.returns-in_err-get
returns-in_err-get c =
    ap (option_map link_of_number) c.from_residual.ensures
    ∙ ap (option_and_then link_of) (sym (slice_get_past c.args.words.now c.args.index c.in_err-get.ensures.lookup.3))

pub returns-in_err-link : goal.returns-in_err-link
returns-in_err-link c =
    let there = c.in_ok-get.ensures.lookup.3 in
    ap (option_map link_of_number) c.from_residual-in_err-link.ensures
    ∙ sym c.in_err-link.was
    ∙ c.named_by.ensures
    ∙ link_at c.args.words.now c.args.index c.in_ok-get.field-0.now there.0 (there.1 0)
