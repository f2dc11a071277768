use Rattle.std.proofs.Common.{◌≡◌, ◌+◌, ◌<◌, ◌≤◌, ◌∙◌, ℕ, ap, ap₂, sym, refl, subst, arith, length, get_or, set}
use Rattle.std.proofs.lemmas.List.{length-set}
use Rattle.art_cell.specs.declared.cells.Cell.TheVariants as cells
use Rattle.art_cell.specs.declared.cells.Layout.{Layout}
use Rattle.art_cell.specs.Bodies.{IsBody}
use Rattle.art_cell.specs.Reads.{word_of}
use Rattle.art_cell.specs.Words.{Words, entries, size}
use Rattle.art_shared.specs.Ended.{words_of}
use Rattle.art_closed.specs.Cells.{cells_in}
use Rattle.art_closed.proofs.Read.{all_words, all_same, length_same, no_first_word, no_word_past, one_word_more, size_fits, size_some}
use Rattle.art_closed.proofs.cells.Reader.children.Goals as goal

pub loop-place-init : goal.loop-place-init
loop-place-init c =
    let r = c.args.self.now in
    let w = cells_in r.sizes r.words.now (cells.Node c.args.node) in
    record {
      layout = refl;
      long = length_same 266 0;
      same = λ p low. let first : 0 ≡ p = omega (arith, low) in all_same 266 p 0 ∙ (sym (no_first_word r.sizes (words_of r.words.now) c.args.node) ∙ ap w first);
      past = λ p more. all_same 266 p 0;
    }

pub loop-place-preserved : goal.loop-place-preserved
loop-place-preserved c =
    let r = c.args.self.now in
    let l = c.loop-place in
    let w = cells_in r.sizes r.words.now (cells.Node c.args.node) in
    let fits = size_fits c.args.node.layout in
    let room : l.place < length l.body.words = omega (arith, fits, l.invariant.long, c.loop-place-test.true, c.size-place-end.ensures) in
    record {
      layout = l.invariant.layout;
      long = length-set l.body.words l.place c.word.result ∙ l.invariant.long;
      same = subst (λ (x : ℕ). (p : ℕ) → p < l.place + 1 → get_or (set l.body.words l.place x) p 0 ≡ w p) (sym c.word.ensures)
          (one_word_more l.body.words l.place w room l.invariant.same);
      past = no_word_past l.body.words l.place c.word.result l.invariant.past;
    }

pub list-requires : goal.list-requires
list-requires c =
    let r = c.args.self.now in
    let l = c.loop-place in
    let n = c.args.node in
    let whole : size n.layout ≤ l.place = omega (arith, c.loop-place-test.false, c.size-place-end.ensures) in
    let words = all_words r.sizes (words_of r.words.now) l.body.words n (λ p low. l.invariant.same p (omega (arith, low, whole))) (λ p high. let some = size_some n.layout in l.invariant.past p (omega (arith, some, l.auto.place-end, c.size-place-end.ensures, high))) in
    subst (λ (k : Layout). IsBody k (word_of l.body)) (sym l.invariant.layout) (subst (IsBody n.layout) (sym words) c.requires.body)

pub returns : goal.returns
returns c =
    let r = c.args.self.now in
    let l = c.loop-place in
    let n = c.args.node in
    let whole : size n.layout ≤ l.place = omega (arith, c.loop-place-test.false, c.size-place-end.ensures) in
    let words = all_words r.sizes (words_of r.words.now) l.body.words n (λ p low. l.invariant.same p (omega (arith, low, whole))) (λ p high. let some = size_some n.layout in l.invariant.past p (omega (arith, some, l.auto.place-end, c.size-place-end.ensures, high))) in
    c.list.ensures ∙ ap₂ (λ (k : Layout) (w : Words). entries k w) l.invariant.layout words
