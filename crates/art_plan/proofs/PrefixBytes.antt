-- The bytes of a prefix, of words that were read.
use Rattle.std.proofs.Common.{◌≡◌, ◌≢◌, ℕ, zero, suc, ◌+◌, ◌/◌, ◌%◌, ◌<◌, ◌≤◌, Bool, cond, List, [], ◌∷◌, Option, Some, None, refl, sym, ap, ap₂, ◌∙◌, subst, arith}
use Rattle.std.proofs.lemmas.Bool.{le-ltb}
use Rattle.std.specs.Option.{option_and_then, option_map}
use Rattle.art_cell.specs.Leaves.{key_of_length, key_read, prefix_read}
use Rattle.art_cell.specs.Reads.{word_read}
use Rattle.art_cell.specs.Words.{byte_of}
use Rattle.art_cell.specs.declared.cells.Cell.{Cell}
use Rattle.art_cell.specs.declared.cells.Cell.TheVariants as cell
use Rattle.art_cell.specs.declared.cells.Link.TheVariants.{Node as node}
use Rattle.art_cell.specs.declared.cells.Node.{Node}
use Rattle.art_plan.proofs.WholeCells.{IsWhole}
use Rattle.art_find.specs.Ways.{count_in}
use Rattle.art_find.specs.Rereadings.{AreKnown}
use Rattle.art_plan.proofs.WordsWithin.{past_prefix}
use Rattle.art_step.specs.Knowledge.{CellAt, HoldsAll, IsShape}
use Rattle.art_step.specs.Views.{note_of, size_of}
use Rattle.art_step.specs.declared.views.Fact.TheVariants.{Starts, Word}
use Rattle.art_step.specs.declared.views.Sizes.{Sizes}
use Rattle.art_step.specs.declared.views.Stamp.{Stamp}
use Rattle.art_step.specs.declared.views.View.{View}
use Rattle.art_tree.specs.Heaps.{Cells, heap_of}
use Rattle.art_tree.specs.Tree.{StandsAt}

key_known : (reads : List (Option ℕ)) (from n : ℕ) → from + n ≤ 64 → AreKnown reads 2 10 → (xs : List ℕ) × (key_read reads from n ≡ Some xs)
key_known reads from zero few known = ([], refl)
key_known reads from (suc n) few known =
    let one = known (2 + from / 8) (omega arith) (omega (arith, few)) in
    let rest = key_known reads (from + 1) n (omega (arith, few)) known in (
      byte_of one.0 (from % 8) ∷ rest.0,
      ap₂ (λ (word : Option ℕ) (bytes : Option (List ℕ)). option_and_then (λ b. option_map (λ xs. b ∷ xs) bytes) (option_map (λ w. byte_of w (from % 8)) word)) one.1 rest.1,
    )

prefix_known : (reads : List (Option ℕ)) (header : ℕ) → word_read reads 1 ≡ Some header → count_in header ≤ 64 → AreKnown reads 2 10 → (xs : List ℕ) × (prefix_read reads ≡ Some xs)
prefix_known reads header is short known =
    let key = key_known reads 0 (count_in header) (omega (arith, short)) known in (
      key.0,
      ap (option_and_then (λ h. key_of_length reads (h / 512 % 128))) is
          ∙ ap (λ (b : Bool). cond b None (key_read reads 0 (count_in header))) (le-ltb 64 (count_in header) short)
          ∙ key.1,
    )

prefix_there : (reads : List (Option ℕ)) (header : ℕ) → word_read reads 1 ≡ Some header → count_in header ≤ 64 → AreKnown reads 2 10 → prefix_read reads ≢ None
prefix_there reads header is short known none =
    let some = prefix_known reads header is short known in
    let no : None ≡ Some some.0 = sym none ∙ some.1 in
    absurd (cc)

-- all words of the node were read, and were once those of a tree: so were the bytes of its prefix
module _ (z : Sizes) (u : View) (x : Stamp) (reads : List (Option ℕ)) (whole : IsWhole z u x reads) (s : Cells) (shape : IsShape z s) (holds : HoldsAll u x s)
    (n : Node) (at : x.cell ≡ cell.Node n) where
  on_path : StandsAt (heap_of s) (node n) whole.path.0
  on_path = subst (λ (c : Cell). CellAt s c whole.path.0) at (holds (note_of x (Starts whole.path.0)) whole.path.1 refl)

  pub prefix_seen : prefix_read reads ≢ None
  prefix_seen =
      let high = past_prefix n.layout in
      let first = whole.known 1 (omega arith) (subst (λ (c : Cell). 1 < size_of c) (sym at) (omega (arith, high))) in
      let noted = (whole.words.each 1 first.0 first.1).noted in
      let word : s (cell.Node n) 1 ≡ first.0 = subst (λ (c : Cell). s c 1 ≡ first.0) at (holds (note_of x (Word 1 first.0)) noted refl) in
      let short : count_in first.0 ≤ 64 = subst (λ (h : ℕ). count_in h ≤ 64) word (shape.nodes n whole.path.0 on_path).body.prefix.short in
      let known : AreKnown reads 2 10 = (λ place low before. whole.known place (omega (arith, low)) (subst (λ (c : Cell). place < size_of c) (sym at) (omega (arith, high, before)))) in
      prefix_there reads first.0 first.1 short known
