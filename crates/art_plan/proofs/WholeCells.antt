-- A cell of which all words are known, as a body or as the anchor's word.
use Rattle.std.proofs.Common.{◌≡◌, ◌≢◌, ℕ, ◌<◌, ◌≤◌, List, map, Option, Some, None, refl, sym, ap, ◌∙◌, subst, ⊎_elim, arith}
use Rattle.std.specs.Prelude.{unwrap_or}
use Rattle.std.specs.List.{range_with_len}
use Rattle.std.proofs.lemmas.List.{get_or_past}
use Rattle.std.proofs.lemmas.List.FromFn.{get_or-map-range_with_len, length-map-range_with_len}
use Rattle.std.proofs.lemmas.Bool.{cases_eq, cases_lt}
use Rattle.std.proofs.lemmas.Option.{same_Some}
use Rattle.art_cell.specs.Reads.{Agrees, word_of, word_read}
use Rattle.art_cell.specs.Words.{size}
use Rattle.art_cell.specs.declared.cells.Body.{Body}
use Rattle.art_cell.specs.declared.cells.Cell.{Cell}
use Rattle.art_cell.specs.declared.cells.Cell.TheVariants as cell
use Rattle.art_cell.specs.declared.cells.Node.{Node}
use Rattle.art_plan.specs.ChooseInsert.Bodies.{HasWords, IsFilled}
use Rattle.art_plan.proofs.BodyForms.{any_behind}
use Rattle.art_plan.proofs.WordsWithin.{past_prefix}
use Rattle.art_find.specs.ReadSets.{above_of, node_of}
use Rattle.art_find.specs.Findings.{IsAboveOf, IsStanding, IsUnder}
use Rattle.art_find.specs.Kept.{IsKept, WasReadAt}
use Rattle.art_find.specs.Rereadings.{AreKnown}
use Rattle.art_find.specs.declared.read_sets.ReadSet.{ReadSet}
use Rattle.art_find.specs.declared.findings.Above.{Above}
use Rattle.art_find.specs.declared.findings.Position.{Position}
use Rattle.art_step.specs.Acting.{HasPath}
use Rattle.art_plan.specs.Changes.{MayTarget}
use Rattle.art_plan.specs.Seen.{IsReadRoot, IsReadWhole, kept}
use Rattle.art_step.proofs.WordForms.{no_word}
use Rattle.art_step.specs.Shows.{HasStamp}
use Rattle.art_step.specs.Views.{IsWordOf, size_of}
use Rattle.art_step.specs.declared.views.Sizes.{Sizes}
use Rattle.art_step.specs.declared.views.Stamp.{Stamp}
use Rattle.art_step.specs.declared.views.View.{View}

-- a stamped cell, to which a path was noted, and of which each word was noted and is kept
pub record IsWhole (z : Sizes) (u : View) (x : Stamp) (reads : List (Option ℕ)) : Type 0 where
  pub stamp : HasStamp z u x
  pub path : HasPath u x
  pub words : IsKept z u x reads
  pub known : AreKnown reads 1 (size_of x.cell)

-- ---- of the cells that a read set is of

module _ (z : Sizes) (k : List ℕ) (t : Position) (read_set : ReadSet) (u : View) (at : IsStanding z k t read_set u) where
  -- the cell where the key stands
  pub node_whole : AreKnown (node_of read_set) 1 (size_of t.stamp.cell) → IsWhole z u t.stamp (node_of read_set)
  node_whole known = record { stamp = at.stamp; path = at.place.path; words = at.place.kept; known = known }

  -- the cell above it
  module _ (n : Node) (on : t.stamp.cell ≡ cell.Node n) where
    under : IsUnder z k t.above (above_of read_set) u (cell.Node n)
    under = subst (IsUnder z k t.above (above_of read_set) u) on at.place.under

    pub has_above : (a : Above) × (t.above ≡ Some a)
    has_above = (under.0, under.1)

    module _ (a : Above) (is : t.above ≡ Some a) where
      one : under.0 ≡ a
      one = same_Some {A = Above} under.0 a (sym under.1 ∙ is)

      pub above_is : IsAboveOf z k u a n
      above_is = subst (λ (b : Above). IsAboveOf z k u b n) one under.2

      pub above_kept : IsKept z u a.stamp (above_of read_set)
      above_kept = subst (λ (b : Above). IsKept z u b.stamp (above_of read_set)) one under.3

      pub above_whole : AreKnown (above_of read_set) 1 (size_of a.stamp.cell) → IsWhole z u a.stamp (above_of read_set)
      above_whole known = record { stamp = above_is.on; path = above_is.path; words = above_kept; known = known }

-- ---- as what a plan goes by

-- the words that were read of the node, as a body: 0 where none was
abbrev word_or : List (Option ℕ) → ℕ → ℕ
word_or reads i = unwrap_or (word_read reads i) 0

abbrev pub body_read : Node → List (Option ℕ) → Body
body_read n reads = record { layout = n.layout; words = map (word_or reads) (range_with_len 0 (size n.layout)) }

pub has_read : (n : Node) (reads : List (Option ℕ)) → HasWords n reads (body_read n reads)
has_read n reads = record {
  layout = refl;
  words = λ i low. get_or-map-range_with_len (word_or reads) 0 (size n.layout) i i 0 low (omega arith);
  behind = λ i high.
      let none = get_or_past (map (word_or reads) (range_with_len 0 (size n.layout))) i 0 (omega (arith, high, length-map-range_with_len (word_or reads) 0 (size n.layout))) in
      omega (arith, none);
}

-- each word that was read of the node is that of the body
pub filled_agrees : (z : Sizes) (u : View) (x : Stamp) (reads : List (Option ℕ)) → IsKept z u x reads → (n : Node) → x.cell ≡ cell.Node n → (body : Body) → HasWords n reads body → Agrees reads (word_of body)
filled_agrees z u x reads kept n at body has place value is =
    has.words place (subst (λ (c : Cell). place < size_of c) at (kept.each place value is).inside) ∙ ap (λ (o : Option ℕ). unwrap_or o 0) is

-- the version is not read
version_unread : (z : Sizes) (u : View) (x : Stamp) (reads : List (Option ℕ)) → IsKept z u x reads → unwrap_or (word_read reads 0) 0 ≡ 0
version_unread z u x reads kept = by_word (word_read reads 0) refl
  where
    by_word : (o : Option ℕ) → word_read reads 0 ≡ o → unwrap_or o 0 ≡ 0
    by_word None is = refl
    by_word (Some w) is = let after = (kept.each 0 w is).after in absurd (omega (arith, after))

module _ (z : Sizes) (u : View) (x : Stamp) (reads : List (Option ℕ)) (whole : IsWhole z u x reads) where
  may_kept : MayTarget z u (kept x)
  may_kept = record { inside = whole.stamp.inside; stamp = whole.stamp.stamp; path = whole.path }

  pub read_root : x.cell ≡ cell.Anchor → (word : ℕ) × IsReadRoot z u x word
  read_root at =
      let one = whole.known 1 (omega arith) (subst (λ (c : Cell). 1 < size_of c) (sym at) (omega arith)) in
      (one.0, record { may = may_kept; cell = at; noted = (whole.words.each 1 one.0 one.1).noted })

  module _ (n : Node) (at : x.cell ≡ cell.Node n) (body : Body) (filled : IsFilled x.cell reads body) where
    -- within the cell each word was read
    pub word_there : (i : ℕ) → 0 < i → i < size n.layout → WasReadAt z u x i (word_of body i)
    word_there i low high =
        let one = whole.known i (omega (arith, low)) (subst (λ (c : Cell). i < size_of c) (sym at) high) in
        subst (WasReadAt z u x i) (sym (filled_agrees z u x reads whole.words n at body (filled n at) i one.0 one.1)) (whole.words.each i one.0 one.1)

    -- so each word has its form
    form_there : (i : ℕ) → IsWordOf z (cell.Node n) i (word_of body i)
    form_there i = ⊎_elim
        (λ (low : i < size n.layout). ⊎_elim
        (λ (none : i ≡ 0). no_word z (cell.Node n) i (word_of body i) (λ after. absurd (omega (arith, none, after))))
        (λ (after : i ≢ 0). subst (λ (c : Cell). IsWordOf z c i (word_of body i)) at (word_there i (omega (arith, after)) low).form)
        (cases_eq i 0))
        (λ (high : size n.layout ≤ i). any_behind z n i (word_of body i) high)
        (cases_lt i (size n.layout))

    pub read_whole : IsReadWhole z u x n body
    read_whole = record {
      may = may_kept;
      cell = at;
      layout = (filled n at).layout;
      noted = λ i low high. (word_there i low high).noted;
      forms = form_there;
      version = let high = past_prefix n.layout in (filled n at).words 0 (omega (arith, high)) ∙ version_unread z u x reads whole.words;
    }
