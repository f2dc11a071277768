-- What is kept stays known, and a word that was read is known too.
use Rattle.std.proofs.Common.{◌≡◌, ◌≢◌, ◌<◌, ◌≤◌, ◌+◌, ℕ, List, [], Option, Some, None, inl, inr, length, set, replicate, refl, sym, ap, ◌∙◌, subst, arith, get_or-set_other, get_or-set_same}
use Rattle.std.proofs.lemmas.Bool.{cases_eq, cases_lt}
use Rattle.std.proofs.lemmas.List.{get_or-replicate, get_or_past, length-replicate, length-set}
use Rattle.std.proofs.lemmas.Option.{same_Some}
use Rattle.art_cell.specs.declared.cells.Cell.{Cell}
use Rattle.art_cell.specs.declared.cells.Cell.TheVariants as cell
use Rattle.art_cell.specs.declared.cells.Link.TheVariants.{Node as node}
use Rattle.art_cell.specs.declared.cells.Node.{Node}
use Rattle.art_cell.specs.declared.cells.Layout.{Layout}
use Rattle.art_cell.specs.declared.cells.Layout.TheVariants.{Node4, Node16, Node48, Node256}
use Rattle.art_cell.specs.Reads.{word_read}
use Rattle.art_cell.specs.Words.{size}
pub use Rattle.art_find.specs.Kept.{Grows}
use Rattle.art_find.specs.Kept.{IsKept, StaysRead, WasReadAt}
use Rattle.art_find.specs.Rereadings.{AreKnown}
use Rattle.art_step.specs.Acting.{HasPath}
use Rattle.art_step.specs.Knowledge.{CellAt}
use Rattle.art_step.specs.Shows.{HasChild, HasStamp, Shows}
use Rattle.art_step.specs.Steps.Begin as begin
use Rattle.art_step.specs.Steps.Begin.{first_notes}
use Rattle.art_step.specs.Steps.Check as check
use Rattle.art_step.specs.Steps.Read as read
use Rattle.art_step.specs.Steps.Begin.{stamp_of}
use Rattle.art_step.specs.Views.{IsClear, Member, note_of, size_of}
use Rattle.art_step.specs.declared.deeds.Deed.{Deed}
use Rattle.art_step.specs.declared.views.Fact.{Fact}
use Rattle.art_step.specs.declared.views.Fact.TheVariants.{Starts, Word}
use Rattle.art_step.specs.declared.views.Sizes.{Sizes}
use Rattle.art_step.specs.declared.views.Stamp.{Stamp}
use Rattle.art_step.specs.declared.views.View.{View}
use Rattle.art_step.proofs.SetsView.{member_back, member_front}
use Rattle.art_step.proofs.Shows.{begun_clear}

-- ---- stamps and notes stay

pub read_grows : (v w : View) (x : Stamp) (y : Fact) → w ≡ read.view_after v x y → Grows v w
read_grows v w x y is = record {
  stamps = λ a i. subst (λ (t : View). Member a t.stamps) (sym is) i;
  notes = λ n i. subst (λ (t : View). Member n t.notes) (sym is) (inr i);
}

pub begun_grows : (z : Sizes) (v w : View) (c : Cell) (x : ℕ) → IsClear x → w ≡ begin.view_after z v c x → Grows v w
begun_grows z v w c x clear is = record {
  stamps = λ a i. subst (λ (t : View). Member a t.stamps) (sym (is ∙ begun_clear z v c x clear)) (inr i);
  notes = λ n i. subst (λ (t : View). Member n t.notes) (sym (is ∙ begun_clear z v c x clear)) (member_back n (first_notes z c x) v.notes i);
}

pub passed_grows : (z : Sizes) (v w : View) (x : Stamp) (o : Option Deed) → check.Unchanged z v w x o → Grows v w
passed_grows z v w x o p = record {
  stamps = λ a i. subst (λ (t : View). Member a t.stamps) (sym p.is) i;
  notes = λ n i. subst (λ (t : View). Member n t.notes) (sym p.is) (member_back n p.paths v.notes i);
}

pub stamp_grows : (z : Sizes) (v w : View) (x : Stamp) → Grows v w → HasStamp z v x → HasStamp z w x
stamp_grows z v w x grows has = record { stamp = grows.stamps x has.stamp; inside = has.inside }

pub kept_grows : (z : Sizes) (v w : View) (x : Stamp) (reads : List (Option ℕ)) → Grows v w → IsKept z v x reads → IsKept z w x reads
kept_grows z v w x reads grows kept = record {
  room = kept.room;
  each = λ place word is.
      let was : WasReadAt z v x place word = kept.each place word is in
      record { after = was.after; inside = was.inside; noted = grows.notes _ was.noted; form = was.form };
}

-- ---- paths

pub path_grows : (v w : View) (x : Stamp) → Grows v w → HasPath v x → HasPath w x
path_grows v w x grows path = (path.0, grows.notes _ path.1)

-- the anchor has its path from the beginning
pub anchor_path : (z : Sizes) (v w : View) (y : Stamp) (x : ℕ) → y ≡ stamp_of z cell.Anchor x → IsClear x → w ≡ begin.view_after z v cell.Anchor x → HasPath w y
anchor_path z v w y x at clear is =
    ([], subst (λ (t : View). Member (note_of y (Starts [])) t.notes) (sym (is ∙ begun_clear z v cell.Anchor x clear)) (inl (ap (λ (a : Stamp). note_of a (Starts [])) at)))

-- a node that is stamped gets one at the check of the cell that names it
pub path_passed : (z : Sizes) (v w : View) (x y : Stamp) (o : Option Deed) (n : Node) (q : List ℕ) → check.Unchanged z v w x o → Member y v.stamps → y.cell ≡ cell.Node n
    → Shows z v x (λ s. HasChild s x.cell (node n) q) → Member (note_of y (Starts q)) w.notes
path_passed z v w x y o n q p stamped is shows =
    let led = p.led y q stamped (λ t shape holds. subst (λ (c : Cell). CellAt t c q) (sym is) ((shows t shape holds).at)) in
    subst (λ (t : View). Member (note_of y (Starts q)) t.notes) (sym p.is) (member_front (note_of y (Starts q)) p.paths v.notes led)

-- ---- how many words there are

size_fits : (k : Layout) → size k ≤ 266
size_fits Node4 = omega arith
size_fits Node16 = omega arith
size_fits Node48 = omega arith
size_fits Node256 = omega arith

-- there is room for the words of each cell
pub cell_fits : (c : Cell) → size_of c ≤ 266
cell_fits cell.Anchor = omega arith
cell_fits (cell.Leaf l) = omega arith
cell_fits (cell.Node n) = size_fits n.layout

-- ---- nothing is kept

pub none_read : (place : ℕ) → word_read (replicate 266 None) place ≡ None
none_read place = elim (cases_lt place 266) [
  | inl low ↦ get_or-replicate 266 place None None low
  | inr high ↦ get_or_past (replicate 266 None) place None (omega (arith, high, length-replicate {A = Option ℕ} 266 None))
]

pub nothing_kept : (z : Sizes) (v : View) (x : Stamp) (reads : List (Option ℕ)) → reads ≡ replicate 266 None → IsKept z v x reads
nothing_kept z v x reads blank = subst (IsKept z v x) (sym blank) (record {
  room = length-replicate {A = Option ℕ} 266 None;
  each = λ place word is. let no : None ≡ Some word = sym (none_read place) ∙ is in cc;
})

-- ---- a word that was read

module _ (reads : List (Option ℕ)) (room : length reads ≡ 266) (place word : ℕ) (low : place < 266) where
  -- it is known
  note_here : (at : ℕ) → at ≡ place → word_read (set reads place (Some word)) at ≡ Some word
  note_here at here = ap (word_read (set reads place (Some word))) here ∙ get_or-set_same reads place (Some word) None (omega (arith, low, room))

  -- and the others are as before
  note_there : (at : ℕ) → at ≢ place → word_read (set reads place (Some word)) at ≡ word_read reads at
  note_there at other = get_or-set_other reads place at (Some word) None other

  pub known_noted : AreKnown reads 1 place → AreKnown (set reads place (Some word)) 1 (place + 1)
  known_noted known at from before = elim (cases_eq at place) [
    | inl here ↦ (word, note_here at here)
    | inr other ↦ let was = known at from (omega (arith, before, other)) in (was.0, note_there at other ∙ was.1)
  ]

  pub kept_noted : (z : Sizes) (v w : View) (x : Stamp) → 0 < place → place < size_of x.cell → read.Outcome z v w x place word
      → IsKept z v x reads → IsKept z w x (set reads place (Some word))
  kept_noted z v w x after inside row kept =
      let still : IsKept z w x reads = kept_grows z v w x reads (read_grows v w x (Word place word) row.is) kept in
      let this : WasReadAt z w x place word = record {
        after = after;
        inside = inside;
        noted = subst (λ (t : View). Member (note_of x (Word place word)) t.notes) (sym row.is) (inl refl);
        form = row.form;
      } in
      record {
        room = length-set reads place (Some word) ∙ room;
        each = λ at other is. elim (cases_eq at place) [
          | inl here ↦
              let same : word ≡ other = same_Some {A = ℕ} word other (sym (note_here at here) ∙ is) in
              subst (λ (i : ℕ). WasReadAt z w x i other) (sym here) (subst (WasReadAt z w x place) same this)
          | inr there ↦ still.each at other (sym (note_there at there) ∙ is)
        ];
      }

-- where it was not known, the words that were known stay so
pub note_stays : (reads now : List (Option ℕ)) (place word : ℕ) → now ≡ set reads place (Some word) → word_read reads place ≡ None → StaysRead reads now
note_stays reads now place word is unknown at known was = elim (cases_eq at place) [
  | inl here ↦ let no : None ≡ Some known = sym unknown ∙ sym (ap (word_read reads) here) ∙ was in cc
  | inr other ↦ ap (λ (r : List (Option ℕ)). word_read r at) is ∙ get_or-set_other reads place at (Some word) None other ∙ was
]

-- words that are known in a row, and in the next one
pub known_both : (reads : List (Option ℕ)) (from middle end : ℕ) → AreKnown reads from middle → AreKnown reads middle end → AreKnown reads from end
known_both reads from middle end low high place after before = elim (cases_lt place middle) [
  | inl below ↦ low place after below
  | inr above ↦ high place above before
]
