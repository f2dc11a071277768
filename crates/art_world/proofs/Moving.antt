-- Each kind of step, of a sound world: the view after it, as the list of views has it.
use Rattle.std.proofs.Common.{◌≡◌, ◌≢◌, ℕ, ◌+◌, ◌<◌, List, get_or, length, sym, ap, ◌∙◌, subst, ⊎_elim, arith}
use Rattle.std.proofs.lemmas.Bool.{cases_eq}
use Rattle.std.specs.Prelude.{Option}
use Rattle.art_cell.specs.declared.cells.Cell.{Cell}
use Rattle.art_cell.specs.declared.cells.Cell.TheVariants as cell
use Rattle.art_cell.specs.declared.cells.Link.{Link}
use Rattle.art_cell.specs.declared.cells.Link.TheVariants.{Leaf as leaf, Node as node}
use Rattle.art_cell.specs.declared.cells.Node.{Node}
use Rattle.art_step.specs.Steps.Claim as claim
use Rattle.art_step.specs.WordPlaces.{HasVersion, IsInside, place_of}
use Rattle.art_step.proofs.WordPlaces.{cell_below}
use Rattle.art_step.proofs.WordRows.{inside_of, plain_of, version_below, version_found, word_found}
use Rattle.art_step.proofs.Changing.{first_low}
use Rattle.art_step.specs.declared.views.InHand.{InHand}
use Rattle.art_step.specs.Steps.Write as write
use Rattle.art_step.specs.declared.views.Stamp.{Stamp}
use Rattle.art_step.specs.declared.views.View.{View}
use Rattle.art_step.specs.declared.deeds.Deed.{Deed}
use Rattle.art_step.specs.Effects.{FindsUnchanged, FindsVersion, Instant}
use Rattle.art_step.specs.Steps.Check as check
use Rattle.art_step.specs.declared.views.Sizes.{Sizes}
use Rattle.art_step.specs.Views.{IsWordOf, Member, Views, size_of}
use Rattle.art_step.specs.WordRows.{view_at, views_of}
use Rattle.art_step.proofs.Moves.{Moves, moves_fails, moves_passes}
use Rattle.art_world.specs.Contents.{Contents, IsSoundWorld, memory_now}
use Rattle.art_world.proofs.ViewLists.{at_view}

-- what a check shows, whichever word is found
abbrev pub ShowsCheck : Contents → ℕ → Stamp → Option Deed → ℕ → View → View → Type 0
ShowsCheck k p x o found v w = (found ≡ x.version → check.Unchanged k.sizes v w x o) × (found ≢ x.version → check.IsChanged v w x found)

-- and what happens at it
abbrev pub AtCheck : Contents → ℕ → Stamp → ℕ → Instant
AtCheck k p x found m f m' f' = (found ≡ x.version → FindsUnchanged k.sizes (view_at k.views p) x m f m' f') × (found ≢ x.version → FindsVersion x.cell found m f m' f')

module _ (k : Contents) (p : ℕ) (inside : p < length k.views) (r : IsSoundWorld k) where
  abbrev v : View
  v = view_at k.views p

  -- a step of the pass, after which the words are us
  abbrev Shown : List ℕ → (View → View → Type 0) → Instant → Type 0
  Shown us Row so = Moves k.sizes k.words (views_of k.views) p v us Row so

  weaker : (us : List ℕ) (Row Row' : View → View → Type 0) (so so' : Instant) → ((w : View) → Row v w → Row' v w)
      → ((m' : _) (f' : Views) → so (memory_now k) (views_of k.views) m' f' → so' (memory_now k) (views_of k.views) m' f') → Shown us Row so → Shown us Row' so'
  weaker us Row Row' so so' row was t = record { view = t.view; pass = t.pass; row = row t.view t.row; step = t.step; sound = t.sound; was = λ g s. was _ g (t.was g s) }

  pub checks : (x : Stamp) (o : Option Deed) (found : ℕ) → found ≡ (memory_now k).version x.cell → check.May k.sizes v x o
      → Shown k.words (λ v w. ShowsCheck k p x o found v w) (AtCheck k p x found)
  checks x o found is may = ⊎_elim
      (λ (same : found ≡ x.version).
      weaker k.words (λ v w. check.Unchanged k.sizes v w x o) (λ v w. ShowsCheck k p x o found v w) (FindsUnchanged k.sizes v x) (AtCheck k p x found) (λ w s. (λ _. s, λ other. absurd (other same))) (λ m' f' s. (λ _. s, λ other. absurd (other same)))
      (moves_passes k.sizes k.words (views_of k.views) p v r.sound (at_view k.views p inside) r.long x o (sym is ∙ same) may))
      (λ (other : found ≢ x.version).
      weaker k.words (λ v w. check.IsChanged v w x found) (λ v w. ShowsCheck k p x o found v w) (FindsVersion x.cell found) (AtCheck k p x found) (λ w s. (λ same. absurd (other same), λ _. s)) (λ m' f' s. (λ same. absurd (other same), λ _. s))
      (moves_fails k.sizes k.words (views_of k.views) p v r.sound (at_view k.views p inside) r.long x found is may.stamp other))
      (cases_eq found x.version)

-- ---- places

-- the version word of a cell, and its other words, stand among the words of the world
pub version_low : (k : Contents) (c : Cell) → IsSoundWorld k → IsInside k.sizes c → place_of k.sizes c < length k.words
version_low k c r inside = let low = version_below k.sizes c inside in omega (arith, r.long, low)

pub word_low : (k : Contents) (c : Cell) (i : ℕ) → IsSoundWorld k → IsInside k.sizes c → i < size_of c → place_of k.sizes c + i < length k.words
word_low k c i r inside few = let low = cell_below k.sizes c i inside few in omega (arith, r.long, low)

-- a stamp has the place of its cell
pub stamp_place : (k : Contents) (p : ℕ) → p < length k.views → IsSoundWorld k → (x : Stamp) → Member x (view_at k.views p).stamps → x.first ≡ place_of k.sizes x.cell
stamp_place k p inside r x i = (r.sound.unstamped.pinned p (view_at k.views p) (at_view k.views p inside)).placed x i

-- which is that of a word of the world, and so are those after it
pub stamp_low : (k : Contents) (p : ℕ) → p < length k.views → IsSoundWorld k → (x : Stamp) → Member x (view_at k.views p).stamps → HasVersion k.sizes x.cell → x.first < length k.words
stamp_low k p inside r x i has = rw (stamp_place k p inside r x i) (version_low k x.cell r (inside_of k.sizes x.cell has))

pub stamp_word_low : (k : Contents) (p : ℕ) → p < length k.views → IsSoundWorld k → (x : Stamp) (i : ℕ) → Member x (view_at k.views p).stamps → IsInside k.sizes x.cell → i < size_of x.cell → x.first + i < length k.words
stamp_word_low k p inside r x i has there few = rw (stamp_place k p inside r x has) (word_low k x.cell i r there few)

-- what is found there is the cell's word
pub version_at : (k : Contents) (c : Cell) (first found : ℕ) → HasVersion k.sizes c → first ≡ place_of k.sizes c → found ≡ get_or k.words first 0 → found ≡ (memory_now k).version c
version_at k c first found has is read = read ∙ (ap (λ (i : ℕ). get_or k.words i 0) is ∙ sym (version_found k.sizes k.words c (inside_of k.sizes c has) (plain_of k.sizes c has)))

pub word_at : (k : Contents) (c : Cell) (i first found : ℕ) → IsInside k.sizes c → 0 < i → i < size_of c → first ≡ place_of k.sizes c → found ≡ get_or k.words (first + i) 0 → found ≡ (memory_now k).words c i
word_at k c i first found inside late few is read = read ∙ (ap (λ (j : ℕ). get_or k.words (j + i) 0) is ∙ sym (word_found k.sizes k.words c i inside (let low = first_low c in omega (arith, low)) few))

-- ---- numbers by their links

-- the node that a number names may be claimed, where one that it names may
pub claim_named : (z : Sizes) (v : View) (d : Link) (n : Node) → (a : Node) × (d ≡ node a) × IsInside z (cell.Node a) × claim.May v a → d ≡ node n → IsInside z (cell.Node n) × claim.May v n
claim_named z v d n o is =
    let named : node o.0 ≡ node n = sym o.1 ∙ is in
    let same : o.0 ≡ n = cc in
    subst (λ (a : Node). IsInside z (cell.Node a) × claim.May v a) same (o.2, o.3)

-- the leaf that a number names may be written, where one that it names may
pub leaf_named : (d : Link) (l : ℕ) → d ≡ leaf l → (z : Sizes) (v : View) (i x : ℕ)
    → (a : ℕ) × (y : InHand) × (d ≡ leaf a) × (a < z.leaves) × write.MayLeaf v y a i × IsWordOf z (cell.Leaf a) i x → (y : InHand) × (l < z.leaves) × write.MayLeaf v y l i × IsWordOf z (cell.Leaf l) i x
leaf_named d l is z v i x o =
    let named : leaf o.0 ≡ leaf l = sym o.2 ∙ is in
    let same : o.0 ≡ l = cc in
    subst (λ (a : ℕ). (y : InHand) × (a < z.leaves) × write.MayLeaf v y a i × IsWordOf z (cell.Leaf a) i x) same (o.1, o.3, o.4, o.5)
