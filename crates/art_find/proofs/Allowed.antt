-- What a descent asks for is allowed.
use Rattle.std.proofs.Common.{◌≡◌, ℕ, ◌+◌, ◌<◌, List, [], take, Option, sym, subst, arith}
use Rattle.std.specs.Prelude.{IfSome}
use Rattle.art_cell.specs.declared.cells.Cell.{Cell}
use Rattle.art_cell.specs.declared.cells.Link.TheVariants.{Leaf as leaf, Node as node}
use Rattle.art_cell.specs.declared.cells.Node.{Node}
use Rattle.art_cell.specs.declared.cells.Layout.{Layout}
use Rattle.art_cell.specs.declared.cells.Layout.TheVariants.{Node4, Node16, Node48, Node256}
use Rattle.art_cell.specs.Words.{size}
use Rattle.art_find.specs.Asking.{MayLook}
use Rattle.art_find.specs.Descents.{IsAbove, IsOn, StageFits, answer_at, asks}
use Rattle.art_step.specs.Acting.{HasPath, WasChecked}
use Rattle.art_find.proofs.Stages.{noted_names}
use Rattle.art_find.proofs.VerdictValues.{says_value}
use Rattle.art_find.specs.declared.descents.Stage.{Stage}
use Rattle.art_find.specs.declared.descents.Stage.TheVariants.{Start, Anchor, Child, Below, Both, Header, Prefix, Keys, Slot, Value, Length, Bytes, Decided, Ended}
use Rattle.art_step.specs.Shows.{HasChild, HasValue, Shows}
use Rattle.art_step.specs.Steps.Read as read
use Rattle.art_step.specs.Views.{IsNotHeld, Member, size_of}
use Rattle.art_step.specs.WordPlaces.{HasVersion, IsInside}
use Rattle.art_step.specs.declared.deeds.Deed.{Deed}
use Rattle.art_step.specs.declared.views.Sizes.{Sizes}
use Rattle.art_step.specs.declared.views.Stamp.{Stamp}
use Rattle.art_step.specs.declared.views.View.{View}
use Rattle.art_step.proofs.Shows.{child_names}

pub none_held : (v : View) (c : Cell) → v.held ≡ [] → IsNotHeld v.held c
none_held v c none h i = absurd (subst (Member h) none i)

pub reads_node : (z : Sizes) (u v : View) (y : Stamp) (n : Node) (place : ℕ) → IsOn z u v y n → 0 < place → place < size n.layout → IsInside z y.cell × read.May v y place × HasPath v y
reads_node z u v y n place on after within = (
  subst (IsInside z) (sym on.cell) (subst (HasVersion z) on.cell on.stamp.inside),
  record {
    stamp = on.stamp.stamp;
    free = none_held v y.cell on.reads.free;
    place = (after, subst (λ (d : Cell). place < size_of d) (sym on.cell) within);
  },
  on.path,
)

pub reads_leaf : (z : Sizes) (u v : View) (x : Stamp) (l place : ℕ) (q : List ℕ) → IsAbove z u v x l → place < 10 → Shows z v x (λ s. HasChild s x.cell (leaf l) q) → (l < z.leaves) × read.MayLeaf z v x l place × WasChecked x (leaf l) v
reads_leaf z u v x l place q on low shows = (
  on.inside,
  record {
    stamp = on.stamp.stamp;
    free = none_held v x.cell on.reads.free;
    names = child_names z v x l q shows;
    place = low;
  },
  on.checked,
)

pub front_inside : (k : Layout) (i : ℕ) → i < 10 → i < size k
front_inside Node4 i low = omega arith
front_inside Node16 i low = omega arith
front_inside Node48 i low = omega arith
front_inside Node256 i low = omega arith

pub allowed : (z : Sizes) (k : List ℕ) (what : Option ℕ → Deed) (depth : ℕ) (stage : Stage) (u v : View) → StageFits z k what depth stage u v → IfSome (asks stage) (MayLook z (λ s. HasValue s k (answer_at stage)) v)
allowed z k what depth Start u v fits = (tt, record { pinned = fits.pinned; named = tt })
allowed z k what depth (Anchor x) u v fits = (
  subst (IsInside z) (sym fits.2) tt,
  record {
    stamp = fits.1.stamp;
    free = none_held v x.cell fits.0.free;
    place = (omega arith, subst (λ (d : Cell). 1 < size_of d) (sym fits.2) (omega arith));
  },
  fits.3,
)
allowed z k what depth (Child x d) u v fits = (fits.1.stamp.inside, record { stamp = fits.1.stamp.stamp; tells = tt })
allowed z k what depth (Below x n) u v fits = (fits.2, record { pinned = fits.0.pinned; named = noted_names v x (node n) fits.1.noted })
allowed z k what depth (Both x y n) u v fits = (fits.1.stamp.inside, record { stamp = fits.1.stamp.stamp; tells = tt })
allowed z k what depth (Header y n) u v fits = reads_node z u v y n 1 fits.0 (omega arith) (front_inside n.layout 1 (omega arith))
allowed z k what depth (Prefix seen i r) u v fits =
    let more = fits.1.more in
    let short = fits.1.short in
    reads_node z u v seen.stamp seen.node (2 + i) fits.0 (omega arith) (front_inside seen.node.layout (2 + i) (omega (arith, more, short)))
allowed z k what depth (Keys seen i) u v fits = reads_node z u v seen.stamp seen.node (10 + i) fits.0 (omega arith) fits.1.inside
allowed z k what depth (Slot seen place) u v fits = reads_node z u v seen.stamp seen.node place fits.0 fits.1.after fits.1.inside
allowed z k what depth (Value x l) u v fits = reads_leaf z u v x l 0 (take depth k) fits.0 (omega arith) fits.1.shows
allowed z k what depth (Length x l value) u v fits = reads_leaf z u v x l 1 (take depth k) fits.0 (omega arith) (λ s shape holds. (fits.2 s shape holds).child)
allowed z k what depth (Bytes seen i r) u v fits =
    let more = fits.2.more in
    let few = fits.2.few in
    reads_leaf z u v seen.stamp seen.leaf (2 + i) (take depth k) fits.0 (omega (arith, more, few)) (λ s shape holds. (fits.2.shows s shape holds).leaf.child)
allowed z k what depth (Decided x found) u v fits = (fits.2.inside, record { stamp = fits.2.stamp; shows = says_value z k depth x found v fits.3 })
allowed z k what depth (Ended o) u v fits = tt
