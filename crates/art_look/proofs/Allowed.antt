-- What a look asks for is allowed.
use Rattle.std.proofs.Common.{ℕ, ◌+◌, ◌<◌, List, sym, subst, arith}
use Rattle.std.specs.Prelude.{IfSome}
use Rattle.art_cell.specs.declared.cells.Cell.{Cell}
use Rattle.art_cell.specs.declared.cells.Link.TheVariants.{Node as node}
use Rattle.art_find.specs.Asking.{MayLook}
use Rattle.art_find.proofs.Allowed.{front_inside, none_held, reads_leaf, reads_node}
use Rattle.art_find.proofs.Stages.{noted_names}
use Rattle.art_key.specs.declared.bounds.Bound.{Bound as KeyBound}
use Rattle.art_look.specs.Looks.{Settles, StageFits, asks}
use Rattle.art_look.specs.declared.looks.LookStage.{LookStage}
use Rattle.art_look.specs.declared.looks.LookStage.TheVariants.{Start, Anchor, Child, Below, Both, Header, Prefix, Keys, Slot, Value, Length, Bytes, Decided, Ended}
use Rattle.art_look.specs.declared.path_buffers.PathBuffer.{PathBuffer}
use Rattle.art_step.specs.Views.{size_of}
use Rattle.art_step.specs.WordPlaces.{IsInside}
use Rattle.art_step.specs.declared.views.Sizes.{Sizes}
use Rattle.art_step.specs.declared.views.View.{View}

pub allowed : (z : Sizes) (lo : List ℕ) (hi : KeyBound) (depth : ℕ) (t : PathBuffer) (stage : LookStage) (u v : View) → StageFits z lo hi depth stage t u v → IfSome (asks stage) (MayLook z (Settles lo t stage) v)
allowed z lo hi depth t Start u v fits = (tt, record { pinned = fits.pinned; named = tt })
allowed z lo hi depth t (Anchor x) u v fits = (
  subst (IsInside z) (sym fits.2) tt,
  record {
    stamp = fits.1.stamp;
    free = none_held v x.cell fits.0.free;
    place = (omega arith, subst (λ (d : Cell). 1 < size_of d) (sym fits.2) (omega arith));
  },
  fits.3,
)
allowed z lo hi depth t (Child x d) u v fits = (fits.1.stamp.inside, record { stamp = fits.1.stamp.stamp; tells = tt })
allowed z lo hi depth t (Below x n) u v fits = (fits.2, record { pinned = fits.0.pinned; named = noted_names v x (node n) fits.1.noted })
allowed z lo hi depth t (Both x y n) u v fits = (fits.1.stamp.inside, record { stamp = fits.1.stamp.stamp; tells = tt })
allowed z lo hi depth t (Header y n) u v fits = reads_node z u v y n 1 fits.0 (omega arith) (front_inside n.layout 1 (omega arith))
allowed z lo hi depth t (Prefix seen i) u v fits =
    let more = fits.1.more in
    let short = fits.1.short in
    reads_node z u v seen.stamp seen.node (2 + i) fits.0 (omega arith) (front_inside seen.node.layout (2 + i) (omega (arith, more, short)))
allowed z lo hi depth t (Keys seen f i) u v fits = reads_node z u v seen.stamp seen.node (10 + i) fits.0 (omega arith) fits.1.inside
allowed z lo hi depth t (Slot a) u v fits = reads_node z u v a.seen.stamp a.seen.node a.place fits.0 fits.1.after fits.1.inside
allowed z lo hi depth t (Value x l) u v fits = reads_leaf z u v x l 0 t.path.items fits.0 (omega arith) (λ s shape holds. (fits.2 s shape holds).child)
allowed z lo hi depth t (Length x l value) u v fits = reads_leaf z u v x l 1 t.path.items fits.0 (omega arith) (λ s shape holds. (fits.2 s shape holds).leaf.child)
allowed z lo hi depth t (Bytes seen i) u v fits =
    let more = fits.2.more in
    let short = fits.2.short in
    reads_leaf z u v seen.stamp seen.leaf (2 + i) t.path.items fits.0 (omega (arith, more, short)) (λ s shape holds. (fits.2.shows s shape holds).valued.leaf.child)
allowed z lo hi depth t (Decided x r o) u v fits = (fits.2.inside, record { stamp = fits.2.stamp; shows = fits.3 })
allowed z lo hi depth t (Ended r o) u v fits = tt
