-- A look that is asked for where something is settled may be made where nothing is; and where it settles nothing, it needs no effects.
use Rattle.std.proofs.Common.{◌≢◌, arith, refl}
use Rattle.std.specs.Prelude.{IfSome, None, Option, Some, ⊤}
use Rattle.art_find.proofs.Keeping.{cell_fits}
use Rattle.art_find.specs.Findings.{AsksPlace}
use Rattle.art_step.specs.Acting.{IsAllowed}
use Rattle.art_step.specs.declared.views.Stamp.{Stamp}
use Rattle.art_find.specs.Asking.{MayLook}
use Rattle.art_step.specs.declared.actions.Action.{Action}
use Rattle.art_step.specs.declared.actions.Action.TheVariants.{Begin, Read, ReadLeaf, Check, Settle, Upgrade, Claim, Write, WriteLeaf, Commit, Release, ClearBit, GiveBack, Free, ReadEpoch, StorePin, RaiseEpoch, ReadPin}
use Rattle.art_step.specs.declared.views.Sizes.{Sizes}
use Rattle.art_step.specs.declared.views.View.{View}
use Rattle.art_tree.specs.Heaps.{Cells}

pub looked : (z : Sizes) (v : View) (so : Cells → Type 0) (a : Action) → MayLook z so v a → MayLook z (λ s. ⊤) v a
looked z v so (Begin c) may = may
looked z v so (Read x i) may = may
looked z v so (ReadLeaf x l i) may = may
looked z v so (Check x) may = may
looked z v so (Settle x) may = (may.0, record { stamp = may.1.stamp; shows = λ s shape holds. tt })
looked z v so (Upgrade x) may = absurd may
looked z v so (Claim n) may = absurd may
looked z v so (Write c i y) may = absurd may
looked z v so (WriteLeaf l i y) may = absurd may
looked z v so (Commit c b) may = absurd may
looked z v so (Release c b) may = absurd may
looked z v so (ClearBit p i b) may = absurd may
looked z v so (GiveBack d) may = absurd may
looked z v so (Free d) may = absurd may
looked z v so ReadEpoch may = absurd may
looked z v so (StorePin y) may = absurd may
looked z v so RaiseEpoch may = absurd may
looked z v so (ReadPin q) may = absurd may

pub allowed_look : (z : Sizes) (v : View) (so : Cells → Type 0) (a : Action) → ((x : Stamp) → a ≢ Settle x) → MayLook z so v a → IsAllowed z None v a
allowed_look z v so (Begin c) other may = may
allowed_look z v so (Read x i) other may = may
allowed_look z v so (ReadLeaf x l i) other may = may
allowed_look z v so (Check x) other may = may
allowed_look z v so (Settle x) other may = absurd (other x refl)
allowed_look z v so (Upgrade x) other may = absurd may
allowed_look z v so (Claim n) other may = absurd may
allowed_look z v so (Write c i y) other may = absurd may
allowed_look z v so (WriteLeaf l i y) other may = absurd may
allowed_look z v so (Commit c b) other may = absurd may
allowed_look z v so (Release c b) other may = absurd may
allowed_look z v so (ClearBit p i b) other may = absurd may
allowed_look z v so (GiveBack d) other may = absurd may
allowed_look z v so (Free d) other may = absurd may
allowed_look z v so ReadEpoch other may = absurd may
allowed_look z v so (StorePin y) other may = absurd may
allowed_look z v so RaiseEpoch other may = absurd may
allowed_look z v so (ReadPin q) other may = absurd may

-- a place that is asked for is one of a cell
pub asks_place : (z : Sizes) (v : View) (so : Cells → Type 0) (o : Option Action) → IfSome o (MayLook z so v) → AsksPlace o
asks_place z v so None may = tt
asks_place z v so (Some (Read x i)) may = let low = may.1.place.1 in let few = cell_fits x.cell in omega (arith, low, few)
asks_place z v so (Some (Begin c)) may = tt
asks_place z v so (Some (ReadLeaf x l i)) may = tt
asks_place z v so (Some (Check x)) may = tt
asks_place z v so (Some (Settle x)) may = tt
asks_place z v so (Some (Upgrade x)) may = tt
asks_place z v so (Some (Claim n)) may = tt
asks_place z v so (Some (Write c i y)) may = tt
asks_place z v so (Some (WriteLeaf l i y)) may = tt
asks_place z v so (Some (Commit c b)) may = tt
asks_place z v so (Some (Release c b)) may = tt
asks_place z v so (Some (ClearBit p i b)) may = tt
asks_place z v so (Some (GiveBack d)) may = tt
asks_place z v so (Some (Free d)) may = tt
asks_place z v so (Some ReadEpoch) may = tt
asks_place z v so (Some (StorePin y)) may = tt
asks_place z v so (Some RaiseEpoch) may = tt
asks_place z v so (Some (ReadPin q)) may = tt
