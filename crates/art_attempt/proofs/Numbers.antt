-- Numbers come into the hand, or one is not found.
use Rattle.std.proofs.Common.{◌≡◌, ℕ, List, Some, inr, refl, sym, ap, ◌∙◌, subst, arith}
use Rattle.std.proofs.lemmas.Option.{same_Some}
use Rattle.art_attempt.proofs.Chosen.{case_comes, comes_insert, no_smaller, wants_same}
use Rattle.art_attempt.proofs.LastCheck.{check_stays, stood_stays}
use Rattle.art_attempt.proofs.Spent.{few_looks}
use Rattle.art_attempt.proofs.Tries.{standing_takes, still_takes}
use Rattle.art_attempt.specs.Attempts.{EndsWithin, HasSupplies, IsFull, IsKnown, IsRoom, WantsNumbers}
use Rattle.art_attempt.specs.Cases.{ComesThere, IsCaseOf, demand_of}
use Rattle.art_attempt.specs.Trying.{IsLater}
use Rattle.art_attempt.specs.declared.attempts.Job.{Job}
use Rattle.art_attempt.specs.declared.attempts.Job.TheVariants.{Insert, Remove}
use Rattle.art_attempt.specs.declared.attempts.Case.{Case}
use Rattle.art_attempt.specs.declared.attempts.Case.TheVariants.{NewLeaf, DropLeaf, Shrink, MergeLeaf, MergeNode, Torn}
use Rattle.art_attempt.specs.declared.attempts.Room.{Room}
use Rattle.art_cell.specs.declared.cells.Pool.{Pool}
use Rattle.art_epoch.specs.declared.stocks.Stock.{Stock}
use Rattle.art_find.specs.Findings.{IsStanding}
use Rattle.art_find.specs.declared.findings.Position.{Position}
use Rattle.art_attempt.specs.Reserve as reserve
use Rattle.art_attempt.specs.Reserve.{HasAll, HasNone}
use Rattle.art_attempt.specs.declared.reserve.Demand.{Demand}
use Rattle.art_attempt.specs.declared.reserve.Reserved.{Reserved}
use Rattle.art_attempt.specs.declared.reserve.Reserved.TheVariants.{Ready, Full}
use Rattle.art_attempt.specs.declared.reserve.Reserve.{Reserve}
use Rattle.art_attempt.specs.declared.reserve.Reserve.TheVariants as supplies
use Rattle.art_step.specs.declared.views.LastCheck.{LastCheck}
use Rattle.art_step.specs.declared.views.Sizes.{Sizes}
use Rattle.art_step.specs.declared.views.View.{View}

pub reserved_at : (m : Reserve) (e : Reserved) → reserve.ended_at m ≡ Some e → m ≡ supplies.Ended e
reserved_at (supplies.Ended r) e is = ap supplies.Ended (same_Some {A = Reserved} r e is)
reserved_at (supplies.Leaf t) e is = cc
reserved_at (supplies.LeafWriter t) e is = cc
reserved_at (supplies.Node t) e is = cc

module _ (z : Sizes) (u : View) (j : Job) (t : Position) (c : Case) (q : Reserve) (r : Room) (v : View) (h : HasSupplies z u j t c q r v) where
  abbrev Stage : Reserve → Type 0
  Stage s = reserve.StageFits z (demand_of z c t.verdict) r.row.key.items r.row.value s r.stock h.early v

  supplies_later : IsLater h.early v
  supplies_later = record { steps = h.fits.only.later; failures = h.fits.only.failures }

  -- it goes on
  pub supplies_on : (next : Reserve) (stock : Stock) (w : View) → reserve.Fits z (demand_of z c t.verdict) r.row.key.items r.row.value next stock h.early w → HasSupplies z u j t c next (record r { stock = stock }) w
  supplies_on next stock w fits = record {
    early = h.early;
    base = h.base;
    spent = h.spent;
    case = h.case;
    standing = h.standing;
    wants = wants_same z u t r h.early c stock h.wants;
    fits = fits;
  }

  -- with the numbers few steps were made
  pub supplies_so : EndsWithin z u 21700 r v
  supplies_so = record {
    still = still_takes u h.early h.base v supplies_later h.fits.only.only;
    spent = λ limited.
        let spent = h.spent limited in
        let counted = h.fits.counted in
        let few = few_looks z (demand_of z c t.verdict) limited in
        omega (arith, spent, counted, few);
    has = h.fits.only.has;
  }

  pub supplies_standing : IsStanding z r.row.key.items t r.read_set v
  supplies_standing = standing_takes z r.row.key.items t r.read_set h.early v h.fits.only.only h.standing

  comes_early : c ≡ NewLeaf → ComesThere z u t r h.early
  comes_early is = subst (λ (c : Case). WantsNumbers z u c t r h.early) is h.wants

  -- no number of the pool was found for a leaf that comes
  pub supplies_full : j ≡ Insert → (pool : Pool) → reserve.ended_at q ≡ Some (Full pool) → IsFull z u t r pool v
  supplies_full job pool is =
      let new = case_comes j c job h.case in
      let wants = comes_early new in
      let none : HasNone z (demand_of z NewLeaf t.verdict) pool h.early v =
      subst (λ (c : Case). HasNone z (demand_of z c t.verdict) pool h.early v) new (subst Stage (reserved_at q (Full pool) is) h.fits.stage) in
      let same = ap (λ (t : View). t.checked) h.fits.only.only in
      let step = ap (λ (c : LastCheck). c.step) same in
      let done = wants.stood.done in
      let began = h.base.later.steps in
      let since = none.after in
      record {
        stood = stood_stays h.early v same z u u r.row.key.items t r.read_set (omega arith) h.fits.only.later wants.stood;
        checked = check_stays h.early v same t.stamp h.fits.only.found wants.checked;
        comes = wants.comes;
        none = record { wanted = none.wanted; since = none.since; after = omega (arith, began, since); none = none.none };
        after = omega (arith, step, done, since);
      }

  supplies_all : reserve.ended_at q ≡ Some Ready → HasAll (demand_of z c t.verdict) r.stock
  supplies_all is = subst Stage (reserved_at q Ready is) h.fits.stage

  -- all is in hand
  pub supplies_known : reserve.ended_at q ≡ Some Ready → IsKnown z u c t r v
  supplies_known is = by c (supplies_all is) h.wants
    where
      by : (c : Case) → HasAll (demand_of z c t.verdict) r.stock → WantsNumbers z u c t r h.early → IsKnown z u c t r v
      by NewLeaf all wants = (wants.comes, all)
      by DropLeaf all wants = absurd wants
      by (Shrink layout) all wants = (wants.0, (wants.1, all.node layout refl))
      by (MergeLeaf other) all wants = absurd wants
      by (MergeNode l) all wants = absurd wants
      by Torn all wants = absurd wants

  -- no smaller node was found: the leaf goes alone
  pub supplies_alone : j ≡ Remove → (pool : Pool) → reserve.ended_at q ≡ Some (Full pool) → IsKnown z u DropLeaf t r v
  supplies_alone job pool is = by c h.case h.wants (subst Stage (reserved_at q (Full pool) is) h.fits.stage)
    where
      by : (c : Case) → IsCaseOf j c → WantsNumbers z u c t r h.early → HasNone z (demand_of z c t.verdict) pool h.early v → IsKnown z u DropLeaf t r v
      by NewLeaf of wants none = let no : Insert ≡ Remove = sym (comes_insert j NewLeaf refl of) ∙ job in absurd (cc)
      by DropLeaf of wants none = absurd wants
      by (Shrink layout) of wants none = (wants.0, inr (no_smaller z t layout r.read_set u h.early v pool wants.1 h.base none))
      by (MergeLeaf other) of wants none = absurd wants
      by (MergeNode l) of wants none = absurd wants
      by Torn of wants none = absurd wants

-- ---- by the demand and the key that it goes by

module _ (z : Sizes) (u : View) (j : Job) (t : Position) (c : Case) (q : Reserve) (r : Room) (v : View) (room : IsRoom z r) (h : HasSupplies z u j t c q r v) (d : Demand) (k : List ℕ) (wanted : d ≡ demand_of r.sizes c t.verdict) (key : k ≡ r.row.key.items) where
  same : demand_of z c t.verdict ≡ d
  same = sym (wanted ∙ ap (λ (y : Sizes). demand_of y c t.verdict) room.sizes)

  pub may_supply : reserve.Fits z d k r.row.value q r.stock h.early v
  may_supply = subst (λ (l : List ℕ). reserve.Fits z d l r.row.value q r.stock h.early v) (sym key)
      (subst (λ (x : Demand). reserve.Fits z x r.row.key.items r.row.value q r.stock h.early v) same h.fits)

  pub has_supplied : (next : Reserve) (stock : Stock) (w : View) → reserve.Fits z d k r.row.value next stock h.early w → HasSupplies z u j t c next (record r { stock = stock }) w
  has_supplied next stock w fits = supplies_on z u j t c q r v h next stock w
      (subst (λ (x : Demand). reserve.Fits z x r.row.key.items r.row.value next stock h.early w) (sym same)
      (subst (λ (l : List ℕ). reserve.Fits z d l r.row.value next stock h.early w) key fits))
