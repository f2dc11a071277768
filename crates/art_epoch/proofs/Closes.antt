-- The close, from step to step.
use Rattle.std.proofs.Common.{◌≡◌, ℕ, ◌+◌, ◌<◌, List, [], ◌∷◌, ◌++◌, inl, refl, sym, ap, ◌∙◌, subst, arith, append-nil}
use Rattle.std.specs.Prelude.{Option, Some, None}
use Rattle.art_cell.specs.declared.cells.Link.{Link}
use Rattle.art_step.proofs.Words.{done_row}
use Rattle.art_step.specs.Acting.{Answers, IsAllowed}
use Rattle.art_step.specs.declared.actions.Answer.{Answer}
use Rattle.art_step.specs.declared.actions.Action.TheVariants.{GiveBack, StorePin}
use Rattle.art_epoch.specs.Limbo.{IsLimbo, places_for}
use Rattle.art_epoch.specs.Reclaiming.{Retires}
use Rattle.art_step.specs.declared.actions.Action.{Action}
use Rattle.art_epoch.specs.declared.limbo.Place.{Place}
use Rattle.art_epoch.specs.Exit.{ExitFits, IsClosed, IsGiving, MayClose, gives_link, stage_of, steps_left, without_link}
use Rattle.art_epoch.specs.Stocks.{GoesFirst, count_in, first_in, without}
use Rattle.art_epoch.specs.declared.stocks.Stock.{Stock}
use Rattle.art_epoch.proofs.Stocked.{at_most_five, first_is_in, goes_first, in_hand, nothing_in_hand, one_fewer, stock_hands_over, stock_same}
use Rattle.art_step.specs.Steps.Give as give
use Rattle.art_step.specs.Steps.Pin as pin
use Rattle.art_step.specs.Views.{Member}
use Rattle.art_step.specs.declared.views.Holding.{Holding}
use Rattle.art_step.specs.declared.views.InHand.{InHand}
use Rattle.art_step.specs.declared.views.Sizes.{Sizes}
use Rattle.art_step.specs.declared.views.View.{View}

-- ---- at the beginning

-- nothing was unlinked
pub begins_giving : (z : Sizes) (k : List ℕ) (value : ℕ) (u : View) (ps : List Place) (us : List Link) (s : Stock) → us ≡ [] → MayClose z k value u ps us s → IsGiving z k value u u ps ps us s
begins_giving z k value u ps us s none may = record {
  free = may.free;
  labels = record {
    label = 1;
    some = omega arith;
    low = omega arith;
    noted = λ d i. absurd (subst (Member d) none i);
    places = sym (ap (λ (ds : List Link). ps ++ places_for 1 ds) none ∙ append-nil ps);
  };
  is = refl;
  stock = may.stock;
  limbo = subst (λ (ds : List Link). IsLimbo ps ds u.limbo) none may.limbo;
  steps = let few = at_most_five s in omega (arith, few);
}

-- ---- the epoch was noted

pub told_labelling : (z : Sizes) (k : List ℕ) (value : ℕ) (u w : View) (ps qs : List Place) (us : List Link) (s : Stock) → MayClose z k value u ps us s → Retires z u w ps qs us → IsGiving z k value u w ps qs us s
told_labelling z k value u w ps qs us s may r = record {
  free = may.free;
  labels = record {
    label = r.found;
    some = r.some;
    low = r.low;
    noted = λ d i. (record { epoch = r.found; step = u.steps + 1 }, ap (λ (t : View). t.noted) r.is, refl);
    places = r.places;
  };
  is = r.is ∙ ap (λ (t : View). record u { steps = t.steps; noted = t.noted; hand = t.hand; limbo = t.limbo }) (sym r.is);
  stock = stock_same z k value u w s (ap (λ (t : View). t.hand) r.is) may.stock;
  limbo = r.limbo;
  steps = let few = at_most_five s in let one = ap (λ (t : View). t.steps) r.is in omega (arith, few, one);
}

-- ---- a number goes back, or the pass goes idle

-- the one that goes back is the first
pub gives_first : (s : Stock) (o : Option Link) (d : Link) → first_in s ≡ o → gives_link o ≡ GiveBack d → GoesFirst s d
gives_first s (Some e) d is gives = let same : e ≡ d = cc in goes_first s d (is ∙ ap Some same)
gives_first s None d is gives = absurd (cc)

module _ (z : Sizes) (k : List ℕ) (value : ℕ) (u v : View) (ps qs : List Place) (us : List Link) (s : Stock) (g : IsGiving z k value u v ps qs us s) where
  free_now : v.held ≡ []
  free_now = ap (λ (t : View). t.held) g.is ∙ g.free

  pub may_give : (o : Option Link) → first_in s ≡ o → IsAllowed z None v (gives_link o)
  may_give (Some d) is = record {
    hand = in_hand z k value v s d g.stock (first_is_in s d is);
    free = λ n e h i. absurd (subst (λ (hs : List Holding). Member h hs) free_now i);
  }
  may_give None is = record { free = free_now; word = inl refl }

  gave : (d : Link) (w : View) → first_in s ≡ Some d → give.Outcome v w d → IsGiving z k value u w ps qs us (without d s)
  gave d w is row =
      let there = first_is_in s d is in
      let hand : w.hand ≡ row.hand = ap (λ (t : View). t.hand) row.is in
      let limbo_same : w.limbo ≡ v.limbo = ap (λ (t : View). t.limbo) row.is in
      let noted_same : w.noted ≡ v.noted = ap (λ (t : View). t.noted) row.is in
      record {
        free = g.free;
        labels = record {
          label = g.labels.label;
          some = g.labels.some;
          low = g.labels.low;
          noted = λ e i. let o = g.labels.noted e i in (o.0, noted_same ∙ o.1, o.2);
          places = g.labels.places;
        };
        is = row.is ∙ ap (λ (t : View). record v { steps = t.steps; noted = t.noted; hand = t.hand; limbo = t.limbo }) (sym row.is)
            ∙ ap (λ (t : View). record t { steps = w.steps; noted = w.noted; hand = w.hand; limbo = w.limbo }) g.is;
        stock = stock_hands_over z k value v w (d ∷ []) s (subst (give.HandsOver v.hand (d ∷ [])) (sym hand) row.rest) (there, tt) g.stock;
        limbo = subst (IsLimbo qs []) (sym limbo_same) g.limbo;
        steps = let fewer = one_fewer s d there in let one = ap (λ (t : View). t.steps) row.is in let few = g.steps in omega (arith, fewer, one, few);
      }

  left : (w : View) → first_in s ≡ None → pin.Outcome v w 0 → IsClosed z u w ps qs us
  left w none row =
      let empty : w.hand ≡ [] = ap (λ (t : View). t.hand) row ∙ nothing_in_hand z k value v s g.stock none in
      let limbo_same : w.limbo ≡ v.limbo = ap (λ (t : View). t.limbo) row in
      let noted_same : w.noted ≡ v.noted = ap (λ (t : View). t.noted) row in
      record {
        labels = record {
          label = g.labels.label;
          some = g.labels.some;
          low = g.labels.low;
          noted = λ e i. let o = g.labels.noted e i in (o.0, noted_same ∙ o.1, o.2);
          places = g.labels.places;
        };
        is = row ∙ ap (λ (t : View). record v { steps = t.steps; noted = t.noted; pin = 0; stamps = []; notes = []; hand = t.hand; limbo = t.limbo }) (sym row)
            ∙ ap (λ (xs : List InHand). record v { steps = w.steps; noted = w.noted; pin = 0; stamps = []; notes = []; hand = xs; limbo = w.limbo }) empty
            ∙ ap (λ (t : View). record t { steps = w.steps; noted = w.noted; pin = 0; stamps = []; notes = []; hand = []; limbo = w.limbo }) g.is;
        free = ap (λ (t : View). t.held) row ∙ free_now;
        limbo = subst (IsLimbo qs []) (sym limbo_same) g.limbo;
        steps = let one = ap (λ (t : View). t.steps) row in let few = g.steps in omega (arith, one, few);
      }

  pub told_giving : (o : Option Link) (a : Action) (answer : Answer) (w : View) → first_in s ≡ o → gives_link o ≡ a → Answers z None a answer v w → ExitFits z k value u ps us (stage_of o) qs (without_link o s) w
  told_giving (Some d) a answer w is asked row = gave d w is (done_row z None (GiveBack d) answer v w tt (subst (λ (b : Action). Answers z None b answer v w) (sym asked) row))
  told_giving None a answer w is asked row = (left w is (done_row z None (StorePin 0) answer v w tt (subst (λ (b : Action). Answers z None b answer v w) (sym asked) row)), is)

-- each leaves fewer
pub fewer_given : (s : Stock) (o : Option Link) → first_in s ≡ o → steps_left (stage_of o) (without_link o s) < 1 + count_in s
fewer_given s (Some d) is = let fewer = one_fewer s d (first_is_in s d is) in omega (arith, fewer)
fewer_given s None is = omega arith
