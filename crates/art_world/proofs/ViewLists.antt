-- The views of passes, as they stand in a list, and what one step makes of them.
use Rattle.std.proofs.Common.{◌≡◌, ◌≢◌, ℕ, zero, suc, ◌<◌, List, [], ◌∷◌, Some, length, slice_get, slice_set, refl, sym, ap, ◌∙◌, subst, arith, length-set, get_or-set_same, get_or-set_other}
use Rattle.std.proofs.lemmas.Option.{slice_get-get_or}
use Rattle.art_step.specs.declared.views.View.{View}
use Rattle.art_step.specs.Effects.{Instant}
use Rattle.art_step.specs.Opening.{newcomer}
use Rattle.art_step.specs.Views.{SetsView}
use Rattle.art_world.specs.Contents.{Contents, IsSoundWorld, IsStepped, OnlyStepsOf, StepBy, memory_now}
use Rattle.art_world.specs.Lasting.{IsLasting}
use Rattle.art_world.proofs.Lasting.{lasting_on}
use Rattle.art_step.specs.WordRows.{memory_of, view_at, views_of}
use Rattle.art_step.specs.declared.views.Sizes.{Sizes}
use Rattle.art_step.proofs.Moves.{Moves}

-- the view of each pass that there is
pub at_view : (vs : List View) (p : ℕ) → p < length vs → views_of vs p ≡ Some (view_at vs p)
at_view vs p low = slice_get-get_or vs p (newcomer p) low

-- ---- one view changes

-- there are as many views as before
pub length_set_view : (vs : List View) (p : ℕ) (w : View) → length (slice_set vs p w) ≡ length vs
length_set_view vs p w = length-set vs p w

-- the view of the pass is the new one
pub view_set : (vs : List View) (p : ℕ) (w : View) → p < length vs → view_at (slice_set vs p w) p ≡ w
view_set vs p w low = get_or-set_same vs p w (newcomer p) low

-- the views of the other passes stay
pub view_other : (vs : List View) (p q : ℕ) (w : View) → q ≢ p → view_at (slice_set vs p w) q ≡ view_at vs q
view_other vs p q w other = get_or-set_other vs p q w (newcomer q) other

get_other : (vs : List View) (p q : ℕ) (w : View) → q ≢ p → slice_get (slice_set vs p w) q ≡ slice_get vs q
get_other [] p q w other = refl
get_other (v ∷ vs) zero zero w other = absurd (other refl)
get_other (v ∷ vs) zero (suc q) w other = refl
get_other (v ∷ vs) (suc p) zero w other = refl
get_other (v ∷ vs) (suc p) (suc q) w other = get_other vs p q w (λ e. other (ap suc e))

-- so the views are as before, but for the one of the pass
pub turned_view : (vs : List View) (p : ℕ) (w : View) → p < length vs → SetsView (views_of vs) p w (views_of (slice_set vs p w))
turned_view vs p w low = record {
  here = at_view (slice_set vs p w) p (let same = length_set_view vs p w in omega (arith, same)) ∙ ap Some (view_set vs p w low);
  there = λ q other. get_other vs p q w other;
}

-- ---- one step

-- what a step makes of the views stands in the list
pub next : (z : Sizes) (ws : List ℕ) (vs : List View) (p : ℕ) (us : List ℕ) (Row : View → View → Type 0) (so : Instant) → p < length vs → Moves z ws (views_of vs) p (view_at vs p) us Row so → (new : List View) × StepBy z ws us p Row so vs new
next z ws vs p us Row so inside t =
    let turn = turned_view vs p t.view inside in
    let new = views_of (slice_set vs p t.view) in (
      slice_set vs p t.view,
      record { view = t.view; set = refl; row = t.row; step = t.step new turn; sound = t.sound new turn; was = t.was new turn },
    )

-- the world before it is k, and the one after it has the words us and the views new
module _ (Row : View → View → Type 0) (so : Instant) (k : Contents) (us : List ℕ) (p : ℕ) (new : List View) (inside : p < length k.views) (t : StepBy k.sizes k.words us p Row so k.views new) where
  abbrev after : Contents
  after = record { sizes = k.sizes; words = us; views = new }

  -- there are as many views as before
  pub same_count : length new ≡ length k.views
  same_count = ap (λ (vs : List View). length vs) t.set ∙ length_set_view k.views p t.view

  is_view : view_at new p ≡ t.view
  is_view = ap (λ (vs : List View). view_at vs p) t.set ∙ view_set k.views p t.view inside

  only : OnlyStepsOf k after p
  only = record {
    sizes = refl;
    count = same_count;
    others = λ q other. ap (λ (vs : List View). view_at vs q) t.set ∙ view_other k.views p q t.view other;
    made = (1, (after, refl, t.step, refl));
  }

  pub stepped_by : IsStepped p k after Row so
  stepped_by = record {
    only = only;
    at_once = record {
      words = memory_now k;
      views = views_of k.views;
      words_after = memory_now after;
      views_after = views_of new;
      instant = record { words = refl; views = refl; words_after = refl; views_after = refl };
      pass = p;
      before = at_view k.views p inside;
      after = at_view new p (subst (λ (n : ℕ). p < n) (sym same_count) inside);
      step = t.step;
      was = t.was;
    };
    row = subst (Row (view_at k.views p)) (sym is_view) t.row;
  }

-- of the world as it is now, seen as k
pub stepped : (Row : View → View → Type 0) (so : Instant) {k now : Contents} {before us : List ℕ} {p : ℕ} {new : List View} → k ≡ now → before ≡ k.words → p < length now.views → StepBy k.sizes before us p Row so k.views new
    → IsStepped p now (record { sizes = k.sizes; words = us; views = new }) Row so
stepped Row so {k} {now} {before} {us} {p} {new} seen same inside t =
    let after : Contents = record { sizes = k.sizes; words = us; views = new } in
    subst (λ (j : Contents). p < length j.views → IsStepped p j after Row so) seen
    (λ inside. stepped_by Row so k us p new inside (subst (λ (ws : List ℕ). StepBy k.sizes ws us p Row so k.views new) same t))
    inside

-- the world after one step of a sound one is sound
pub sound_after : (Row : View → View → Type 0) (so : Instant) {k : Contents} {before us : List ℕ} {p : ℕ} {new : List View} → before ≡ k.words → length us ≡ length before → p < length k.views
    → StepBy k.sizes before us p Row so k.views new → IsSoundWorld k → IsSoundWorld (record { sizes = k.sizes; words = us; views = new })
sound_after Row so {k} {before} {us} {p} {new} same long inside t r = record {
  long = long ∙ (ap length same ∙ r.long);
  count = ap length t.set ∙ (length_set_view k.views p t.view ∙ r.count);
  sound = t.sound;
  lasting = lasting_on k.sizes p (memory_of k.sizes before) (views_of k.views) (memory_of k.sizes us) (views_of new) t.step
      (subst (λ (ws : List ℕ). IsLasting k.sizes (memory_of k.sizes ws) (views_of k.views)) (sym same) r.lasting);
}
