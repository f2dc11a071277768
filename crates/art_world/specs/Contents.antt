-- What contracts see of a world, and steps that are made on it.
use Rattle.std.specs.Prelude.{◌≡◌, ◌≢◌, ℕ, zero, suc, List, length, slice_set, refl}
use Rattle.std.proofs.Common.{◌∙◌, subst}
use Rattle.art_step.specs.declared.views.Sizes.{Sizes}
use Rattle.art_step.specs.declared.views.View.{View}
use Rattle.art_step.specs.Effects.{Instant}
use Rattle.art_step.specs.Sound.{IsSound}
use Rattle.art_step.specs.Steps.{AtStep, OneStep}
use Rattle.art_step.specs.Views.{Memory, Views}
use Rattle.art_step.specs.WordRows.{memory_of, view_at, views_of}
use Rattle.art_step.specs.WordPlaces.{word_count}
use Rattle.art_world.specs.Lasting.{IsLasting}

-- ---- what a contract sees of a world

pub record Contents : Type 0 where
  pub sizes : Sizes
  pub words : List ℕ
  pub views : List View

abbrev pub memory_now : Contents → Memory
memory_now k = memory_of k.sizes k.words

-- what always holds of a world
pub record IsSoundWorld (k : Contents) : Type 0 where
  pub long : length k.words ≡ word_count k.sizes
  pub count : length k.views ≡ k.sizes.passes
  pub sound : IsSound k.sizes (memory_now k) (views_of k.views)
  pub lasting : IsLasting k.sizes (memory_now k) (views_of k.views)

-- this happened to the words of the world
abbrev pub AtOnce : Instant → Contents → Contents → Type 0
AtOnce I a b = I (memory_now a) (views_of a.views) (memory_now b) (views_of b.views)

-- the instant between these two
pub record IsAround (a b : Contents) (m : Memory) (f : Views) (m' : Memory) (f' : Views) : Type 0 where
  pub words : m ≡ memory_now a
  pub views : f ≡ views_of a.views
  pub words_after : m' ≡ memory_now b
  pub views_after : f' ≡ views_of b.views

-- the pass made one step on the world, and it was so
abbrev pub MakesStep : ℕ → Contents → Contents → Instant → Type 0
MakesStep p a b so = AtStep a.sizes (view_at a.views p) (view_at b.views p) (IsAround a b) so

-- so many steps of the pass lead from the one to the other
abbrev pub Chain : ℕ → ℕ → Contents → Contents → Type 0
Chain zero p a b = b ≡ a
Chain (suc k) p a b = (c : Contents) × (c.sizes ≡ a.sizes) × AtOnce (OneStep a.sizes p) a c × Chain k p c b

-- nothing happens but steps of the pass, so that no other view changes
pub record OnlyStepsOf (a b : Contents) (p : ℕ) : Type 0 where
  pub sizes : b.sizes ≡ a.sizes
  pub count : length b.views ≡ length a.views
  pub others : (q : ℕ) → q ≢ p → view_at b.views q ≡ view_at a.views q
  pub made : (k : ℕ) × Chain k p a b

steps_then : (k l : ℕ) (p : ℕ) (a b c : Contents) → Chain k p a b → Chain l p b c → (i : ℕ) × Chain i p a c
steps_then zero l p a b c none more = (l, subst (λ (d : Contents). Chain l p d c) none more)
steps_then (suc k) l p a b c (d, sizes, step, rest) more = let all = steps_then k l p d b c rest more in (suc all.0, (d, sizes, step, all.1))

pub only_no_steps : (a : Contents) (p : ℕ) → OnlyStepsOf a a p
only_no_steps a p = record { sizes = refl; count = refl; others = λ q h. refl; made = (0, refl) }

pub only_steps_then : (a b c : Contents) (p q : ℕ) → q ≡ p → OnlyStepsOf a b p → OnlyStepsOf b c q → OnlyStepsOf a c p
only_steps_then a b c p q same x y = record {
  sizes = y.sizes ∙ x.sizes;
  count = y.count ∙ x.count;
  others = λ r h. y.others r (λ e. h (e ∙ same)) ∙ x.others r h;
  made = steps_then x.made.0 y.made.0 p a b c x.made.1 (subst (λ (i : ℕ). Chain y.made.0 i b c) same y.made.1);
}

-- the pass made one step, by which its view changed by the row, and at which it was so; and nothing else happened
pub record IsStepped (p : ℕ) (a b : Contents) (Row : View → View → Type 0) (so : Instant) : Type 0 where
  pub only : OnlyStepsOf a b p
  pub at_once : MakesStep p a b so
  pub row : Row (view_at a.views p) (view_at b.views p)

-- as the views change: in one step of the pass, by which the words change from before to after
pub record StepBy (z : Sizes) (before after : List ℕ) (p : ℕ) (Row : View → View → Type 0) (so : Instant)
    (old new : List View) : Type 0 where
  pub view : View
  pub set : new ≡ slice_set old p view
  pub row : Row (view_at old p) view
  pub step : OneStep z p (memory_of z before) (views_of old) (memory_of z after) (views_of new)
  pub sound : IsSound z (memory_of z after) (views_of new)
  pub was : so (memory_of z before) (views_of old) (memory_of z after) (views_of new)
