-- Watch: the word of another pass is found. The places in limbo that it has gone past are marked for that pass: all where it is
-- idle, and else those whose label is below its word.
use Rattle.std.specs.Prelude.{ℕ, zero, suc, map, ◌≡◌, ◌≢◌, ◌+◌, ◌<◌, ◌∷◌, Bool, true, false, nat_lt, if◌then◌else◌, Option, Some, None}
use Rattle.art_step.specs.Sound.{KeepsSound}
use Rattle.art_step.specs.Views.{Memory, Views, SetsView}
use Rattle.art_step.specs.declared.views.Retired.{Retired}
use Rattle.art_step.specs.declared.views.Sizes.{Sizes}
use Rattle.art_step.specs.declared.views.View.{View}
use Rattle.art_step.specs.declared.views.Word.TheVariants.{Pass}

pub record May (z : Sizes) (v : View) (q : ℕ) : Type 0 where
  pub there : q < z.passes
  pub other : q ≢ v.pass

-- a pass with this word has gone past a place with this label
abbrev pub is_past : Option ℕ → ℕ → Bool
is_past o zero = true
is_past None (suc x) = false
is_past (Some l) (suc x) = nat_lt l (suc x)

-- the place is marked for the pass where that has gone past it
abbrev pub watched : ℕ → ℕ → Retired → Retired
watched q x e = record e { marked = if is_past e.label x then q ∷ e.marked else e.marked }

abbrev pub view_after : View → ℕ → ℕ → View
view_after v q x = record v {
  steps = v.steps + 1;
  found = record { word = Pass q x; step = v.steps + 1 } ∷ v.found;
  limbo = map (watched q x) v.limbo;
}

pub record Step (z : Sizes) (p : ℕ) (v : View) (m : Memory) (f : Views) (m' : Memory) (f' : Views) : Type 0 where
  pub pass : ℕ
  pub may : May z v pass
  pub words : m' ≡ m
  pub view : SetsView f p (view_after v pass (m.pass_word pass)) f'

abbrev pub Outcome : View → View → ℕ → ℕ → Type 0
Outcome v w q x = w ≡ view_after v q x

abbrev pub Law : Type 0
Law = KeepsSound Step
