-- A pass that alone makes steps, while every other pass is idle: what it knows of the words.
use Rattle.std.specs.Prelude.{◌≡◌, ◌≢◌, ◌⊎◌, ◌++◌, ◌<◌, ◌≤◌, ℕ, List, [], length, Some}
use Rattle.art_cell.specs.declared.cells.Pool.{Pool}
use Rattle.art_step.specs.Steps.Take.{last_found}
use Rattle.art_step.specs.Views.{IsNotHeld, Member, Memory, Views, bit_of, number_at}
use Rattle.art_step.specs.declared.views.Found.{Found}
use Rattle.art_step.specs.declared.views.InHand.{InHand}
use Rattle.art_step.specs.declared.views.Stamp.{Stamp}
use Rattle.art_step.specs.declared.views.View.{View}
use Rattle.art_step.specs.declared.views.Word.TheVariants.{Pass}

-- every pass but p is idle, and holds nothing
abbrev pub IsAlone : ℕ → Views → Type 0
IsAlone p f = (q : ℕ) (u : View) → q ≢ p → f q ≡ Some u → (u.pin ≡ 0) × (u.held ≡ [])

-- each stamp of a cell that is not held has the version word that the cell has now
abbrev pub AreCurrent : Memory → View → Type 0
AreCurrent m v = (x : Stamp) → Member x v.stamps → IsNotHeld v.held x.cell → m.version x.cell ≡ x.version

-- since the view u the pass found these words, one after another: each word of a pass was 0; and as long as it made no event, a bit that
-- was set as it last found the word is set now, or the number is in its hand
pub record HasFound (m : Memory) (u v : View) : Type 0 where
  pub news : List Found
  pub is : v.found ≡ news ++ u.found
  pub events : length u.own ≤ length v.own
  pub idle : (y : Found) (q x : ℕ) → Member y news → y.word ≡ Pass q x → x ≡ 0
  pub free : v.own ≡ u.own → (pool : Pool) (i k : ℕ) → k < 64 → bit_of (last_found pool i news) k ≡ 1 →
      (bit_of (m.free_word pool i) k ≡ 1) ⊎ ((x : InHand) × Member x v.hand × (x.link ≡ number_at pool i k))
