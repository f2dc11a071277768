-- What stands at opening.
use Rattle.std.specs.Prelude.{◌≡◌, ◌≢◌, ℕ, ◌+◌, ◌*◌, ◌<◌, ◌≤◌, [], true, false, Some, None}
use Rattle.art_cell.specs.declared.cells.Cell.{Cell}
use Rattle.art_cell.specs.declared.cells.Cell.TheVariants as cell
use Rattle.art_cell.specs.declared.cells.Link.{Link}
use Rattle.art_step.specs.declared.views.Sizes.{Sizes}
use Rattle.art_step.specs.declared.views.View.{View}
use Rattle.art_step.specs.Sound.{IsSound}
use Rattle.art_step.specs.Views.{IsNumber, Memory, Views, is_free, last_counter}

-- a pass that knows nothing, and is idle
abbrev pub newcomer : ℕ → View
newcomer p = record {
  pass = p;
  seen = [];
  own = [];
  steps = 0;
  failures = 0;
  pins = 0;
  pin = 0;
  noted = None;
  stamps = [];
  notes = [];
  checked = record { stamps = []; notes = []; step = 0 };
  found = [];
  held = [];
  committed = false;
  hand = [];
  limbo = [];
}

-- the words at opening: those of a cell behind its first are 0, so that none names a child; the anchor is clear, all other cells are
-- obsolete, all numbers are free, the epoch is 1, and all passes are idle
pub record Opens (z : Sizes) (m : Memory) (f : Views) : Type 0 where
  pub words : (c : Cell) (i : ℕ) → 0 < i → m.words c i ≡ 0
  pub anchor : (k : ℕ) × (k ≤ last_counter) × (m.version cell.Anchor ≡ 4 * k)
  pub cells : (c : Cell) → c ≢ cell.Anchor → (k : ℕ) × (k ≤ last_counter) × (m.version c ≡ 4 * k + 1)
  pub free : (d : Link) → (is_free m d ≡ true → IsNumber z d) × (IsNumber z d → is_free m d ≡ true)
  pub epoch : m.epoch ≡ 1
  pub pass_word : (p : ℕ) → p < z.passes → m.pass_word p ≡ 0
  pub views : (p : ℕ) (v : View) → f p ≡ Some v → (p < z.passes) × (v ≡ newcomer p)

abbrev pub OpenLaw : Type 0
OpenLaw = (z : Sizes) (m : Memory) (f : Views) → Opens z m f → IsSound z m f
