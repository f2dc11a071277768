-- How a look ends that is driven to its end.
use Rattle.std.specs.Prelude.{◌≡◌, ℕ, ◌+◌, ◌≤◌, List, Option, Some, None}
use Rattle.art_find.specs.Driven.{Counts}
use Rattle.art_key.specs.declared.bounds.Bound.{Bound as KeyBound}
use Rattle.art_look.specs.Looks.{Fits, least_steps, most_steps}
use Rattle.art_look.specs.Seen.{Stood, look_done, seen_of}
use Rattle.art_look.specs.declared.looks.Look.{Look}
use Rattle.art_look.specs.declared.looks.Reach.{Reach}
use Rattle.art_look.specs.declared.looks.Seen.{Seen}
use Rattle.art_look.specs.declared.path_buffers.PathBuffer.{PathBuffer}
use Rattle.art_step.specs.Events.{MakesEvent}
use Rattle.art_step.specs.Shows.{OnlyReads, OnlyTells}
use Rattle.art_step.specs.declared.views.Sizes.{Sizes}
use Rattle.art_step.specs.declared.views.View.{View}

-- a row of the table of looks, in a tree, cut at hi
pub record IsSeen (z : Sizes) (lo : List ℕ) (hi : KeyBound) (seen : Seen) : Type 0 where
  pub path : List ℕ
  pub key : List ℕ
  pub reach : Reach
  pub value : Option ℕ
  pub stood : Stood z lo path key reach value
  pub is : seen ≡ seen_of lo hi path key reach value

-- it made one event, the look with what it saw, and nothing else changed but what reading changes; or it told nothing, and only read
abbrev pub LookEnds : Sizes → List ℕ → KeyBound → View → View → Option Seen → Type 0
LookEnds z lo hi u w (Some seen) = MakesEvent u w (look_done seen) × OnlyTells u w × IsSeen z lo hi seen
LookEnds z lo hi u w None = OnlyReads u w

pub record LookFits (z : Sizes) (lo : List ℕ) (hi : KeyBound) (u v : View) (m : Look) (t : PathBuffer) (restarts : ℕ) : Type 0 where
  pub fits : Fits z lo hi m t u v
  pub counts : Counts u v (most_steps m.depth m.stage) restarts
  pub least : u.steps + least_steps m.stage ≤ v.steps
