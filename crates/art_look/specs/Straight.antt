-- A look that goes straight on, step by step.
use Rattle.std.specs.Prelude.{◌≡◌, ℕ, ◌+◌, ◌<◌, ◌≤◌, List, Option, Some, false, ⊤}
use Rattle.art_step.specs.declared.actions.Action.{Action}
use Rattle.art_step.specs.declared.actions.Action.TheVariants.{Begin, Read, ReadLeaf, Check}
use Rattle.art_find.specs.declared.straight.Tally.{Tally}
use Rattle.art_key.specs.declared.bounds.Bound.{Bound as KeyBound}
use Rattle.art_look.specs.Driven.{LookFits}
use Rattle.art_look.specs.Looks.{has_ended}
use Rattle.art_look.specs.declared.looks.Look.{Look}
use Rattle.art_look.specs.declared.looks.LookStage.{LookStage}
use Rattle.art_look.specs.declared.looks.LookStage.TheVariants.{Decided}
use Rattle.art_look.specs.declared.path_buffers.PathBuffer.{PathBuffer}
use Rattle.art_step.specs.declared.views.Sizes.{Sizes}
use Rattle.art_step.specs.declared.views.View.{View}

-- a word of a cell is asked for
abbrev pub AsksWord : Option Action → Type 0
AsksWord (Some (Read x i)) = ⊤
AsksWord asked = ⊥

-- a word of a leaf
abbrev pub AsksLeaf : Option Action → Type 0
AsksLeaf (Some (ReadLeaf x l i)) = ⊤
AsksLeaf asked = ⊥

-- the version word of a cell, where nothing is settled
abbrev pub AsksVersion : Option Action → Type 0
AsksVersion (Some (Begin c)) = ⊤
AsksVersion (Some (Check x)) = ⊤
AsksVersion asked = ⊥

-- what it has seen is known, and the check that settles it comes next
abbrev pub IsToSettle : LookStage → Type 0
IsToSettle (Decided x reach value) = ⊤
IsToSettle stage = ⊥

-- some look from lo on has come to this
abbrev pub IsUnderWay : Sizes → List ℕ → View → Look → PathBuffer → Tally → Type 0
IsUnderWay z lo v m t c = (hi : KeyBound) × (u : View) × LookFits z lo hi u v m t c.restarts

-- a turn is left, and a restart can be counted
pub record HasTurn (c : Tally) : Type 0 where
  pub some : 0 < c.left
  pub few : c.restarts + c.left ≤ 4294967295

-- one step more was made of a look, and counted, which settled nothing: each look that had come to the one has come to the other
pub record HasGone (z : Sizes) (lo : List ℕ) (v : View) (m : Look) (t : PathBuffer) (c : Tally) (w : View) (m' : Look) (t' : PathBuffer) (c' : Tally) : Type 0 where
  pub going : has_ended m'.stage ≡ false
  pub left : c'.left + 1 ≡ c.left
  pub few : c'.restarts + c'.left ≤ c.restarts + c.left
  pub one : w.steps ≡ v.steps + 1
  pub fits : (hi : KeyBound) (u : View) → LookFits z lo hi u v m t c.restarts → LookFits z lo hi u w m' t' c'.restarts
