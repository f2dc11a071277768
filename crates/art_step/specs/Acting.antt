-- What each action needs of the pass's view, and what its answer says of the view after it.
use Rattle.std.specs.Prelude.{◌≡◌, ℕ, ◌<◌, length, ⊤, Bool, true, false, Option, Some, None, OnOk, Result, Ok, Err, List, [], map}
use Rattle.std.specs.Option.{option_map}
use Rattle.art_cell.specs.Children.{child_word}
use Rattle.art_cell.specs.declared.cells.Cell.{Cell}
use Rattle.art_cell.specs.declared.cells.Cell.TheVariants as cell
use Rattle.art_cell.specs.declared.cells.Link.{Link}
use Rattle.art_cell.specs.declared.cells.Link.TheVariants.{Leaf as leaf}
use Rattle.art_step.specs.declared.actions.Action.{Action}
use Rattle.art_step.specs.declared.actions.Action.TheVariants.{Begin, Read, ReadLeaf, Check, Settle, Upgrade, Claim, Write, WriteLeaf, Commit, Release}
use Rattle.art_step.specs.declared.actions.Action.TheVariants.{ClearBit, GiveBack, Free, ReadEpoch, StorePin, RaiseEpoch, ReadPin}
use Rattle.art_step.specs.declared.actions.Answer.{Answer}
use Rattle.art_step.specs.declared.actions.Answer.TheVariants.{Begun, Word, Checked, Upgraded, Done}
use Rattle.art_step.specs.declared.actions.Effects.{Effects}
use Rattle.art_step.specs.Knowledge.{HoldsAmong}
use Rattle.art_step.specs.Steps.Advance as advance
use Rattle.art_step.specs.Steps.Begin as begin
use Rattle.art_step.specs.Steps.Check as check
use Rattle.art_step.specs.Steps.Claim as claim
use Rattle.art_step.specs.Steps.Commit as commit
use Rattle.art_step.specs.Steps.Epoch as epoch
use Rattle.art_step.specs.Steps.Give as give
use Rattle.art_step.specs.Steps.Pin as pin
use Rattle.art_step.specs.Steps.Read as read
use Rattle.art_step.specs.Steps.Release as release
use Rattle.art_step.specs.Steps.Take as take_free
use Rattle.art_step.specs.Steps.Upgrade as upgrade
use Rattle.art_step.specs.Steps.Watch as watch
use Rattle.art_step.specs.Steps.Write as write
use Rattle.art_step.specs.Tokens.{links_of}
use Rattle.art_step.specs.Views.{IsHolding, IsInHand, IsOnce, IsWordOf, MayLock, Member, NamesLink, links_in_limbo, note_of}
use Rattle.art_step.specs.WordPlaces.{HasVersion, IsInside}
use Rattle.art_step.specs.declared.deeds.Deed.{Deed}
use Rattle.art_step.specs.declared.faults.UpgradeFault.{UpgradeFault}
use Rattle.art_step.specs.declared.faults.UpgradeFault.TheVariants as fault
use Rattle.art_step.specs.declared.step_kinds.StepKind.{StepKind}
use Rattle.art_step.specs.declared.step_kinds.StepKind.TheVariants as kind
use Rattle.art_step.specs.declared.views.Fact.{Fact}
use Rattle.art_step.specs.declared.views.Fact.TheVariants.{Starts}
use Rattle.art_step.specs.declared.views.Holding.{Holding}
use Rattle.art_step.specs.declared.views.InHand.{InHand}
use Rattle.art_step.specs.declared.views.Sizes.{Sizes}
use Rattle.art_step.specs.declared.views.Stamp.{Stamp}
use Rattle.art_step.specs.declared.views.View.{View}
use Rattle.art_step.specs.declared.views.Word.TheVariants.{Version}
use Rattle.art_tree.specs.WordChanges.{FitsWord}

-- ---- effects

-- the leaf that comes, if one does
abbrev pub leaf_linked : Effects → Option Link
leaf_linked e = option_map leaf e.leaf

-- what leaves
abbrev pub unlinked : Effects → List Link
unlinked e = links_of e.unlinked.items

-- a check that settles the answer does this deed: nothing comes or leaves
abbrev pub tells : Deed → Effects
tells d = record { deed = d; leaf = None; unlinked = record { items = [] } }

-- and so are its effects
abbrev pub telling : Deed → Option Effects
telling d = Some (tells d)

-- ---- what was noted of the stamp's cell

-- a path to it
abbrev pub HasPath : View → Stamp → Type 0
HasPath v x = (q : List ℕ) × Member (note_of x (Starts q)) v.notes

-- a word that names the link was read under the stamp before the last check that succeeded, and that was the check of the stamp:
-- it found the stamp's version word
pub record WasChecked (x : Stamp) (d : Link) (v : View) : Type 0 where
  pub fact : Fact
  pub noted : Member (note_of x fact) v.checked.notes
  pub names : NamesLink fact d
  pub found : Member (record { word = Version x.cell x.version; step = v.checked.step }) v.found

-- ---- what an action needs

-- an upgrade
pub record MayUpgrade (z : Sizes) (v : View) (x : Stamp) : Type 0 where
  pub inside : HasVersion z x.cell
  pub stamp : Member x v.stamps
  pub path : HasPath v x
  pub early : MayLock v
  pub unclaimed : upgrade.HasClaimedNone v

-- a word of a held cell
pub record MayWrite (z : Sizes) (v : View) (c : Cell) (i x : ℕ) : Type 0 where
  pub inside : IsInside z c
  pub holding : Holding
  pub cell : holding.cell ≡ c
  pub may : write.May v holding i
  pub form : IsWordOf z c i x

-- the leaf's number is in hand, with its ten words, and a child word can name it
pub record IsLeafInHand (z : Sizes) (v : View) (l : ℕ) : Type 0 where
  pub hand : InHand
  pub has : IsInHand v (leaf l) hand
  pub long : length hand.words ≡ 10
  pub inside : l < z.leaves
  pub fits : FitsWord (leaf l)

-- a commit with these effects
pub record MayCommit (z : Sizes) (v : View) (e : Effects) (c : Cell) (obsolete : Bool) : Type 0 where
  pub inside : IsInside z c
  pub words : map child_word (unlinked e) ≡ e.unlinked.items
  pub holding : Holding
  pub cell : holding.cell ≡ c
  pub first : commit.MayBeFirst v (unlinked e) holding obsolete
  pub may : commit.May z v e.deed (unlinked e) (commit.coming v (leaf_linked e))

-- the release of a held cell
pub record MayRelease (z : Sizes) (v : View) (c : Cell) (obsolete : Bool) : Type 0 where
  pub inside : IsInside z c
  pub holding : Holding
  pub cell : holding.cell ≡ c
  pub may : release.May v holding obsolete

-- the action may be performed, with these effects: a word of a cell is read where a path to the cell was noted, and one of a leaf
-- where the cell that names it was checked
abbrev pub IsAllowed : Sizes → Option Effects → View → Action → Type 0
IsAllowed z o v (Begin c) = HasVersion z c × begin.May v c
IsAllowed z o v (Read x i) = IsInside z x.cell × read.May v x i × HasPath v x
IsAllowed z o v (ReadLeaf x l i) = (l < z.leaves) × read.MayLeaf z v x l i × WasChecked x (leaf l) v
IsAllowed z o v (Check x) = HasVersion z x.cell × check.May z v x None
IsAllowed z (Some e) v (Settle x) = HasVersion z x.cell × check.May z v x (Some e.deed)
IsAllowed z None v (Settle x) = ⊥
IsAllowed z o v (Upgrade x) = MayUpgrade z v x
IsAllowed z o v (Claim n) = IsInside z (cell.Node n) × claim.May v n
IsAllowed z o v (Write c i x) = MayWrite z v c i x
IsAllowed z o v (WriteLeaf l i x) = IsLeafInHand z v l × (i < 10) × IsWordOf z (cell.Leaf l) i x
IsAllowed z (Some e) v (Commit c b) = MayCommit z v e c b
IsAllowed z None v (Commit c b) = ⊥
IsAllowed z o v (Release c b) = MayRelease z v c b
IsAllowed z o v (ClearBit pool i bit) = take_free.May z pool i bit
IsAllowed z o v (GiveBack d) = give.May v d
IsAllowed z o v (Free d) = give.MayFree z v d
IsAllowed z o v ReadEpoch = ⊤
IsAllowed z o v (StorePin x) = pin.May v x
IsAllowed z o v RaiseEpoch = advance.May v
IsAllowed z o v (ReadPin q) = watch.May z v q

-- ---- what its answer says

-- a cell was locked, or not
abbrev pub Upgrades : View → View → Stamp → Result ⊤ UpgradeFault → Type 0
Upgrades v w x (Ok done) = upgrade.Locks v w x
Upgrades v w x (Err e) = upgrade.Refused v w x e

-- the effects came about by the release of the cell; each number waits in limbo once
pub record Commits (v w : View) (e : Effects) (c : Cell) : Type 0 where
  pub outcome : (h : Holding) → IsHolding v c h → commit.Outcome v w e.deed (unlinked e) (commit.coming v (leaf_linked e)) h
  pub once : IsOnce (links_in_limbo w.limbo)

-- it was performed with these effects, and answered so; an answer of another kind does not come
abbrev pub Answers : Sizes → Option Effects → Action → Answer → View → View → Type 0
Answers z o (Begin c) (Begun r) v w = begin.Outcome z v w c r
Answers z o (Read x i) (Word a) v w = read.Outcome z v w x i a
Answers z o (ReadLeaf x l i) (Word a) v w = read.LeafOutcome v w x l i a
Answers z o (Check x) (Checked r) v w = check.Outcome z v w x None r
Answers z (Some e) (Settle x) (Checked r) v w = check.Outcome z v w x (Some e.deed) r
Answers z o (Upgrade x) (Upgraded r) v w = Upgrades v w x r
Answers z o (Claim n) Done v w = claim.Outcome v w n
Answers z o (Write c i x) Done v w = (h : Holding) → IsHolding v c h → write.Outcome v w h i x
Answers z o (WriteLeaf l i x) Done v w = (y : InHand) → IsInHand v (leaf l) y → write.LeafOutcome v w y i x
Answers z (Some e) (Commit c b) Done v w = Commits v w e c
Answers z o (Release c b) Done v w = (h : Holding) → IsHolding v c h → release.Outcome v w h
Answers z o (ClearBit pool i bit) (Word x) v w = take_free.Outcome z v w pool i bit x
Answers z o (GiveBack d) Done v w = give.Outcome v w d
Answers z o (Free d) Done v w = give.FreeOutcome v w d
Answers z o ReadEpoch (Word x) v w = epoch.Outcome z v w x
Answers z o (StorePin y) Done v w = pin.Outcome v w y
Answers z o RaiseEpoch (Word x) v w = advance.Outcome v w
Answers z o (ReadPin q) (Word x) v w = watch.Outcome v w q x
Answers z o action answer v w = ⊥

-- the word that was found, and 0 where none was
abbrev pub word_in : Answer → ℕ
word_in (Word x) = x
word_in answer = 0

-- it is a word
abbrev pub IsWord : Answer → Type 0
IsWord answer = (x : ℕ) × (answer ≡ Word x)

-- where it was a check that succeeded, what was noted under the stamp held of a tree whose keys are all admitted
abbrev pub PassesAmong : (List ℕ → Type 0) → Sizes → View → Action → Answer → Type 0
PassesAmong A z v (Check x) (Checked r) = OnOk r (HoldsAmong A z v x)
PassesAmong A z v (Settle x) (Checked r) = OnOk r (HoldsAmong A z v x)
PassesAmong A z v action answer = ⊤

-- whether it says that a version word is unchanged
abbrev pub passed : Answer → Bool
passed (Checked (Ok x)) = true
passed answer = false

-- whether it lets a machine go on: no version word was locked, or another than the stamped one
abbrev pub goes_on : Answer → Bool
goes_on (Begun (Err l)) = false
goes_on (Checked (Err c)) = false
goes_on answer = true

-- ---- kinds of actions, by their answers

-- a look at a cell
abbrev pub IsLook : Action → Type 0
IsLook (Begin c) = ⊤
IsLook (Read x i) = ⊤
IsLook (ReadLeaf x l i) = ⊤
IsLook (Check x) = ⊤
IsLook (Settle x) = ⊤
IsLook action = ⊥

-- whether it is one
abbrev pub is_look : Action → Bool
is_look (Begin c) = true
is_look (Read x i) = true
is_look (ReadLeaf x l i) = true
is_look (Check x) = true
is_look (Settle x) = true
is_look action = false

-- it brings nothing about that stands in effects
abbrev pub IsPlain : Action → Type 0
IsPlain (Settle x) = ⊥
IsPlain (Commit c b) = ⊥
IsPlain action = ⊤

-- a version word is read
abbrev pub IsBegin : Action → Type 0
IsBegin (Begin c) = ⊤
IsBegin action = ⊥

-- a version word is compared with the stamped one
abbrev pub IsCheck : Action → Type 0
IsCheck (Check x) = ⊤
IsCheck (Settle x) = ⊤
IsCheck action = ⊥

-- the action finds a word
abbrev pub FindsWord : Action → Type 0
FindsWord (Read x i) = ⊤
FindsWord (ReadLeaf x l i) = ⊤
FindsWord (ClearBit pool i bit) = ⊤
FindsWord ReadEpoch = ⊤
FindsWord RaiseEpoch = ⊤
FindsWord (ReadPin q) = ⊤
FindsWord action = ⊥

-- the action finds nothing
abbrev pub IsSilent : Action → Type 0
IsSilent (Claim n) = ⊤
IsSilent (Write c i x) = ⊤
IsSilent (WriteLeaf l i x) = ⊤
IsSilent (Commit c b) = ⊤
IsSilent (Release c b) = ⊤
IsSilent (GiveBack d) = ⊤
IsSilent (Free d) = ⊤
IsSilent (StorePin x) = ⊤
IsSilent action = ⊥

-- ---- how many steps there were, and of which kind

-- none where a counter was at its end
abbrev pub steps_of_fault : UpgradeFault → ℕ
steps_of_fault (fault.Exhausted c) = 0
steps_of_fault (fault.Changed e) = 1

abbrev pub steps_in : Answer → ℕ
steps_in (Upgraded (Err e)) = steps_of_fault e
steps_in answer = 1

abbrev pub kind_of : Action → StepKind
kind_of (Begin c) = kind.Begin
kind_of (Read x i) = kind.Read
kind_of (ReadLeaf x l i) = kind.Read
kind_of (Check x) = kind.Check
kind_of (Settle x) = kind.Check
kind_of (Upgrade x) = kind.Upgrade
kind_of (Claim n) = kind.Claim
kind_of (Write c i x) = kind.Write
kind_of (WriteLeaf l i x) = kind.Write
kind_of (Commit c b) = kind.Commit
kind_of (Release c b) = kind.Release
kind_of (ClearBit pool i bit) = kind.Take
kind_of (GiveBack d) = kind.Give
kind_of (Free d) = kind.Give
kind_of ReadEpoch = kind.Epoch
kind_of (StorePin x) = kind.Pin
kind_of RaiseEpoch = kind.Advance
kind_of (ReadPin q) = kind.Watch
