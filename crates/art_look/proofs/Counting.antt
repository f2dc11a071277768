-- A look makes few steps.
use Rattle.std.proofs.Common.{◌≡◌, ℕ, ◌+◌, ◌*◌, ◌<◌, ◌≤◌, true, List, inl, inr, refl, arith}
use Rattle.std.proofs.lemmas.Bool.{cases_Bool}
use Rattle.std.specs.Prelude.{◌==◌}
use Rattle.art_cell.specs.declared.cells.Link.{Link}
use Rattle.art_cell.specs.declared.cells.Link.TheVariants.{Leaf as leaf, Node as node}
use Rattle.art_cell.specs.declared.cells.Layout.{Layout}
use Rattle.art_cell.specs.declared.cells.Layout.TheVariants.{Node4, Node16, Node48, Node256}
use Rattle.art_find.specs.declared.descents.NodeSeen.{NodeSeen}
use Rattle.art_key.specs.declared.bounds.Bound.{Bound as KeyBound}
use Rattle.art_look.specs.Looks.{StageFits, has_ended, least_steps, most_steps, next_child, stage_below, stage_past, staged}
use Rattle.art_look.specs.declared.fronts.Front.{Front}
use Rattle.art_look.specs.declared.looks.ChildSought.{ChildSought}
use Rattle.art_look.specs.declared.looks.LookStage.{LookStage}
use Rattle.art_look.specs.declared.looks.LookStage.TheVariants.{Start, Anchor, Child, Below, Both, Header, Prefix, Keys, Slot, Value, Length, Bytes, Decided, Ended}
use Rattle.art_look.specs.declared.path_buffers.PathBuffer.{PathBuffer}
use Rattle.art_node.specs.Searches.{AsksLaterFrom}
use Rattle.art_node.specs.declared.searches.SoughtFrom.{SoughtFrom}
use Rattle.art_node.specs.declared.searches.SoughtFrom.TheVariants as sought
use Rattle.art_step.specs.declared.views.Sizes.{Sizes}
use Rattle.art_step.specs.declared.views.Stamp.{Stamp}
use Rattle.art_step.specs.declared.views.View.{View}

-- a look made fewer than 30,000 steps since it last began
pub few_steps : (z : Sizes) (lo : List ℕ) (hi : KeyBound) (depth : ℕ) (t : PathBuffer) (stage : LookStage) (u v : View) → StageFits z lo hi depth stage t u v → most_steps depth stage < 30000
few_steps z lo hi depth t Start u v fits = omega arith
few_steps z lo hi depth t (Anchor x) u v fits = omega arith
few_steps z lo hi depth t (Child x d) u v fits = let few = fits.1.few in omega (arith, few)
few_steps z lo hi depth t (Below x n) u v fits = let few = fits.1.few in omega (arith, few)
few_steps z lo hi depth t (Both x y n) u v fits = let few = fits.1.few in omega (arith, few)
few_steps z lo hi depth t (Header y n) u v fits = let few = fits.1.few in omega (arith, few)
few_steps z lo hi depth t (Prefix seen i) u v fits = let short = fits.1.short in let more = fits.1.more in omega (arith, short, more)
few_steps z lo hi depth t (Keys seen f i) u v fits = let deep = fits.1.sought.deep in let short = fits.1.sought.short in let few = fits.1.few in omega (arith, deep, short, few)
few_steps z lo hi depth t (Slot a) u v fits = let deep = fits.1.sought.deep in let short = fits.1.sought.short in let byte = fits.1.byte in omega (arith, deep, short, byte)
few_steps z lo hi depth t (Value x l) u v fits = let few = fits.1 in omega (arith, few)
few_steps z lo hi depth t (Length x l value) u v fits = let few = fits.1 in omega (arith, few)
few_steps z lo hi depth t (Bytes seen i) u v fits = let few = fits.1 in let more = fits.2.more in let short = fits.2.short in omega (arith, few, more, short)
few_steps z lo hi depth t (Decided x r o) u v fits = let few = fits.1 in omega (arith, few)
few_steps z lo hi depth t (Ended r o) u v fits = let few = fits.3 in omega (arith, few)

-- once it has ended, it made three
pub ended_least : (stage : LookStage) → has_ended stage ≡ true → least_steps stage ≡ 3
ended_least (Ended r o) ended = refl
ended_least stage ended = cc

-- ---- a stage after the anchor was read has two steps behind it, until it has ended

pub staged_least : (found : SoughtFrom) (seen : NodeSeen) (f : Front) → least_steps (staged found seen f) ≤ 2
staged_least (sought.Keys i) seen f = omega arith
staged_least (sought.Child p b) seen f = omega arith
staged_least sought.Nothing seen f = omega arith

past_least : (a : ChildSought) (k : Layout) → least_steps (stage_past k a) ≤ 2
past_least a Node4 = omega arith
past_least a Node16 = omega arith
past_least a Node48 = omega arith
past_least a Node256 = omega arith

pub next_least : (a : ChildSought) → least_steps (next_child a) ≤ 2
next_least a = elim (cases_Bool (a.byte == 255)) [
  | inl last ↦ rw last (omega arith)
  | inr more ↦ rw more (past_least a a.seen.node.layout)
]

pub below_least : (x : Stamp) (d : Link) → least_steps (stage_below x d) ≤ 2
below_least x (leaf l) = omega arith
below_least x (node n) = omega arith

-- after a search the look has come further
pub staged_later : (depth number : ℕ) (found : SoughtFrom) (seen : NodeSeen) (f : Front) → number < 32 → AsksLaterFrom number found → 320 * depth + 14 + number < most_steps depth (staged found seen f)
staged_later depth number (sought.Keys i) seen f few later = omega arith
staged_later depth number (sought.Child p b) seen f few later = omega arith
staged_later depth number sought.Nothing seen f few later = omega arith

-- at its beginning too
pub staged_first : (depth : ℕ) (found : SoughtFrom) (seen : NodeSeen) (f : Front) → 320 * depth + 13 < most_steps depth (staged found seen f)
staged_first depth (sought.Keys i) seen f = omega arith
staged_first depth (sought.Child p b) seen f = omega arith
staged_first depth sought.Nothing seen f = omega arith

-- and after a byte that has no child
stage_past_later : (depth : ℕ) (a : ChildSought) (k : Layout) → a.byte < 256 → 320 * depth + 46 + a.byte < most_steps depth (stage_past k a)
stage_past_later depth a Node4 low = omega (arith, low)
stage_past_later depth a Node16 low = omega (arith, low)
stage_past_later depth a Node48 low = omega (arith, low)
stage_past_later depth a Node256 low = omega arith

pub next_later : (depth : ℕ) (a : ChildSought) → a.byte < 256 → 320 * depth + 46 + a.byte < most_steps depth (next_child a)
next_later depth a low = elim (cases_Bool (a.byte == 255)) [
  | inl last ↦ rw last (omega (arith, low))
  | inr more ↦ rw more (stage_past_later depth a a.seen.node.layout low)
]
