-- A descent makes few steps.
use Rattle.std.proofs.Common.{◌≡◌, ℕ, zero, suc, ◌+◌, ◌*◌, ◌<◌, ◌≤◌, Bool, true, false, List, length, Option, Some, None, refl, subst, arith, ◌∙◌}
use Rattle.art_cell.specs.declared.cells.Link.{Link}
use Rattle.art_cell.specs.declared.cells.Link.TheVariants.{Leaf as leaf, Node as node}
use Rattle.art_step.proofs.Counting.{Counted, look_counts}
use Rattle.art_step.specs.Acting.{Answers, IsLook, goes_on, telling}
use Rattle.art_step.specs.declared.actions.Action.{Action}
use Rattle.art_step.specs.declared.actions.Action.TheVariants.{Begin, Read, ReadLeaf, Check, Settle}
use Rattle.art_step.specs.declared.actions.Answer.{Answer}
use Rattle.art_cell.specs.declared.cells.Cell.TheVariants as cell
use Rattle.std.proofs.lemmas.Option.{same_Some}
use Rattle.art_find.specs.Descents.{StageFits, asks, ended_at, later_key, most_steps, stage_below, staged}
use Rattle.art_find.specs.Driven.{Counts, restarts_after}
use Rattle.art_find.specs.declared.descents.Stage.{Stage}
use Rattle.art_find.specs.declared.descents.Stage.TheVariants.{Start, Anchor, Child, Below, Both, Header, Prefix, Keys, Slot, Value, Length, Bytes, Decided, Ended}
use Rattle.art_find.specs.declared.descents.NodeSeen.{NodeSeen}
use Rattle.art_node.specs.Searches.{AsksLater}
use Rattle.art_node.specs.declared.searches.Sought.{Sought}
use Rattle.art_node.specs.declared.searches.Sought.TheVariants as sought
use Rattle.art_step.specs.declared.deeds.Deed.{Deed}
use Rattle.art_step.specs.declared.views.Sizes.{Sizes}
use Rattle.art_step.specs.declared.views.Stamp.{Stamp}
use Rattle.art_step.specs.declared.views.View.{View}

-- a descent asks for looks alone
pub asks_look : (stage : Stage) (a : Action) → asks stage ≡ Some a → IsLook a
asks_look Start a e = subst IsLook (same_Some (Begin cell.Anchor) a e) tt
asks_look (Anchor x) a e = subst IsLook (same_Some (Read x 1) a e) tt
asks_look (Child x d) a e = subst IsLook (same_Some (Check x) a e) tt
asks_look (Below x n) a e = subst IsLook (same_Some (Begin (cell.Node n)) a e) tt
asks_look (Both x y n) a e = subst IsLook (same_Some (Check x) a e) tt
asks_look (Header y n) a e = subst IsLook (same_Some (Read y 1) a e) tt
asks_look (Prefix seen i r) a e = subst IsLook (same_Some (Read seen.stamp (2 + i)) a e) tt
asks_look (Keys seen i) a e = subst IsLook (same_Some (Read seen.stamp (10 + i)) a e) tt
asks_look (Slot seen place) a e = subst IsLook (same_Some (Read seen.stamp place) a e) tt
asks_look (Value x l) a e = subst IsLook (same_Some (ReadLeaf x l 0) a e) tt
asks_look (Length x l value) a e = subst IsLook (same_Some (ReadLeaf x l 1) a e) tt
asks_look (Bytes seen i r) a e = subst IsLook (same_Some (ReadLeaf seen.stamp seen.leaf (2 + i)) a e) tt
asks_look (Decided x found) a e = subst IsLook (same_Some (Settle x) a e) tt
asks_look (Ended o) a e = absurd (cc)

-- and each is one step
pub answers_count : (z : Sizes) (d : Deed) (stage : Stage) (a : Action) (r : Answer) (v w : View) → asks stage ≡ Some a → Answers z (telling d) a r v w → Counted v w (goes_on r)
answers_count z d stage a r v w is row = look_counts z d a r v w (asks_look stage a is) row

-- of the words of keys one counts, at most
pub few_keys : (i : ℕ) → later_key i ≤ 1
few_keys zero = omega arith
few_keys (suc i) = omega arith

key_later : (number i : ℕ) → number < i → i < 2 → later_key number < later_key i
key_later zero zero later few = absurd (omega (arith, later))
key_later zero (suc i) later few = omega arith
key_later (suc number) i later few = absurd (omega (arith, later, few))

-- until it has ended, a descent made at most 1,200 steps since it last began
pub few_steps : (z : Sizes) (k : List ℕ) (what : Option ℕ → Deed) (depth : ℕ) (stage : Stage) (u v : View) → length k ≤ 64 → ended_at stage ≡ None → StageFits z k what depth stage u v → most_steps depth stage ≤ 1200
few_steps z k what depth Start u v short going fits = omega arith
few_steps z k what depth (Anchor x) u v short going fits = omega arith
few_steps z k what depth (Child x d) u v short going fits = let deep = fits.1.deep in omega (arith, deep, short)
few_steps z k what depth (Below x n) u v short going fits = let deep = fits.1.deep in omega (arith, deep, short)
few_steps z k what depth (Both x y n) u v short going fits = let deep = fits.1.deep in omega (arith, deep, short)
few_steps z k what depth (Header y n) u v short going fits = let deep = fits.1 in omega (arith, deep, short)
few_steps z k what depth (Prefix seen i r) u v short going fits = let deep = fits.1.short in let more = fits.1.more in omega (arith, deep, more)
few_steps z k what depth (Keys seen i) u v short going fits = let deep = fits.1.deep in let few = few_keys i in omega (arith, deep, few, short)
few_steps z k what depth (Slot seen place) u v short going fits = let deep = fits.1.deep in omega (arith, deep, short)
few_steps z k what depth (Value x l) u v short going fits = let deep = fits.1.deep in omega (arith, deep, short)
few_steps z k what depth (Length x l value) u v short going fits = let deep = fits.1 in omega (arith, deep, short)
few_steps z k what depth (Bytes seen i r) u v short going fits = let deep = fits.1 in let more = fits.2.more in let few = fits.2.few in omega (arith, deep, more, few, short)
few_steps z k what depth (Decided x found) u v short going fits = let deep = fits.1 in omega (arith, deep, short)
few_steps z k what depth (Ended o) u v short going fits = cc

-- after a search the descent has come further
pub staged_later : (depth number : ℕ) (r : Sought) (seen : NodeSeen) → number < 32 → AsksLater number r → 18 * depth + 14 + later_key number < most_steps depth (staged r seen)
staged_later depth number (sought.Keys i) seen few later = let more = key_later number i later.0 later.1 in omega (arith, more)
staged_later depth number (sought.Child p) seen few later = let low = few_keys number in omega (arith, low)
staged_later depth number sought.Nothing seen few later = let low = few_keys number in omega (arith, low)

pub staged_first : (depth : ℕ) (r : Sought) (seen : NodeSeen) → 18 * depth + 5 < most_steps depth (staged r seen)
staged_first depth (sought.Keys i) seen = omega arith
staged_first depth (sought.Child p) seen = omega arith
staged_first depth sought.Nothing seen = omega arith

-- and has not ended
pub staged_going : (r : Sought) (seen : NodeSeen) → ended_at (staged r seen) ≡ None
staged_going (sought.Keys i) seen = refl
staged_going (sought.Child p) seen = refl
staged_going sought.Nothing seen = refl

-- after the check of the cell that names a link
pub below_later : (depth : ℕ) (x : Stamp) (d : Link) → 18 * depth + 2 < most_steps depth (stage_below x d)
below_later depth x (leaf l) = omega arith
below_later depth x (node n) = omega arith

pub below_going : (x : Stamp) (d : Link) → ended_at (stage_below x d) ≡ None
below_going x (leaf l) = refl
below_going x (node n) = refl

-- a step that goes on, and one that does not
pub counts_on : (u v w : View) (before after n : ℕ) (on : Bool) → (on ≡ true → before < after) → before < 30000 → Counted v w on → Counts u v before n → Counts u w after (restarts_after n on)
counts_on u v w before after n true further few step counts = record {
  failures = step.failures ∙ counts.failures;
  steps = let one = step.steps in let low = counts.steps in let more = further refl in omega (arith, one, low, more);
}
counts_on u v w before after n false further few step counts = record {
  failures = let one = step.failures in let low = counts.failures in omega (arith, one, low);
  steps = let one = step.steps in let low = counts.steps in omega (arith, one, low, few);
}
