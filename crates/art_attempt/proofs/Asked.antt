-- What the three machines ask for, and that each such step takes one turn.
use Rattle.std.proofs.Common.{◌≡◌, ◌∙◌, ◌+◌, [], ◌∷◌, ◌%◌, ◌==◌, ℕ, Bool, true, false, if◌then◌else◌, nat_lt, List, Option, Some, None, inr, refl, sym, ap, subst}
use Rattle.std.proofs.lemmas.Bool.{eq-eqb, ne_eqb}
use Rattle.std.proofs.lemmas.Option.{same_Some}
use Rattle.std.specs.Option.{option_and_then, option_map}
use Rattle.std.specs.Prelude.{Result, Ok, Err, ⊤}
use Rattle.art_cell.specs.Leaves.{leaf_word}
use Rattle.art_cell.specs.declared.cells.Cell.{Cell}
use Rattle.art_cell.specs.declared.cells.Cell.TheVariants as cell
use Rattle.art_key.specs.declared.bounds.Bound.TheVariants.{End}
use Rattle.art_epoch.specs.Taking as taking
use Rattle.art_epoch.specs.declared.stocks.Search.{Search}
use Rattle.art_epoch.specs.declared.stocks.Search.TheVariants.{Looking, Clearing, Took}
use Rattle.art_epoch.specs.declared.stocks.Taking.{Taking}
use Rattle.art_find.specs.Rereadings.{reads_next}
use Rattle.art_find.specs.declared.findings.Position.{Position}
use Rattle.art_find.specs.declared.read_sets.Rereading.{Rereading}
use Rattle.art_epoch.specs.declared.stocks.Stock.{Stock}
use Rattle.art_attempt.specs.Naming as naming
use Rattle.art_attempt.specs.Reserve as reserve
use Rattle.art_attempt.specs.Reserve.{StayFound, leaf_asked}
use Rattle.art_attempt.specs.Validate as validate
use Rattle.art_attempt.specs.Validate.{checks_of, reads_by}
use Rattle.art_attempt.specs.declared.naming.Naming.{Naming}
use Rattle.art_attempt.specs.declared.naming.Naming.TheVariants as names
use Rattle.art_attempt.specs.declared.reserve.Reserve.{Reserve}
use Rattle.art_attempt.specs.declared.reserve.Reserve.TheVariants as supply
use Rattle.art_attempt.specs.declared.validate.Cells.{Cells}
use Rattle.art_attempt.specs.declared.validate.Role.TheVariants.{Lower}
use Rattle.art_attempt.specs.declared.validate.Validate.{Validate}
use Rattle.art_attempt.specs.declared.validate.Validate.TheVariants as checks
use Rattle.art_step.proofs.Counting.{look_counts, steps_made}
use Rattle.art_step.specs.Acting.{Answers, IsAllowed, IsLook, steps_in, telling}
use Rattle.art_step.specs.declared.actions.Action.{Action}
use Rattle.art_step.specs.declared.actions.Action.TheVariants.{Begin, Read, Check, WriteLeaf, ClearBit}
use Rattle.art_step.specs.declared.actions.Answer.{Answer}
use Rattle.art_step.specs.declared.actions.Answer.TheVariants.{Begun, Word, Checked, Upgraded, Done}
use Rattle.art_step.specs.Steps.Begin as begin
use Rattle.art_step.specs.Steps.Check as check
use Rattle.art_step.specs.Deeds.{key_of}
use Rattle.art_step.specs.Views.{Member, size_of}
use Rattle.art_step.specs.declared.deeds.Deed.{Deed}
use Rattle.art_step.specs.declared.deeds.Deed.TheVariants.{Look}
use Rattle.art_step.specs.declared.faults.Changed.{Changed}
use Rattle.art_step.specs.declared.views.Found.{Found}
use Rattle.art_step.specs.declared.views.Sizes.{Sizes}
use Rattle.art_step.specs.declared.views.Stamp.{Stamp}
use Rattle.art_step.specs.declared.views.View.{View}
use Rattle.art_step.specs.declared.views.Word.TheVariants.{Version}

-- ---- what is asked for

-- a cell is looked at, and no answer is settled
abbrev pub IsCellLook : Action → Type 0
IsCellLook (Begin c) = ⊤
IsCellLook (Read x i) = ⊤
IsCellLook (Check x) = ⊤
IsCellLook a = ⊥

-- a number comes, or a word of a leaf is written
abbrev pub IsSupply : Action → Type 0
IsSupply (ClearBit p i o) = ⊤
IsSupply (WriteLeaf l i word) = ⊤
IsSupply a = ⊥

map_some : {A B : Type 0} (f : A → B) (o : Option A) (y : B) → option_map f o ≡ Some y → (x : A) × (o ≡ Some x) × (f x ≡ y)
map_some f None y e = absurd (cc)
map_some f (Some x) y e = (x, refl, same_Some (f x) y e)

then_some : {A B : Type 0} (f : A → Option B) (o : Option A) (y : B) → option_and_then f o ≡ Some y → (x : A) × (o ≡ Some x) × (f x ≡ Some y)
then_some f None y e = absurd (cc)
then_some f (Some x) y e = (x, refl, e)

pub if_some : {A : Type 0} (b : Bool) (x y : A) → (if b then Some x else None) ≡ Some y → x ≡ y
if_some true x y e = same_Some x y e
if_some false x y e = absurd (cc)

-- where there is not none, there is one
pub not_none : {A : Type 0} (o : Option A) → (o ≡ None → ⊥) → (x : A) × (o ≡ Some x)
not_none None differs = absurd (differs refl)
not_none (Some x) differs = (x, refl)

reads_cell : (x : Stamp) (r : Rereading) (a : Action) → reads_next x r ≡ Some a → IsCellLook a
reads_cell x r a is = subst IsCellLook (if_some (nat_lt r.place (size_of x.cell)) (Read x r.place) a is) tt

read_looks : (r : Rereading) (o : Option Stamp) (a : Action) → option_and_then (reads_by r) o ≡ Some a → IsCellLook a
read_looks r o a is = let k = then_some (reads_by r) o a is in reads_cell k.0 r a k.2

check_looks : (o : Option Stamp) (a : Action) → option_map checks_of o ≡ Some a → IsCellLook a
check_looks o a is = let k = map_some checks_of o a is in subst IsCellLook k.2 tt

pub validate_looks : (t : Position) (o : Cells) (m : Validate) (a : Action) → validate.asks t o m ≡ Some a → IsCellLook a
validate_looks t o (checks.Read role r) a is = read_looks r (validate.stamp_of t o role) a is
validate_looks t o (checks.Header r) a is = read_looks r (validate.stamp_of t o Lower) a is
validate_looks t o (checks.Check role) a is = check_looks (validate.stamp_of t o role) a is
validate_looks t o checks.Torn a is = check_looks (validate.stamp_of t o Lower) a is
validate_looks t o (checks.Ended e) a is = absurd (cc)

pub naming_looks : (t : Position) (m : Naming) (a : Action) → naming.asks t m ≡ Some a → IsCellLook a
naming_looks t (names.Begin n) a is = subst IsCellLook (same_Some (Begin (cell.Node n)) a is) tt
naming_looks t (names.Check x) a is = subst IsCellLook (same_Some (Check t.stamp) a is) tt
naming_looks t (names.Ended e) a is = absurd (cc)

taking_supplies : (t : Taking) (a : Action) → taking.asks t ≡ Some a → IsSupply a
taking_supplies t a is = by_search t.search is
  where
    by_search : (s : Search) → taking.asks_at t.pool t.words t.first s ≡ Some a → IsSupply a
    by_search (Looking n) e = subst IsSupply (if_some (nat_lt n t.words) (ClearBit t.pool (taking.around t.words t.first n) None) a e) tt
    by_search (Clearing n k) e = subst IsSupply (same_Some (ClearBit t.pool (taking.around t.words t.first n) (Some k)) a e) tt
    by_search (Took n k) e = absurd (cc)

pub supply_asks_supply : (k : List ℕ) (value : ℕ) (s : Stock) (m : Reserve) (a : Action) → reserve.asks k value s m ≡ Some a → IsSupply a
supply_asks_supply k value s (supply.Leaf t) a is = taking_supplies t a is
supply_asks_supply k value s (supply.LeafWriter p) a is =
    let l = then_some (leaf_asked k value p) s.leaf a is in
    subst IsSupply (if_some (nat_lt p.place 10) (WriteLeaf l.0 p.place (leaf_word k value p.place)) a l.2) tt
supply_asks_supply k value s (supply.Node t) a is = taking_supplies t a is
supply_asks_supply k value s (supply.Ended r) a is = absurd (cc)

-- ---- a look at a cell

pub look_looks : (a : Action) → IsCellLook a → IsLook a
look_looks (Begin c) is = tt
look_looks (Read x i) is = tt
look_looks (Check x) is = tt
look_looks a is = absurd is

pub reads_look : (x : Stamp) (r : Rereading) (a : Action) → reads_next x r ≡ Some a → IsLook a
reads_look x r a is = look_looks a (reads_cell x r a is)

pub validate_asks_look : (t : Position) (o : Cells) (m : Validate) (a : Action) → validate.asks t o m ≡ Some a → IsLook a
validate_asks_look t o m a is = look_looks a (validate_looks t o m a is)

pub naming_asks_look : (t : Position) (m : Naming) (a : Action) → naming.asks t m ≡ Some a → IsLook a
naming_asks_look t m a is = look_looks a (naming_looks t m a is)

-- does no deed, so any is as good
pub some_deed : Deed
some_deed = Look (key_of []) End None

-- is one step
pub look_steps : (z : Sizes) (a : Action) (r : Answer) (v w : View) → IsCellLook a → ((d : Deed) → Answers z (telling d) a r v w) → w.steps ≡ v.steps + 1
look_steps z a r v w is row = (look_counts z some_deed a r v w (look_looks a is) (row some_deed)).steps

-- and takes no word back that was found
pub same_found : (v w : View) → w.found ≡ v.found → StayFound v w
same_found v w is x there = subst (λ (xs : List Found). Member x xs) (sym is) there

more_found : (v w : View) (y : Found) → w.found ≡ y ∷ v.found → StayFound v w
more_found v w y is x there = subst (λ (xs : List Found). Member x xs) (sym is) (inr there)

begun_stays : (z : Sizes) (v w : View) (c : Cell) (x : ℕ) (on : Bool) → (x % 4 == 0) ≡ on → w ≡ begin.view_after z v c x → StayFound v w
begun_stays z v w c x true clear is = more_found v w (record { word = Version c x; step = v.steps + 1 }) (ap (λ (u : View). u.found) is ∙ rw clear refl)
begun_stays z v w c x false clear is = more_found v w (record { word = Version c x; step = v.steps + 1 }) (ap (λ (u : View). u.found) is ∙ rw clear refl)

checked_stays : (z : Sizes) (v w : View) (x : Stamp) (r : Result (Unit {0}) Changed) → check.Outcome z v w x None r → StayFound v w
checked_stays z v w x (Ok done) row = more_found v w _ (ap (λ (u : View). u.found) row.is)
checked_stays z v w x (Err c) row = more_found v w _ (ap (λ (u : View). u.found) row.3.is)

pub look_found : (z : Sizes) (d : Deed) (a : Action) (r : Answer) (v w : View) → IsCellLook a → Answers z (telling d) a r v w → StayFound v w
look_found z d (Begin c) (Begun (Ok x)) v w is row = begun_stays z v w c x.version true (eq-eqb (x.version % 4) 0 row.1) row.2
look_found z d (Begin c) (Begun (Err l)) v w is row = begun_stays z v w c l.found false (ne_eqb (l.found % 4) 0 row.1) row.2
look_found z d (Read x i) (Word a) v w is row = same_found v w (ap (λ (u : View). u.found) row.is)
look_found z d (Check x) (Checked r) v w is row = checked_stays z v w x r row
look_found z d (Begin c) (Word y) v w is row = absurd row
look_found z d (Begin c) (Checked r) v w is row = absurd row
look_found z d (Begin c) (Upgraded r) v w is row = absurd row
look_found z d (Begin c) Done v w is row = absurd row
look_found z d (Read x i) (Begun r) v w is row = absurd row
look_found z d (Read x i) (Checked r) v w is row = absurd row
look_found z d (Read x i) (Upgraded r) v w is row = absurd row
look_found z d (Read x i) Done v w is row = absurd row
look_found z d (Check x) (Begun r) v w is row = absurd row
look_found z d (Check x) (Word y) v w is row = absurd row
look_found z d (Check x) (Upgraded r) v w is row = absurd row
look_found z d (Check x) Done v w is row = absurd row
look_found z d a r v w is row = absurd is

pub look_stays : (z : Sizes) (a : Action) (r : Answer) (v w : View) → IsCellLook a → ((d : Deed) → Answers z (telling d) a r v w) → StayFound v w
look_stays z a r v w is row = look_found z some_deed a r v w is (row some_deed)

-- ---- a step of a reserve

supply_once : (z : Sizes) (a : Action) (r : Answer) (v w : View) → IsSupply a → Answers z None a r v w → steps_in r ≡ 1
supply_once z (WriteLeaf l i word) (Begun s) v w is row = absurd row
supply_once z (WriteLeaf l i word) (Word y) v w is row = absurd row
supply_once z (WriteLeaf l i word) (Checked s) v w is row = absurd row
supply_once z (WriteLeaf l i word) (Upgraded s) v w is row = absurd row
supply_once z (WriteLeaf l i word) Done v w is row = refl
supply_once z (ClearBit p i o) (Begun s) v w is row = absurd row
supply_once z (ClearBit p i o) (Word y) v w is row = refl
supply_once z (ClearBit p i o) (Checked s) v w is row = absurd row
supply_once z (ClearBit p i o) (Upgraded s) v w is row = absurd row
supply_once z (ClearBit p i o) Done v w is row = absurd row
supply_once z a r v w is row = absurd is

-- is one
pub supply_steps : (z : Sizes) (a : Action) (r : Answer) (v w : View) → IsSupply a → IsAllowed z None v a → Answers z None a r v w → w.steps ≡ v.steps + 1
supply_steps z a r v w is may row = steps_made z None a r v w may row ∙ ap (λ (n : ℕ). v.steps + n) (supply_once z a r v w is row)
