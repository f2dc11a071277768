-- A call that has ended, as its pass has seen it.
use Rattle.std.proofs.Common.{◌≡◌, ◌∙◌, ℕ, true, List, Option, Some, None, refl, sym, ap, subst}
use Rattle.std.specs.Ordering.{is_lt}
use Rattle.arrayvec.specs.ArrayVec.{ArrayVec}
use Rattle.art_change.specs.Calls as calls
use Rattle.art_change.specs.Calls.{HasCalled, IsRangeSeen}
use Rattle.art_change.specs.declared.outcomes.Outcome.{Outcome as CallOutcome}
use Rattle.art_change.specs.declared.outcomes.Outcome.TheVariants as outcome
use Rattle.art_key.specs.Bounds.{is_before}
use Rattle.art_key.specs.Histories.{IsLegal as IsLegalTyped}
use Rattle.art_key.specs.declared.bounds.Bound.{Bound}
use Rattle.art_key.specs.declared.bounds.Bound.TheVariants.{At, End}
use Rattle.art_key.specs.declared.columns.Column.{Column}
use Rattle.art_look.specs.declared.looks.Seen.{Seen as KeySeen}
use Rattle.art_shared.specs.SamePass.{SamePass}
use Rattle.art_shared.specs.Tables as shared
use Rattle.art_shared.specs.declared.pass.Pass.{Pass as Seat}
use Rattle.art_step.specs.Deeds.{bound_of}
use Rattle.art_step.specs.Events.{SeesEvent}
use Rattle.art_step.specs.Histories.{IsLegal, places}
use Rattle.art_step.specs.declared.deeds.Deed.{Deed as ByteDeed}
use Rattle.art_step.specs.declared.views.Sizes.{Sizes}
use Rattle.art_step.specs.declared.views.View.{View}
use Rattle.art_table.proofs.Histories.{sees_typed, told_typed}
use Rattle.art_table.specs.Calls.{HasEnded, HasTurnsLeft, IsUnderWay, LeavesTurns, Sees}
use Rattle.art_table.specs.Jobs.{HasRange, IsRange, Within, job_fault, key_at, result_of, seen_of, wish_of}
use Rattle.art_table.specs.Tables.{IsPassOf, caller_of, number_of, schema_in, seen_by, sizes_in, turns_left_by, view_of}
use Rattle.art_table.specs.declared.jobs.Job.{Job}
use Rattle.art_table.specs.declared.jobs.Job.TheVariants.{Insert, Remove, Get, Look}
use Rattle.art_table.specs.declared.passes.Pass.{Pass}
use Rattle.art_table.specs.declared.tables.Table.{Table}
use Rattle.art_tree.specs.Looks.{IsBelow}
use Rattle.art_typed.proofs.Events.{histories_are_typed}

-- ---- what is legal stays so

seen_legal : (u v : View) (told : Option ByteDeed) → SeesEvent u v told → IsLegal u.seen → IsLegal v.seen
seen_legal u v None sees legal = subst IsLegal (sym sees.0) legal
seen_legal u v (Some what) m legal = m.legal

seen_all : (u v : View) (told : Option ByteDeed) → SeesEvent u v told → v.pass ≡ u.pass → places u.pass u.seen ≡ u.own → places v.pass v.seen ≡ v.own
seen_all u v None sees pass all = ap (λ (p : ℕ). places p v.seen) pass ∙ (ap (places u.pass) sees.0 ∙ (all ∙ sym sees.1))
seen_all u v (Some what) m pass all = ap (λ (p : ℕ). places p v.seen) pass ∙ m.all

pub typed_legal : (t : Table) (q : Pass) → IsPassOf t q → IsLegalTyped (schema_in t) (seen_by t q)
typed_legal t q is = (histories_are_typed (schema_in t) (view_of q).seen is.legal is.of.typed).0

-- ---- the range of a look

below_before : (k : ArrayVec ℕ) (hi : Bound) → IsBelow k.items (bound_of hi) → is_before (At k) hi ≡ true
below_before k (At a) below = ap is_lt below
below_before k End below = refl

range_seen : (z : Sizes) (schema : List Column) (lo hi : Bound) (s : KeySeen) → is_before lo hi ≡ true → IsRangeSeen z (key_at lo) hi s → Within lo hi (seen_of schema s)
range_seen z schema (At k) hi s range r =
    let lo : At s.lo ≡ At k = ap (λ (x : KeySeen). At x.lo) r.stood.is in
    let after : is_before (At k) s.hi ≡ true = below_before k s.hi r.after in
    record { begins = lo; after = after; within = r.within }
range_seen z schema End hi s range r = cc

has_range : (z : Sizes) (schema : List Column) (j : Job) (o : CallOutcome) → IsRange j → calls.SeesRange z (wish_of schema j) o → HasRange j (result_of schema o)
has_range z schema (Look lo hi) (outcome.Seen s) range r = range_seen z schema lo hi s range r
has_range z schema (Look lo hi) outcome.New range r = tt
has_range z schema (Look lo hi) (outcome.Present had) range r = tt
has_range z schema (Look lo hi) (outcome.Gone had) range r = tt
has_range z schema (Look lo hi) outcome.Absent range r = tt
has_range z schema (Look lo hi) (outcome.Found had) range r = tt
has_range z schema (Look lo hi) outcome.Busy range r = tt
has_range z schema (Look lo hi) (outcome.Full pool) range r = tt
has_range z schema (Look lo hi) (outcome.Crowded b) range r = tt
has_range z schema (Look lo hi) (outcome.Exhausted c) range r = tt
has_range z schema (Look lo hi) outcome.Overlaps range r = tt
has_range z schema (Insert t value) o range r = tt
has_range z schema (Remove t) o range r = tt
has_range z schema (Get t) o range r = tt

-- ---- the turns of a look

look_left : (turns left : ℕ) (lo hi : Bound) (p q : Pass) (o : CallOutcome) → calls.may_end (calls.Look (key_at lo) hi) o ≡ true → calls.LeavesTurns turns left (view_of p) o (view_of q)
    → (schema : List Column) → LeavesTurns turns left p (result_of schema o) q
look_left turns left lo hi p q (outcome.Seen s) may leaves schema = record { spent = leaves.spent; some = λ o is. leaves.some s refl; none = λ f is. cc }
look_left turns left lo hi p q outcome.Busy may leaves schema = record { spent = leaves.spent; some = λ o is. cc; none = λ f is. (cc, leaves.none refl) }
look_left turns left lo hi p q outcome.New may leaves schema = cc
look_left turns left lo hi p q (outcome.Present had) may leaves schema = cc
look_left turns left lo hi p q (outcome.Gone had) may leaves schema = cc
look_left turns left lo hi p q outcome.Absent may leaves schema = cc
look_left turns left lo hi p q (outcome.Found had) may leaves schema = cc
look_left turns left lo hi p q (outcome.Full pool) may leaves schema = cc
look_left turns left lo hi p q (outcome.Crowded b) may leaves schema = cc
look_left turns left lo hi p q (outcome.Exhausted c) may leaves schema = cc
look_left turns left lo hi p q outcome.Overlaps may leaves schema = cc

turns_left : (schema : List Column) (j : Job) (turns : ℕ) (p q : Pass) (o : CallOutcome) → calls.may_end (wish_of schema j) o ≡ true
    → calls.HasTurnsLeft (wish_of schema j) turns (view_of p) (caller_of q) o (view_of q) → HasTurnsLeft j turns p (result_of schema o) q
turns_left schema (Look lo hi) turns p q o may left = look_left turns (turns_left_by q) lo hi p q o may left schema
turns_left schema (Insert t value) turns p q o may left = tt
turns_left schema (Remove t) turns p q o may left = tt
turns_left schema (Get t) turns p q o may left = tt

-- ---- a call that has ended

pub same_then : (a b c : Seat) → SamePass a b → SamePass b c → SamePass a c
same_then a b c x y = record {
  number = y.number ∙ x.number;
  table = y.table ∙ x.table;
  seat = y.seat ∙ x.seat;
  basis = y.basis ∙ x.basis;
  told = y.told ∙ x.told;
}

module _ (t : Table) (j : Job) (given turns restarts : ℕ) (p q : Pass) (o : CallOutcome) (began : IsPassOf t p) (stands : job_fault (schema_in t) j ≡ None) (range : IsRange j)
    (of : shared.IsPassOf t.shared q.seat) (same : SamePass p.seat q.seat) (called : HasCalled (sizes_in t) (wish_of (schema_in t) j) given turns restarts (view_of p) (caller_of q) o (view_of q)) (apart : o ≡ outcome.Overlaps → ⊥) where
  pass_is : number_of q ≡ number_of p
  pass_is = sym q.seat.own ∙ (same.number ∙ p.seat.own)

  is_pass : IsPassOf t q
  is_pass = record {
    of = of;
    limited = began.limited;
    caller = called.caller;
    legal = seen_legal (view_of p) (view_of q) (calls.told_by (wish_of (schema_in t) j) o) called.tells began.legal;
    all = seen_all (view_of p) (view_of q) (calls.told_by (wish_of (schema_in t) j) o) called.tells pass_is began.all;
  }

  pub has_ended : HasEnded t j given turns p (result_of (schema_in t) o) q
  has_ended = record {
    pass = is_pass;
    same = same;
    legal = typed_legal t q is_pass;
    sees = subst (Sees t p q) (told_typed (schema_in t) j o stands) (sees_typed t p q (calls.told_by (wish_of (schema_in t) j) o) called.tells);
    range = has_range (sizes_in t) (schema_in t) j o range called.range;
    left = turns_left (schema_in t) j turns p q o called.may called.left;
    steps = called.steps;
    outcome = o;
    apart = apart;
    restarts = restarts;
    answered = refl;
    grounds = called;
  }

-- a call that was under way, and has ended so
pub has_ended_here : (t : Table) (j : Job) (given turns restarts : ℕ) (p a : Pass) (o : CallOutcome) → IsUnderWay t j given turns p a
    → HasCalled (sizes_in t) (wish_of (schema_in t) j) given turns restarts (view_of p) (caller_of a) o (view_of a) → (o ≡ outcome.Overlaps → ⊥) → HasEnded t j given turns p (result_of (schema_in t) o) a
has_ended_here t j given turns restarts p a o way called apart = has_ended t j given turns restarts p a o way.began way.stands way.range way.of way.same called apart
