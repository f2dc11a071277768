-- The events of calls, one after another, and how many there are of each kind.
use Rattle.std.proofs.Common.{◌≡◌, ℕ, ◌+◌, ◌/◌, ◌%◌, List, [], ◌∷◌, ◌++◌, length, Bool, true, false, if◌then◌else◌, nat_lt, nat_eq, zero, suc, refl, sym, ap, ◌∙◌, arith}
use Rattle.std.proofs.lemmas.List.Sums.{sum_by-append, sum_by-cons}
use Rattle.std.specs.List.{AllByRecursion, sum_by}
use Rattle.std.specs.Prelude.{Result, Ok, Err}
use Rattle.art_key.specs.declared.columns.Column.{Column}
use Rattle.art_key.specs.declared.events.Deed.TheVariants.{Done}
use Rattle.art_key.specs.declared.events.Event.{Event}
use Rattle.art_load.specs.Commands.{load_command, load_commands, load_key, tuple_of_key}
use Rattle.art_load.specs.Counts.{absent_in, found_in, inserted_in, present_in, refused_in, removed_in}
use Rattle.art_load.specs.Loads.{IsCall, Loads, asks_of}
use Rattle.art_load.specs.Own.{AreTold, LoadsTellOwn, told_at, told_in}
use Rattle.art_load.specs.declared.counts.Counts.{Counts}
use Rattle.art_model.specs.declared.commands.Command.{Command}
use Rattle.art_model.specs.declared.commands.Command.TheVariants.{Insert, Remove, Get, Scan}
use Rattle.art_model.specs.declared.commands.Reply.{Reply}
use Rattle.art_sessions.specs.ArtServer.ArtRefusal.declared.refusals.Refusal.{Refusal}
use Rattle.art_sessions.proofs.Points.{commands_are_points}
use Rattle.art_sessions.specs.Points.{AllAt, AnswersAll, CallAt, CommandAt, StandsAt}
use Rattle.art_table.specs.Tables.{number_of, schema_in}
use Rattle.art_table.specs.declared.passes.Pass.{Pass}
use Rattle.art_table.specs.declared.tables.Table.{Table}

-- ---- what is told at the places of calls

-- a place weighs what f says of the reply that stands there
module _ (schema : List Column) (log : List Event) (n : ℕ) (f : Result Reply Refusal → ℕ) (none : (r : Refusal) → f (Err r) ≡ 0)
    (weight : ℕ → ℕ)
    (some : (k : ℕ) (c : Command) (x : Reply) → StandsAt log n k (Done c x) → weight k ≡ f (Ok x)) where
  call_told : (c : Command) (reply : Result Reply Refusal) (places : List ℕ) → CallAt schema log n c reply places
      → sum_by weight places ≡ f reply
  call_told c (Ok x) places (k, is, stands, map) =
      let one = sum_by-cons weight k [] in
      let told = some k c x stands in
      ap (sum_by weight) is ∙ (one ∙ omega (arith, told))
  call_told c (Err r) places (is, ground) = ap (sum_by weight) is ∙ sym (none r)

  command_told : (c : Command) → IsCall c → (reply : Result Reply Refusal) (places : List ℕ) → CommandAt schema log n c reply places
      → sum_by weight places ≡ f reply
  command_told (Insert tuple value) is reply places at = call_told (Insert tuple value) reply places at
  command_told (Remove tuple) is reply places at = call_told (Remove tuple) reply places at
  command_told (Get tuple) is reply places at = call_told (Get tuple) reply places at
  command_told (Scan lo hi limit) is reply places at = absurd is

  all_told : (commands : List Command) → AllByRecursion IsCall commands → (replies : List (Result Reply Refusal)) (places : List ℕ)
      → AllAt schema log n (asks_of commands) replies places
      → sum_by weight places ≡ sum_by f replies
  all_told [] are replies places at = ap (sum_by weight) at.1 ∙ sym (ap (sum_by f) at.0)
  all_told (c ∷ commands) are replies places (reply, others, here, later, is, split, said, rest) =
      let both = sum_by-append weight here later in
      let now = command_told c are.0 reply here said in
      let after = all_told commands are.1 others later rest in
      let all = sum_by-cons f reply others in
      ap (sum_by weight) split ∙ (omega (arith, both, now, after, all) ∙ sym (ap (sum_by f) is))

-- 1 for a reply that is an answer
abbrev answered_in : Result Reply Refusal → ℕ
answered_in (Ok reply) = 1
answered_in (Err refusal) = 0

pub sum_of_ones : {X : Type 0} (xs : List X) → sum_by (λ (x : X). 1) xs ≡ length xs
sum_of_ones [] = refl
sum_of_ones {X} (x ∷ xs) =
    let rest = sum_of_ones xs in
    let one = sum_by-cons (λ (y : X). 1) x xs in
    omega (arith, rest, one)

answered_or_not : (replies : List (Result Reply Refusal)) → sum_by answered_in replies + sum_by refused_in replies ≡ length replies
answered_or_not [] = refl
answered_or_not (Ok reply ∷ replies) =
    let rest = answered_or_not replies in
    let a = sum_by-cons answered_in (Ok reply) replies in
    let r = sum_by-cons refused_in (Ok reply) replies in
    omega (arith, rest, a, r)
answered_or_not (Err refusal ∷ replies) =
    let rest = answered_or_not replies in
    let a = sum_by-cons answered_in (Err refusal) replies in
    let r = sum_by-cons refused_in (Err refusal) replies in
    omega (arith, rest, a, r)

-- a reply to each command
as_many_replies : (t : Table) (commands : List Command) (p q : Pass) (replies : List (Result Reply Refusal))
    → AnswersAll t (asks_of commands) p replies q → length replies ≡ length commands
as_many_replies t [] p q replies none = ap (λ (l : List (Result Reply Refusal)). length l) none.0
as_many_replies t (c ∷ commands) p q replies (reply, others, m, is, one, rest) =
    let more = as_many_replies t commands m q others rest in
    ap (λ (l : List (Result Reply Refusal)). length l) is ∙ omega (arith, more)

-- what was counted is told at the places of the replies
pub are_told : (t : Table) (commands : List Command) (p : Pass) (c : Counts) (q : Pass) (log : List Event) (n : ℕ) (places : List ℕ)
    → AllByRecursion IsCall commands → (loads : Loads t commands p c q)
    → AllAt (schema_in t) log n (asks_of commands) loads.replies places → AreTold log places c
are_told t commands p c q log n places are loads points =
    let at = all_told (schema_in t) log n in
    let told : (f : Result Reply Refusal → ℕ) → ((r : Refusal) → f (Err r) ≡ 0) → sum_by f loads.replies ≡ sum_by (told_at f log) places =
    λ f none. sym (at f none (told_at f log) (λ k command x stands. ap (told_in f) stands) commands are loads.replies places points) in
    let one : ℕ → ℕ = λ k. 1 in
    let answered = at answered_in (λ r. refl) one (λ k command x stands. refl) commands are loads.replies places points in
    record {
      inserted = loads.counts.inserted ∙ told inserted_in (λ r. refl);
      present = loads.counts.present ∙ told present_in (λ r. refl);
      removed = loads.counts.removed ∙ told removed_in (λ r. refl);
      absent = loads.counts.absent ∙ told absent_in (λ r. refl);
      found = loads.counts.found ∙ told found_in (λ r. refl);
      all = (
          let ones = sum_of_ones places in
          let parts = answered_or_not loads.replies in
          let refused = loads.counts.refused in
          let long = as_many_replies t commands p q loads.replies loads.answers in
          let total = loads.total in
          omega (arith, ones, answered, parts, refused, long, total)
          );
    }

pub loads_tell_own : LoadsTellOwn
loads_tell_own t commands p c q log was are loads starts =
    let points = commands_are_points t (asks_of commands) p q loads.replies log was loads.answers starts in
    record {
      places = points.0;
      goes = points.1;
      told = are_told t commands p c q log (number_of p) points.0 are loads points.2;
    }

-- ---- the commands of a load are calls

one_of : (b d : Bool) (key : ℕ)
    → IsCall (if b then Insert (tuple_of_key key) key else if d then Remove (tuple_of_key key) else Get (tuple_of_key key))
one_of true d key = tt
one_of false true key = tt
one_of false false key = tt

all_more : (xs : List Command) (x : Command) → AllByRecursion IsCall xs → IsCall x → AllByRecursion IsCall (xs ++ x ∷ [])
all_more [] x are is = (is, tt)
all_more (y ∷ xs) x are is = (are.0, all_more xs x are.1 is)

pub load_calls : (seed keys thread n : ℕ) → AllByRecursion IsCall (load_commands seed keys thread n)
load_calls seed keys thread zero = tt
load_calls seed keys thread (suc n) =
    all_more (load_commands seed keys thread n) (load_command seed keys thread n) (load_calls seed keys thread n)
    (one_of (nat_lt (n / 3 % 4) 2) (nat_eq (n / 3 % 4) 2) (load_key seed keys thread n))
