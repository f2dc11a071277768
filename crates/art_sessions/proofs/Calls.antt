-- An insert, a removal or a get is answered at the place of its event.
use Rattle.std.proofs.Common.{◌≡◌, ℕ, true, List, [], ◌++◌, length, append-nil, Option, Some, None, refl, sym, ap, ◌∙◌, subst}
use Rattle.std.specs.List.{AllByRecursion}
use Rattle.std.specs.Option.{option_map}
use Rattle.std.specs.Prelude.{Result, Ok, Err}
use Rattle.art_server.specs.ArtChange.Calls as calls
use Rattle.art_server.specs.ArtChange.declared.outcomes.Outcome.{Outcome as CallOutcome}
use Rattle.art_server.specs.ArtChange.declared.outcomes.Outcome.TheVariants as outcome
use Rattle.art_key.specs.Columns.{tuple_fault}
use Rattle.art_key.specs.declared.columns.Column.{Column}
use Rattle.art_key.specs.declared.events.Deed.TheVariants.{Done}
use Rattle.art_key.specs.declared.events.Event.{Event}
use Rattle.art_key.specs.declared.faults.ValueFault.{ValueFault}
use Rattle.art_model.specs.Rows.{Tuple}
use Rattle.art_model.specs.declared.commands.Command.{Command}
use Rattle.art_model.specs.declared.commands.Command.TheVariants.{Insert, Remove, Get}
use Rattle.art_model.specs.declared.commands.Reply.{Reply}
use Rattle.art_model.specs.declared.commands.Reply.TheVariants.{Inserted, Present, Removed, Absent, Found}
use Rattle.art_server.specs.ArtRefusal.Refusals.{value_refusal}
use Rattle.art_server.specs.Sessions.{AnswersJobIn, IsReplyOf}
use Rattle.art_server.specs.ArtRefusal.declared.refusals.Refusal.{Refusal}
use Rattle.art_server.specs.ArtRefusal.declared.refusals.Refusal.TheVariants.{Busy, Full, Crowded, Exhausted}
use Rattle.art_sessions.proofs.Events.{ToldAt, sees_at}
use Rattle.art_sessions.specs.Maps.{IsGround, IsWant, command_fault}
use Rattle.art_sessions.specs.Points.{CallAt, IsWithin}
use Rattle.art_server.specs.ArtTable.Jobs.{job_fault, result_of, told_by, wish_of}
use Rattle.art_server.specs.ArtTable.Marks.{StartsWith}
use Rattle.art_server.specs.ArtTable.Tables.{number_of, own_of, schema_in, seen_by}
use Rattle.art_server.specs.ArtTable.declared.faults.Fault.{Fault}
use Rattle.art_server.specs.ArtTable.declared.faults.Fault.TheVariants.{Value}
use Rattle.art_server.specs.ArtTable.declared.jobs.Job.{Job}
use Rattle.art_server.specs.ArtTable.declared.jobs.Job.TheVariants as jobs
use Rattle.art_server.specs.ArtTable.declared.jobs.Outcome.{Outcome}
use Rattle.art_server.specs.ArtTable.declared.passes.Pass.{Pass}
use Rattle.art_server.specs.ArtTable.declared.tables.Table.{Table}

-- ---- by its reply

module _ (schema : List Column) (log : List Event) (n : ℕ) (c : Command) (fits : command_fault schema c ≡ None) (reply : Result Reply Refusal) (places : List ℕ) where
  wants : (refusal : Refusal) → IsWant refusal → reply ≡ Err refusal → ToldAt schema log n None places → CallAt schema log n c reply places
  wants refusal want told none =
      subst (λ (r : Result Reply Refusal). CallAt schema log n c r places) (sym told) (none, subst (λ (o : Option Refusal). IsGround o refusal) (sym fits) want)

  says : (x : Reply) → reply ≡ Ok x → ToldAt schema log n (Some (Done c x)) places → CallAt schema log n c reply places
  says x told (k, is, e) =
      subst (λ (r : Result Reply Refusal). CallAt schema log n c r places) (sym told) (k, is, e.stands, (fits, e.answered.1, e.becomes))

module _ (schema : List Column) (log : List Event) (n : ℕ) (tuple : Tuple) (stands : tuple_fault schema tuple.items ≡ None) (reply : Result Reply Refusal) (places : List ℕ) where
  fits : option_map value_refusal (tuple_fault schema tuple.items) ≡ None
  fits = ap (option_map value_refusal) stands

  insert_at : (value : ℕ) (o : CallOutcome) → calls.may_end (wish_of schema (jobs.Insert tuple value)) o ≡ true → IsReplyOf (result_of schema o) reply
      → ToldAt schema log n (told_by (jobs.Insert tuple value) (result_of schema o)) places → CallAt schema log n (Insert tuple value) reply places
  insert_at value outcome.New may told at = says schema log n (Insert tuple value) fits reply places Inserted told at
  insert_at value (outcome.Present there) may told at = says schema log n (Insert tuple value) fits reply places (Present there) told at
  insert_at value outcome.Busy may told at = wants schema log n (Insert tuple value) fits reply places Busy tt told at
  insert_at value (outcome.Full pool) may told at = wants schema log n (Insert tuple value) fits reply places Full tt told at
  insert_at value (outcome.Crowded b) may told at = wants schema log n (Insert tuple value) fits reply places Crowded tt told at
  insert_at value (outcome.Exhausted c) may told at = wants schema log n (Insert tuple value) fits reply places Exhausted tt told at
  insert_at value outcome.Overlaps may told at = wants schema log n (Insert tuple value) fits reply places Busy tt told at
  insert_at value (outcome.Gone had) may told at = cc
  insert_at value outcome.Absent may told at = cc
  insert_at value (outcome.Found had) may told at = cc
  insert_at value (outcome.Seen s) may told at = cc

  remove_at : (o : CallOutcome) → calls.may_end (wish_of schema (jobs.Remove tuple)) o ≡ true → IsReplyOf (result_of schema o) reply
      → ToldAt schema log n (told_by (jobs.Remove tuple) (result_of schema o)) places → CallAt schema log n (Remove tuple) reply places
  remove_at (outcome.Gone had) may told at = says schema log n (Remove tuple) fits reply places (Removed had) told at
  remove_at outcome.Absent may told at = says schema log n (Remove tuple) fits reply places Absent told at
  remove_at outcome.Busy may told at = wants schema log n (Remove tuple) fits reply places Busy tt told at
  remove_at (outcome.Full pool) may told at = cc
  remove_at (outcome.Crowded b) may told at = wants schema log n (Remove tuple) fits reply places Crowded tt told at
  remove_at (outcome.Exhausted c) may told at = wants schema log n (Remove tuple) fits reply places Exhausted tt told at
  remove_at outcome.New may told at = cc
  remove_at (outcome.Present there) may told at = cc
  remove_at outcome.Overlaps may told at = cc
  remove_at (outcome.Found had) may told at = cc
  remove_at (outcome.Seen s) may told at = cc

  get_at : (o : CallOutcome) → calls.may_end (wish_of schema (jobs.Get tuple)) o ≡ true → IsReplyOf (result_of schema o) reply
      → ToldAt schema log n (told_by (jobs.Get tuple) (result_of schema o)) places → CallAt schema log n (Get tuple) reply places
  get_at (outcome.Found had) may told at = says schema log n (Get tuple) fits reply places (Found had) told at
  get_at outcome.Absent may told at = says schema log n (Get tuple) fits reply places Absent told at
  get_at outcome.Busy may told at = wants schema log n (Get tuple) fits reply places Busy tt told at
  get_at outcome.New may told at = cc
  get_at (outcome.Present there) may told at = cc
  get_at (outcome.Gone had) may told at = cc
  get_at (outcome.Full pool) may told at = cc
  get_at (outcome.Crowded b) may told at = cc
  get_at (outcome.Exhausted c) may told at = cc
  get_at outcome.Overlaps may told at = cc
  get_at (outcome.Seen s) may told at = cc

-- ---- a call

module _ (t : Table) (p q : Pass) (log : List Event) (starts : StartsWith log (seen_by t q)) (turns : ℕ) (reply : Result Reply Refusal) where
  -- the new places of the pass, at which it is answered
  abbrev pub Answered : Command → Type 0
  Answered c =
      (places : List ℕ) × (own_of q ≡ own_of p ++ places) × AllByRecursion (IsWithin (length (seen_by t p)) (length (seen_by t q))) places
      × CallAt (schema_in t) log (number_of p) c reply places

  refused : (c : Command) (fault : ValueFault) (r : Result Outcome Fault) → command_fault (schema_in t) c ≡ Some (value_refusal fault) → r ≡ Err (Value fault) → q ≡ p → IsReplyOf r reply → Answered c
  refused c fault r is r_is same told =
      let said : reply ≡ Err (value_refusal fault) = subst (λ (x : Result Outcome Fault). IsReplyOf x reply) r_is told in (
        [],
        ap own_of same ∙ sym (append-nil (own_of p)),
        tt,
        subst (λ (x : Result Reply Refusal). CallAt (schema_in t) log (number_of p) c x []) (sym said)
            (refl, subst (λ (o : Option Refusal). IsGround o (value_refusal fault)) (sym is) refl),
      )

  module _ (tuple : Tuple) (j : Job) (c : Command) (fault_is : job_fault (schema_in t) j ≡ tuple_fault (schema_in t) tuple.items)
      (wrong : command_fault (schema_in t) c ≡ option_map value_refusal (tuple_fault (schema_in t) tuple.items)) (a : AnswersJobIn t j turns p reply q) where
    by_fault : ((places : List ℕ) (o : CallOutcome) → tuple_fault (schema_in t) tuple.items ≡ None → calls.may_end (wish_of (schema_in t) j) o ≡ true → IsReplyOf (result_of (schema_in t) o) reply
        → ToldAt (schema_in t) log (number_of p) (told_by j (result_of (schema_in t) o)) places → CallAt (schema_in t) log (number_of p) c reply places)
        → (o : Option ValueFault) → tuple_fault (schema_in t) tuple.items ≡ o → Answered c
    by_fault by (Some fault) is =
        let kept = a.ends.fault fault (fault_is ∙ is) in
        refused c fault a.result (wrong ∙ ap (option_map value_refusal) is) kept.0 kept.1 a.told
    by_fault by None is =
        let e = a.ends.called (fault_is ∙ is) in
        let at = sees_at t p q log starts e.legal (told_by j a.result) e.sees in (
          at.0,
          at.1,
          at.2,
          by at.0 e.outcome is e.grounds.may (subst (λ (r : Result Outcome Fault). IsReplyOf r reply) e.answered a.told)
              (subst (λ (r : Result Outcome Fault). ToldAt (schema_in t) log (number_of p) (told_by j r) at.0) e.answered at.3),
        )

  pub inserted : (tuple : Tuple) (value : ℕ) → AnswersJobIn t (jobs.Insert tuple value) turns p reply q → Answered (Insert tuple value)
  inserted tuple value a =
      by_fault tuple (jobs.Insert tuple value) (Insert tuple value) refl refl a
      (λ places o fits may told at. insert_at (schema_in t) log (number_of p) tuple fits reply places value o may told at) (tuple_fault (schema_in t) tuple.items) refl

  pub removed : (tuple : Tuple) → AnswersJobIn t (jobs.Remove tuple) turns p reply q → Answered (Remove tuple)
  removed tuple a =
      by_fault tuple (jobs.Remove tuple) (Remove tuple) refl refl a
      (λ places o fits may told at. remove_at (schema_in t) log (number_of p) tuple fits reply places o may told at) (tuple_fault (schema_in t) tuple.items) refl

  pub got : (tuple : Tuple) → AnswersJobIn t (jobs.Get tuple) turns p reply q → Answered (Get tuple)
  got tuple a =
      by_fault tuple (jobs.Get tuple) (Get tuple) refl refl a
      (λ places o fits may told at. get_at (schema_in t) log (number_of p) tuple fits reply places o may told at) (tuple_fault (schema_in t) tuple.items) refl
