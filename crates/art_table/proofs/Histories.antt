-- What a call adds to what its pass has seen, in typed rows.
use Rattle.std.proofs.Common.{◌≡◌, ◌++◌, ◌∙◌, ℕ, suc, List, [], ◌∷◌, Option, Some, None, length, map, refl, sym, ap}
use Rattle.std.specs.Option.{option_map}
use Rattle.std.specs.Prelude.{unwrap_or}
use Rattle.art_change.specs.Calls as calls
use Rattle.art_change.specs.declared.outcomes.Outcome.{Outcome as CallOutcome}
use Rattle.art_change.specs.declared.outcomes.Outcome.TheVariants as outcome
use Rattle.art_key.proofs.TupleLaws.{read_back}
use Rattle.art_key.specs.Columns.{tuple_fault}
use Rattle.art_key.specs.Spelling.{spelling}
use Rattle.art_key.specs.declared.columns.Column.{Column}
use Rattle.art_key.specs.declared.events.Deed.TheVariants as deed
use Rattle.art_key.specs.declared.events.Event.{Event}
use Rattle.art_model.specs.declared.commands.Command.TheVariants as command
use Rattle.art_model.specs.declared.commands.Reply.TheVariants as reply
use Rattle.art_model.specs.declared.values.Value.{Value}
use Rattle.art_model.specs.Rows.{Tuple}
use Rattle.art_step.specs.Events.{MakesEvent, SeesEvent}
use Rattle.art_step.specs.Histories.{event}
use Rattle.art_step.specs.declared.deeds.Deed.{Deed as ByteDeed}
use Rattle.art_table.specs.Calls.{Makes, Sees}
use Rattle.art_table.specs.Jobs.{job_fault, result_of, told_by, wish_of}
use Rattle.art_table.specs.Tables.{own_of, schema_in, view_of}
use Rattle.art_table.specs.declared.jobs.Job.{Job}
use Rattle.art_table.specs.declared.jobs.Job.TheVariants.{Insert, Remove, Get, Look}
use Rattle.art_table.specs.declared.passes.Pass.{Pass}
use Rattle.art_table.specs.declared.tables.Table.{Table}
use Rattle.art_typed.specs.Typed.{deed_of, event_of, tuple_of, typed}

-- ---- lists of events

pub map_both : {A B : Type 0} (f : A → B) (xs ys : List A) → map f (xs ++ ys) ≡ map f xs ++ map f ys
map_both f [] ys = refl
map_both f (x ∷ xs) ys = ap (λ l. f x ∷ l) (map_both f xs ys)

pub as_long : {A B : Type 0} (f : A → B) (xs : List A) → length (map f xs) ≡ length xs
as_long f [] = refl
as_long f (x ∷ xs) = ap suc (as_long f xs)

-- ---- its event

module _ (schema : List Column) where
  tuple_back : (t : Tuple) → tuple_fault schema t.items ≡ None → tuple_of schema (spelling schema t.items) ≡ t
  tuple_back t stands = ap (λ (o : Option (List Value)). record { items = unwrap_or o [] }) (read_back schema t.items stands)

  module _ (t : Tuple) (stands : tuple_fault schema t.items ≡ None) where
    insert_told : (value : ℕ) (o : CallOutcome) → option_map (deed_of schema) (calls.told_by (wish_of schema (Insert t value)) o) ≡ told_by (Insert t value) (result_of schema o)
    insert_told value outcome.New = ap (λ (s : Tuple). Some (deed.Done (command.Insert s value) reply.Inserted)) (tuple_back t stands)
    insert_told value (outcome.Present had) = ap (λ (s : Tuple). Some (deed.Done (command.Insert s value) (reply.Present had))) (tuple_back t stands)
    insert_told value (outcome.Gone had) = refl
    insert_told value outcome.Absent = refl
    insert_told value (outcome.Found had) = refl
    insert_told value (outcome.Seen s) = refl
    insert_told value outcome.Busy = refl
    insert_told value (outcome.Full pool) = refl
    insert_told value (outcome.Crowded b) = refl
    insert_told value (outcome.Exhausted c) = refl
    insert_told value outcome.Overlaps = refl

    remove_told : (o : CallOutcome) → option_map (deed_of schema) (calls.told_by (wish_of schema (Remove t)) o) ≡ told_by (Remove t) (result_of schema o)
    remove_told (outcome.Gone had) = ap (λ (s : Tuple). Some (deed.Done (command.Remove s) (reply.Removed had))) (tuple_back t stands)
    remove_told outcome.Absent = ap (λ (s : Tuple). Some (deed.Done (command.Remove s) reply.Absent)) (tuple_back t stands)
    remove_told outcome.New = refl
    remove_told (outcome.Present had) = refl
    remove_told (outcome.Found had) = refl
    remove_told (outcome.Seen s) = refl
    remove_told outcome.Busy = refl
    remove_told (outcome.Full pool) = refl
    remove_told (outcome.Crowded b) = refl
    remove_told (outcome.Exhausted c) = refl
    remove_told outcome.Overlaps = refl

    get_told : (o : CallOutcome) → option_map (deed_of schema) (calls.told_by (wish_of schema (Get t)) o) ≡ told_by (Get t) (result_of schema o)
    get_told (outcome.Found had) = ap (λ (s : Tuple). Some (deed.Done (command.Get s) (reply.Found had))) (tuple_back t stands)
    get_told outcome.Absent = ap (λ (s : Tuple). Some (deed.Done (command.Get s) reply.Absent)) (tuple_back t stands)
    get_told outcome.New = refl
    get_told (outcome.Present had) = refl
    get_told (outcome.Gone had) = refl
    get_told (outcome.Seen s) = refl
    get_told outcome.Busy = refl
    get_told (outcome.Full pool) = refl
    get_told (outcome.Crowded b) = refl
    get_told (outcome.Exhausted c) = refl
    get_told outcome.Overlaps = refl

  pub told_typed : (j : Job) (o : CallOutcome) → job_fault schema j ≡ None → option_map (deed_of schema) (calls.told_by (wish_of schema j) o) ≡ told_by j (result_of schema o)
  told_typed (Insert t value) o stands = insert_told t stands value o
  told_typed (Remove t) o stands = remove_told t stands o
  told_typed (Get t) o stands = get_told t stands o
  told_typed (Look lo hi) (outcome.Seen s) stands = refl
  told_typed (Look lo hi) outcome.New stands = refl
  told_typed (Look lo hi) (outcome.Present had) stands = refl
  told_typed (Look lo hi) (outcome.Gone had) stands = refl
  told_typed (Look lo hi) outcome.Absent stands = refl
  told_typed (Look lo hi) (outcome.Found had) stands = refl
  told_typed (Look lo hi) outcome.Busy stands = refl
  told_typed (Look lo hi) (outcome.Full pool) stands = refl
  told_typed (Look lo hi) (outcome.Crowded b) stands = refl
  told_typed (Look lo hi) (outcome.Exhausted c) stands = refl
  told_typed (Look lo hi) outcome.Overlaps stands = refl

-- ---- what the pass sees

module _ (t : Table) (p q : Pass) where
  makes : (what : ByteDeed) → MakesEvent (view_of p) (view_of q) what → Makes t p q (deed_of (schema_in t) what)
  makes what m =
      let f = event_of (schema_in t) in
      let had = (view_of p).seen in
      record {
        between = typed (schema_in t) m.between;
        seen = ap (map f) m.seen ∙ (map_both f (had ++ m.between) (event (view_of p).pass what ∷ []) ∙ ap (λ (l : List Event). l ++ f (event (view_of p).pass what) ∷ []) (map_both f had m.between));
        own = m.own ∙ ap (λ (n : ℕ). own_of p ++ n ∷ []) (sym (ap length (sym (map_both f had m.between)) ∙ as_long f (had ++ m.between)));
      }

  pub sees_typed : (told : Option ByteDeed) → SeesEvent (view_of p) (view_of q) told → Sees t p q (option_map (deed_of (schema_in t)) told)
  sees_typed None sees = (ap (typed (schema_in t)) sees.0, sees.1)
  sees_typed (Some what) m = makes what m
