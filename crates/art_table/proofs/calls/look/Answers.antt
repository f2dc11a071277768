use Rattle.std.proofs.Common.{◌≡◌, ◌∙◌, ℕ, Bool, false, List, Option, None, Some, ap, refl, subst, sym}
use Rattle.std.specs.Option.{option_map}
use Rattle.std.specs.Prelude.{Ok, Err}
use Rattle.art_change.specs.Calls as calls
use Rattle.art_change.specs.Outcomes.{of_look}
use Rattle.art_key.specs.declared.bounds.Bound.{Bound}
use Rattle.art_key.specs.declared.columns.Column.{Column}
use Rattle.art_change.specs.declared.callers.Caller.{Caller}
use Rattle.art_look.specs.Looks.{seen_to}
use Rattle.art_look.specs.Seen.{bound_at, nearer, row_seen}
use Rattle.art_look.specs.Table.{end_at}
use Rattle.art_look.specs.declared.looks.Reached.{Reached}
use Rattle.art_look.specs.declared.looks.Seen.{Seen as KeySeen}
use Rattle.art_model.specs.declared.rows.Row.{Row}
use Rattle.art_table.proofs.AtOnce.{lent_caller, look_apart, made_ends}
use Rattle.art_table.proofs.calls.look.Goals as goal
use Rattle.art_table.specs.Calls.{Ends}
use Rattle.art_table.specs.Jobs.{Within, key_at, result_of, seen_of, with_result}
use Rattle.art_table.specs.Looks.{Advances, found_row}
use Rattle.art_table.specs.Tables.{schema_in}
use Rattle.art_table.specs.declared.faults.Fault.TheVariants.{Busy}
use Rattle.art_table.specs.declared.jobs.Job.TheVariants.{Look}
use Rattle.art_table.specs.declared.jobs.Outcome.TheVariants.{Seen as saw}
use Rattle.art_table.specs.declared.jobs.Seen.{Seen}
use Rattle.art_table.specs.declared.passes.Pass.{Pass}
use Rattle.art_table.specs.declared.tables.Table.{Table}
use Rattle.art_typed.specs.Typed.{row_of}

mapped : {A B C : Type 0} → (f : A → B) (h : B → C) (s : Option A) → option_map h (option_map f s) ≡ option_map (λ (x : A). h (f x)) s
mapped f h (Some x) = refl
mapped f h None = refl

-- it has seen this of keys, from where it began, and that is the row, or there is none
advances : (t : Table) (from end : Bound) (turns : ℕ) (p : Pass) (given : Row) (q : Pass) (k : KeySeen) (to : Bound) → to ≡ k.hi → (found : Bool) (row : Row)
    → Ends t (Look from end) turns p (Ok (saw (seen_of (schema_in t) k))) q → found_row found row ≡ option_map (row_of (schema_in t)) k.row → (found ≡ false → row ≡ given)
    → Advances t from end turns p given q to found row
advances t from end turns p given q k to at found row e is kept =
    let range : Within from end (seen_of (schema_in t) k) = (e.called refl).range in
    record {
      ends = subst (λ (b : Bound). Ends t (Look from end) turns p (Ok (saw (record { lo = from; hi = b; row = found_row found row }))) q) (sym at)
          (subst (λ (o : Option Row). Ends t (Look from end) turns p (Ok (saw (record { lo = from; hi = k.hi; row = o }))) q) (sym is)
          (subst (λ (b : Bound). Ends t (Look from end) turns p (Ok (saw (record { lo = b; hi = k.hi; row = option_map (row_of (schema_in t)) k.row }))) q) range.begins e));
      kept = kept;
    }

pub look-requires-clause-caller : goal.look-requires-clause-caller
look-requires-clause-caller c =
    let at = c.at-stepper.ensures in
    lent_caller c.args.table.now c.args.pass.now c.at-stepper.result c.deref_mut.result.now c.deref_mut.ensures.value at.pass at.basis c.requires.pass

pub returns : goal.returns
returns c =
    let t = c.args.table.now in
    let p = c.args.pass.now in
    let from = c.args.from.now in
    let end = c.args.end.now in
    let at = c.at-stepper.ensures in
    let there : Reached → KeySeen = seen_to c.in-At.key.items end c.look.new.self.path_buffer in
    let k = there c.in-Some.reached in
    let back = made_ends t p c.at-stepper.result c.deref_mut.result.now c.deref_mut.ensures.value at.pass at.basis c.requires.pass
    c.look.new.steps c.look.new.self c.look.ensures.only (Look from end) c.args.turns (calls.Look c.in-At.key end) (ap (λ (b : Bound). calls.Look (key_at b) end) (sym c.in-At.is)) refl c.requires.range
    (of_look (option_map there c.look.result)) c.look.ensures.called (look_apart (option_map there c.look.result)) (Ok (saw (seen_of (schema_in t) k))) (ap (λ (o : Option Reached). result_of (schema_in t) (of_look (option_map there o))) (sym c.in-Some.is)) in
    let to = c.end_seen.ensures ∙ ap (λ (q : Caller). nearer (bound_at (end_at c.in-Some.reached.reach q.path_buffer.path.items)) end) c.deref-2.ensures in
    let is = c.read_row-found.ensures.found ∙ (sym (mapped _ (row_of c.schema.result.now) c.row_seen-seen.result) ∙ ((ap (option_map (row_of c.schema.result.now)) c.row_seen-seen.ensures ∙ ap (λ (q : Caller). option_map (row_of c.schema.result.now) (row_seen c.in-At.key.items end q.path_buffer.key.items c.in-Some.reached.value)) c.deref.ensures) ∙ ap (λ (x : List Column). option_map (row_of x) k.row) c.schema.ensures)) in
    record {
      pass = back.0;
      answered = advances t from end c.args.turns p c.args.row.now _ k c.end_seen.result to c.read_row-found.result c.read_row-found.new.row back.1 is c.read_row-found.ensures.kept;
      refused = tt;
    }

pub returns-in_default-look : goal.returns-in_default-look
returns-in_default-look c =
    let t = c.args.table.now in
    let p = c.args.pass.now in
    let from = c.args.from.now in
    let end = c.args.end.now in
    let at = c.at-stepper.ensures in
    let there : Reached → KeySeen = seen_to c.in-At.key.items end c.look.new.self.path_buffer in
    let back = made_ends t p c.at-stepper.result c.deref_mut.result.now c.deref_mut.ensures.value at.pass at.basis c.requires.pass
    c.look.new.steps c.look.new.self c.look.ensures.only (Look from end) c.args.turns (calls.Look c.in-At.key end) (ap (λ (b : Bound). calls.Look (key_at b) end) (sym c.in-At.is)) refl c.requires.range
    (of_look (option_map there c.look.result)) c.look.ensures.called (look_apart (option_map there c.look.result)) (with_result {A = Seen} saw (Err Busy)) (ap (λ (o : Option Reached). result_of (schema_in t) (of_look (option_map there o))) (sym c.in_default-look.is)) in
    record { pass = back.0; answered = tt; refused = record { ends = back.1; stays = refl; same = refl } }
