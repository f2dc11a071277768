use Rattle.std.proofs.Common.{refl}
use Rattle.art_change.specs.Calls as calls
use Rattle.art_change.specs.Outcomes.{of_write}
use Rattle.art_shared.specs.Stepper.{schema_of}
use Rattle.art_table.proofs.AtOnce.{key_admitted, lent_caller, tuple_ends, write_apart}
use Rattle.art_typed.proofs.Keys.{keys_apart}
use Rattle.art_table.proofs.calls.insert.Goals as goal
use Rattle.art_table.specs.Jobs.{of_inserted, with_result}
use Rattle.art_table.specs.Tables.{schema_in}
use Rattle.art_table.specs.declared.jobs.Job.TheVariants.{Insert}

pub insert-requires-clause-admitted : goal.insert-requires-clause-admitted
insert-requires-clause-admitted c =
    let t = c.args.table.now in
    let p = c.args.pass.now in
    let s = c.at-stepper.result in
    let at = c.at-stepper.ensures in
    key_admitted t p s c.deref_mut.result.now c.deref_mut.ensures.value at.pass at.basis c.requires c.args.tuple.now c.in_ok-key.key c.schema.result.now c.schema.ensures c.in_ok-key.ensures.key

pub insert-requires-clause-caller : goal.insert-requires-clause-caller
insert-requires-clause-caller c =
    let t = c.args.table.now in
    let p = c.args.pass.now in
    let s = c.at-stepper.result in
    let at = c.at-stepper.ensures in
    lent_caller t p s c.deref_mut.result.now c.deref_mut.ensures.value at.pass at.basis c.requires

pub inserted_of-requires-clause-may : goal.inserted_of-requires-clause-may
inserted_of-requires-clause-may c = (c.in_ok-key.key, c.args.value, c.insert.ensures.called.1.may)

pub inserted_of-requires-clause-apart : goal.inserted_of-requires-clause-apart
inserted_of-requires-clause-apart c = c.insert.ensures.apart (keys_apart (schema_of c.at-stepper.result))

pub returns : goal.returns
returns c =
    let t = c.args.table.now in
    let p = c.args.pass.now in
    let s = c.at-stepper.result in
    let at = c.at-stepper.ensures in
    let back = tuple_ends t p s c.deref_mut.result.now c.deref_mut.ensures.value at.pass at.basis c.requires c.args.tuple.now c.in_ok-key.key c.schema.result.now c.schema.ensures c.in_ok-key.ensures.key
    c.insert.new.steps c.insert.new.self c.insert.ensures.only (Insert c.args.tuple.now c.args.value) c.args.turns (λ (k : _). calls.Insert k c.args.value) refl refl tt
    (of_write c.insert.result) c.insert.ensures.called (write_apart c.insert.result (c.insert.ensures.apart (keys_apart (schema_of s)))) (with_result of_inserted c.inserted_of.result) (c.inserted_of.ensures (schema_in t)) in
    record { pass = back.0; ends = back.1 }
