use Rattle.std.proofs.Common.{refl}
use Rattle.art_change.specs.Calls as calls
use Rattle.art_change.specs.Outcomes.{of_write}
use Rattle.art_shared.specs.Stepper.{schema_of}
use Rattle.art_table.proofs.AtOnce.{key_admitted, lent_caller, tuple_ends, write_apart}
use Rattle.art_typed.proofs.Keys.{keys_apart}
use Rattle.art_table.proofs.calls.remove.Goals as goal
use Rattle.art_table.specs.Jobs.{of_removed, with_result}
use Rattle.art_table.specs.Tables.{schema_in}
use Rattle.art_table.specs.declared.jobs.Job.TheVariants.{Remove}

pub remove-requires-clause-admitted : goal.remove-requires-clause-admitted
remove-requires-clause-admitted c =
    let t = c.args.table.now in
    let p = c.args.pass.now in
    let s = c.at-stepper.result in
    let at = c.at-stepper.ensures in
    key_admitted t p s c.deref_mut.result.now c.deref_mut.ensures.value at.pass at.basis c.requires c.args.tuple.now c.in_ok-key.key c.schema.result.now c.schema.ensures c.in_ok-key.ensures.key

pub remove-requires-clause-caller : goal.remove-requires-clause-caller
remove-requires-clause-caller c =
    let t = c.args.table.now in
    let p = c.args.pass.now in
    let s = c.at-stepper.result in
    let at = c.at-stepper.ensures in
    lent_caller t p s c.deref_mut.result.now c.deref_mut.ensures.value at.pass at.basis c.requires

pub removed_of-requires : goal.removed_of-requires
removed_of-requires c = record { may = (c.in_ok-key.key, c.remove.ensures.called.1.may) }

pub returns : goal.returns
returns c =
    let t = c.args.table.now in
    let p = c.args.pass.now in
    let s = c.at-stepper.result in
    let at = c.at-stepper.ensures in
    let back = tuple_ends t p s c.deref_mut.result.now c.deref_mut.ensures.value at.pass at.basis c.requires c.args.tuple.now c.in_ok-key.key c.schema.result.now c.schema.ensures c.in_ok-key.ensures.key
    c.remove.new.steps c.remove.new.self c.remove.ensures.only (Remove c.args.tuple.now) c.args.turns calls.Remove refl refl tt
    (of_write c.remove.result) c.remove.ensures.called (write_apart c.remove.result (c.remove.ensures.apart (keys_apart (schema_of s)))) (with_result of_removed c.removed_of.result) (c.removed_of.ensures (schema_in t)) in
    record { pass = back.0; ends = back.1 }
