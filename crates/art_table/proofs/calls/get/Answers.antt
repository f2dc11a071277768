use Rattle.std.proofs.Common.{None, refl}
use Rattle.art_change.specs.Calls as calls
use Rattle.art_change.specs.Outcomes.{of_seek}
use Rattle.art_table.proofs.AtOnce.{get_apart, key_admitted, lent_caller, tuple_ends}
use Rattle.art_table.proofs.calls.get.Goals as goal
use Rattle.art_table.specs.Jobs.{of_got, with_result}
use Rattle.art_table.specs.Tables.{schema_in}
use Rattle.art_table.specs.declared.jobs.Job.TheVariants.{Get}

pub get-requires-clause-admitted : goal.get-requires-clause-admitted
get-requires-clause-admitted c =
    let t = c.args.table.now in
    let p = c.args.pass.now in
    let s = c.at-stepper.result in
    let at = c.at-stepper.ensures in
    key_admitted t p s c.deref_mut.result.now c.deref_mut.ensures.value at.pass at.basis c.requires c.args.tuple.now c.in_ok-key.key c.schema.result.now c.schema.ensures c.in_ok-key.ensures.key

pub get-requires-clause-caller : goal.get-requires-clause-caller
get-requires-clause-caller c =
    let t = c.args.table.now in
    let p = c.args.pass.now in
    let s = c.at-stepper.result in
    let at = c.at-stepper.ensures in
    lent_caller t p s c.deref_mut.result.now c.deref_mut.ensures.value at.pass at.basis c.requires

pub returns : goal.returns
returns c =
    let t = c.args.table.now in
    let p = c.args.pass.now in
    let s = c.at-stepper.result in
    let at = c.at-stepper.ensures in
    let back = tuple_ends t p s c.deref_mut.result.now c.deref_mut.ensures.value at.pass at.basis c.requires c.args.tuple.now c.in_ok-key.key c.schema.result.now c.schema.ensures c.in_ok-key.ensures.key
    c.get.new.steps c.get.new.self c.get.ensures.only (Get c.args.tuple.now) c.args.turns calls.Get refl refl tt
    (of_seek c.get.result None) c.get.ensures.called (get_apart c.get.result) (with_result of_got c.got_of.result) (c.got_of.ensures (schema_in t)) in
    record { pass = back.0; ends = back.1 }
