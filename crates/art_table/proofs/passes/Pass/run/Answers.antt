use Rattle.std.proofs.Common.{sym, subst, ap, ◌∙◌}
use Rattle.std.specs.Prelude.{Result}
use Rattle.art_change.specs.Calls.{restarts_in}
use Rattle.art_shared.specs.Stepper.{schema_of}
use Rattle.art_typed.proofs.Keys.{keys_apart}
use Rattle.art_table.proofs.Stepped.{ended, lent_apart, lent_calling}
use Rattle.art_table.proofs.passes.Pass.run.Goals as goal
use Rattle.art_table.specs.Calls.{HasEnded}
use Rattle.art_table.specs.Jobs.{result_of, wish_of}
use Rattle.art_table.specs.Tables.{schema_in, view_of}
use Rattle.art_table.specs.declared.faults.Fault.{Fault}
use Rattle.art_table.specs.declared.jobs.Outcome.{Outcome}
use Rattle.std.specs.Box.{with_value}

pub result_of-requires : goal.result_of-requires
result_of-requires c =
    let t = c.args.table.now in
    let a = c.args.self.now in
    let s = c.at-stepper.result in
    let at = c.at-stepper.ensures in
    let e = c.run-outcome.ensures in
    e.apart (keys_apart (schema_of s)) (lent_apart t a s c.run-outcome.new.steps c.deref_mut.result.now c.run-outcome.new.self c.deref_mut.ensures.value at.pass at.basis e.only c.requires.4.apart)

pub returns-clause-ended : goal.returns-clause-ended
returns-clause-ended c j given turns p way =
    let t = c.args.table.now in
    let a = c.args.self.now in
    let s = c.at-stepper.result in
    let b = c.run-outcome.new.steps in
    let at = c.at-stepper.ensures in
    let e = c.run-outcome.ensures in
    let old = c.deref_mut.result.now in
    let new = c.run-outcome.new.self in
    let calling = lent_calling t a s b old new c.deref_mut.ensures.value at.pass at.basis e.only (wish_of (schema_in t) j) given turns (view_of p) way.calling in
    let called = e.called (wish_of (schema_in t) j) given turns (view_of p) calling in
    let answered = c.result_of.ensures ∙ ap (λ (x : _). result_of x c.run-outcome.result) c.schema.ensures in
    subst (λ (r : Result Outcome Fault). HasEnded t j given turns p r (record { seat = b.pass.now; caller = with_value a.caller new })) (sym answered)
    (ended t a s b old new c.deref_mut.ensures.value at.pass at.basis e.only j given turns p way (restarts_in new) c.run-outcome.result called
    (e.apart (keys_apart (schema_of s)) (lent_apart t a s b old new c.deref_mut.ensures.value at.pass at.basis e.only way.apart)))
