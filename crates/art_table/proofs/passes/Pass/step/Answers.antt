use Rattle.std.proofs.Common.{inl}
use Rattle.art_typed.proofs.Keys.{keys_apart}
use Rattle.art_table.proofs.Stepped.{goes_on, lent_apart, lent_calling}
use Rattle.art_table.proofs.passes.Pass.step.Goals as goal
use Rattle.art_shared.specs.Stepper.{schema_of}
use Rattle.art_table.specs.Jobs.{wish_of}
use Rattle.art_table.specs.Tables.{schema_in, view_of}

pub returns-clause-goes_on : goal.returns-clause-goes_on
returns-clause-goes_on c j given turns p way =
    let t = c.args.table.now in
    let a = c.args.self.now in
    let s = c.at-stepper.result in
    let b = c.step.new.steps in
    let at = c.at-stepper.ensures in
    let e = c.step.ensures in
    let old = c.deref_mut.result.now in
    let new = c.step.new.self in
    let value = c.deref_mut.ensures.value in
    let calling = lent_calling t a s b old new value at.pass at.basis e.only (wish_of (schema_in t) j) given turns (view_of p) way.calling in
    goes_on t a s b old new value at.pass at.basis e.only j given turns p way (e.calling (wish_of (schema_in t) j) given turns (view_of p) calling)
    (e.apart (inl (keys_apart (schema_of s))) (lent_apart t a s b old new value at.pass at.basis e.only way.apart))
