use Rattle.std.proofs.Common.{◌≡◌, ◌∙◌, ap, subst, sym}
use Rattle.std.specs.Prelude.{Result}
use Rattle.art_change.specs.Calls.{HasCalled, IsCalling, StaysApart, restarts_in}
use Rattle.art_change.specs.declared.callers.Caller.{Caller}
use Rattle.art_table.proofs.Ended.{has_ended_here}
use Rattle.art_table.proofs.passes.Pass.ended.Goals as goal
use Rattle.art_table.specs.Calls.{HasEnded}
use Rattle.art_table.specs.Jobs.{result_of, wish_of}
use Rattle.art_table.specs.Tables.{caller_of, schema_in, sizes_in, view_of}
use Rattle.art_table.specs.declared.faults.Fault.{Fault}
use Rattle.art_table.specs.declared.jobs.Outcome.{Outcome}

pub returns-clause-ended : goal.returns-clause-ended
returns-clause-ended c j given turns p way =
    let t = c.args.table.now in
    let a = c.args.self.now in
    let z = sizes_in t in
    let w = wish_of (schema_in t) j in
    let o = c.in_ok-outcome.outcome in
    let lent = c.deref.result.now in
    let same : lent ≡ caller_of a = c.deref.ensures in
    let called = c.in_ok-outcome.ensures.called z w given turns (view_of p) (view_of a) (subst (λ (k : Caller). IsCalling z w given turns (view_of p) k (view_of a)) (sym same) way.calling) in
    let here = subst (λ (k : Caller). HasCalled z w given turns (restarts_in k) (view_of p) k o (view_of a)) same called in
    let answered = c.result_of.ensures ∙ ap (λ (x : _). result_of x o) c.schema.ensures in
    subst (λ (r : Result Outcome Fault). HasEnded t j given turns p r a) (sym answered)
    (has_ended_here t j given turns (restarts_in (caller_of a)) p a o way here (c.in_ok-outcome.ensures.apart (subst StaysApart (sym same) way.apart)))
