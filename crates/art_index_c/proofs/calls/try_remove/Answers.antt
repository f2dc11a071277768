use Rattle.std.proofs.Common.{◌≡◌, ℕ, Err, Option, Result, rules, subst, sym}
use Rattle.art_handle.specs.ArtTable.Jobs.{of_removed}
use Rattle.art_handle.specs.ArtTable.declared.faults.Fault.{Fault}
use Rattle.art_handle.specs.ArtTable.declared.faults.Fault.TheVariants.{Value}
use Rattle.art_handle.specs.ArtTable.declared.jobs.Job.TheVariants as job
use Rattle.art_index_c.specs.Calls.{Calls}
use Rattle.art_index_c.proofs.Called.{is_called, is_refused}
use Rattle.art_index_c.proofs.calls.try_remove.Goals as goal

pub returns-in_err-tuple : goal.returns-in_err-tuple
returns-in_err-tuple c =
    let h = c.args.handle.now in let cs = c.args.columns.now in let f = c.in_err-tuple.field-0.0 in
    let is : c.from_residual.result ≡ Err (Value f) = search rules in
    subst (λ (r : Result (Option ℕ) Fault). Calls h cs (λ t. job.Remove t) of_removed r h) (sym is) (is_refused h cs (λ t. job.Remove t) of_removed f (sym c.in_err-tuple.ensures) c.requires)

pub returns : goal.returns
returns c =
    let done = c.remove.ensures in
    is_called c.args.handle.now c.remove.new.self c.args.columns.now (λ t. job.Remove t) of_removed c.remove.result c.in_ok-tuple.tuple
    (sym c.in_ok-tuple.ensures) done.own done.table done.ends
