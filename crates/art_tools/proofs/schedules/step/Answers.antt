use Rattle.std.proofs.Common.{sym}
use Rattle.art_tools.specs.declared.run_faults.RunFault.TheVariants.{ReadFailed, Refused, ReadsUsed}
use Rattle.art_tools.proofs.Stepped.{steps_ran}
use Rattle.art_tools.proofs.Runs.{not_refused, schedule_ended, schedule_read_failed, schedule_used_up, told_first, where_ended}
use Rattle.art_tools.proofs.schedules.step.Goals as goal

pub returns-clause-ended : goal.returns-clause-ended
returns-clause-ended g c =
    where_ended c.outcome.result _ c.close_all-closed.result _ c.outcome.ensures
    (λ none. c.run_schedule-passes.ensures.end (schedule_ended _ none))

pub returns-clause-refused : goal.returns-clause-refused
returns-clause-refused g c = λ refusal is.
    absurd (not_refused _ refusal (told_first c.outcome.result _ _ (Refused refusal) c.outcome.ensures c.close_all-closed.ensures.memory (λ e. cc) is))

pub returns-clause-failed : goal.returns-clause-failed
returns-clause-failed g c = λ is.
    c.run_schedule-passes.ensures.failed (schedule_read_failed _ (told_first c.outcome.result _ _ ReadFailed c.outcome.ensures c.close_all-closed.ensures.memory (λ e. cc) is))

pub returns-clause-used : goal.returns-clause-used
returns-clause-used g c = λ is.
    c.run_schedule-passes.ensures.used (schedule_used_up _ (told_first c.outcome.result _ _ ReadsUsed c.outcome.ensures c.close_all-closed.ensures.memory (λ e. cc) is))

pub close_all-closed-requires-clause-passes : goal.close_all-closed-requires-clause-passes
close_all-closed-requires-clause-passes g c =
    (c.in_ok-table.passes, c.in_ok-table.ensures.passes, c.run_schedule-passes.ensures.passes)

pub run_schedule-passes-requires : goal.run_schedule-passes-requires
run_schedule-passes-requires g c = λ n p found. (c.in_ok-table.ensures.passes.1 n p found).0

pub returns-clause-steps : goal.returns-clause-steps
returns-clause-steps g c =
    steps_ran _ _ _ _ _ _ _ _ _ _ _ c.outcome.result c.close_all-closed.result (sym c.in_ok-schema.ensures) c.in_ok-table.ensures.opened
    c.run_schedule-passes.ensures.schedule c.run_schedule-passes.ensures.passes c.close_all-closed.ensures.closed c.outcome.ensures c.close_all-closed.ensures.memory
