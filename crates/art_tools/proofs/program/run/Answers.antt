use Rattle.std.proofs.Common.{subst, sym}
use Rattle.art_server.specs.Counted.{reader_of}
use Rattle.art_tools.specs.Outputs.{Outputs}
use Rattle.art_server.specs.Reads.{MakesReads}
use Rattle.art_tools.specs.declared.run_faults.RunFault.TheVariants.{ReadFailed, ReadsUsed, BadLine}
use Rattle.art_tools.proofs.Passes.{opened_only}
use Rattle.art_tools.proofs.Runs.{where_ended, session_ended, session_outputs, told_first, used_up, read_failed, no_line}
use Rattle.art_tools.proofs.Stepped.{runs_ran}
use Rattle.art_tools.proofs.program.run.Goals as goal

pub returns-clause-output : goal.returns-clause-output
returns-clause-output g c =
    let left = g.R.Read.remaining (reader_of c.args.reader.now) in
    let held = g.W.Write.contents c.args.writer.now in
    let held_after = g.W.Write.contents c.session-pass.new.writer in
    let e = c.in_ok-table.ensures in
    where_ended c.outcome.result _ c.give_back-closed.result _ c.outcome.ensures (λ none.
    let ended = session_ended _ none in
    let only = opened_only c.in_ok-schema.schema c.args.sizes c.in_ok-table.table c.in_ok-table.pass e.opened in
    let wrote = session_outputs c.in_ok-schema.schema left _ held held_after c.in_ok-table.table c.in_ok-table.pass c.session-pass.result.0 _ e.opened.schema_is only e.pass.2
    c.session-pass.ensures.session (c.session-pass.ensures.end ended) ended in
    subst (λ s. Outputs s left held held_after) c.in_ok-schema.ensures wrote)

pub returns-clause-ended : goal.returns-clause-ended
returns-clause-ended g c = where_ended c.outcome.result _ c.give_back-closed.result _ c.outcome.ensures (λ none. c.session-pass.ensures.end (session_ended _ none))

pub returns-clause-runs : goal.returns-clause-runs
returns-clause-runs g c =
    runs_ran _ _ _ _ _ _ _ _ _ _ _ c.outcome.result c.give_back-closed.result (sym c.in_ok-schema.ensures) c.in_ok-table.ensures.opened
    c.session-pass.ensures.session c.give_back-closed.ensures.closed c.outcome.ensures c.give_back-closed.ensures.memory

pub returns-clause-failed : goal.returns-clause-failed
returns-clause-failed g c = λ is.
    let told = told_first c.outcome.result _ _ ReadFailed c.outcome.ensures c.give_back-closed.ensures.memory (λ e. cc) is in
    subst (MakesReads _ _) (read_failed _ told) c.session-pass.ensures.reads

pub returns-clause-used : goal.returns-clause-used
returns-clause-used g c = λ is.
    let told = told_first c.outcome.result _ _ ReadsUsed c.outcome.ensures c.give_back-closed.ensures.memory (λ e. cc) is in
    subst (MakesReads _ _) (used_up _ told) c.session-pass.ensures.reads

pub returns-clause-lines : goal.returns-clause-lines
returns-clause-lines g c = λ line is.
    no_line _ line (told_first c.outcome.result _ _ (BadLine line) c.outcome.ensures c.give_back-closed.ensures.memory (λ e. cc) is)
