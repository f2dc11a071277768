use Rattle.std.proofs.Common.{ap, subst}
use Rattle.std.proofs.KnownBytes.{Consumes-nil}
use Rattle.art_tools.proofs.Performed.{MayTell, done_by, loads_tell, no_read, servers_tell, unread}
use Rattle.art_tools.proofs.Runs.{err_told, ok_untold}
use Rattle.art_tools.proofs.Stepped.{reads_told}
use Rattle.art_tools.specs.Settings.{load, serve}
use Rattle.art_tools.specs.Statuses.{fault_in}
use Rattle.art_tools.specs.declared.settings.Settings.TheVariants.{Run, Step, Load, Serve}
use Rattle.art_tools.proofs.program.perform.Goals as goal

pub returns-in-Run : goal.returns-in-Run
returns-in-Run g c =
    let r = c.run.result in
    let told = c.run.ensures in
    done_by _ (Run c.in-Run.table) _ _ _ _ _ _ (fault_in r) c.in-Run.is (record {
      runs = told.runs;
      output = λ none. ok_untold r told.output none;
      input = record {
        ended = λ none. ok_untold r told.ended none;
        unnamed = λ fault is. ap fault_in (told.schema fault is);
        refused = λ refusal is. told.refused refusal (err_told r _ is);
      };
    }) told.reads (reads_told r _ _ told.failed told.used)

pub returns-in-Step : goal.returns-in-Step
returns-in-Step g c =
    let r = c.step.result in
    let told = c.step.ensures in
    done_by _ (Step c.in-Step.table) _ _ _ _ _ _ (fault_in r) c.in-Step.is (record {
      steps = told.steps;
      input = record {
        ended = λ none. ok_untold r told.ended none;
        unnamed = λ fault is. ap fault_in (told.schema fault is);
        refused = λ refusal is. told.refused refusal (err_told r _ is);
      };
    }) told.reads (reads_told r _ _ told.failed told.used)

pub returns-in-Load : goal.returns-in-Load
returns-in-Load g c =
    let may = loads_tell _ _ c.in-Load.asked _ c.load_table.ensures in
    done_by _ (Load c.in-Load.asked) _ _ _ _ _ _ (fault_in c.load_table.result) c.in-Load.is (Consumes-nil _, c.load_table.ensures) (no_read _)
    (unread _ _ _ (λ is. subst (MayTell load) is may) (λ is. subst (MayTell load) is may))

pub returns-in-Serve : goal.returns-in-Serve
returns-in-Serve g c =
    let may = servers_tell _ _ _ c.in-Serve.asked _ c.serve_table.ensures in
    done_by _ (Serve c.in-Serve.asked) _ _ _ _ _ _ (fault_in c.serve_table.result) c.in-Serve.is (Consumes-nil _, c.serve_table.ensures) (no_read _)
    (unread _ _ _ (λ is. subst (MayTell serve) is may) (λ is. subst (MayTell serve) is may))
