use Rattle.std.proofs.Common.{◌≡◌, ◌∙◌, ap, ap₂, codes}
use Rattle.std.proofs.lemmas.Result.{IfOk-weaker}
use Rattle.clap.specs.Words.{App, app_of, new_app, with_subcommand}
use Rattle.clap.specs.Simple.{app_of_fields}
use Rattle.art_tools.specs.Settings.{load_app, run_app, serve_app, step_app, versioned, wanting_subcommand}
use Rattle.art_tools.proofs.Apps.{has_no_globals}
use Rattle.art_tools.proofs.command_line.art_index.Goals as goal

pub returns : goal.returns
returns c =
    let run_is : app_of c.in_ok-run.run' ≡ run_app = c.in_ok-run.ensures in
    let step_is : app_of c.in_ok-step.step ≡ step_app = c.in_ok-step.ensures in
    let load_is : app_of c.in_ok-load.load ≡ load_app = c.in_ok-load.ensures in
    let serve_is : app_of c.in_ok-serve.serve ≡ serve_app = c.in_ok-serve.ensures in
    let named = ap app_of_fields c.after_help.ensures ∙ ap app_of_fields c.about.ensures ∙ c.new.ensures.app in
    let program : App = wanting_subcommand (versioned (new_app (codes "art_index"))) in
    let top_is : app_of c.subcommand_required.result ≡ program =
    ap app_of_fields c.subcommand_required.ensures ∙ ap wanting_subcommand (ap app_of_fields c.version.ensures ∙ ap versioned named) in
    let with_run = c.in_ok-subcommand.ensures.shape (has_no_globals _ (ap (λ (a : App). a.top.is_plain) run_is))
    ∙ ap₂ with_subcommand top_is (ap (λ (a : App). a.top) run_is) in
    let with_step = c.in_ok-subcommand-2.ensures.shape (has_no_globals _ (ap (λ (a : App). a.top.is_plain) step_is))
    ∙ ap₂ with_subcommand with_run (ap (λ (a : App). a.top) step_is) in
    let with_load = c.in_ok-subcommand-3.ensures.shape (has_no_globals _ (ap (λ (a : App). a.top.is_plain) load_is))
    ∙ ap₂ with_subcommand with_step (ap (λ (a : App). a.top) load_is) in
    IfOk-weaker c.subcommand-4.result _ _ (λ r h. h.shape (has_no_globals _ (ap (λ (a : App). a.top.is_plain) serve_is))
    ∙ ap₂ with_subcommand with_load (ap (λ (a : App). a.top) serve_is)) c.subcommand-4.ensures
