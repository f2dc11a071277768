use Rattle.std.proofs.Common.{◌≡◌, ◌∙◌, ap, ap₂, codes, refl, true}
use Rattle.std.proofs.lemmas.Result.{IfOk-weaker}
use Rattle.clap.specs.Words.{Rule, rule_of, with_rule}
use Rattle.art_tools.proofs.serve_options.with_serve_options.Goals as goal
use Rattle.art_tools.specs.Options.{required_rule, with_table_options}

pub returns : goal.returns
returns c =
    let needed : rule_of c.required-port.result ≡ required_rule (codes "port") =
    ap rule_of c.required-port.ensures ∙ ap (λ (r : Rule). record r { required = true }) c.number_option.ensures.rule in
    let port = c.in_ok-arg.ensures.shape (ap (λ a. a.global) c.required-port.ensures ∙ c.number_option.ensures.local) ∙ ap₂ with_rule refl needed in
    let workers = c.in_ok-arg-2.ensures.shape c.number_option-2.ensures.local ∙ ap₂ with_rule port c.number_option-2.ensures.rule in
    let sessions = c.in_ok-command.ensures.shape c.number_option-3.ensures.local ∙ ap₂ with_rule workers c.number_option-3.ensures.rule in
    IfOk-weaker c.with_table_options.result _ _ (λ r h. h ∙ ap with_table_options sessions) c.with_table_options.ensures
