use Rattle.std.proofs.Common.{◌∙◌, ap, Some}
use Rattle.clap.specs.Words.{Rule, rule_of}
use Rattle.art_tools.proofs.options.option.Goals as goal

pub returns-clause-rule : goal.returns-clause-rule
returns-clause-rule c =
    let named = ap rule_of c.long.ensures ∙ ap (λ (r : Rule). record r { long = Some c.args.name.now }) c.new.ensures.rule in
    ap rule_of c.help.ensures ∙ ap rule_of c.value_name.ensures ∙ ap (λ (r : Rule). record r { value_names = 1 }) named
