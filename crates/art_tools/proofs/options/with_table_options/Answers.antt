use Rattle.std.proofs.Common.{◌∙◌, ap, ap₂, refl}
use Rattle.std.proofs.lemmas.Result.{IfOk-weaker}
use Rattle.clap.specs.Words.{with_rule}
use Rattle.art_tools.proofs.options.with_table_options.Goals as goal
use Rattle.art_tools.specs.Options.{with_size_options}

pub returns : goal.returns
returns c =
    let schema = c.in_ok-arg.ensures.shape c.option-schema.ensures.local ∙ ap₂ with_rule refl c.option-schema.ensures.rule in
    IfOk-weaker c.with_size_options.result _ _ (λ r h. h ∙ ap with_size_options schema) c.with_size_options.ensures
