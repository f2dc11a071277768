use Rattle.std.proofs.Common.{◌∙◌, ap, ap₂, refl}
use Rattle.std.proofs.lemmas.Result.{IfOk-weaker}
use Rattle.clap.specs.Words.{with_rule}
use Rattle.art_tools.proofs.load_options.with_load_options.Goals as goal
use Rattle.art_tools.specs.Options.{with_size_options}

pub returns : goal.returns
returns c =
    let threads = c.in_ok-arg.ensures.shape c.number_option.ensures.local ∙ ap₂ with_rule refl c.number_option.ensures.rule in
    let ops = c.in_ok-arg-2.ensures.shape c.number_option-2.ensures.local ∙ ap₂ with_rule threads c.number_option-2.ensures.rule in
    let seed = c.in_ok-arg-3.ensures.shape c.number_option-3.ensures.local ∙ ap₂ with_rule ops c.number_option-3.ensures.rule in
    let keys = c.in_ok-command.ensures.shape c.number_option-4.ensures.local ∙ ap₂ with_rule seed c.number_option-4.ensures.rule in
    IfOk-weaker c.with_size_options.result _ _ (λ r h. h ∙ ap with_size_options keys) c.with_size_options.ensures
