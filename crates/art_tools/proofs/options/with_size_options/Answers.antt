use Rattle.std.proofs.Common.{◌∙◌, ap₂, refl}
use Rattle.std.proofs.lemmas.Result.{IfOk-weaker}
use Rattle.clap.specs.Words.{with_rule}
use Rattle.art_tools.proofs.options.with_size_options.Goals as goal

pub returns : goal.returns
returns c =
    let leaves = c.in_ok-arg.ensures.shape c.number_option.ensures.local ∙ ap₂ with_rule refl c.number_option.ensures.rule in
    let n4 = c.in_ok-arg-2.ensures.shape c.number_option-2.ensures.local ∙ ap₂ with_rule leaves c.number_option-2.ensures.rule in
    let n16 = c.in_ok-arg-3.ensures.shape c.number_option-3.ensures.local ∙ ap₂ with_rule n4 c.number_option-3.ensures.rule in
    let n48 = c.in_ok-arg-4.ensures.shape c.number_option-4.ensures.local ∙ ap₂ with_rule n16 c.number_option-4.ensures.rule in
    let n256 = c.in_ok-arg-5.ensures.shape c.number_option-5.ensures.local ∙ ap₂ with_rule n48 c.number_option-5.ensures.rule in
    IfOk-weaker c.arg-6.result _ _ (λ r h. h.shape c.number_option-6.ensures.local ∙ ap₂ with_rule n256 c.number_option-6.ensures.rule) c.arg-6.ensures
