use Rattle.std.proofs.Common.{◌∙◌}
use Rattle.art_tools.proofs.Numbers.{digits_read}
use Rattle.art_tools.proofs.options.digits_value.Goals as goal

pub returns : goal.returns
returns c = c.unwrap_or.ensures ∙ digits_read c.args.digits.now c.parse.result c.parse.ensures.value.0 c.requires
