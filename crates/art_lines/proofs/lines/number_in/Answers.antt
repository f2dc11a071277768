use Rattle.std.proofs.Common.{◌∙◌, ℕ, Option, ap}
use Rattle.std.specs.Option.{ok_or}
use Rattle.art_lines.specs.declared.lines.LineFault.TheVariants.{BadCommand}
use Rattle.art_lines.proofs.lines.number_in.Goals as goal

pub returns : goal.returns
returns c = c.ok_or.ensures.value ∙ ap (λ (whole : Option ℕ). ok_or whole BadCommand) c.as_u64.ensures
