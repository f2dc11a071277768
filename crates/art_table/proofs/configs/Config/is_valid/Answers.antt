use Rattle.std.proofs.Common.{rules}
use Rattle.art_table.proofs.configs.Config.is_valid.Goals as goal

pub returns-then-is_within-6 : goal.returns-then-is_within-6
returns-then-is_within-6 c = search rules
