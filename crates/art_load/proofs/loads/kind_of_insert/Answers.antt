use Rattle.std.proofs.Common.{rules}
use Rattle.art_load.proofs.ReplyKinds.{inserted_reply}
use Rattle.art_load.proofs.loads.kind_of_insert.Goals as goal
use Rattle.art_load.specs.declared.counts.Kind.TheVariants as kind

pub returns-in-Ok-New : goal.returns-in-Ok-New
returns-in-Ok-New c = inserted_reply c.args.told.now kind.Inserted (search rules)

pub returns-in-Ok-Present : goal.returns-in-Ok-Present
returns-in-Ok-Present c = inserted_reply c.args.told.now kind.Present (search rules)

pub returns-in-Err : goal.returns-in-Err
returns-in-Err c = inserted_reply c.args.told.now kind.Refused (search rules)
