use Rattle.std.proofs.Common.{rules}
use Rattle.art_load.proofs.ReplyKinds.{got_reply}
use Rattle.art_load.proofs.loads.kind_of_get.Goals as goal
use Rattle.art_load.specs.declared.counts.Kind.TheVariants as kind

pub returns-in-Ok-Some : goal.returns-in-Ok-Some
returns-in-Ok-Some c = got_reply c.args.told.now kind.Found (search rules)

pub returns-in-Ok-None : goal.returns-in-Ok-None
returns-in-Ok-None c = got_reply c.args.told.now kind.Absent (search rules)

pub returns-in-Err : goal.returns-in-Err
returns-in-Err c = got_reply c.args.told.now kind.Refused (search rules)
