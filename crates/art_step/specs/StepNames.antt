-- The names of the kinds of step, as schedules write them.
use Rattle.std.specs.Prelude.{ℕ, List, codes}
use Rattle.art_step.specs.declared.step_kinds.StepKind.{StepKind}
use Rattle.art_step.specs.declared.step_kinds.StepKind.TheVariants.{Begin, Read, Check, Upgrade, Write, Commit, Release, Claim, Take, Give, Epoch, Pin, Advance, Watch, Anchor}

abbrev pub step_name : StepKind → List ℕ
step_name Begin = codes "begin"
step_name Read = codes "read"
step_name Check = codes "check"
step_name Upgrade = codes "upgrade"
step_name Write = codes "write"
step_name Commit = codes "commit"
step_name Release = codes "release"
step_name Claim = codes "claim"
step_name Take = codes "take"
step_name Give = codes "give"
step_name Epoch = codes "epoch"
step_name Pin = codes "pin"
step_name Advance = codes "advance"
step_name Watch = codes "watch"
step_name Anchor = codes "anchor"
