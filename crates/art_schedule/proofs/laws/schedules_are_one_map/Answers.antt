use Rattle.art_schedule.proofs.OneHistory.{schedules_are_one_map}
use Rattle.art_schedule.proofs.laws.schedules_are_one_map.Goals as goal

pub returns : goal.returns
returns c = schedules_are_one_map
