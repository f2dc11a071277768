use Rattle.art_scan.proofs.Keys.{after_ends_range}
use Rattle.art_scan.proofs.ends.after_ends_range.Goals as goal

pub returns : goal.returns
returns c = after_ends_range
