use Rattle.std.proofs.Common.{refl}
use Rattle.art_epoch.proofs.stocks.Stock.add_leaf.Goals as goal

pub returns : goal.returns
returns c = rw c.start_at.ensures refl
