use Rattle.std.proofs.Common.{refl}
use Rattle.art_epoch.proofs.stocks.Stock.spend_leaf.Goals as goal

pub returns : goal.returns
returns c = refl
