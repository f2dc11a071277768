use Rattle.std.proofs.Common.{◌∙◌, sym}
use Rattle.art_epoch.proofs.Stocked.{none_first}
use Rattle.art_epoch.proofs.stocks.Stock.first_node.Goals as goal

pub returns-else-has_node : goal.returns-else-has_node
returns-else-has_node c = sym (none_first c.args.self.now (sym c.has_node.ensures ∙ c.if-has_node.false))
