use Rattle.art_tree.proofs.After.{after_caps, after_least}
use Rattle.art_tree.proofs.Full.{caps_after}
use Rattle.art_tree.proofs.laws.bounds_are_least.Goals as goal

pub returns-clause-exact : goal.returns-clause-exact
returns-clause-exact c = after_caps

pub returns-clause-least : goal.returns-clause-least
returns-clause-least c = after_least

pub returns-clause-caps : goal.returns-clause-caps
returns-clause-caps c = caps_after
