use Rattle.std.proofs.Common.{◌≡◌, Some, List, subst}
use Rattle.std.specs.List.{slice_get}
use Rattle.art_shared.specs.declared.pass.Pass.{Pass}
use Rattle.art_shared_uses.proofs.New.{get_taken}
use Rattle.art_shared_uses.proofs.clients.popped.Goals as goal

pub returns-clause-left : goal.returns-clause-left
returns-clause-left c p a e = c.requires p a (get_taken _ c.args.passes.now.items p a (subst (λ (l : List Pass). slice_get l p ≡ Some a) c.pop.ensures.rest e))
