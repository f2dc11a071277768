use Rattle.std.proofs.Common.{◌≡◌, List, Some, rules, slice_get, subst, sym, ⊎_elim}
use Rattle.art_shared.specs.declared.pass.Pass.{Pass}
use Rattle.art_shared.specs.Tables.{IsPassOf}
use Rattle.art_shared.proofs.Lists.{get_last}
use Rattle.art_shared_uses.proofs.closing.with_last.Goals as goal

pub returns : goal.returns
returns g c p a e = ⊎_elim
    (λ (h : slice_get c.args.passes.items p ≡ Some a). c.requires.passes p a h)
    (λ h. subst (IsPassOf c.args.shared.now) (sym h.1) c.requires.last)
    (get_last c.args.passes.items c.args.last a p (subst (λ (l : List Pass). slice_get l p ≡ Some a) (search rules) e))
