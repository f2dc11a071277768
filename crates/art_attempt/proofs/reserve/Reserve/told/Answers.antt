use Rattle.std.proofs.Common.{◌∙◌, ap, subst, sym}
use Rattle.art_attempt.proofs.reserve.Reserve.told.Goals as goal
use Rattle.art_attempt.specs.Reserve.{Fits, asks}
use Rattle.art_attempt.specs.declared.reserve.Reserve.{Reserve}

pub returns-in-Leaf-clause-fits : goal.returns-in-Leaf-clause-fits
returns-in-Leaf-clause-fits c z k value u v w asked fits is row =
    let demand = c.args.demand.now in
    let s = c.args.stock.now in
    c.leaf_told.ensures z demand k value u v w asked (subst (λ (m : Reserve). Fits z demand k value m s u v) c.in-Leaf.is fits)
    (sym (ap (asks k value s) c.in-Leaf.is) ∙ is) row

pub returns-in-LeafWriter-clause-fits : goal.returns-in-LeafWriter-clause-fits
returns-in-LeafWriter-clause-fits c z k value u v w asked fits is row =
    let demand = c.args.demand.now in
    let s = c.args.stock.now in
    c.leaf_packed.ensures.fits z k value u v w asked c.args.answer (subst (λ (m : Reserve). Fits z demand k value m s u v) c.in-LeafWriter.is fits)
    (sym (ap (asks k value s) c.in-LeafWriter.is) ∙ is) row

pub returns-in-Node-clause-fits : goal.returns-in-Node-clause-fits
returns-in-Node-clause-fits c z k value u v w asked fits is row =
    let demand = c.args.demand.now in
    let s = c.args.stock.now in
    c.node_told.ensures.fits z k value u v w asked (subst (λ (m : Reserve). Fits z demand k value m s u v) c.in-Node.is fits)
    (sym (ap (asks k value s) c.in-Node.is) ∙ is) row
