-- No copy is made.
use Rattle.std.proofs.Common.{◌≡◌, Bool, true, false, None, refl, sym, ap, ◌∙◌}
use Rattle.art_plan.specs.Apply.{so_many}
use Rattle.art_plan.specs.Changes.{filled_at}
use Rattle.art_plan.specs.Whole.{filled_ends, made_at}
use Rattle.art_plan.specs.declared.changes.Change.{Change}
use Rattle.art_plan.proofs.Committing.{released_all}
use Rattle.art_plan.proofs.apply.release_copy.Goals as goal

none_of : (c : Change) → made_at true c ≡ None → (b : Bool) → so_many 0 (filled_ends c true) b ≡ 0
none_of c none false = refl
none_of c none true = ap (filled_at c) none

pub returns-in-None-clause-fits : goal.returns-in-None-clause-fits
returns-in-None-clause-fits c u v releasing =
    let ch = c.args.change.now in
    released_all u ch (so_many 0 (filled_ends ch true)) v (none_of ch (sym c.copied.ensures ∙ c.in-None.is)) releasing
