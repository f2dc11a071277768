use Rattle.std.proofs.Common.{◌≡◌, ℕ, ◌+◌, ◌-◌, [], ◌∷◌, ◌++◌, get_or, take, ap, sym, ◌∙◌, arith}
use Rattle.art_tree.specs.declared.bounds.Bound.TheVariants.{To}
use Rattle.art_tree.specs.Looks.{after}
use Rattle.art_look.proofs.JustPast.{after_top, after_raised}
use Rattle.art_look.proofs.looks.past.Goals as goal

pub returns-then-path-at-lt255 : goal.returns-then-path-at-lt255
returns-then-path-at-lt255 c =
    let path = c.args.path.now in
    let at = c.loop-at.at - 1 in
    let front : at + 1 ≡ c.loop-at.at = omega arith in
    let items : c.joined.result.items ≡ take at path ++ (get_or path at 0 + 1) ∷ [] = c.joined.ensures in
    ap To items ∙ sym (after_raised path at (omega arith) (omega arith)) ∙ ap (λ (n : ℕ). after (take n path)) front ∙ c.loop-at.invariant

pub loop-at-preserved : goal.loop-at-preserved
loop-at-preserved c =
    let path = c.args.path.now in
    let at = c.loop-at.at - 1 in
    let front : at + 1 ≡ c.loop-at.at = omega arith in
    let top : get_or path at 0 ≡ 255 = omega (arith, c.type_inv.path at) in
    sym (after_top path at (omega arith) top) ∙ ap (λ (n : ℕ). after (take n path)) front ∙ c.loop-at.invariant
