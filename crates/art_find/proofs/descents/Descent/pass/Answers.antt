use Rattle.std.proofs.Common.{◌+◌, ◌<◌, ℕ, length, get_or, sym, subst, arith}
use Rattle.art_find.specs.Descents.{StageFits}
use Rattle.art_find.specs.Ways.{IsPastPrefix}
use Rattle.art_find.specs.declared.descents.Stage.{Stage}
use Rattle.art_find.specs.declared.descents.Verdict.TheVariants.{Overlaps}
use Rattle.art_find.proofs.Judged.{judged_passed}
use Rattle.art_find.proofs.NodeWords.{past_prefix}
use Rattle.art_find.proofs.Stages.{node_decided, staged_fits}
use Rattle.art_node.specs.Searches.{IsHeader}
use Rattle.art_find.proofs.descents.Descent.pass.Goals as goal

pub returns-then-depth-key-clause-fits : goal.returns-then-depth-key-clause-fits
returns-then-depth-key-clause-fits c = λ z what u w on shows.
    let m = c.args.self.now in
    let k = c.args.key.now in
    let seen = c.args.seen in
    node_decided z k what m.depth u w seen.stamp seen.node on Overlaps c.requires.deep
    (judged_passed z k m.depth w seen.stamp seen.node seen.header c.requires.deep (omega (arith, c.if-depth-key.true, c.read_header.ensures.prefix)) shows)

pub returns-clause-fits : goal.returns-clause-fits
returns-clause-fits c = λ z what u w on shows.
    let m = c.args.self.now in
    let k = c.args.key.now in
    let seen = c.args.seen in
    let depth = m.depth + c.read_header.result.prefix_length in
    let deep : depth < length k = omega (arith, c.if-depth-key.false) in
    let small : get_or k depth 0 < 256 = omega (arith, c.type_inv.key depth) in
    subst (λ (t : Stage). StageFits z k what depth t u w) (sym c.staged-self.ensures)
    (staged_fits z k what depth u w seen on (IsHeader seen.header) c.first_word.result deep small c.first_word.ensures
    (λ s shape holds. let is = shows s shape holds in subst (λ (i : ℕ). IsPastPrefix s seen.node k (m.depth + i) seen.header) (sym c.read_header.ensures.prefix) (past_prefix z s seen.node k m.depth seen.header shape is.on c.requires.deep is.same))
    (λ s shape holds. (shows s shape holds).on.is_header))
