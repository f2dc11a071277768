use Rattle.std.proofs.Common.{◌≡◌, ℕ, sym, subst, arith}
use Rattle.art_cell.specs.declared.cells.Cell.TheVariants as cell
use Rattle.art_cell.specs.Words.{packed}
use Rattle.art_find.specs.Ways.{count_in}
use Rattle.art_find.specs.declared.descents.Verdict.TheVariants.{Torn}
use Rattle.art_find.proofs.NodeWords.{not_torn}
use Rattle.art_find.proofs.Stages.{node_decided}
use Rattle.art_path.specs.Compared.{AreSame}
use Rattle.art_path.proofs.Comparing.{same_none}
use Rattle.art_find.proofs.descents.Descent.see_header.Goals as goal

pub returns-then-self-count-gt63-clause-fits : goal.returns-then-self-count-gt63-clause-fits
returns-then-self-count-gt63-clause-fits c = λ z what u w on shows.
    let m = c.args.self.now in
    let seen = c.args.seen in
    node_decided z c.args.key.now what m.depth u w seen.stamp seen.node on Torn c.requires.deep
    (λ s shape holds. absurd (omega (arith, c.if-self-count-gt63.true, c.read_header-count.ensures.prefix, not_torn z s seen.node c.args.key.now m.depth seen.header shape (shows s shape holds) c.requires.deep)))

pub returns-else-count-gt0-clause-fits : goal.returns-else-count-gt0-clause-fits
returns-else-count-gt0-clause-fits c = λ z what u w on shows.
    let m = c.args.self.now in
    let k = c.args.key.now in
    let seen = c.args.seen in
    let none : count_in seen.header ≡ 0 = omega (arith, c.if-count-gt0.false, c.read_header-count.ensures.prefix) in
    c.pass.ensures.fits z what u w on (λ s shape holds.
    let bytes = packed (s (cell.Node seen.node)) 2 in
    record { on = shows s shape holds; same = subst (λ (i : ℕ). AreSame bytes i k m.depth) (sym none) (same_none bytes k m.depth c.requires.deep) })
