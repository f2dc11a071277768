use Rattle.std.proofs.Common.{ℕ, Option, sym, subst, arith}
use Rattle.art_cell.specs.Words.{child_of}
use Rattle.art_cell.specs.declared.node_kinds.Entry.{Entry}
use Rattle.art_plan.specs.ChooseRemove.Others.{IsBeside, IsLeast}
use Rattle.art_plan.proofs.BesideWords.{after_least}
use Rattle.art_plan.proofs.choose_remove.beside.Goals as goal

pub returns-in_err-first-clause-beside : goal.returns-in_err-first-clause-beside
returns-in_err-first-clause-beside c = λ w all.
    let child = child_of c.args.layout w in
    subst (λ (r : Option Entry). IsBeside child c.args.byte r) (sym c.from_residual.ensures) (λ b low apart. c.in_err-first.ensures.least w all b (omega arith) low)

pub returns-clause-beside : goal.returns-clause-beside
returns-clause-beside c = λ w all.
    let child = child_of c.args.layout w in
    after_least child c.args.byte c.in_ok-first.first c.least-2.result (c.in_ok-first.ensures.least w all) c.if-first-byte.false
    (subst (λ (low : ℕ). IsLeast child low c.least-2.result) c.in_ok-checked_add.ensures.1 (c.least-2.ensures.least w all))
