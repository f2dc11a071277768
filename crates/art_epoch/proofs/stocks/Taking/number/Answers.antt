-- The number is the one that was taken.
use Rattle.std.proofs.Common.{ℕ, ap, sym, subst, ◌∙◌, arith}
use Rattle.art_cell.specs.declared.cells.Link.{Link}
use Rattle.art_epoch.proofs.Searching.{none_taken, took, took_low}
use Rattle.art_epoch.specs.Taking.{TookFirst}
use Rattle.art_step.specs.Views.{number_at}
use Rattle.art_epoch.proofs.stocks.Taking.number.Goals as goal

pub overflow_mul-index : goal.overflow_mul-index
overflow_mul-index c = let k = c.requires in let low = took_low k.0 k.1 c.args.self.now k.2 c.in-Took.passed c.in-Took.bit k.3 c.in-Took.is in omega (arith, low, c.around-index.ensures)

pub overflow_add-index : goal.overflow_add-index
overflow_add-index c = let k = c.requires in let low = took_low k.0 k.1 c.args.self.now k.2 c.in-Took.passed c.in-Took.bit k.3 c.in-Took.is in omega (arith, low, c.around-index.ensures)

pub returns-in-Took : goal.returns-in-Took
returns-in-Took c = λ z v0 v fits.
    let m = c.args.self.now in
    let o = took z v0 m v c.in-Took.passed c.in-Took.bit fits c.in-Took.is in
    subst (λ (d : Link). TookFirst z v0 v m.pool m.first d) (sym (c.in_pool.ensures ∙ ap (λ (i : ℕ). number_at m.pool i c.in-Took.bit) c.around-index.ensures)) o

pub returns-in_default : goal.returns-in_default
returns-in_default c = λ z v0 v fits. none_taken z v0 c.args.self.now v fits c.requires.4 c.in_default.not-Took
