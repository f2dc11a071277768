use Rattle.std.proofs.Common.{sym, ◌∙◌, arith}
use Rattle.art_lines.proofs.CursorLaws.{whole_front}
use Rattle.art_lines.proofs.cursors.whole_in.Goals as goal

pub returns-then-count-eq1-clause-number : goal.returns-then-count-eq1-clause-number
returns-then-count-eq1-clause-number c = (whole_front 1 c.args.bytes.now (sym c.if-count-eq1.true ∙ c.digits_in-count.ensures.count) (λ e. omega arith) (λ more. absurd (omega arith))).plain

pub returns-then-count-eq1-clause-negative : goal.returns-then-count-eq1-clause-negative
returns-then-count-eq1-clause-negative c = (whole_front 1 c.args.bytes.now (sym c.if-count-eq1.true ∙ c.digits_in-count.ensures.count) (λ e. omega arith) (λ more. absurd (omega arith))).negative

pub returns-clause-number : goal.returns-clause-number
returns-clause-number c = (whole_front _ c.args.bytes.now c.digits_in-count.ensures.count c.if-count-eq0.false (λ more. c.if-bytes-eq48.false)).plain

pub returns-clause-negative : goal.returns-clause-negative
returns-clause-negative c = (whole_front _ c.args.bytes.now c.digits_in-count.ensures.count c.if-count-eq0.false (λ more. c.if-bytes-eq48.false)).negative
