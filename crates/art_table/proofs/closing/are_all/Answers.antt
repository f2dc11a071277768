use Rattle.std.proofs.Common.{◌≡◌, inl, inr, subst, arith, rules}
use Rattle.std.proofs.lemmas.Bool.{cases_lt}
use Rattle.art_table.proofs.closing.are_all.Goals as goal
use Rattle.art_table.specs.Closing.{IsHere}
use Rattle.std.proofs.Common.{ℕ}

pub loop-number-preserved : goal.loop-number-preserved
loop-number-preserved c = λ n below. elim (cases_lt n c.loop-number.number) [
  | inl before ↦ c.loop-number.invariant n before
  | inr from ↦ let same : c.loop-number.number ≡ n = omega arith in
      subst (λ (m : ℕ). IsHere m c.args.passes.now) same (c.is_here.ensures.0 c.if-not-is_here.false)
]

pub returns : goal.returns
returns c = search rules
