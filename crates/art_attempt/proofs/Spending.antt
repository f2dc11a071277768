-- Turns are spent, one for each step.
use Rattle.std.proofs.Common.{◌≡◌, ◌+◌, ◌-◌, ◌<◌, ℕ, refl, arith}
use Rattle.art_step.specs.Turns.{Spends}
use Rattle.art_step.specs.declared.views.View.{View}

-- without a step none is
pub spends_none : (v : View) (left : ℕ) → 0 < left → Spends v v left left
spends_none v left some = record { some = some; less = omega arith; made = refl }

-- some are, and some more after that
pub spends_on : (u v w : View) (a b c : ℕ) → Spends u v a b → Spends v w b c → Spends u w a c
spends_on u v w a b c first more =
    let less = first.less in
    let fewer = more.less in
    let made = first.made in
    let then = more.made in
    record { some = more.some; less = omega (arith, less, fewer); made = omega (arith, made, then) }

-- by one step one more is
pub spends_one : (u v w : View) (a b : ℕ) → Spends u v a b → w.steps ≡ v.steps + 1 → 1 < b → Spends u w a (b - 1)
spends_one u v w a b first one more =
    let less = first.less in
    let made = first.made in
    record { some = omega (arith, more); less = omega (arith, less); made = omega (arith, made, one, more) }
