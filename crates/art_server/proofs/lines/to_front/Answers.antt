use Rattle.std.proofs.Common.{◌≡◌, ℕ, ◌+◌, ◌-◌, ap, sym, take, drop, ◌∙◌, arith, length-drop}
use Rattle.std.proofs.lemmas.List.Edits.{take-paste}
use Rattle.std.proofs.Math.Seq.{paste}
use Rattle.art_server.proofs.lines.to_front.Goals as goal

pub returns-then-from-gt0 : goal.returns-then-from-gt0
returns-then-from-gt0 c =
    let xs = c.args.bytes.now in
    let i = c.args.from in
    let n = c.args.count in
    let many : i + n - i ≡ n = omega arith in
    let none : n ≡ 0 + n = omega arith in
    ap (take n) c.copy_within.ensures.after
    ∙ ap (λ (a : ℕ). take n (paste xs 0 (drop i xs) a)) many
    ∙ ap (λ (a : ℕ). take a (paste xs 0 (drop i xs) n)) none
    ∙ take-paste xs 0 (drop i xs) n (omega arith) (omega (arith, length-drop i xs))
    ∙ ap (λ (a : ℕ). take a (drop i xs)) (sym many)
