use Rattle.std.proofs.Common.{◌≡◌, ◌++◌, ◌∙◌, ◌+◌, ◌<◌, List, [], ◌∷◌, Some, ap, arith, length, rules, slice_get, subst}
use Rattle.std.proofs.lemmas.List.{length-append}
use Rattle.art_runs.specs.ArtChange.declared.callers.Caller.{Caller}
use Rattle.art_runs.specs.declared.ops.Op.{Op}
use Rattle.art_runs_uses.proofs.Ops.{first_more}
use Rattle.art_runs_uses.proofs.benches.opened.Goals as goal
use Rattle.art_runs_uses.specs.Benches.{IsBegun}

pub loop-pass-preserved : goal.loop-pass-preserved
loop-pass-preserved g c =
    let xs = c.loop-pass.ops.items in
    let z = c.args.sizes.now in
    let now : c.push.new.self.items ≡ xs ++ c.begun-op.result ∷ [] = search rules in
    let count = c.loop-pass.invariant.count in
    let sum = length-append xs (c.begun-op.result ∷ []) in
    let low : c.loop-pass.pass < z.passes = omega (arith, c.loop-pass-test.true, c.requires.passes) in
    record {
      count = ap (λ (l : List Op). length l) now ∙ (let more : length (xs ++ c.begun-op.result ∷ []) ≡ c.loop-pass.pass + 1 = omega (arith, sum, count) in more);
      each = λ p a e. first_more z xs c.loop-pass.pass c.new.result c.begun-op.result count low c.new.ensures
          (subst (λ (k : Caller). IsBegun k c.begun-op.result) (search rules) c.begun-op.ensures)
          c.loop-pass.invariant.each p a (subst (λ (l : List Op). slice_get l p ≡ Some a) now e);
    }
