use Rattle.std.proofs.Common.{◌≡◌, ◌≤◌, ℕ, List, [], ◌∷◌, length, drop, Option, Some, None, arith, false, sym}
use Rattle.std.proofs.lemmas.Bool.Decides.{nat_tests}
use Rattle.std.specs.Prelude.{◌==◌, if◌then◌else◌}
use Rattle.art_model.specs.declared.values.Value.{Value}
use Rattle.art_key.specs.declared.columns.Column.{Column}
use Rattle.art_key.specs.Spelling.{tuple_spelled}
use Rattle.art_key.proofs.Loops.{is_done, is_too_long, with_front}
use Rattle.art_key.proofs.keys.read.Goals as goal

-- each column was read: the bytes are done, or too many
ends : (front : List Value) (cs : List Column) (n : ℕ) (rest : List ℕ) (total : Option (List Value)) → length cs ≤ n → with_front front (tuple_spelled (drop n cs) rest) ≡ total → (if length rest == 0 then Some front else None) ≡ total
ends front cs n [] total le is = sym (is_done front cs n total le is)
ends front cs n (b ∷ rest) total le is =
    let some : (length (b ∷ rest) == 0) ≡ false = grind (arith, nat_tests) in
    rw some (sym (is_too_long front cs n b rest total le is))

pub returns : goal.returns
returns c =
    let l = c.loop-column in
    let ended = ends l.tuple.items c.args.columns.now l.column-index l.rest.now (tuple_spelled c.args.columns.now c.args.bytes.now) c.loop-column-test.false l.invariant.values in
    cc ended
