use Rattle.std.proofs.Common.{◌≡◌, ◌+◌, ◌<◌, ℕ, List, length, get_or, inl, inr, sym, subst, ap, ◌∙◌, arith}
use Rattle.std.specs.Int.{w64, to_be_bytes}
use Rattle.art_cell.specs.Lemmas.Packed.{byte_of-to_be_bytes}
use Rattle.art_cell.specs.Words.{byte_of}
use Rattle.art_path.specs.Compared.{AreSame}
use Rattle.art_path.proofs.Comparing.{same_next, same_none}
use Rattle.art_path.proofs.compared.compare_bytes.Goals as goal
use Rattle.art_path.proofs.compared.compare_bytes.Goals.{then-from-at-via-then-from-at, then-from-at-via-else-from-at+then-key-from}

byte_read : (word at : ℕ) (bytes : List ℕ) → at < 8 → bytes ≡ to_be_bytes w64 word → byte_of word at ≡ get_or bytes at 0
byte_read word at bytes low is = byte_of-to_be_bytes word at low ∙ sym (ap (λ (xs : List ℕ). get_or xs at 0) is)

pub loop-at-init : goal.loop-at-init
loop-at-init c = same_none (byte_of c.args.word) c.args.key.now c.args.from c.requires.from

pub loop-at-preserved : goal.loop-at-preserved
loop-at-preserved c =
    let at = c.loop-at.at in
    let read = byte_read c.args.word at c.to_be_bytes-bytes.result (omega arith) c.to_be_bytes-bytes.ensures in
    same_next (byte_of c.args.word) at c.args.key.now c.args.from c.loop-at.invariant (omega (arith, c.loop-at.invariant.within)) (omega (arith, read))

pub returns : goal.returns
returns c =
    let end : c.loop-at.at ≡ c.args.count = omega (arith, c.loop-at.auto.at-end, c.loop-at-test.false) in
    subst (λ (n : ℕ). AreSame (byte_of c.args.word) n c.args.key.now c.args.from) end c.loop-at.invariant

pub returns-then-from-at : goal.returns-then-from-at
returns-then-from-at c =
    let at = c.loop-at.at in
    let byte = get_or c.args.key.now (c.args.from + at) 0 in
    let low : at < 8 = omega (arith, c.loop-at-test.true, c.requires.few) in
    let read = byte_read c.args.word at c.to_be_bytes-bytes.result low c.to_be_bytes-bytes.ensures in (
      c.loop-at-test.true,
      c.loop-at.invariant,
      elim c.then-from-at.branch [
        | then-from-at-via-then-from-at w ↦ inl w.if-from-at.true
        | then-from-at-via-else-from-at+then-key-from w ↦
            let within : c.args.from + at < length c.args.key.now = omega (arith, c.loop-at.invariant.within, w.if-from-at.false) in
            inr (within, subst (λ (x : ℕ). byte < x) (sym read) w.if-key-from.true)
      ],
    )

pub returns-then-bytes-at : goal.returns-then-bytes-at
returns-then-bytes-at c =
    let at = c.loop-at.at in
    let byte = get_or c.args.key.now (c.args.from + at) 0 in
    let low : at < 8 = omega (arith, c.loop-at-test.true, c.requires.few) in
    let read = byte_read c.args.word at c.to_be_bytes-bytes.result low c.to_be_bytes-bytes.ensures in (
      c.loop-at-test.true,
      c.loop-at.invariant,
      omega (arith, c.loop-at.invariant.within, c.if-from-at.false),
      subst (λ (x : ℕ). x < byte) (sym read) c.if-bytes-at.true,
    )
