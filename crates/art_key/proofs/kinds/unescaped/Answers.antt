use Rattle.std.proofs.Common.{◌∙◌, ap, sym, arith, length, eqb-true}
use Rattle.art_key.specs.Parts.{text_from, rest_of}
use Rattle.art_key.proofs.Texts.{goes_on, ends, stops, is_longer}
use Rattle.art_key.proofs.kinds.unescaped.Goals as goal

pub returns-in_err-after-clause-none : goal.returns-in_err-after-clause-none
returns-in_err-after-clause-none c =
    let none = stops c.loop-rest.text.items c.loop-rest.rest.now _ c.in_err-after.ensures.none c.loop-rest.invariant in
    rw (c.from_residual.ensures) (λ t rest e. absurd cc)

pub returns-in-End-clause-some : goal.returns-in-End-clause-some
returns-in-End-clause-some c =
    ends c.loop-rest.text.items c.loop-rest.rest.now c.in-End.after.now _ (c.in_ok-after.ensures.part.text ∙ ap text_from c.in-End.is) c.loop-rest.invariant

pub returns-then-is_full-clause-none : goal.returns-then-is_full-clause-none
returns-then-is_full-clause-none c = λ t rest e.
    is_longer c.loop-rest.text.items c.loop-rest.rest.now c.in-Byte.after.now c.in-Byte.byte _ t rest (eqb-true _ _ (sym c.if-is_full.ensures.value)) (c.in_ok-after.ensures.part.text ∙ ap text_from c.in-Byte.is) c.loop-rest.invariant e

pub loop-rest-smaller : goal.loop-rest-smaller
loop-rest-smaller c = omega (arith, c.in_ok-after.ensures.part.shorter, ap (λ part. length (rest_of part)) c.in-Byte.is)

pub loop-rest-preserved : goal.loop-rest-preserved
loop-rest-preserved c =
    rw (c.push.ensures.items) (
    goes_on c.loop-rest.text.items c.loop-rest.rest.now c.in-Byte.after.now c.in-Byte.byte _ (c.in_ok-after.ensures.part.text ∙ ap text_from c.in-Byte.is) c.loop-rest.invariant
    )
