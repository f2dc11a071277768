use Rattle.std.proofs.Common.{◌≡◌, ◌+◌, ◌*◌, ℕ, ap, sym, subst, ◌∙◌, arith, below_more}
use Rattle.art_cell.specs.Words.{byte_of, key_byte}
use Rattle.art_node4.specs.Sorted.{BelowAll}
use Rattle.art_node.proofs.SoughtWords.{key_in}
use Rattle.art_node.proofs.searches.first_key.Goals as goal

pub returns-then-found-byte-clause-tells : goal.returns-then-found-byte-clause-tells
returns-then-found-byte-clause-tells c =
    let index = 8 * c.from-first.result + c.loop-at.at in
    let at : 8 * c.args.number + c.loop-at.at ≡ index = omega (arith, c.from-first.ensures) in (
      omega (arith, c.positions.ensures.value, c.if-at-left.false, c.saturating_sub-left.ensures, c.from-first.ensures, c.min-count.ensures),
      c.if-found-byte.true,
      λ w body is. record {
        used = omega (arith, is.is_header, c.if-at-left.false, c.saturating_sub-left.ensures, c.from-first.ensures, c.min-count.ensures);
        here =
            c.byte_at-found.ensures
            ∙ ap (byte_of c.args.word) (omega (arith, c.loop-at-test.true))
            ∙ sym (key_in w c.args.number index c.args.word (omega (arith, c.from-first.ensures)) (omega (arith, c.from-first.ensures, c.loop-at-test.true)) is.is_word);
        above = c.if-found-byte.true;
        before = subst (λ (i : ℕ). BelowAll w i c.args.byte) at (c.loop-at.invariant w is);
      },
    )

pub loop-at-preserved : goal.loop-at-preserved
loop-at-preserved c w is =
    let index = 8 * c.args.number + c.loop-at.at in
    let key : key_byte w index ≡ byte_of c.args.word c.loop-at.at =
    key_in w c.args.number index c.args.word (omega arith) (omega (arith, c.loop-at-test.true)) is.is_word
    ∙ ap (byte_of c.args.word) (omega (arith, c.loop-at-test.true)) in
    subst (λ (i : ℕ). BelowAll w i c.args.byte) (omega arith) (below_more _ _ (c.loop-at.invariant w is) (omega (arith, key, c.byte_at-found.ensures, c.if-found-byte.false)))
