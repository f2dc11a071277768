use Rattle.std.proofs.Common.{◌≡◌, ℕ, ◌++◌, [], ◌∷◌, List, map, ◌∙◌, ap, sym, subst, arith}
use Rattle.std.proofs.lemmas.List.FromFn.{map-range_with_len_more}
use Rattle.art_cell.specs.declared.cells.Write.{Write}
use Rattle.std.specs.List.{range_with_len}
use Rattle.art_cell.specs.Reads.{written}
use Rattle.art_cell.specs.Leaves.{IsLeaf, leaf_word, leaf_writes}
use Rattle.art_node.proofs.LeafWords.{leaf_is_written}
use Rattle.art_node.proofs.words.words_of.Goals as goal

pub loop-place-preserved : goal.loop-place-preserved
loop-place-preserved c =
    let place = c.loop-place.place in
    let key = c.args.key.now in
    let write_at : ℕ → Write = λ p. record { place = p; value = leaf_word key c.args.value p } in
    let word : c.leaf_word-value.result ≡ leaf_word key c.args.value place = c.leaf_word-value.ensures in
    record {
      few = omega (arith, c.push.ensures.len, c.loop-place.invariant.few);
      items =
          c.push.ensures.items
          ∙ ap (λ (v : ℕ). c.loop-place.writes.items ++ record { place = place; value = v } ∷ []) word
          ∙ ap (λ (ws : List Write). ws ++ write_at place ∷ []) c.loop-place.invariant.items
          ∙ sym (map-range_with_len_more write_at 0 place place (omega arith));
    }

pub returns-clause-leaf : goal.returns-clause-leaf
returns-clause-leaf c = λ w.
    let all : c.loop-place.place ≡ 10 = omega (arith, c.loop-place-test.false, c.loop-place.auto.place-end) in
    let writes : c.loop-place.writes.items ≡ leaf_writes c.args.key.now c.args.value = c.loop-place.invariant.items ∙ ap (λ (n : ℕ). map (λ p. record { place = p; value = leaf_word c.args.key.now c.args.value p }) (range_with_len 0 n)) all in
    subst (λ (ws : List Write). IsLeaf (written w ws) c.args.key.now c.args.value) (sym writes) (leaf_is_written w c.args.key.now c.args.value (λ i. omega (arith, c.type_inv.key i)) c.requires)
