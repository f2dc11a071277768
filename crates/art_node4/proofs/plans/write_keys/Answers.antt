use Rattle.std.proofs.Common.{◌^◌, ◌∙◌, arith, get_or-set_other}
use Rattle.art_node4.proofs.Writing.{keys_more, below_set}
use Rattle.art_node4.proofs.plans.write_keys.Goals as goal

pub loop-place-preserved : goal.loop-place-preserved
loop-place-preserved c =
    let words = c.loop-place.body.words in
    let place = c.loop-place.place in
    let word = c.key_word.result in
    record {
      keys = keys_more words c.args.list.now.items place word (omega arith) (omega arith) c.key_word.ensures c.loop-place.invariant.keys;
      before = λ p h. get_or-set_other words place p word 0 (λ e. omega arith) ∙ c.loop-place.invariant.before p h;
      after = λ p h. get_or-set_other words place p word 0 (λ e. omega arith) ∙ c.loop-place.invariant.after p (omega arith);
      fits = λ old p. below_set (2 ^ 64) words place word (omega arith) (c.loop-place.invariant.fits old) p;
      layout = c.loop-place.invariant.layout;
    }
