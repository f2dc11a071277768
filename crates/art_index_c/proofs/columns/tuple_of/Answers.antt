use Rattle.std.proofs.Common.{◌≡◌, ◌<◌, ◌≤◌, ◌+◌, ◌∙◌, List, length, drop, ap, arith, rules, sym, Err, Ok}
use Rattle.std.proofs.lemmas.List.{length_push}
use Rattle.art_model.specs.declared.values.Value.{Value}
use Rattle.art_index_c.specs.Columns.{values_of}
use Rattle.art_index_c.proofs.Said.{before, tuple_of-few, tuple_of-many, values_of-bad, values_of-end, values_of-good}
use Rattle.art_index_c.proofs.columns.tuple_of.Goals as goal

pub returns-then-columns-gt8 : goal.returns-then-columns-gt8
returns-then-columns-gt8 c = sym (tuple_of-many c.args.columns.now (omega arith))

pub returns-in_err-value : goal.returns-in_err-value
returns-in_err-value c =
    let i = c.loop-place.place in let cs = c.args.columns.now in let f = c.in_err-value.field-0.0 in
    let lt : i < length cs = omega arith in let few : length cs ≤ 8 = omega arith in
    let is : c.from_residual.result ≡ Err f = search rules in
    is ∙ sym (tuple_of-few cs (Err f) few
    (sym c.loop-place.invariant.values ∙ values_of-bad c.loop-place.tuple.items cs i _ f lt (sym c.in_err-value.ensures)))

pub loop-place-preserved : goal.loop-place-preserved
loop-place-preserved c =
    let i = c.loop-place.place in let cs = c.args.columns.now in let vs = c.loop-place.tuple.items in let v = c.in_ok-value.value in
    let lt : i < length cs = omega arith in
    record {
      count = omega (arith, ap length c.push.ensures.items, length_push vs v);
      values = ap (λ (ws : List Value). before ws (values_of (i + 1) (drop (i + 1) cs))) c.push.ensures.items
          ∙ (values_of-good vs cs i _ v lt (sym c.in_ok-value.ensures) ∙ c.loop-place.invariant.values);
    }

pub returns : goal.returns
returns c =
    let cs = c.args.columns.now in let vs = c.loop-place.tuple.items in
    let few : length cs ≤ 8 = omega arith in let all : length cs ≤ c.loop-place.place = omega arith in
    sym (tuple_of-few cs (Ok vs) few (sym c.loop-place.invariant.values ∙ values_of-end vs cs c.loop-place.place all))
