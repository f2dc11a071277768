-- The steps are those of the machine.
use Rattle.std.proofs.Common.{◌≢◌, ◌∙◌, None, sym, subst, arith}
use Rattle.std.proofs.lemmas.Bool.{eqb-false}
use Rattle.art_attempt.proofs.Spending.{spends_none, spends_one}
use Rattle.art_attempt.proofs.Reserves.{asks_next, asks_word, next_row, one_written, packed_next}
use Rattle.art_attempt.specs.Reserve.{Fits}
use Rattle.art_attempt.specs.declared.reserve.Reserve.TheVariants.{LeafWriter as packed}
use Rattle.art_attempt.specs.declared.reserve.Demand.{Demand}
use Rattle.art_epoch.specs.LeafWriter.{word_asked}
use Rattle.art_step.specs.Acting.{Answers}
use Rattle.art_step.specs.declared.views.Sizes.{Sizes}
use Rattle.art_step.specs.declared.views.View.{View}
use Rattle.art_attempt.proofs.reserve.Reserve.pack_on.Goals as goal

pub loop-left-preserved : goal.loop-left-preserved
loop-left-preserved g c =
    let i = c.loop-left.invariant in
    let z = g.S.Steps.sizes c.args.steps.now in
    let v = g.S.Steps.view c.loop-left.steps in
    let w = g.S.Steps.view c.perform.new.steps in
    let k = c.args.key.now in
    let value = c.args.value in
    let s = c.args.stock.now in
    let l = c.in-Some.leaf in
    let asked = c.in-Some-next.action in
    let p = c.loop-left.leaf_writer in
    let p' = c.told.new.self in
    let answer = c.perform.result in
    let row = subst (λ (y : Sizes). Answers y None c.in-Some-next.action c.perform.result v w) i.sizes c.perform.ensures.row in
    let is = asks_word k value s p l asked (sym c.leaf.ensures ∙ c.in-Some.is) (sym {b = word_asked l k value p.place} c.next.ensures.asks ∙ c.in-Some-next.is) in
    let before = eqb-false p.place 9 (sym c.is_at_last.ensures ∙ c.if-is_at_last.false) in
    let told = c.told.ensures.place in
    let other : p'.place ≢ 10 = omega (arith, before, told) in
    let on : (demand : Demand) (u : View) → Fits z demand k value (packed p) s u v → Fits z demand k value (packed p') s u w = λ demand u f.
    let q = f.stage.1 in
    let packs = c.told.ensures.fits z q.leaf k value q.early v w _ answer q.packs (asks_next z demand k value s u p v w f) (next_row z demand k value s u p v w f asked answer is row) in
    packed_next z demand k value s u p v w f asked answer is row p' packs other in
    let one = one_written z i.here.0 k value s i.here.1 p v w i.here.2 asked answer is row in
    record {
      only = g.met.S.Steps.only_then c.args.steps.now c.loop-left.steps c.perform.new.steps i.only c.perform.ensures.only;
      sizes = g.met.S.Steps.only_sizes c.loop-left.steps c.perform.new.steps c.perform.ensures.only ∙ i.sizes;
      turns = spends_one (g.S.Steps.view c.args.steps.now) v w c.args.left.now c.loop-left.left i.turns one c.loop-left-test.true;
      here = (i.here.0, i.here.1, on i.here.0 i.here.1 i.here.2);
      fits = λ demand u f. on demand u (i.fits demand u f);
    }

pub returns-in_default-clause-turns : goal.returns-in_default-clause-turns
returns-in_default-clause-turns g c = spends_none (g.S.Steps.view c.args.steps.now) c.args.left.now c.requires.some
