-- Words are written, and then one step is asked for, made and told.
use Rattle.std.proofs.Common.{◌≡◌, ◌∙◌, ℕ, List, None, Some, inl, inr, refl, sym, subst, arith}
use Rattle.art_epoch.specs.declared.stocks.Stock.{Stock}
use Rattle.art_attempt.proofs.Asked.{not_none, supply_asks_supply, supply_steps}
use Rattle.art_attempt.proofs.Spending.{spends_none, spends_on, spends_one}
use Rattle.art_attempt.specs.Reserve.{Fits, asks, ended_at}
use Rattle.art_attempt.specs.declared.reserve.Demand.{Demand}
use Rattle.art_attempt.specs.declared.reserve.Reserve.{Reserve}
use Rattle.art_attempt.specs.declared.reserve.Reserved.{Reserved}
use Rattle.art_step.specs.Acting.{Answers, IsAllowed}
use Rattle.art_step.specs.declared.views.Sizes.{Sizes}
use Rattle.art_step.specs.declared.views.View.{View}
use Rattle.art_attempt.proofs.reserve.Reserve.run.Goals as goal

pub loop-left-init : goal.loop-left-init
loop-left-init g c =
    record {
      only = g.met.S.Steps.only_same c.args.steps.now;
      sizes = refl;
      turns = spends_none (g.S.Steps.view c.args.steps.now) c.args.left.now c.requires.some;
      keeps = λ has. has;
      here = c.requires.fits;
      fits = λ u fits. fits;
    }

pub pack_on-requires-clause-fits : goal.pack_on-requires-clause-fits
pack_on-requires-clause-fits g c =
    let i = c.loop-left.invariant in
    let l = c.loop-left in
    (c.args.demand.now, i.here.0, subst (λ (y : Sizes). Fits y c.args.demand.now c.args.key.now c.args.value l.self l.stock i.here.0 (g.S.Steps.view l.steps)) (sym i.sizes) i.here.1)

-- what the reserve knew it knows after the words that were written, where their carrier has the same sizes
packs : (y z : Sizes) (demand : Demand) (k : List ℕ) (value : ℕ) (m m' : Reserve) (s : Stock) (v w : View) → y ≡ z
    → ((d : Demand) (u : View) → Fits y d k value m s u v → Fits y d k value m' s u w) → (u : View) → Fits z demand k value m s u v → Fits z demand k value m' s u w
packs y z demand k value m m' s v w is packed = subst (λ (x : Sizes). (u : View) → Fits x demand k value m s u v → Fits x demand k value m' s u w) is (packed demand)

pub returns-then-left-eq1-clause-only : goal.returns-then-left-eq1-clause-only
returns-then-left-eq1-clause-only g c =
    g.met.S.Steps.only_then c.args.steps.now c.loop-left.steps c.pack_on.new.steps c.loop-left.invariant.only c.pack_on.ensures.only

pub returns-then-left-eq1-clause-turns : goal.returns-then-left-eq1-clause-turns
returns-then-left-eq1-clause-turns g c =
    spends_on (g.S.Steps.view c.args.steps.now) (g.S.Steps.view c.loop-left.steps) (g.S.Steps.view c.pack_on.new.steps) c.args.left.now c.loop-left.left c.pack_on.new.left
    c.loop-left.invariant.turns c.pack_on.ensures.turns

pub returns-then-left-eq1-clause-last : goal.returns-then-left-eq1-clause-last
returns-then-left-eq1-clause-last g c = inr c.if-left-eq1.true

pub returns-then-left-eq1-clause-fits : goal.returns-then-left-eq1-clause-fits
returns-then-left-eq1-clause-fits g c u fits =
    let z = g.S.Steps.sizes c.args.steps.now in
    let l = c.loop-left in
    packs (g.S.Steps.sizes l.steps) z c.args.demand.now c.args.key.now c.args.value l.self c.pack_on.new.self l.stock (g.S.Steps.view l.steps) (g.S.Steps.view c.pack_on.new.steps)
    l.invariant.sizes c.pack_on.ensures.fits u (l.invariant.fits u fits)

-- nothing is asked for any more
pub returns-in_default-clause-only : goal.returns-in_default-clause-only
returns-in_default-clause-only g c =
    g.met.S.Steps.only_then c.args.steps.now c.loop-left.steps c.pack_on.new.steps c.loop-left.invariant.only c.pack_on.ensures.only

pub returns-in_default-clause-turns : goal.returns-in_default-clause-turns
returns-in_default-clause-turns g c =
    spends_on (g.S.Steps.view c.args.steps.now) (g.S.Steps.view c.loop-left.steps) (g.S.Steps.view c.pack_on.new.steps) c.args.left.now c.loop-left.left c.pack_on.new.left
    c.loop-left.invariant.turns c.pack_on.ensures.turns

pub returns-in_default-clause-fits : goal.returns-in_default-clause-fits
returns-in_default-clause-fits g c u fits =
    let z = g.S.Steps.sizes c.args.steps.now in
    let l = c.loop-left in
    packs (g.S.Steps.sizes l.steps) z c.args.demand.now c.args.key.now c.args.value l.self c.pack_on.new.self l.stock (g.S.Steps.view l.steps) (g.S.Steps.view c.pack_on.new.steps)
    l.invariant.sizes c.pack_on.ensures.fits u (l.invariant.fits u fits)

pub returns-in_default-clause-last : goal.returns-in_default-clause-last
returns-in_default-clause-last g c =
    let z = g.S.Steps.sizes c.args.steps.now in
    let l = c.loop-left in
    let i = l.invariant in
    let m = c.pack_on.new.self in
    let v = g.S.Steps.view c.pack_on.new.steps in
    let here = packs (g.S.Steps.sizes l.steps) z c.args.demand.now c.args.key.now c.args.value l.self m l.stock (g.S.Steps.view l.steps) v i.sizes c.pack_on.ensures.fits i.here.0 i.here.1 in
    inl (not_none {A = Reserved} (ended_at m) (λ (going : ended_at m ≡ None).
    let next = c.next.ensures.going z i.here.0 v c.args.demand.now here going in
    cc))

pub perform-answer-requires-clause-allowed : goal.perform-answer-requires-clause-allowed
perform-answer-requires-clause-allowed g c =
    let z = g.S.Steps.sizes c.args.steps.now in
    let l = c.loop-left in
    let i = l.invariant in
    let m = c.pack_on.new.self in
    let v = g.S.Steps.view c.pack_on.new.steps in
    let same = g.met.S.Steps.only_sizes l.steps c.pack_on.new.steps c.pack_on.ensures.only ∙ i.sizes in
    let here = packs (g.S.Steps.sizes l.steps) z c.args.demand.now c.args.key.now c.args.value l.self m l.stock (g.S.Steps.view l.steps) v i.sizes c.pack_on.ensures.fits i.here.0 i.here.1 in
    subst (λ (y : Sizes). IsAllowed y None v c.in-Some.asked) (sym same) (c.in-Some.ensures.allowed z i.here.0 v c.args.demand.now here)

pub told-requires : goal.told-requires
told-requires g c =
    let z = g.S.Steps.sizes c.args.steps.now in
    let l = c.loop-left in
    let i = l.invariant in
    let m = c.pack_on.new.self in
    let v = g.S.Steps.view c.pack_on.new.steps in
    let w = g.S.Steps.view c.perform-answer.new.steps in
    let same = g.met.S.Steps.only_sizes l.steps c.pack_on.new.steps c.pack_on.ensures.only ∙ i.sizes in
    let here = packs (g.S.Steps.sizes l.steps) z c.args.demand.now c.args.key.now c.args.value l.self m l.stock (g.S.Steps.view l.steps) v i.sizes c.pack_on.ensures.fits i.here.0 i.here.1 in
    let row = subst (λ (y : Sizes). Answers y None c.in-Some.asked c.perform-answer.result v w) same c.perform-answer.ensures.row in
    (z, c.args.key.now, c.args.value, i.here.0, v, w, c.in-Some.asked, here, sym {b = asks c.args.key.now c.args.value l.stock m} c.next.ensures.asks ∙ c.in-Some.is, row)

pub loop-left-preserved : goal.loop-left-preserved
loop-left-preserved g c =
    let s = c.args.steps.now in
    let l = c.loop-left in
    let i = l.invariant in
    let t = c.pack_on.new.steps in
    let z = g.S.Steps.sizes s in
    let v = g.S.Steps.view t in
    let w = g.S.Steps.view c.perform-answer.new.steps in
    let demand = c.args.demand.now in
    let k = c.args.key.now in
    let value = c.args.value in
    let m = c.pack_on.new.self in
    let a = c.in-Some.asked in
    let r = c.perform-answer.result in
    let same = g.met.S.Steps.only_sizes l.steps t c.pack_on.ensures.only ∙ i.sizes in
    let packed = packs (g.S.Steps.sizes l.steps) z demand k value l.self m l.stock (g.S.Steps.view l.steps) v i.sizes c.pack_on.ensures.fits in
    let is : asks k value l.stock m ≡ Some a = sym {b = asks k value l.stock m} c.next.ensures.asks ∙ c.in-Some.is in
    let row : Answers z None a r v w = subst (λ (y : Sizes). Answers y None a r v w) same c.perform-answer.ensures.row in
    let may = c.in-Some.ensures.allowed z i.here.0 v demand (packed i.here.0 i.here.1) in
    let one = supply_steps z a r v w (supply_asks_supply k value l.stock m a is) may row in
    let so_far = spends_on (g.S.Steps.view s) (g.S.Steps.view l.steps) v c.args.left.now l.left c.pack_on.new.left i.turns c.pack_on.ensures.turns in
    let other = c.if-left-eq1.false in
    let some = c.pack_on.ensures.turns.some in
    let on : (u : View) → Fits z demand k value m l.stock u v → Fits z demand k value c.told.new.self c.told.new.stock u w = λ u fits. c.told.ensures.fits z k value u v w a fits is row in
    record {
      only = g.met.S.Steps.only_then s t c.perform-answer.new.steps (g.met.S.Steps.only_then s l.steps t i.only c.pack_on.ensures.only) c.perform-answer.ensures.only;
      sizes = g.met.S.Steps.only_sizes t c.perform-answer.new.steps c.perform-answer.ensures.only ∙ same;
      turns = spends_one (g.S.Steps.view s) v w c.args.left.now c.pack_on.new.left so_far one (omega (arith, other, some));
      keeps = λ has. c.told.ensures.keeps (i.keeps has);
      here = (i.here.0, on i.here.0 (packed i.here.0 i.here.1));
      fits = λ u fits. on u (packed u (i.fits u fits));
    }
