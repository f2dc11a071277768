-- A cell is read on, or what is left is asked for step by step.
use Rattle.std.proofs.Common.{◌∙◌, ℕ, List, sym, subst, arith}
use Rattle.art_attempt.proofs.Asked.{look_stays, look_steps, same_found, some_deed, validate_looks}
use Rattle.art_attempt.proofs.Spending.{spends_on, spends_one}
use Rattle.art_attempt.proofs.Validates.{node_then}
use Rattle.art_attempt.specs.Validate.{Fits}
use Rattle.art_attempt.specs.declared.validate.Validate.{Validate}
use Rattle.art_attempt.specs.declared.validate.Validate.TheVariants.{Read}
use Rattle.art_step.specs.Acting.{Answers, telling}
use Rattle.art_step.specs.declared.deeds.Deed.{Deed}
use Rattle.art_step.specs.declared.views.Sizes.{Sizes}
use Rattle.art_step.specs.declared.views.View.{View}
use Rattle.art_attempt.proofs.validate.Validate.run.Goals as goal

pub loop-left-preserved-in-Read : goal.loop-left-preserved-in-Read
loop-left-preserved-in-Read g c =
    let s = c.args.steps.now in
    let l = c.loop-left in
    let t = l.steps in
    let n = c.read_cell.new.steps in
    let v = g.S.Steps.view t in
    let w = g.S.Steps.view n in
    let p = c.args.position.now in
    let o = c.args.cells.now in
    let i = l.invariant in
    let e = c.read_cell.ensures in
    let reads = Read c.in-Read.role c.in-Read.rereading in
    let on : (k : List ℕ) (u : View) → Fits (g.S.Steps.sizes s) k p o l.self l.read_set l.lower u v → Fits (g.S.Steps.sizes s) k p o c.read_cell.result c.read_cell.new.read_set c.read_cell.new.lower u w = (λ k u fits.
    subst (λ (z : Sizes). Fits z k p o c.read_cell.result c.read_cell.new.read_set c.read_cell.new.lower u w) i.sizes
    (e.fits k u (subst (λ (z : Sizes). Fits z k p o reads l.read_set l.lower u v) (sym i.sizes)
    (subst (λ (m : Validate). Fits (g.S.Steps.sizes s) k p o m l.read_set l.lower u v) c.in-Read.is fits)))) in
    record {
      only = g.met.S.Steps.only_then s t n i.only e.only;
      sizes = g.met.S.Steps.only_sizes t n e.only ∙ i.sizes;
      turns = spends_on (g.S.Steps.view s) v w c.args.left.now l.left c.read_cell.new.left i.turns e.turns;
      found = λ x there. same_found v w e.found x (i.found x there);
      node = node_then p c.args.read_set.now l.read_set c.read_cell.new.read_set i.node e.node;
      now = (i.now.0, i.now.1, on i.now.0 i.now.1 i.now.2);
      fits = λ k u fits. on k u (i.fits k u fits);
    }

pub loop-left-preserved : goal.loop-left-preserved
loop-left-preserved g c =
    let s = c.args.steps.now in
    let l = c.loop-left in
    let t = l.steps in
    let z = g.S.Steps.sizes s in
    let v = g.S.Steps.view t in
    let w = g.S.Steps.view c.look.new.steps in
    let i = l.invariant in
    let p = c.args.position.now in
    let o = c.args.cells.now in
    let m = l.self in
    let a = c.in-Some.asked in
    let r = c.in-Some-look.answer in
    let row : (d : Deed) → Answers z (telling d) a r v w = λ (d : Deed). subst (λ (y : Sizes). Answers y (telling d) a r v w) i.sizes (c.in-Some-look.ensures.row d) in
    let is = sym c.next.ensures.asks ∙ c.in-Some.is in
    let looks = validate_looks p o m a is in
    let on : (k : List ℕ) (u : View) → Fits z k p o m l.read_set l.lower u v → Fits z k p o c.told.new.self c.told.new.read_set c.told.new.lower u w = (λ k u fits.
    c.told.ensures.fits z k some_deed u v w a fits is (row some_deed)) in
    let stays = look_stays z a r v w looks row in
    let more = c.loop-left-test.true in
    record {
      only = g.met.S.Steps.only_then s t c.look.new.steps i.only c.look.ensures.only;
      sizes = g.met.S.Steps.only_sizes t c.look.new.steps c.look.ensures.only ∙ i.sizes;
      turns = spends_one (g.S.Steps.view s) v w c.args.left.now l.left i.turns (look_steps z a r v w looks row) (omega (arith, more));
      found = λ x there. stays x (i.found x there);
      node = node_then p c.args.read_set.now l.read_set c.told.new.read_set i.node c.told.ensures.node;
      now = (i.now.0, i.now.1, on i.now.0 i.now.1 i.now.2);
      fits = λ k u fits. on k u (i.fits k u fits);
    }
