-- The words of the new nodes, then those of the targets.
use Rattle.std.proofs.Common.{◌≡◌, ◌-◌, length, refl, sym, ap, ◌∙◌, subst, arith}
use Rattle.std.proofs.lemmas.Option.{slice_get_within}
use Rattle.art_plan.proofs.Written.{few_fills, some_fills, writes_steps}
use Rattle.art_plan.specs.Apply.{Fits, words_left}
use Rattle.art_plan.specs.declared.apply.Apply.{Apply}
use Rattle.art_plan.specs.declared.apply.Apply.TheVariants.{Filling, Writing}
use Rattle.art_plan.specs.Whole.{IsWhole}
use Rattle.art_step.specs.declared.views.Sizes.{Sizes}
use Rattle.art_plan.proofs.apply.Apply.write_on.Goals as goal

pub put_from-put-requires-clause-planned : goal.put_from-put-requires-clause-planned
put_from-put-requires-clause-planned g c =
    let s = c.args.steps.now in
    let t = c.fill_all-filled.new.steps in
    let z = g.S.Steps.sizes s in
    let ch = c.args.change.now in
    let q = c.requires.fits in
    let now : Fits z ch (Filling c.in-Filling.copy c.in-Filling.place) q.0 (g.S.Steps.view s) = subst (λ (m : Apply). Fits z ch m q.0 (g.S.Steps.view s)) c.in-Filling.is q.1 in
    (q.0, subst (λ (y : Sizes). IsWhole y q.0 ch) (sym (g.met.S.Steps.only_sizes s t c.fill_all-filled.ensures.only)) now.planned, c.fill_all-filled.ensures.filled z q.0 now)

pub put_from-put-requires-in-Writing-clause-within :
    goal.put_from-put-requires-in-Writing-clause-within
put_from-put-requires-in-Writing-clause-within g c =
    let z = g.S.Steps.sizes c.args.steps.now in
    let v = g.S.Steps.view c.args.steps.now in
    let ch = c.args.change.now in
    let q = c.requires.fits in
    let now : Fits z ch (Writing c.in-Writing.index) q.0 v = subst (λ (m : Apply). Fits z ch m q.0 v) c.in-Writing.is q.1 in
    let low = slice_get_within ch.puts.items c.in-Writing.index now.stage.0.0 now.stage.0.1 in
    omega (arith, low)

pub returns-in-Filling-clause-fits : goal.returns-in-Filling-clause-fits
returns-in-Filling-clause-fits g c z u fits =
    let v = g.S.Steps.view c.args.steps.now in
    let ch = c.args.change.now in
    let now : Fits z ch (Filling c.in-Filling.copy c.in-Filling.place) u v = subst (λ (m : Apply). Fits z ch m u v) c.in-Filling.is fits in
    let mid = g.S.Steps.view c.fill_all-filled.new.steps in
    let filled = c.fill_all-filled.ensures in
    let put = c.put_from-put.ensures in
    record {
      planned = now.planned;
      small = now.small;
      stage = put.put z u now.planned (filled.filled z u now);
      steps =
          let few = few_fills ch c.in-Filling.copy c.in-Filling.place now.stage.1 in
          let words = now.small.puts in
          let before = now.steps in
          let count = filled.count in
          let more = put.count in
          let made = writes_steps v mid c.fill_all-filled.result filled.made in
          let then = writes_steps mid (g.S.Steps.view c.put_from-put.new.steps) c.put_from-put.result put.made in
          omega (arith, few, words, before, count, more, made, then);
    }

pub returns-in-Filling-clause-written : goal.returns-in-Filling-clause-written
returns-in-Filling-clause-written g c =
    let z = g.S.Steps.sizes c.args.steps.now in
    let v = g.S.Steps.view c.args.steps.now in
    let ch = c.args.change.now in
    let q = c.requires.fits in
    let now : Fits z ch (Filling c.in-Filling.copy c.in-Filling.place) q.0 v = subst (λ (m : Apply). Fits z ch m q.0 v) c.in-Filling.is q.1 in
    let low = some_fills ch c.in-Filling.copy c.in-Filling.place now.stage.1 in
    let filled = c.fill_all-filled.ensures.count in
    let count = c.put_from-put.ensures.count in
    record {
      count = sym (ap (words_left ch) c.in-Filling.is ∙ omega (arith, filled, count));
      some = λ more. refl;
      none = λ zero. absurd (omega (arith, zero, low, filled));
    }

pub returns-in-Writing-clause-written : goal.returns-in-Writing-clause-written
returns-in-Writing-clause-written g c =
    let z = g.S.Steps.sizes c.args.steps.now in
    let v = g.S.Steps.view c.args.steps.now in
    let ch = c.args.change.now in
    let q = c.requires.fits in
    let now : Fits z ch (Writing c.in-Writing.index) q.0 v = subst (λ (m : Apply). Fits z ch m q.0 v) c.in-Writing.is q.1 in
    let low = slice_get_within ch.puts.items c.in-Writing.index now.stage.0.0 now.stage.0.1 in
    let count = c.put_from-put-in-Writing.ensures.count in
    record {
      count = let left : length ch.puts.items - c.in-Writing.index ≡ c.put_from-put-in-Writing.result = omega (arith, count) in sym (ap (words_left ch) c.in-Writing.is ∙ left);
      some = λ more. refl;
      none = λ zero. absurd (omega (arith, zero, low, count));
    }

pub returns-in-Writing-clause-fits : goal.returns-in-Writing-clause-fits
returns-in-Writing-clause-fits g c z u fits =
    let v = g.S.Steps.view c.args.steps.now in
    let ch = c.args.change.now in
    let now : Fits z ch (Writing c.in-Writing.index) u v = subst (λ (m : Apply). Fits z ch m u v) c.in-Writing.is fits in
    let put = c.put_from-put-in-Writing.ensures in
    record {
      planned = now.planned;
      small = now.small;
      stage = put.put z u now.planned now.stage.1;
      steps =
          let words = now.small.puts in
          let before = now.steps in
          let more = put.count in
          let made = writes_steps v (g.S.Steps.view c.put_from-put-in-Writing.new.steps) c.put_from-put-in-Writing.result put.made in
          omega (arith, words, before, more, made);
    }
