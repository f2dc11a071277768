-- The words of this node, and then those of the copy.
use Rattle.std.proofs.Common.{◌≡◌, Bool, true, false, [], refl, sym, ap, ◌∙◌, subst}
use Rattle.std.specs.Prelude.{None}
use Rattle.art_plan.proofs.Written.{both_filled, copy_is_next}
use Rattle.art_plan.specs.Apply.{Fits, IsLocking, at_fill, claim_of}
use Rattle.art_plan.specs.declared.apply.Apply.TheVariants.{Filling}
use Rattle.art_plan.specs.Changes.{filled_at, targets}
use Rattle.art_plan.specs.Whole.{filled_ends, made_at}
use Rattle.art_step.specs.declared.views.Sizes.{Sizes}
use Rattle.art_plan.proofs.apply.fill_all.Goals as goal

pub fill-requires : goal.fill-requires
fill-requires g c =
    let z = g.S.Steps.sizes c.args.steps.now in
    let v = g.S.Steps.view c.args.steps.now in
    let t = c.fill-filled.new.steps in
    let w = g.S.Steps.view t in
    let ch = c.args.change.now in
    let q = c.requires.fits in
    let first = c.fill-filled.ensures in
    let now : Fits z ch (Filling false c.args.place) q.0 v = subst (λ (b : Bool). Fits z ch (Filling b c.args.place) q.0 v) c.if-copy.false q.1 in
    let locking = subst (λ (b : Bool). IsLocking q.0 ch (targets ch) [] (at_fill ch b (filled_ends ch b)) w) c.if-copy.false (first.filled z q.0 q.1) in
    let next = copy_is_next z q.0 v w ch c.args.place c.fill-filled.result c.in-Some.field-0 (sym c.copied.ensures ∙ c.in-Some.is) now first.made (first.count ∙ ap (filled_ends ch) c.if-copy.false) locking in
    record { fits = (q.0, subst (λ (y : Sizes). Fits y ch (Filling true 1) q.0 w) (sym (g.met.S.Steps.only_sizes c.args.steps.now t first.only)) next) }

pub returns-then-copy-clause-filled : goal.returns-then-copy-clause-filled
returns-then-copy-clause-filled g c z u fits =
    let w = g.S.Steps.view c.fill-filled.new.steps in
    let ch = c.args.change.now in
    both_filled u w ch (filled_ends ch true) refl
    (subst (λ (b : Bool). IsLocking u ch (targets ch) [] (at_fill ch b (filled_ends ch b)) w) c.if-copy.true (c.fill-filled.ensures.filled z u fits))

pub returns-in-Some-clause-filled : goal.returns-in-Some-clause-filled
returns-in-Some-clause-filled g c z u fits =
    let v = g.S.Steps.view c.args.steps.now in
    let w = g.S.Steps.view c.fill-filled.new.steps in
    let x = g.S.Steps.view c.fill.new.steps in
    let ch = c.args.change.now in
    let first = c.fill-filled.ensures in
    let now : Fits z ch (Filling false c.args.place) u v = subst (λ (b : Bool). Fits z ch (Filling b c.args.place) u v) c.if-copy.false fits in
    let locking = subst (λ (b : Bool). IsLocking u ch (targets ch) [] (at_fill ch b (filled_ends ch b)) w) c.if-copy.false (first.filled z u fits) in
    let next = copy_is_next z u v w ch c.args.place c.fill-filled.result c.in-Some.field-0 (sym c.copied.ensures ∙ c.in-Some.is) now first.made (first.count ∙ ap (filled_ends ch) c.if-copy.false) locking in
    both_filled u x ch (filled_ends ch true) refl (c.fill.ensures.filled z u next)

pub returns-in-None-clause-filled : goal.returns-in-None-clause-filled
returns-in-None-clause-filled g c z u fits =
    let w = g.S.Steps.view c.fill-filled.new.steps in
    let ch = c.args.change.now in
    let none : made_at true ch ≡ None = sym c.copied.ensures ∙ c.in-None.is in
    both_filled u w ch (claim_of (made_at true ch)) (ap claim_of none ∙ sym (ap (filled_at ch) none))
    (subst (λ (b : Bool). IsLocking u ch (targets ch) [] (at_fill ch b (filled_ends ch b)) w) c.if-copy.false (c.fill-filled.ensures.filled z u fits))
