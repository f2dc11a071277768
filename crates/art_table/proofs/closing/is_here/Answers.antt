use Rattle.std.proofs.Common.{◌∙◌, refl, sym, ap, subst, arith}
use Rattle.std.proofs.lemmas.Bool.{false≢true}
use Rattle.std.proofs.lemmas.List.{take_all}
use Rattle.art_step.specs.Views.{Member}
use Rattle.art_table.proofs.Here.{here_more, member_at}
use Rattle.art_table.proofs.closing.is_here.Goals as goal
use Rattle.art_table.specs.Closing.{IsHere}
use Rattle.art_table.specs.Tables.{number_of}
use Rattle.art_table.specs.declared.passes.Pass.{Pass}

pub returns-then-number : goal.returns-then-number
returns-then-number c =
    let p = c.pass-item.result in
    let low = c.loop-pass-test.true in
    (λ _. (p, subst (λ (x : Pass). Member x c.args.passes.now) (sym c.pass-item.is) (member_at c.args.passes.now c.loop-pass.pass-index p (omega (arith, low))), sym c.number.ensures ∙ c.if-number.true), λ _. refl)

pub loop-pass-preserved : goal.loop-pass-preserved
loop-pass-preserved c =
    let low = c.loop-pass-test.true in
    here_more c.args.number c.args.passes.now c.loop-pass.pass-index c.pass-item.result (omega (arith, low)) c.loop-pass.invariant
    (λ e. c.if-number.false (c.number.ensures ∙ (ap number_of c.pass-item.is ∙ e)))

pub returns : goal.returns
returns c =
    let i = c.loop-pass.invariant in
    let all = c.loop-pass-test.false in
    (λ no_bool. absurd (false≢true no_bool), λ here. absurd (i (subst (IsHere c.args.number) (sym (take_all c.loop-pass.pass-index c.args.passes.now (omega (arith, all)))) here)))
