use Rattle.std.proofs.Common.{◌∙◌, ap, inl, inr, sym, arith}
use Rattle.art_scan.proofs.Begun.{bad_range, high_limit, in_order, no_fault, no_limit}
use Rattle.art_scan.proofs.tilings.Tiling.new.Goals as goal
use Rattle.art_tree.specs.Looks.{after}

pub returns-then-not-before-clause-fault : goal.returns-then-not-before-clause-fault
returns-then-not-before-clause-fault c =
    let lo = c.in_ok-encode.ensures.key in
    let hi = c.in_ok-encode-2.ensures.key in
    let end_is = c.after-end.ensures ∙ ap after c.as_slice.ensures.value in
    bad_range c.args.schema.now c.args.lo.now c.args.hi.now c.args.limit lo.stands hi.stands
    (in_order c.args.schema.now c.args.lo.now c.args.hi.now lo.stands hi.stands c.in_ok-encode.field-0 c.in_ok-encode-2.field-0 c.after-end.result lo.spelled hi.spelled end_is ∙ (sym c.before-2.ensures ∙ c.if-not-before.true))

pub returns-then-limit-eq0-clause-fault : goal.returns-then-limit-eq0-clause-fault
returns-then-limit-eq0-clause-fault c =
    let lo = c.in_ok-encode.ensures.key in
    let hi = c.in_ok-encode-2.ensures.key in
    let end_is = c.after-end.ensures ∙ ap after c.as_slice.ensures.value in
    let order = in_order c.args.schema.now c.args.lo.now c.args.hi.now lo.stands hi.stands c.in_ok-encode.field-0 c.in_ok-encode-2.field-0 c.after-end.result lo.spelled hi.spelled end_is ∙ (sym c.before-2.ensures ∙ c.if-not-before.false) in
    elim c.then-limit-eq0.either [
      | inl none ↦ no_limit c.args.schema.now c.args.lo.now c.args.hi.now c.args.limit lo.stands hi.stands order none
      | inr many ↦ high_limit c.args.schema.now c.args.lo.now c.args.hi.now c.args.limit lo.stands hi.stands order many.1
    ]

pub returns-clause-none : goal.returns-clause-none
returns-clause-none c =
    let lo = c.in_ok-encode.ensures.key in
    let hi = c.in_ok-encode-2.ensures.key in
    let end_is = c.after-end.ensures ∙ ap after c.as_slice.ensures.value in
    let order = in_order c.args.schema.now c.args.lo.now c.args.hi.now lo.stands hi.stands c.in_ok-encode.field-0 c.in_ok-encode-2.field-0 c.after-end.result lo.spelled hi.spelled end_is ∙ (sym c.before-2.ensures ∙ c.if-not-before.false) in
    no_fault c.args.schema.now c.args.lo.now c.args.hi.now c.args.limit lo.stands hi.stands order (omega (arith, c.if-limit-eq0.false)) (omega (arith, c.if-limit-gt-ROWS.false))
