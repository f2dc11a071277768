use Rattle.std.proofs.Common.{◌∙◌, Some, ap, inl, inr, refl, rules}
use Rattle.art_server.specs.ArtRefusal.declared.refusals.Refusal.TheVariants.{BadConfig}
use Rattle.art_tools.proofs.Performed.{begins, of_serve, of_step, out_of_range, outputs, reads_all, ready, refuses_schema, tells_schema, used_told}
use Rattle.art_tools.proofs.Runs.{five_tells, seven_tells, six_tells, status_tells, three_tells, zero_tells}
use Rattle.art_tools.proofs.Stepped.{nothing_read, status_of_fault}
use Rattle.art_tools.specs.Settings.{asked_of}
use Rattle.art_tools.specs.Statuses.{fault_in, status_told}
use Rattle.art_tools.specs.declared.run_faults.RunFault.TheVariants.{NoMemory, Refused}
use Rattle.art_tools.proofs.program.execute.Goals as goal

pub perform-ended-requires : goal.perform-ended-requires
perform-ended-requires g c = (search rules, ready (asked_of c.args.words.now) _ c.in-Ok.asked c.in-Ok.ensures.asked c.in-Ok.ensures.refused.1)

pub returns-in-Ok-clause-schema : goal.returns-in-Ok-clause-schema
returns-in-Ok-clause-schema g c = λ fault right other is.
    let r = c.perform-ended.result in
    let told = tells_schema _ _ _ _ (fault_in r) (asked_of c.args.words.now) _ c.in-Ok.asked fault is other c.in-Ok.ensures.asked
    c.perform-ended.ensures.does in
    inl (c.status.ensures.of ∙ (status_of_fault r ∙ ap status_told told))

pub returns-in-Ok-clause-refused : goal.returns-in-Ok-clause-refused
returns-in-Ok-clause-refused g c = λ three.
    let r = c.perform-ended.result in
    let told = three_tells (fault_in r) (status_tells r _ 3 c.status.ensures.of three) in (
      c.in-Ok.ensures.refused.0,
      inr (refuses_schema _ _ _ _ (fault_in r) (asked_of c.args.words.now) _ c.in-Ok.asked told.0 told.1
          c.in-Ok.ensures.refused.1 c.in-Ok.ensures.asked c.perform-ended.ensures.does),
    )

pub returns-in-Ok-clause-ended : goal.returns-in-Ok-clause-ended
returns-in-Ok-clause-ended g c = λ right lines zero.
    let r = c.perform-ended.result in
    let told = zero_tells (fault_in r) (status_tells r _ 0 c.status.ensures.of zero) in
    reads_all _ _ _ _ (fault_in r) (asked_of c.args.words.now) _ c.in-Ok.asked told lines c.in-Ok.ensures.asked c.perform-ended.ensures.does

pub returns-in-Ok-clause-ran : goal.returns-in-Ok-clause-ran
returns-in-Ok-clause-ran g c = λ right run zero.
    let r = c.perform-ended.result in
    let told = zero_tells (fault_in r) (status_tells r _ 0 c.status.ensures.of zero) in
    outputs _ _ _ _ (fault_in r) (asked_of c.args.words.now) _ c.in-Ok.asked told run c.in-Ok.ensures.asked c.perform-ended.ensures.does

pub returns-in-Ok-clause-performs : goal.returns-in-Ok-clause-performs
returns-in-Ok-clause-performs g c = λ right.
    let r = c.perform-ended.result in (
      fault_in r,
      inl (begins _ _ _ _ (fault_in r) c.args.words.now (asked_of c.args.words.now) c.in-Ok.asked c.in-Ok.ensures.asked c.perform-ended.ensures.does),
      c.status.ensures.of ∙ status_of_fault r,
      c.perform-ended.ensures.reads,
    )

pub returns-in-Ok-clause-reads : goal.returns-in-Ok-clause-reads
returns-in-Ok-clause-reads g c = c.perform-ended.ensures.adds

pub returns-in-Ok-clause-used : goal.returns-in-Ok-clause-used
returns-in-Ok-clause-used g c = λ five.
    let r = c.perform-ended.result in
    used_told (fault_in r) _ _ (five_tells (fault_in r) (status_tells r _ 5 c.status.ensures.of five)) c.perform-ended.ensures.reads

pub returns-in-Ok-clause-line : goal.returns-in-Ok-clause-line
returns-in-Ok-clause-line g c = λ six.
    let r = c.perform-ended.result in
    let told = six_tells (fault_in r) (status_tells r _ 6 c.status.ensures.of six) in (
      c.in-Ok.ensures.refused.0,
      of_step _ _ _ _ (fault_in r) (asked_of c.args.words.now) _ c.in-Ok.asked told.0 told.1
          c.in-Ok.ensures.asked c.perform-ended.ensures.does,
    )

pub returns-in-Ok-clause-listener : goal.returns-in-Ok-clause-listener
returns-in-Ok-clause-listener g c = λ seven.
    let r = c.perform-ended.result in
    let told = seven_tells (fault_in r) (status_tells r _ 7 c.status.ensures.of seven) in (
      c.in-Ok.ensures.refused.0,
      of_serve _ _ _ _ (fault_in r) (asked_of c.args.words.now) _ c.in-Ok.asked told
          c.in-Ok.ensures.asked c.perform-ended.ensures.does,
    )

pub returns-in-Err-Range-clause-performs : goal.returns-in-Err-Range-clause-performs
returns-in-Err-Range-clause-performs g c = λ right.
    let why = out_of_range _ _ _ c.in-Err-Range.field-0-is c.in-Err-Range.ensures.refused in
    (Some (Refused BadConfig), inr (nothing_read _ _, inr (refl, why)), c.status-in-Err-Range.ensures.of, tt)

pub returns-in-Err-NoMemory-clause-performs : goal.returns-in-Err-NoMemory-clause-performs
returns-in-Err-NoMemory-clause-performs g c = λ right.
    (Some NoMemory, inr (nothing_read _ _, inl refl), c.status-in-Err-NoMemory.ensures.of, tt)
