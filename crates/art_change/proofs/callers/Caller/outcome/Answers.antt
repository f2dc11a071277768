use Rattle.std.proofs.Common.{◌<◌, ◌∙◌, ℕ, List, Option, get_or, arith, ap, rules, subst, sym}
use Rattle.art_change.proofs.Sought.{seek_called}
use Rattle.art_change.proofs.Written.{write_called}
use Rattle.art_change.proofs.callers.Caller.outcome.Goals as goal
use Rattle.art_change.specs.Calls.{GoesOn, HasCalled, restarts_in, restarts_of}
use Rattle.art_change.specs.Outcomes.{of_seek, of_write}
use Rattle.art_change.specs.declared.callers.Call.{Call}
use Rattle.art_change.specs.declared.outcomes.Outcome.{Outcome}
use Rattle.art_look.specs.declared.looks.Seen.{Seen}
use Rattle.art_look.specs.Seeks.{seen_at}

pub returns-in_ok-ended-in-Write-clause-called : goal.returns-in_ok-ended-in-Write-clause-called
returns-in_ok-ended-in-Write-clause-called c z w given turns u v calling =
    let a = c.args.self.now in
    let m = c.in-Write.write in
    let o = c.in_ok-ended-in-Write.field-0 in
    let e = c.in_ok-ended-in-Write.ensures in
    let on = subst (λ (k : Call). GoesOn z w turns u a k v) c.in-Write.is calling.goes_on in
    let few = calling.few in
    subst (λ (x : Outcome). HasCalled z w given turns (restarts_in a) u a x v) (sym c.of_write.ensures)
    (subst (λ (n : ℕ). HasCalled z w given turns n u a (of_write o) v) (sym (ap restarts_of c.in-Write.is))
    (write_called z u a m v o (record { answered = e.answered; counted = e.counted; grounds = e.grounds; ready = e.ready }) w given turns on (omega (arith, few))))

pub returns-in_ok-ended-in-Seek-clause-called : goal.returns-in_ok-ended-in-Seek-clause-called
returns-in_ok-ended-in-Seek-clause-called c z w given turns u v calling =
    let a = c.args.self.now in
    let m = c.in-Seek.seek in
    let o = c.in_ok-ended-in-Seek.field-0 in
    let on = subst (λ (k : Call). GoesOn z w turns u a k v) c.in-Seek.is calling.goes_on in
    let few = calling.few in
    let bytes : (i : ℕ) → get_or c.as_slice-key.result.now i 0 < 256 = search rules in
    let small = subst (λ (k : List ℕ). (i : ℕ) → get_or k i 0 < 256) c.as_slice-key.ensures.value bytes in
    let seen = c.seen-seen.ensures.at ∙ ap (λ (k : List ℕ). seen_at m k a.hi a.path_buffer) c.as_slice-key.ensures.value in
    subst (λ (x : Outcome). HasCalled z w given turns (restarts_in a) u a x v) (sym (c.of_seek.ensures ∙ ap (λ (s : Option Seen). of_seek o s) seen))
    (subst (λ (n : ℕ). HasCalled z w given turns n u a (of_seek o (seen_at m a.key.items a.hi a.path_buffer)) v) (sym (ap restarts_of c.in-Seek.is))
    (seek_called z u a m v o (sym c.ended-in-Seek.ensures.at ∙ c.in_ok-ended-in-Seek.was) w given turns c.in-Seek.is small on (omega (arith, few))))
