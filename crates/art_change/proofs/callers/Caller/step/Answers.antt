use Rattle.std.proofs.Common.{◌≡◌, ◌⊎◌, ◌∙◌, true, Option, Some, refl, sym, ap, subst}
use Rattle.std.specs.Option.{is_some, option_map}
use Rattle.std.specs.Prelude.{IfNone, None}
use Rattle.art_change.proofs.callers.Caller.step.Goals as goal
use Rattle.art_change.specs.Calls.{finds_overlap, stays_apart}
use Rattle.art_change.specs.Outcomes.{of_seek, of_write}
use Rattle.art_change.specs.declared.callers.Call.{Call}
use Rattle.art_change.specs.declared.writes.WriteOutcome.{WriteOutcome}
use Rattle.art_look.specs.Seeks.{seen_at}
use Rattle.art_look.specs.declared.walks.Outcome.{Outcome as SeekOutcome}
use Rattle.art_step.specs.Histories.{AreApart}

some_there : {A : Type 0} (o : Option A) → is_some o ≡ true → (x : A) × (o ≡ Some x)
some_there (Some x) some = (x, refl)
some_there None some = cc

if_none : {A : Type 0} (P Q : Type 0) (o : Option A) → (P → Q) → IfNone o P → IfNone o Q
if_none P Q None f p = f p
if_none P Q (Some x) f p = p

pub returns-then-is_some-clause-none : goal.returns-then-is_some-clause-none
returns-then-is_some-clause-none g c =
    let m = c.in-Seek.seek in
    let a = c.args.self.now in
    let s = some_there c.ended.result (sym c.is_some.ensures ∙ c.if-is_some.true) in
    (refl, (of_seek s.0 (seen_at m a.key.items a.hi a.path_buffer), ap (λ (o : Option SeekOutcome). option_map (λ e. of_seek e (seen_at m a.key.items a.hi a.path_buffer)) o) (sym c.ended.ensures.at ∙ s.1)))

pub returns-in-Write-clause-none : goal.returns-in-Write-clause-none
returns-in-Write-clause-none g c =
    if_none _ _ c.step_of_write.result (λ e. (e.0, (of_write e.1.0, ap (λ (o : Option WriteOutcome). option_map of_write o) e.1.1))) c.step_of_write.ensures.none

pub returns-else-is_some-clause-some : goal.returns-else-is_some-clause-some
returns-else-is_some-clause-some g c =
    let row = c.step-made.ensures.row in
    c.made_by_seek.ensures _ _ c.in-Seek.seek.walk c.as_slice.result.now c.args.self.now.path_buffer row.0 _ _ row.2 c.step-made.ensures.allowed row.1 c.step-made.ensures.one

pub returns-in-Write-clause-apart : goal.returns-in-Write-clause-apart
returns-in-Write-clause-apart g c none apart =
    let s = c.args.steps.now in
    let v = g.S.Steps.view s in
    let w = g.S.Steps.view c.step_of_write.new.steps in
    c.step_of_write.ensures.apart
    (subst (λ (k : Call). AreApart (g.S.Steps.admits s) ⊎ (finds_overlap (g.S.Steps.sizes s) c.args.self.now k v w → ⊥)) c.in-Write.is none)
    (subst stays_apart c.in-Write.is apart)
