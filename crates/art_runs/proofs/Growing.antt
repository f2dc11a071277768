-- What a pass has seen grows, and each event of its own is one more place.
use Rattle.std.proofs.Common.{◌≡◌, ◌⊎◌, ◌++◌, ◌+◌, ◌<◌, ◌≤◌, ◌∙◌, ℕ, Bool, true, false, List, [], ◌∷◌, Option, Some, None, length, inl, inr, sym, ap, arith, append-nil, append_assoc}
use Rattle.std.proofs.lemmas.List.{length-append}
use Rattle.art_change.specs.Made.{MakesAny}
use Rattle.art_change.specs.declared.driver.Made.{Made}
use Rattle.art_runs.specs.Ops.{MakesLast}
use Rattle.art_step.specs.Events.{MakesEvent, SeesEvent}
use Rattle.art_step.specs.Histories.{StartsWith, event}
use Rattle.art_step.specs.declared.deeds.Deed.{Deed}
use Rattle.art_step.specs.declared.views.Event.{Event}
use Rattle.art_step.specs.declared.views.Sizes.{Sizes}
use Rattle.art_step.specs.declared.views.View.{View}

pub starts_then : (a b c : List Event) → StartsWith b a → StartsWith c b → StartsWith c a
starts_then a b c x y = (x.0 ++ y.0, y.1 ∙ (ap (λ (l : List Event). l ++ y.0) x.1 ∙ append_assoc a x.0 y.0))

pub none_then : (u v w : View) → SeesEvent u v None → SeesEvent v w None → SeesEvent u w None
none_then u v w a b = (b.0 ∙ a.0, b.1 ∙ a.1)

pub same_none : (v w : View) → w ≡ v → SeesEvent v w None
same_none v w same = (ap (λ (t : View). t.seen) same, ap (λ (t : View). t.own) same)

pub made_length : (v w : View) (what : Deed) → MakesEvent v w what → length w.own ≡ length v.own + 1
made_length v w what m = ap (λ (l : List ℕ). length l) m.own ∙ length-append v.own (length (v.seen ++ m.between) ∷ [])

-- the pass has seen all that it had seen; it made no event, or has more events of its own
pub record Grows (v w : View) : Type 0 where
  pub starts : StartsWith w.seen v.seen
  pub own : SeesEvent v w None ⊎ (length v.own < length w.own)

pub grows_none : (v w : View) → SeesEvent v w None → Grows v w
grows_none v w none = record { starts = ([], none.0 ∙ sym (append-nil v.seen)); own = inl none }

pub grows_made : (v w : View) (what : Deed) → MakesEvent v w what → Grows v w
grows_made v w what m = record {
  starts = (m.between ++ event v.pass what ∷ [], m.seen ∙ append_assoc v.seen m.between (event v.pass what ∷ []));
  own = inr (let n = made_length v w what m in omega (arith, n));
}

own_then : (u v w : View) → SeesEvent u v None ⊎ (length u.own < length v.own) → SeesEvent v w None ⊎ (length v.own < length w.own) → SeesEvent u w None ⊎ (length u.own < length w.own)
own_then u v w (inl a) (inl b) = inl (none_then u v w a b)
own_then u v w (inl a) (inr b) = inr (let same = ap (λ (l : List ℕ). length l) a.1 in omega (arith, same, b))
own_then u v w (inr a) (inl b) = inr (let same = ap (λ (l : List ℕ). length l) b.1 in omega (arith, same, a))
own_then u v w (inr a) (inr b) = inr (omega (arith, a, b))

pub grows_then : (u v w : View) → Grows u v → Grows v w → Grows u w
grows_then u v w a b = record { starts = starts_then u.seen v.seen w.seen a.starts b.starts; own = own_then u v w a.own b.own }

own_most : (v w : View) → SeesEvent v w None ⊎ (length v.own < length w.own) → length w.own ≤ length v.own → SeesEvent v w None
own_most v w (inl none) most = none
own_most v w (inr more) most = absurd (omega (arith, more, most))

-- with no more events of its own it made none
pub grows_most : (v w : View) → Grows v w → length w.own ≤ length v.own → SeesEvent v w None
grows_most v w g most = own_most v w g.own most

-- ---- one turn

-- it made no event, or one, by one step
abbrev pub StepMade : View → View → Type 0
StepMade v w = SeesEvent v w None ⊎ ((what : Deed) × MakesEvent v w what × (w.steps ≡ v.steps + 1))

any_made : (v w : View) (b : Bool) → MakesAny b v w → w.steps ≡ v.steps + 1 → StepMade v w
any_made v w true made one = inr (made.0, made.1, one)
any_made v w false none one = inl none

pub step_made : (z : Sizes) (v w : View) (o : Option Made) → MakesLast z o v w → StepMade v w
step_made z v w None same = inl (same_none v w same)
step_made z v w (Some made) step = any_made v w made.event step.event step.one

pub step_grows : (v w : View) → StepMade v w → Grows v w
step_grows v w (inl none) = grows_none v w none
step_grows v w (inr made) = grows_made v w made.0 made.1
