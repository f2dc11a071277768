-- Steps of a finding one after another.
use Rattle.std.proofs.Common.{◌≡◌, ◌+◌, ℕ, Bool, true, List, None, refl, sym, subst, ◌∙◌, arith}
use Rattle.art_step.proofs.Counting.{Counted}
use Rattle.art_find.proofs.Counting.{answers_count}
use Rattle.art_find.specs.Driven.{get_done}
use Rattle.art_find.specs.Findings.{LookedOn, WentOn}
use Rattle.art_find.specs.declared.read_sets.ReadSet.{ReadSet}
use Rattle.art_find.specs.declared.findings.Finding.{Finding}
use Rattle.art_step.specs.declared.views.Sizes.{Sizes}
use Rattle.art_step.specs.declared.views.View.{View}

-- before the first
pub on_still : (z : Sizes) (k : List ℕ) (m : Finding) (read_set : ReadSet) (v : View) → WentOn z k m read_set v m read_set v
on_still z k m read_set v = record {
  later = omega arith;
  failures = refl;
  further = omega arith;
  going = λ e. e;
  fits = λ what u fits. fits;
}

pub on_then : (z : Sizes) (k : List ℕ) (m : Finding) (read_set : ReadSet) (u : View) (n : Finding) (kept : ReadSet) (v : View) (o : Finding) (last : ReadSet) (w : View) → WentOn z k m read_set u n kept v → WentOn z k n kept v o last w
    → WentOn z k m read_set u o last w
on_then z k m read_set u n kept v o last w one two =
    let a = one.later in
    let b = two.later in
    let c = one.further in
    let d = two.further in
    record {
      later = omega (arith, a, b);
      failures = two.failures ∙ one.failures;
      further = omega (arith, c, d);
      going = λ e. two.going (one.going e);
      fits = λ what t fits. two.fits what t (one.fits what t fits);
    }

module _ (z : Sizes) (k : List ℕ) (on : Bool) (m : Finding) (read_set : ReadSet) (v : View) (n : Finding) (kept : ReadSet) (w : View) (l : LookedOn z k on m read_set v n kept w) where
  pub counted : Counted v w on
  counted = subst (Counted v w) (sym l.4) (answers_count z (get_done k None) m.descent.stage l.0 l.1 v w l.2.asked_it (l.2.row (get_done k None)))

  pub one_made : w.steps ≡ v.steps + 1
  one_made = counted.steps

-- one that did not fail
pub on_looked : (z : Sizes) (k : List ℕ) (m : Finding) (read_set : ReadSet) (v : View) (n : Finding) (kept : ReadSet) (w : View) → LookedOn z k true m read_set v n kept w → WentOn z k m read_set v n kept w
on_looked z k m read_set v n kept w l =
    let one = one_made z k true m read_set v n kept w l in
    let heard = l.3 in
    let further = heard.further (sym l.4) in
    record {
      later = omega (arith, one);
      failures = (counted z k true m read_set v n kept w l).failures;
      further = omega (arith, one, further);
      going = λ e. heard.going;
      fits = heard.fits;
    }
