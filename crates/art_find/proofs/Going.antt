-- A get that goes straight down comes from stage to stage as a finding does.
use Rattle.std.proofs.Common.{◌≡◌, ℕ, ◌+◌, ◌≤◌, false, List, sym, subst, arith}
use Rattle.art_find.specs.Descents.{StageFits, most_steps, stands_on}
use Rattle.art_find.specs.Driven.{Counts, get_done}
use Rattle.art_find.specs.Findings.{FindingFits, PlaceFits}
use Rattle.art_find.specs.Nodes.{Came, CameOff, moment}
use Rattle.art_find.specs.Straight.{GetGoes}
use Rattle.art_find.specs.declared.descents.Descent.{Descent}
use Rattle.art_find.specs.declared.descents.Stage.{Stage}
use Rattle.art_find.specs.declared.descents.Stage.TheVariants.{Start}
use Rattle.art_find.specs.declared.findings.Finding.{Finding}
use Rattle.art_find.specs.declared.read_sets.ReadSet.{ReadSet}
use Rattle.art_find.specs.declared.straight.Tally.{Tally}
use Rattle.art_find.proofs.Counting.{counts_on, few_steps}
use Rattle.art_find.proofs.Descending.{counted}
use Rattle.art_step.specs.declared.views.Sizes.{Sizes}
use Rattle.art_step.specs.declared.views.View.{View}

-- at its beginning a finding knows what its descent does
pub starts : (z : Sizes) (k : List ℕ) (m : Finding) (kept : ReadSet) (u v : View) → m.descent.stage ≡ Start → StageFits z k (get_done k) m.descent.depth m.descent.stage u v → FindingFits z k (get_done k) m kept u v
starts z k m kept u v start fits = record { descent = fits; place = subst (λ (s : Stage). PlaceFits z k m.above kept v (stands_on s)) (sym start) tt }

-- so a get at its beginning may be made from there
pub from_start : (z : Sizes) (k : List ℕ) (turns : ℕ) (u v : View) (m : Descent) (t : Tally) → m.stage ≡ Start → GetGoes z k turns u v m t
    → GetGoes z k turns u v (record { depth = m.depth; stage = Start }) t
from_start z k turns u v m t is before = subst (λ (s : Stage). GetGoes z k turns u v (record { depth = m.depth; stage = s }) t) is before

module _ (z z' : Sizes) (k : List ℕ) (turns : ℕ) (u v w : View) (m n : Finding) (kept kept' : ReadSet) (t t' : Tally) (less : t'.left ≤ t.left) (start : m.descent.stage ≡ Start)
    (before : GetGoes z k turns u v m.descent t) where
  -- no step failed
  pub get_came : t'.restarts ≡ t.restarts → Came k m (moment z v kept t.left) n (moment z' w kept' t'.left) → GetGoes z' k turns u w n.descent t'
  get_came restarts came =
      let made = before.made in
      let few = before.few in
      let all = came.made in
      let further = came.on.further in
      let steps = before.get.counts.steps in
      record {
        going = came.on.going before.going;
        get = record {
          fits = subst (λ (y : Sizes). StageFits y k (get_done k) n.descent.depth n.descent.stage u w) (sym came.sizes) (came.on.fits (get_done k) u (starts z k m kept u v start before.get.fits)).descent;
          counts = record {
            failures = let same = came.on.failures in let was = before.get.counts.failures in omega (arith, same, was, restarts);
            steps = omega (arith, further, steps, restarts);
          };
        };
        made = omega (arith, made, all);
        few = omega (arith, few, less, restarts);
        short = before.short;
      }

  -- the last one failed
  pub get_back : z' ≡ z → t'.restarts ≡ t.restarts + 1 → CameOff k m (moment z v kept t.left) n (moment z' w kept' t'.left) → GetGoes z' k turns u w n.descent t'
  get_back same restarts off =
      let made = before.made in
      let few = before.few in
      let all = off.made in
      let on = off.back.on in
      let last = off.back.back in
      let o = off.back.middle in
      let late = off.back.view in
      let was = before.get.counts.failures in
      let steps = before.get.counts.steps in
      let further = on.further in
      let later = on.later in
      let fits = on.fits (get_done k) u (starts z k m kept u v start before.get.fits) in
      let one = counted z k false o off.back.kept late n kept' w last in
      let made_one = one.steps in
      let counts : Counts u late (most_steps o.descent.depth o.descent.stage) t.restarts = record {
        failures = let still = on.failures in omega (arith, still, was);
        steps = omega (arith, further, steps);
      } in
      let low = few_steps z k (get_done k) o.descent.depth o.descent.stage u late before.short (on.going before.going) fits.descent in
      let anew = last.3.anew (sym last.4) in
      record {
        going = last.3.going;
        get = record {
          fits = subst (λ (y : Sizes). StageFits y k (get_done k) n.descent.depth n.descent.stage u w) (sym same) (last.3.fits (get_done k) u fits).descent;
          counts = subst (λ (i : ℕ). Counts u w i t'.restarts) (sym anew)
              (subst (Counts u w 0) (sym restarts) (counts_on u late w (most_steps o.descent.depth o.descent.stage) 0 t.restarts false (λ e. cc) (omega (arith, low)) one counts));
        };
        made = omega (arith, made, all);
        few = omega (arith, few, restarts, all, made_one, later);
        short = before.short;
      }
