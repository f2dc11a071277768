-- Which cells a change locks, by the list of its targets.
use Rattle.std.proofs.Common.{◌≡◌, List, [], ◌∷◌, sym, ap, ◌∙◌, subst, ⊎_elim}
use Rattle.std.specs.List.{slice_get}
use Rattle.art_plan.specs.ChooseInsert.Plans.{LocksOnly}
use Rattle.art_plan.proofs.Planning.{one_of_one, one_of_three, one_of_two}
use Rattle.art_plan.specs.declared.changes.Change.{Change}
use Rattle.art_plan.specs.declared.changes.Target.{Target}
use Rattle.art_step.specs.declared.views.Stamp.{Stamp}

module _ (so : Stamp → Type 0) (c : Change) (x : Target) (upper : so x.stamp) where
  -- one cell
  pub one_locked : c.targets.items ≡ x ∷ [] → LocksOnly so c
  one_locked is = λ i y at.
      subst (λ (q : Target). so q.stamp) (one_of_one x i y (ap (λ (ts : List Target). slice_get ts i) (sym is) ∙ at)).1 upper

  module _ (w : Target) (lower : so w.stamp) where
    -- two cells
    pub two_locked : c.targets.items ≡ x ∷ w ∷ [] → LocksOnly so c
    two_locked is = λ i y at. ⊎_elim
        (λ (o : (i ≡ 0) × (x ≡ y)). subst (λ (q : Target). so q.stamp) o.1 upper)
        (λ (o : (i ≡ 1) × (w ≡ y)). subst (λ (q : Target). so q.stamp) o.1 lower)
        (one_of_two x w i y (ap (λ (ts : List Target). slice_get ts i) (sym is) ∙ at))

    -- three cells
    pub three_locked : (v : Target) → so v.stamp → c.targets.items ≡ x ∷ w ∷ v ∷ [] → LocksOnly so c
    three_locked v last is = λ i y at. ⊎_elim
        (λ (o : (i ≡ 0) × (x ≡ y)). subst (λ (q : Target). so q.stamp) o.1 upper)
        (⊎_elim
        (λ (o : (i ≡ 1) × (w ≡ y)). subst (λ (q : Target). so q.stamp) o.1 lower)
        (λ (o : (i ≡ 2) × (v ≡ y)). subst (λ (q : Target). so q.stamp) o.1 last))
        (one_of_three x w v i y (ap (λ (ts : List Target). slice_get ts i) (sym is) ∙ at))
