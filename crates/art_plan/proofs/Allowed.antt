-- Each step that a change asks for may be made.
use Rattle.std.proofs.Common.{◌≡◌, ◌↔◌, Bool, ℕ, ◌<◌, true, false, List, [], take, inl, inr, ⊎_elim, sym, refl, zero, suc, ap, ◌∙◌, subst, arith}
use Rattle.std.specs.Prelude.{Some}
use Rattle.art_cell.specs.Words.{size}
use Rattle.art_cell.specs.declared.cells.Cell.{Cell}
use Rattle.art_cell.specs.declared.cells.Cell.TheVariants as cell
use Rattle.art_cell.specs.declared.cells.Link.TheVariants.{Node as node}
use Rattle.art_cell.specs.declared.cells.Node.{Node}
use Rattle.art_step.specs.Acting.{MayCommit, MayRelease, MayUpgrade, MayWrite}
use Rattle.art_plan.specs.Apply.{GivesUp, IsLocking, IsReleasing, so_many}
use Rattle.art_plan.proofs.Committing.{limbo_after}
use Rattle.art_plan.proofs.Holding.{new_apart, none_filled, no_members, same_target, target_low, target_not_new}
use Rattle.art_plan.proofs.Locking.{none_claimed, same_hand}
use Rattle.art_plan.specs.Changes.{IsTarget, put_at, target_at, targets, unlinked}
use Rattle.art_plan.specs.Whole.{IsNewBy, IsWhole, filled_ends, made_at, made_word}
use Rattle.art_plan.specs.declared.changes.Change.{Change}
use Rattle.art_plan.specs.declared.changes.Put.{Put}
use Rattle.art_plan.specs.declared.changes.Target.{Target}
use Rattle.art_step.specs.Steps.Claim as claim
use Rattle.art_step.specs.Steps.Release.{IsNodeAmong}
use Rattle.art_step.specs.Views.{IsWordOf, IsInLimbo, Member, MayLock, note_of, size_of}
use Rattle.art_step.specs.WordPlaces.{IsInside}
use Rattle.art_step.specs.declared.faults.UpgradeFault.{UpgradeFault}
use Rattle.art_step.specs.declared.views.Fact.TheVariants.{Starts}
use Rattle.art_step.specs.declared.views.InHand.{InHand}
use Rattle.art_step.specs.declared.views.Note.{Note}
use Rattle.art_step.specs.declared.views.Sizes.{Sizes}
use Rattle.art_step.specs.declared.views.Stamp.{Stamp}
use Rattle.art_step.specs.declared.views.View.{View}
use Rattle.art_step.proofs.WordRows.{inside_of}

module _ (z : Sizes) (u : View) (c : Change) (planned : IsWhole z u c) where
  -- ---- upgrades

  may_lock : (i : ℕ) (v : View) → IsLocking u c i [] (so_many 0 0) v → MayLock v
  may_lock i v was = by_first i was
    where
      by_first : (i : ℕ) → IsLocking u c i [] (so_many 0 0) v → MayLock v
      by_first zero was = inr (no_members v.held (λ h m. ⊎_elim
          (λ (t : IsTarget u c 0 0 [] h). let b = t.below in omega arith)
          (λ (o : IsNewBy u c (so_many 0 0) h). let some = o.some in let none = none_filled o.which in omega arith)
          (was.holds.only h m)))
      by_first (suc n) was = inl (was.early (omega arith))

  pub may_upgrade : (i : ℕ) (x : Target) (v : View) → target_at c i ≡ Some x → IsLocking u c i [] (so_many 0 0) v → MayUpgrade z v x.stamp
  may_upgrade i x v at was =
      let may = planned.each i x at in
      record {
        inside = may.inside;
        stamp = subst (λ (xs : List Stamp). Member x.stamp xs) (sym was.same.stamps) may.stamp;
        path = (may.path.0, subst (λ (ns : List Note). Member (note_of x.stamp (Starts may.path.0)) ns) (sym was.same.notes) may.path.1);
        early = may_lock i v was;
        unclaimed = none_claimed z u c planned i [] v.held was.holds;
      }

  -- ---- the claim

  pub may_claim : (b : Bool) (filled : Bool → ℕ) (n : Node) (v : View) → filled b ≡ 0 → made_at b c ≡ Some n → IsLocking u c (targets c) [] filled v → IsInside z (cell.Node n) × claim.May v n
  may_claim b filled n v none made was =
      let may = planned.new b n made in (
        may.inside,
        record {
          hand = (may.hand.0, subst (λ (xs : List InHand). Member may.hand.0 xs) (sym (same_hand u v was.same)) may.hand.1, may.hand.2);
          free = λ h m e. ⊎_elim
              (λ (t : IsTarget u c 0 (targets c) [] h). target_not_new z u c planned t.index t.target [] h b n t.locked made (sym t.locked.cell ∙ e))
              (λ (o : IsNewBy u c filled h). (new_apart z u c planned b filled none n made h o).1 e)
              (was.holds.only h m);
          early = inl (was.early planned.some);
        },
      )

  -- ---- writes

  pub may_fill : (b : Bool) (place : ℕ) (filled : Bool → ℕ) (n : Node) (v : View) → filled b ≡ place → made_at b c ≡ Some n → 0 < place → place < size n.layout → IsLocking u c (targets c) [] filled v
      → MayWrite z v (cell.Node n) place (made_word b c place)
  may_fill b place filled n v so made some low was =
      let may = planned.new b n made in
      let h = was.holds.new b n made (omega arith) in
      record {
        inside = may.inside;
        holding = h.0;
        cell = h.2.cell;
        may = record { held = h.1; early = was.early planned.some; place = subst (λ (d : Cell). (0 < place) × (place < size_of d)) (sym h.2.cell) (some, low) };
        form = may.forms place;
      }

  pub may_write : (j : ℕ) (filled : Bool → ℕ) (p : Put) (x : Target) (v : View) → put_at c j ≡ Some p → target_at c p.target ≡ Some x → IsLocking u c (targets c) (take j c.puts.items) filled v → MayWrite z v x.stamp.cell p.place p.value
  may_write j filled p x v at is was =
      let may = planned.puts j p at in
      let same : may.target ≡ x = same_target c p.target may.target x may.is is in
      let h = was.holds.each p.target x (omega arith) (target_low c p.target x is) is in
      record {
        inside = inside_of z x.stamp.cell (planned.each p.target x is).inside;
        holding = h.0;
        cell = h.2.cell;
        may = record {
          held = h.1;
          early = was.early planned.some;
          place = subst (λ (d : Cell). (0 < p.place) × (p.place < size_of d)) (ap (λ (a : Target). a.stamp.cell) same ∙ sym h.2.cell) may.place;
        };
        form = subst (λ (a : Target). IsWordOf z a.stamp.cell p.place p.value) same may.form;
      }

  -- ---- the commit

  pub may_commit : (x : Target) (v : View) → target_at c 0 ≡ Some x → IsLocking u c (targets c) c.puts.items (filled_ends c) v → MayCommit z v c.effects x.stamp.cell x.obsolete
  may_commit x v at was =
      let h = was.holds.each 0 x (omega arith) planned.some at in
      record {
        inside = inside_of z x.stamp.cell (planned.each 0 x at).inside;
        words = planned.words;
        holding = h.0;
        cell = h.2.cell;
        first = record {
          early = was.early planned.some;
          held = h.1;
          obsolete = subst (λ (d : Cell). (x.obsolete ≡ true) ↔ IsNodeAmong d (λ e. Member e (unlinked c))) (sym h.2.cell) (planned.obsolete 0 x at);
        };
        may = planned.may v (record { same = was.same; holds = was.holds });
      }

  -- ---- releases

  -- of a cell that is no number's in limbo, just those that are unlinked are in limbo after the commit
  limbo_among : (v : View) (i : ℕ) (filled : Bool → ℕ) (d : Cell) → IsReleasing u c i filled v → ((n : Node) → d ≡ cell.Node n → IsInLimbo u (node n) → ⊥) → IsNodeAmong d (λ e. Member e (unlinked c)) ↔ IsNodeAmong d (IsInLimbo v)
  limbo_among v i filled d was apart = (
    (λ k. (k.0, k.1, (limbo_after u v c (node k.0) was.done).1 (inl k.2))),
    (λ k. (
      k.0,
      k.1,
      ⊎_elim
          (λ (m : Member (node k.0) (unlinked c)). m)
          (λ (e : IsInLimbo u (node k.0)). absurd (apart k.0 k.1 e))
          ((limbo_after u v c (node k.0) was.done).0 k.2),
    )),
  )

  pub may_release : (i : ℕ) (filled : Bool → ℕ) (x : Target) (v : View) → target_at c i ≡ Some x → IsReleasing u c i filled v → MayRelease z v x.stamp.cell x.obsolete
  may_release i filled x v at was =
      let h = was.holds.each i x (omega arith) (target_low c i x at) at in
      let law = planned.obsolete i x at in
      let among = limbo_among v i filled x.stamp.cell was (λ n is. (h.2.apart (node n) (sym is)).1) in
      record {
        inside = inside_of z x.stamp.cell (planned.each i x at).inside;
        holding = h.0;
        cell = h.2.cell;
        may = (h.1, inl (was.late, subst (λ (d : Cell). (x.obsolete ≡ true) ↔ IsNodeAmong d (IsInLimbo v)) (sym h.2.cell) ((λ e. among.0 (law.0 e)), (λ k. law.1 (among.1 k)))));
      }

  pub may_release_new : (b : Bool) (filled : Bool → ℕ) (n : Node) (v : View) → made_at b c ≡ Some n → 0 < filled b → IsReleasing u c (targets c) filled v → MayRelease z v (cell.Node n) false
  may_release_new b filled n v made some was =
      let h = was.holds.new b n made some in
      let among = limbo_among v (targets c) filled (cell.Node n) was (λ m is e. h.2.apart (subst (λ (a : Node). IsInLimbo u (node a)) (same_node m n (sym is)) e)) in
      record {
        inside = (planned.new b n made).inside;
        holding = h.0;
        cell = h.2.cell;
        may = (
          h.1,
          inl (
            was.late,
            subst (λ (d : Cell). (false ≡ true) ↔ IsNodeAmong d (IsInLimbo v)) (sym h.2.cell) (
              (λ e. absurd (cc)),
              (λ k.
                  let m = among.1 k in
                  absurd (was.stays b n made (subst (λ (a : Node). Member (node a) (unlinked c)) (same_node m.0 n (sym m.1)) m.2))),
            ),
          ),
        );
      }
    where
      same_node : (a b : Node) → cell.Node a ≡ cell.Node b → a ≡ b
      same_node a b e = cc

  -- of a change that is given up
  pub may_give_up : (i to : ℕ) (e : UpgradeFault) (x : Target) (v : View) → i < to → GivesUp u c i to e v → target_at c i ≡ Some x → MayRelease z v x.stamp.cell false
  may_give_up i to e x v low was at =
      let h = was.holds.each i x (omega arith) low at in
      record {
        inside = inside_of z x.stamp.cell (planned.each i x at).inside;
        holding = h.0;
        cell = h.2.cell;
        may = (
          h.1,
          inr (
            was.early low,
            refl,
            (λ k m. ⊎_elim
                (λ (t : IsTarget u c i to [] k). t.locked.new)
                (λ (o : IsNewBy u c (so_many 0 0) k). let some = o.some in let none = none_filled o.which in absurd (omega arith))
                (was.holds.only k m)),
            (λ k m. ⊎_elim
                (λ (t : IsTarget u c i to [] k). (t.target.stamp.version, t.locked.stamped))
                (λ (o : IsNewBy u c (so_many 0 0) k). let some = o.some in let none = none_filled o.which in absurd (omega arith))
                (was.holds.only k m)),
          ),
        );
      }
