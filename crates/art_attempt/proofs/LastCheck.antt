-- What the pass knew at its last check is what it knows then; it and what was found stay so, and so do the grounds of a refusal.
use Rattle.std.proofs.Common.{◌≡◌, ◌∙◌, ℕ, ◌≤◌, List, Option, inl, inr, refl, sym, ap, subst, arith, ⊎_elim}
use Rattle.art_attempt.specs.Attempts.{IsFull, IsOverlap}
use Rattle.art_attempt.specs.Trying.{IsCheckOf, StoodAtCheck, at_check}
use Rattle.art_attempt.specs.declared.attempts.Room.{Room}
use Rattle.art_cell.specs.declared.cells.Pool.{Pool}
use Rattle.art_epoch.specs.Taking.{GaveNone, NoneBefore, WasEmpty, WasFound, WasLost}
use Rattle.art_find.proofs.FoundPlaces.{standing_grows}
use Rattle.art_find.proofs.Keeping.{Grows}
use Rattle.art_find.specs.Findings.{IsStanding}
use Rattle.art_find.specs.declared.findings.Position.{Position}
use Rattle.art_find.specs.declared.read_sets.ReadSet.{ReadSet}
use Rattle.art_epoch.specs.declared.stocks.Stock.{Stock}
use Rattle.art_attempt.specs.Reserve.{StayFound}
use Rattle.art_step.specs.Steps.Check as check
use Rattle.art_step.specs.Views.{Member}
use Rattle.art_step.specs.declared.deeds.Deed.{Deed}
use Rattle.art_step.specs.declared.views.LastCheck.{LastCheck}
use Rattle.art_step.specs.declared.views.Note.{Note}
use Rattle.art_step.specs.declared.views.Sizes.{Sizes}
use Rattle.art_step.specs.declared.views.Stamp.{Stamp}
use Rattle.art_step.specs.declared.views.View.{View}
use Rattle.art_step.specs.declared.views.Word.TheVariants.{Version}

module _ (z : Sizes) (v w : View) (x : Stamp) (o : Option Deed) (p : check.Unchanged z v w x o) where
  -- just after a check that succeeded
  known_then : Grows w (at_check w)
  known_then = record {
    stamps = λ a m. subst (λ (xs : List Stamp). Member a xs) (ap (λ (t : View). t.stamps) p.is ∙ sym (ap (λ (t : View). t.checked.stamps) p.is)) m;
    notes = λ y m. subst (λ (ys : List Note). Member y ys) (ap (λ (t : View). t.notes) p.is ∙ sym (ap (λ (t : View). t.checked.notes) p.is)) m;
  }

  -- it is the last one
  pub check_is : IsCheckOf x w
  check_is = subst (IsCheckOf x) (sym p.is) (inl refl)

  pub stood_then : (u : View) (k : List ℕ) (t : Position) (read_set : ReadSet) → u.steps ≤ v.steps → IsStanding z k t read_set w → StoodAtCheck z u k t read_set w
  stood_then u k t read_set later at =
      let step = ap (λ (t : View). t.checked.step) p.is in
      let steps = ap (λ (t : View). t.steps) p.is in
      record {
        after = omega (arith, step, later);
        done = omega (arith, step, steps);
        standing = standing_grows z k t read_set w (at_check w) known_then at;
      }

-- what was found stays found: so a word that gave no number is still one that gave none
module _ (v w : View) (stay : StayFound v w) where
  word_stays : (since : ℕ) (pool : Pool) (i x t : ℕ) → WasFound v since pool i x t → WasFound w since pool i x t
  word_stays since pool i x t o = record { later = o.later; found = stay _ o.found }

  gave_none_stays : (since : ℕ) (pool : Pool) (i : ℕ) → GaveNone v since pool i → GaveNone w since pool i
  gave_none_stays since pool i = ⊎_elim
      (λ (e : WasEmpty v since pool i). inl (e.0, word_stays since pool i 0 e.0 e.1))
      (λ (l : WasLost v since pool i). inr record {
        word = l.word;
        bit = l.bit;
        lowest = l.lowest;
        at = l.at;
        seen = word_stays since pool i l.word l.at l.seen;
        again = l.again;
        later = l.later;
        after = l.after;
        gone = l.gone;
        lost = word_stays since pool i l.again l.later l.lost;
      })

  pub none_stays : (since : ℕ) (pool : Pool) (n : ℕ) → NoneBefore v since pool n → NoneBefore w since pool n
  none_stays since pool n none i low = gave_none_stays since pool i (none i low)

-- steps that are no checks leave the last one as it was
module _ (v w : View) (same : w.checked ≡ v.checked) where
  pub stood_stays : (z : Sizes) (u b : View) (k : List ℕ) (t : Position) (read_set : ReadSet) → u.steps ≤ b.steps → v.steps ≤ w.steps → StoodAtCheck z b k t read_set v → StoodAtCheck z u k t read_set w
  stood_stays z u b k t read_set before later s =
      let step = ap (λ (c : LastCheck). c.step) same in
      let after = s.after in
      let done = s.done in
      record {
        after = omega (arith, step, after, before);
        done = omega (arith, step, done, later);
        standing = standing_grows z k t read_set (at_check v) (at_check w) (record {
          stamps = λ a m. subst (λ (c : LastCheck). Member a c.stamps) (sym same) m;
          notes = λ y m. subst (λ (c : LastCheck). Member y c.notes) (sym same) m;
        }) s.standing;
      }

  pub check_stays : (x : Stamp) → StayFound v w → IsCheckOf x v → IsCheckOf x w
  check_stays x stay m = subst (λ (c : LastCheck). Member (record { word = Version x.cell x.version; step = c.step }) w.found) (sym same) (stay (record { word = Version x.cell x.version; step = v.checked.step }) m)

  module _ (stay : StayFound v w) (later : v.steps ≤ w.steps) where
    module _ (z : Sizes) (u b : View) (t : Position) (r : Room) (stock : Stock) (before : u.steps ≤ b.steps) where
      pub full_stays : (pool : Pool) → IsFull z b t (record r { stock = stock }) pool v → IsFull z u t r pool w
      full_stays pool f =
          let step = ap (λ (c : LastCheck). c.step) same in
          let since = f.none.after in
          let after = f.after in
          record {
            stood = stood_stays z u b r.row.key.items t r.read_set before later f.stood;
            checked = check_stays t.stamp stay f.checked;
            comes = f.comes;
            none = record { wanted = f.none.wanted; since = f.none.since; after = omega (arith, before, since); none = none_stays v w stay f.none.since pool _ f.none.none };
            after = omega (arith, step, after);
          }

      pub overlap_stays : IsOverlap z b t (record r { stock = stock }) v → IsOverlap z u t r w
      overlap_stays o = record {
        stood = stood_stays z u b r.row.key.items t r.read_set before later o.stood;
        checked = check_stays t.stamp stay o.checked;
        overlaps = o.overlaps;
      }
