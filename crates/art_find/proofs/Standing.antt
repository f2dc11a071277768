-- Where a finding has come to a verdict, it stands.
use Rattle.std.proofs.Common.{◌≡◌, ℕ, List, Option, Some, subst}
use Rattle.std.proofs.lemmas.Option.{same_Some}
use Rattle.art_find.specs.Descents.{IsReading, StageFits, decided_at, stands_on}
use Rattle.art_find.specs.declared.descents.Stage.{Stage}
use Rattle.art_find.specs.declared.descents.Stage.TheVariants.{Start, Anchor, Child, Below, Both, Header, Prefix, Keys, Slot, Value, Length, Bytes, Decided, Ended}
use Rattle.art_find.specs.declared.descents.Verdict.{Verdict}
use Rattle.art_find.specs.Findings.{FindingFits, IsStanding, PlaceFits, position_of}
use Rattle.art_find.specs.declared.read_sets.ReadSet.{ReadSet}
use Rattle.art_find.specs.declared.findings.Finding.{Finding}
use Rattle.art_step.specs.declared.deeds.Deed.{Deed}
use Rattle.art_step.specs.declared.views.Sizes.{Sizes}
use Rattle.art_step.specs.declared.views.Stamp.{Stamp}
use Rattle.art_step.specs.declared.views.View.{View}

module _ (z : Sizes) (k : List ℕ) (what : Option ℕ → Deed) (m : Finding) (read_set : ReadSet) (u v : View) where
  abbrev Stood : Stamp × Verdict → Type 0
  Stood found = IsReading u v × IsStanding z k (position_of m found) read_set v

  by_stage : (s : Stage) (found : Stamp × Verdict) → StageFits z k what m.descent.depth s u v → PlaceFits z k m.above read_set v (stands_on s) → decided_at s ≡ Some found → Stood found
  by_stage Start found fits place is = absurd (cc)
  by_stage (Anchor x) found fits place is = absurd (cc)
  by_stage (Child x d) found fits place is = absurd (cc)
  by_stage (Below x n) found fits place is = absurd (cc)
  by_stage (Both x y n) found fits place is = absurd (cc)
  by_stage (Header y n) found fits place is = absurd (cc)
  by_stage (Prefix seen i r) found fits place is = absurd (cc)
  by_stage (Keys seen i) found fits place is = absurd (cc)
  by_stage (Slot seen at) found fits place is = absurd (cc)
  by_stage (Value x l) found fits place is = absurd (cc)
  by_stage (Length x l value) found fits place is = absurd (cc)
  by_stage (Bytes seen i r) found fits place is = absurd (cc)
  by_stage (Decided x verdict) found fits place is =
      subst Stood (same_Some (x, verdict) found is) (fits.0, record { stamp = fits.2; deep = fits.1; says = fits.3; place = place })
  by_stage (Ended o) found fits place is = absurd (cc)

  -- so much the descent shows at its verdict, and what was kept on the way
  pub decided_stands : (found : Stamp × Verdict) → FindingFits z k what m read_set u v → decided_at m.descent.stage ≡ Some found → Stood found
  decided_stands found fits = by_stage m.descent.stage found fits.descent fits.place
