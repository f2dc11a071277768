-- What a step of a seek adds to the view: one step, and its event, if it made one.
use Rattle.std.proofs.Common.{◌≡◌, ℕ, ◌+◌, Some, ap, inl, inr, subst}
use Rattle.std.proofs.lemmas.Option.{same_Some}
use Rattle.std.specs.Prelude.{None, Ok, Err}
use Rattle.art_epoch.specs.Pins as pins
use Rattle.art_epoch.specs.declared.enter.Pinning.{Pinning}
use Rattle.art_epoch.specs.declared.enter.Pinning.TheVariants.{Noting, Storing, Ended}
use Rattle.art_step.proofs.Counting.{look_counts, steps_made}
use Rattle.art_step.proofs.Silence.{plain_silent}
use Rattle.art_step.specs.Acting.{Answers, IsLook, steps_in, telling}
use Rattle.art_step.specs.declared.actions.Action.{Action}
use Rattle.art_step.specs.declared.actions.Action.TheVariants.{Begin, Read, ReadLeaf, Check, Settle, ReadEpoch, StorePin}
use Rattle.art_step.specs.declared.actions.Answer.{Answer}
use Rattle.art_step.specs.declared.actions.Answer.TheVariants.{Begun, Word, Checked, Upgraded, Done}
use Rattle.art_look.proofs.Parts.{walk_looks}
use Rattle.art_look.specs.Asking.{MaySeek, stepped_by, told_by}
use Rattle.art_look.specs.Seeks.{asks_at}
use Rattle.art_look.specs.declared.seeks.Seek.{Seek}
use Rattle.art_look.specs.declared.seeks.SeekStage.{SeekStage}
use Rattle.art_look.specs.declared.seeks.SeekStage.TheVariants as stage
use Rattle.art_step.proofs.Shows.{begun_rest}
use Rattle.art_step.specs.Events.{SeesEvent}
use Rattle.art_step.specs.Shows.{OnlyReads, Rest}
use Rattle.art_step.specs.declared.deeds.Deed.{Deed}
use Rattle.art_step.specs.declared.views.Sizes.{Sizes}
use Rattle.art_step.specs.declared.views.View.{View}
use Rattle.art_tree.specs.Heaps.{Cells}

read_silent : (v w : View) → OnlyReads v w → SeesEvent v w None
read_silent v w reads = (ap (λ (r : Rest). r.seen) reads, ap (λ (r : Rest). r.own) reads)

-- ---- a step of the walk makes the event where it settles the answer

pub look_sees : (z : Sizes) (d : Deed) (a : Action) (r : Answer) (v w : View) → IsLook a → Answers z (telling d) a r v w → SeesEvent v w (told_by (stepped_by a r) d)
look_sees z d (Begin c) (Begun (Ok x)) v w is row = read_silent v w (begun_rest z v w c x.version row.2)
look_sees z d (Begin c) (Begun (Err l)) v w is row = read_silent v w (begun_rest z v w c l.found row.2)
look_sees z d (Read x i) (Word y) v w is row = (ap (λ (b : View). b.seen) row.is, ap (λ (b : View). b.own) row.is)
look_sees z d (ReadLeaf x l i) (Word y) v w is row = (ap (λ (b : View). b.seen) row, ap (λ (b : View). b.own) row)
look_sees z d (Check x) (Checked (Ok done)) v w is row = row.told
look_sees z d (Check x) (Checked (Err c)) v w is row = (ap (λ (b : View). b.seen) row.3.is, ap (λ (b : View). b.own) row.3.is)
look_sees z d (Settle x) (Checked (Ok done)) v w is row = row.told
look_sees z d (Settle x) (Checked (Err c)) v w is row = (ap (λ (b : View). b.seen) row.3.is, ap (λ (b : View). b.own) row.3.is)
look_sees z d (Begin c) (Word y) v w is row = absurd row
look_sees z d (Begin c) (Checked r) v w is row = absurd row
look_sees z d (Begin c) (Upgraded r) v w is row = absurd row
look_sees z d (Begin c) Done v w is row = absurd row
look_sees z d (Read x i) (Begun r) v w is row = absurd row
look_sees z d (Read x i) (Checked r) v w is row = absurd row
look_sees z d (Read x i) (Upgraded r) v w is row = absurd row
look_sees z d (Read x i) Done v w is row = absurd row
look_sees z d (ReadLeaf x l i) (Begun r) v w is row = absurd row
look_sees z d (ReadLeaf x l i) (Checked r) v w is row = absurd row
look_sees z d (ReadLeaf x l i) (Upgraded r) v w is row = absurd row
look_sees z d (ReadLeaf x l i) Done v w is row = absurd row
look_sees z d (Check x) (Begun r) v w is row = absurd row
look_sees z d (Check x) (Word y) v w is row = absurd row
look_sees z d (Check x) (Upgraded r) v w is row = absurd row
look_sees z d (Check x) Done v w is row = absurd row
look_sees z d (Settle x) (Begun r) v w is row = absurd row
look_sees z d (Settle x) (Word y) v w is row = absurd row
look_sees z d (Settle x) (Upgraded r) v w is row = absurd row
look_sees z d (Settle x) Done v w is row = absurd row
look_sees z d a r v w is row = absurd is

-- ---- and one of the pin or of the close makes none

module _ (z : Sizes) (so : Cells → Type 0) (d : Deed) (r : Answer) (v w : View) where
  epoch_one : Answers z (telling d) ReadEpoch r v w → w.steps ≡ v.steps + 1
  epoch_one row = one r (steps_made z (telling d) ReadEpoch r v w tt row) row
    where
      one : (s : Answer) → w.steps ≡ v.steps + steps_in s → Answers z (telling d) ReadEpoch s v w → w.steps ≡ v.steps + 1
      one (Word y) made row = made
      one (Begun s) made row = absurd row
      one (Checked s) made row = absurd row
      one (Upgraded s) made row = absurd row
      one Done made row = absurd row

  pin_one : (x : ℕ) → MaySeek z so v (StorePin x) → Answers z (telling d) (StorePin x) r v w → w.steps ≡ v.steps + 1
  pin_one x may row = elim may [
    | inl look ↦ absurd look
    | inr all ↦ one r (steps_made z (telling d) (StorePin x) r v w all.1 row) row
  ]
    where
      one : (s : Answer) → w.steps ≡ v.steps + steps_in s → Answers z (telling d) (StorePin x) s v w → w.steps ≡ v.steps + 1
      one Done made row = made
      one (Word y) made row = absurd row
      one (Begun s) made row = absurd row
      one (Checked s) made row = absurd row
      one (Upgraded s) made row = absurd row

  pin_sees : (x : ℕ) → MaySeek z so v (StorePin x) → Answers z (telling d) (StorePin x) r v w → SeesEvent v w None
  pin_sees x may row = elim may [
    | inl look ↦ absurd look
    | inr all ↦ plain_silent z (telling d) (StorePin x) r v w tt all.1 row
  ]

  -- ---- of each

  abbrev Adds : Action → Type 0
  Adds a = MaySeek z so v a → Answers z (telling d) a r v w → (w.steps ≡ v.steps + 1) × SeesEvent v w (told_by (stepped_by a r) d)

  epoch_adds : Adds ReadEpoch
  epoch_adds may row = (epoch_one row, plain_silent z (telling d) ReadEpoch r v w tt tt row)

  store_adds : (x : ℕ) → Adds (StorePin x)
  store_adds x may row = (pin_one x may row, pin_sees x may row)

  pinned_adds : (p : Pinning) (a : Action) → pins.asks p ≡ Some a → Adds a
  pinned_adds Noting a is = subst Adds (same_Some ReadEpoch a is) epoch_adds
  pinned_adds (Storing x) a is = subst Adds (same_Some (StorePin x) a is) (store_adds x)
  pinned_adds Ended a is = absurd (cc)

  pub seek_adds : (s : SeekStage) (m : Seek) (a : Action) → asks_at s m ≡ Some a → Adds a
  seek_adds stage.Walking m a is may row = let look = walk_looks m.walk a is in ((look_counts z d a r v w look row).steps, look_sees z d a r v w look row)
  seek_adds stage.Pinning m a is may row = pinned_adds m.pinning a is may row
  seek_adds stage.Closing m a is may row = subst Adds (same_Some (StorePin 0) a is) (store_adds 0) may row
  seek_adds stage.Ended m a is may row = absurd (cc)
