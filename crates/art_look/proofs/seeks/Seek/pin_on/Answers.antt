use Rattle.std.proofs.Common.{◌≡◌, ◌+◌, ◌≤◌, ◌<◌, ℕ, List, sym, ap, ◌∙◌, subst, arith}
use Rattle.art_epoch.proofs.Pinned.{may_store}
use Rattle.art_step.proofs.Counting.{pinning_counts}
use Rattle.art_epoch.specs.Pins as pins
use Rattle.art_step.specs.declared.actions.Action.TheVariants.{ReadEpoch, StorePin}
use Rattle.art_epoch.specs.declared.enter.Pinning.{Pinning as PinningOf}
use Rattle.art_key.specs.declared.bounds.Bound.{Bound as KeyBound}
use Rattle.art_look.specs.declared.path_buffers.PathBuffer.{PathBuffer as PathBufferOf}
use Rattle.art_look.specs.Seeks.{Fits, GoesTo, IsPinning, StageFits, WillBeBusy, busy_at, left_at, steps_left}
use Rattle.art_look.specs.Walks.{aim_of}
use Rattle.art_look.specs.declared.seeks.Seek.{Seek}
use Rattle.art_look.specs.declared.seeks.SeekStage.{SeekStage}
use Rattle.art_look.specs.declared.seeks.SeekStage.TheVariants.{Pinning}
use Rattle.art_step.specs.declared.views.Sizes.{Sizes}
use Rattle.art_step.specs.declared.views.View.{View}
use Rattle.art_look.proofs.seeks.Seek.pin_on.Goals as goal

pinning_at : (z : Sizes) (k : List ℕ) (hi : KeyBound) (u : View) (m : Seek) (t : PathBufferOf) (v : View) → m.stage ≡ Pinning → Fits z k hi u m t v → IsPinning z k hi u m t v
pinning_at z k hi u m t v at fits = subst (λ (s : SeekStage). StageFits z k hi u s m t v) at fits

-- where it heard the answer of the step that it asked for, it goes on
goes_on : (z : Sizes) (k : List ℕ) (hi : KeyBound) (m n : Seek) (t : PathBufferOf) (v w : View) → m.stage ≡ Pinning → w.steps ≡ v.steps + 1
    → n.walk ≡ m.walk → n.turns ≡ m.turns → (m.left ≡ 0 → WillBeBusy n) → steps_left n < left_at Pinning m
    → ((u : View) → IsPinning z k hi u m t v → Fits z k hi u n t w) → GoesTo z k hi m t v n t w
goes_on z k hi m n t v w stage one walk turns refuses left fits =
    record {
      aim = ap aim_of walk;
      turns = turns;
      refuses = λ busy. refuses (subst (λ (s : SeekStage). busy_at s m) stage busy);
      less = subst (λ (s : SeekStage). steps_left n ≤ left_at s m) (sym stage) (omega (arith, left));
      left = subst (λ (s : SeekStage). w.steps + steps_left n ≤ v.steps + left_at s m) (sym stage) (omega (arith, left, one));
      fits = λ u fitted. fits u (pinning_at z k hi u m t v stage fitted);
    }

pub returns-in-Noting-clause-goes : goal.returns-in-Noting-clause-goes
returns-in-Noting-clause-goes g c = λ k hi t.
    let m = c.args.self.now in
    let z = g.S.Steps.sizes c.args.steps.now in
    let v = g.S.Steps.view c.args.steps.now in
    let w = g.S.Steps.view c.epoch-found.new.self in
    let row = c.epoch-found.ensures.row in
    let told = c.pin_told.ensures in
    let asks = ap pins.asks c.in-Noting.is in
    let one = ap (λ (a : View). a.steps) row.is in
    goes_on z k hi m c.pin_told.new.self t v w c.requires.stage one told.walk told.turns told.refuses told.left (λ u fits. told.fits z k hi u v w t ReadEpoch fits asks row)

pub pass_store-requires : goal.pass_store-requires
pass_store-requires g c =
    let q = c.requires.fits in
    let m = c.args.self.now in
    let z = g.S.Steps.sizes c.args.steps.now in
    let v = g.S.Steps.view c.args.steps.now in
    let on = pinning_at z q.0 q.1 q.3.0 m q.2 v c.requires.stage q.3.1 in
    record { may = may_store z q.3.0 v c.in-Storing.epoch (subst (λ (p : PinningOf). pins.Fits z q.3.0 p v) c.in-Storing.is on.pinning) }

pub returns-in-Storing-clause-goes : goal.returns-in-Storing-clause-goes
returns-in-Storing-clause-goes g c = λ k hi t.
    let m = c.args.self.now in
    let z = g.S.Steps.sizes c.args.steps.now in
    let v = g.S.Steps.view c.args.steps.now in
    let w = g.S.Steps.view c.pass_store.new.self in
    let row = c.pass_store.ensures.row in
    let told = c.pin_told-in-Storing.ensures in
    let asked = StorePin c.in-Storing.epoch in
    let asks = ap pins.asks c.in-Storing.is in
    let one = ap (λ (a : View). a.steps) row ∙ pinning_counts v c.in-Storing.epoch in
    goes_on z k hi m c.pin_told-in-Storing.new.self t v w c.requires.stage one told.walk told.turns told.refuses told.left (λ u fits. told.fits z k hi u v w t asked fits asks row)

pub pin_told-requires-clause-told : goal.pin_told-requires-clause-told
pin_told-requires-clause-told g c =
    let q = c.requires.fits in
    let m = c.args.self.now in
    let z = g.S.Steps.sizes c.args.steps.now in
    let v = g.S.Steps.view c.args.steps.now in
    let on = pinning_at z q.0 q.1 q.3.0 m q.2 v c.requires.stage q.3.1 in
    (z, q.3.0, v, g.S.Steps.view c.epoch-found.new.self, ReadEpoch, on.pinning, ap pins.asks c.in-Noting.is, c.epoch-found.ensures.row)

pub pin_told-requires-in-Storing-clause-told : goal.pin_told-requires-in-Storing-clause-told
pin_told-requires-in-Storing-clause-told g c =
    let q = c.requires.fits in
    let m = c.args.self.now in
    let z = g.S.Steps.sizes c.args.steps.now in
    let v = g.S.Steps.view c.args.steps.now in
    let on = pinning_at z q.0 q.1 q.3.0 m q.2 v c.requires.stage q.3.1 in
    (z, q.3.0, v, g.S.Steps.view c.pass_store.new.self, StorePin c.in-Storing.epoch, on.pinning, ap pins.asks c.in-Storing.is, c.pass_store.ensures.row)
