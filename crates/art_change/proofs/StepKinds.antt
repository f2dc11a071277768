-- Which kind of step it was, from what it needed and what it answered.
use Rattle.std.proofs.Common.{Option, Some, None, inl, inr}
use Rattle.art_change.specs.Kinds.{IsStep}
use Rattle.art_cell.specs.declared.cells.Link.TheVariants.{Leaf as leaf}
use Rattle.art_step.specs.Acting.{Answers, IsAllowed, IsLook, kind_of, telling}
use Rattle.art_step.specs.declared.actions.Action.{Action}
use Rattle.art_step.specs.declared.actions.Action.TheVariants.{Begin, Read, ReadLeaf, Check, Settle, Upgrade, Claim, Write, WriteLeaf, Commit, Release}
use Rattle.art_step.specs.declared.actions.Action.TheVariants.{ClearBit, GiveBack, Free, ReadEpoch, StorePin, RaiseEpoch, ReadPin}
use Rattle.art_step.specs.declared.actions.Answer.{Answer}
use Rattle.art_step.specs.declared.actions.Answer.TheVariants.{Begun, Word, Checked, Upgraded, Done}
use Rattle.art_step.specs.declared.actions.Effects.{Effects}
use Rattle.art_step.specs.Views.{IsHolding}
use Rattle.art_step.specs.declared.deeds.Deed.{Deed}
use Rattle.art_step.specs.declared.views.Sizes.{Sizes}
use Rattle.art_step.specs.declared.views.View.{View}

pub is_step : (z : Sizes) (o : Option Effects) (a : Action) (r : Answer) (v w : View) → IsAllowed z o v a → Answers z o a r v w → IsStep (kind_of a) z v w
is_step z o (Begin c) (Begun s) v w may row = (c, s, row)
is_step z o (Begin c) (Word y) v w may row = absurd row
is_step z o (Begin c) (Checked s) v w may row = absurd row
is_step z o (Begin c) (Upgraded s) v w may row = absurd row
is_step z o (Begin c) Done v w may row = absurd row
is_step z o (Read x i) (Begun s) v w may row = absurd row
is_step z o (Read x i) (Word y) v w may row = inl (x, i, y, row)
is_step z o (Read x i) (Checked s) v w may row = absurd row
is_step z o (Read x i) (Upgraded s) v w may row = absurd row
is_step z o (Read x i) Done v w may row = absurd row
is_step z o (ReadLeaf x l i) (Begun s) v w may row = absurd row
is_step z o (ReadLeaf x l i) (Word y) v w may row = inr (x, l, i, y, row)
is_step z o (ReadLeaf x l i) (Checked s) v w may row = absurd row
is_step z o (ReadLeaf x l i) (Upgraded s) v w may row = absurd row
is_step z o (ReadLeaf x l i) Done v w may row = absurd row
is_step z o (Check x) (Begun s) v w may row = absurd row
is_step z o (Check x) (Word y) v w may row = absurd row
is_step z o (Check x) (Checked s) v w may row = (x, None, s, row)
is_step z o (Check x) (Upgraded s) v w may row = absurd row
is_step z o (Check x) Done v w may row = absurd row
is_step z None (Settle x) r v w may row = absurd may
is_step z (Some e) (Settle x) (Begun s) v w may row = absurd row
is_step z (Some e) (Settle x) (Word y) v w may row = absurd row
is_step z (Some e) (Settle x) (Checked s) v w may row = (x, Some e.deed, s, row)
is_step z (Some e) (Settle x) (Upgraded s) v w may row = absurd row
is_step z (Some e) (Settle x) Done v w may row = absurd row
is_step z o (Upgrade x) (Begun s) v w may row = absurd row
is_step z o (Upgrade x) (Word y) v w may row = absurd row
is_step z o (Upgrade x) (Checked s) v w may row = absurd row
is_step z o (Upgrade x) (Upgraded s) v w may row = (x, s, row)
is_step z o (Upgrade x) Done v w may row = absurd row
is_step z o (Claim n) (Begun s) v w may row = absurd row
is_step z o (Claim n) (Word y) v w may row = absurd row
is_step z o (Claim n) (Checked s) v w may row = absurd row
is_step z o (Claim n) (Upgraded s) v w may row = absurd row
is_step z o (Claim n) Done v w may row = (n, row)
is_step z o (Write c i word) (Begun s) v w may row = absurd row
is_step z o (Write c i word) (Word y) v w may row = absurd row
is_step z o (Write c i word) (Checked s) v w may row = absurd row
is_step z o (Write c i word) (Upgraded s) v w may row = absurd row
is_step z o (Write c i word) Done v w may row = let held : IsHolding v c may.holding = (may.may.held, may.cell) in inl (c, may.holding, i, word, held, row may.holding held)
is_step z o (WriteLeaf l i word) (Begun s) v w may row = absurd row
is_step z o (WriteLeaf l i word) (Word y) v w may row = absurd row
is_step z o (WriteLeaf l i word) (Checked s) v w may row = absurd row
is_step z o (WriteLeaf l i word) (Upgraded s) v w may row = absurd row
is_step z o (WriteLeaf l i word) Done v w may row = inr (leaf l, may.0.hand, i, word, may.0.has, row may.0.hand may.0.has)
is_step z None (Commit c b) r v w may row = absurd may
is_step z (Some e) (Commit c b) (Begun s) v w may row = absurd row
is_step z (Some e) (Commit c b) (Word y) v w may row = absurd row
is_step z (Some e) (Commit c b) (Checked s) v w may row = absurd row
is_step z (Some e) (Commit c b) (Upgraded s) v w may row = absurd row
is_step z (Some e) (Commit c b) Done v w may row = let held : IsHolding v c may.holding = (may.first.held, may.cell) in (e, c, record { holding = may.holding; held = held; outcome = row.outcome may.holding held; once = row.once })
is_step z o (Release c b) (Begun s) v w may row = absurd row
is_step z o (Release c b) (Word y) v w may row = absurd row
is_step z o (Release c b) (Checked s) v w may row = absurd row
is_step z o (Release c b) (Upgraded s) v w may row = absurd row
is_step z o (Release c b) Done v w may row = let held : IsHolding v c may.holding = (may.may.0, may.cell) in (c, may.holding, held, row may.holding held)
is_step z o (ClearBit p i bit) (Begun s) v w may row = absurd row
is_step z o (ClearBit p i bit) (Word y) v w may row = (p, i, bit, y, row)
is_step z o (ClearBit p i bit) (Checked s) v w may row = absurd row
is_step z o (ClearBit p i bit) (Upgraded s) v w may row = absurd row
is_step z o (ClearBit p i bit) Done v w may row = absurd row
is_step z o (GiveBack d) (Begun s) v w may row = absurd row
is_step z o (GiveBack d) (Word y) v w may row = absurd row
is_step z o (GiveBack d) (Checked s) v w may row = absurd row
is_step z o (GiveBack d) (Upgraded s) v w may row = absurd row
is_step z o (GiveBack d) Done v w may row = inl (d, may.hand.0, (may.hand.1, may.hand.2), row)
is_step z o (Free d) (Begun s) v w may row = absurd row
is_step z o (Free d) (Word y) v w may row = absurd row
is_step z o (Free d) (Checked s) v w may row = absurd row
is_step z o (Free d) (Upgraded s) v w may row = absurd row
is_step z o (Free d) Done v w may row = inr (d, (may.place, may.limbo, may.link), row)
is_step z o ReadEpoch (Begun s) v w may row = absurd row
is_step z o ReadEpoch (Word y) v w may row = (y, row)
is_step z o ReadEpoch (Checked s) v w may row = absurd row
is_step z o ReadEpoch (Upgraded s) v w may row = absurd row
is_step z o ReadEpoch Done v w may row = absurd row
is_step z o (StorePin word) (Begun s) v w may row = absurd row
is_step z o (StorePin word) (Word y) v w may row = absurd row
is_step z o (StorePin word) (Checked s) v w may row = absurd row
is_step z o (StorePin word) (Upgraded s) v w may row = absurd row
is_step z o (StorePin word) Done v w may row = (word, row)
is_step z o RaiseEpoch (Begun s) v w may row = absurd row
is_step z o RaiseEpoch (Word y) v w may row = row
is_step z o RaiseEpoch (Checked s) v w may row = absurd row
is_step z o RaiseEpoch (Upgraded s) v w may row = absurd row
is_step z o RaiseEpoch Done v w may row = absurd row
is_step z o (ReadPin q) (Begun s) v w may row = absurd row
is_step z o (ReadPin q) (Word y) v w may row = (q, y, row)
is_step z o (ReadPin q) (Checked s) v w may row = absurd row
is_step z o (ReadPin q) (Upgraded s) v w may row = absurd row
is_step z o (ReadPin q) Done v w may row = absurd row

-- of a look nothing else is needed
pub look_step : (z : Sizes) (e : Deed) (a : Action) (r : Answer) (v w : View) → IsLook a → Answers z (telling e) a r v w → IsStep (kind_of a) z v w
look_step z e (Begin c) (Begun s) v w is row = (c, s, row)
look_step z e (Begin c) (Word y) v w is row = absurd row
look_step z e (Begin c) (Checked s) v w is row = absurd row
look_step z e (Begin c) (Upgraded s) v w is row = absurd row
look_step z e (Begin c) Done v w is row = absurd row
look_step z e (Read x i) (Begun s) v w is row = absurd row
look_step z e (Read x i) (Word y) v w is row = inl (x, i, y, row)
look_step z e (Read x i) (Checked s) v w is row = absurd row
look_step z e (Read x i) (Upgraded s) v w is row = absurd row
look_step z e (Read x i) Done v w is row = absurd row
look_step z e (ReadLeaf x l i) (Begun s) v w is row = absurd row
look_step z e (ReadLeaf x l i) (Word y) v w is row = inr (x, l, i, y, row)
look_step z e (ReadLeaf x l i) (Checked s) v w is row = absurd row
look_step z e (ReadLeaf x l i) (Upgraded s) v w is row = absurd row
look_step z e (ReadLeaf x l i) Done v w is row = absurd row
look_step z e (Check x) (Begun s) v w is row = absurd row
look_step z e (Check x) (Word y) v w is row = absurd row
look_step z e (Check x) (Checked s) v w is row = (x, None, s, row)
look_step z e (Check x) (Upgraded s) v w is row = absurd row
look_step z e (Check x) Done v w is row = absurd row
look_step z e (Settle x) (Begun s) v w is row = absurd row
look_step z e (Settle x) (Word y) v w is row = absurd row
look_step z e (Settle x) (Checked s) v w is row = (x, Some e, s, row)
look_step z e (Settle x) (Upgraded s) v w is row = absurd row
look_step z e (Settle x) Done v w is row = absurd row
look_step z e (Upgrade x) r v w is row = absurd is
look_step z e (Claim n) r v w is row = absurd is
look_step z e (Write c i word) r v w is row = absurd is
look_step z e (WriteLeaf l i word) r v w is row = absurd is
look_step z e (Commit c b) r v w is row = absurd is
look_step z e (Release c b) r v w is row = absurd is
look_step z e (ClearBit p i bit) r v w is row = absurd is
look_step z e (GiveBack d) r v w is row = absurd is
look_step z e (Free d) r v w is row = absurd is
look_step z e ReadEpoch r v w is row = absurd is
look_step z e (StorePin word) r v w is row = absurd is
look_step z e RaiseEpoch r v w is row = absurd is
look_step z e (ReadPin q) r v w is row = absurd is
