-- What finds a word is answered by one, and what finds nothing by none.
use Rattle.std.proofs.Common.{◌≡◌, ◌∙◌, ℕ, ap, refl, subst, sym}
use Rattle.std.specs.Prelude.{Option, Some, None}
use Rattle.art_step.specs.Acting.{Answers, FindsWord, IsSilent, IsWord, word_in}
use Rattle.art_step.specs.declared.actions.Action.{Action}
use Rattle.art_step.specs.declared.actions.Action.TheVariants.{Read, ReadLeaf, ClearBit, ReadEpoch, RaiseEpoch, ReadPin, Claim, Write, WriteLeaf, Commit, Release, GiveBack, Free, StorePin}
use Rattle.art_step.specs.declared.actions.Answer.{Answer}
use Rattle.art_step.specs.declared.actions.Answer.TheVariants.{Begun, Word, Checked, Upgraded, Done}
use Rattle.art_step.specs.declared.actions.Effects.{Effects}
use Rattle.art_step.specs.declared.views.Sizes.{Sizes}
use Rattle.art_step.specs.declared.views.View.{View}

pub is_word : (z : Sizes) (o : Option Effects) (a : Action) (answer : Answer) (v w : View) → FindsWord a → Answers z o a answer v w → IsWord answer
is_word z o a (Word x) v w finds row = (x, refl)
is_word z o (Read x i) (Begun r) v w finds row = absurd row
is_word z o (Read x i) (Checked r) v w finds row = absurd row
is_word z o (Read x i) (Upgraded r) v w finds row = absurd row
is_word z o (Read x i) Done v w finds row = absurd row
is_word z o (ReadLeaf x l i) (Begun r) v w finds row = absurd row
is_word z o (ReadLeaf x l i) (Checked r) v w finds row = absurd row
is_word z o (ReadLeaf x l i) (Upgraded r) v w finds row = absurd row
is_word z o (ReadLeaf x l i) Done v w finds row = absurd row
is_word z o (ClearBit p i b) (Begun r) v w finds row = absurd row
is_word z o (ClearBit p i b) (Checked r) v w finds row = absurd row
is_word z o (ClearBit p i b) (Upgraded r) v w finds row = absurd row
is_word z o (ClearBit p i b) Done v w finds row = absurd row
is_word z o ReadEpoch (Begun r) v w finds row = absurd row
is_word z o ReadEpoch (Checked r) v w finds row = absurd row
is_word z o ReadEpoch (Upgraded r) v w finds row = absurd row
is_word z o ReadEpoch Done v w finds row = absurd row
is_word z o RaiseEpoch (Begun r) v w finds row = absurd row
is_word z o RaiseEpoch (Checked r) v w finds row = absurd row
is_word z o RaiseEpoch (Upgraded r) v w finds row = absurd row
is_word z o RaiseEpoch Done v w finds row = absurd row
is_word z o (ReadPin q) (Begun r) v w finds row = absurd row
is_word z o (ReadPin q) (Checked r) v w finds row = absurd row
is_word z o (ReadPin q) (Upgraded r) v w finds row = absurd row
is_word z o (ReadPin q) Done v w finds row = absurd row
is_word z o a answer v w finds row = absurd finds

pub word_row : (z : Sizes) (o : Option Effects) (a : Action) (answer : Answer) (v w : View) → FindsWord a → Answers z o a answer v w → Answers z o a (Word (word_in answer)) v w
word_row z o a answer v w finds row =
    let k = is_word z o a answer v w finds row in
    subst (λ (r : Answer). Answers z o a r v w) (k.1 ∙ ap Word (sym (ap word_in k.1))) row

pub done_row : (z : Sizes) (o : Option Effects) (a : Action) (answer : Answer) (v w : View) → IsSilent a → Answers z o a answer v w → Answers z o a Done v w
done_row z o a Done v w silent row = row
done_row z o (Claim n) (Begun r) v w silent row = absurd row
done_row z o (Claim n) (Word y) v w silent row = absurd row
done_row z o (Claim n) (Checked r) v w silent row = absurd row
done_row z o (Claim n) (Upgraded r) v w silent row = absurd row
done_row z o (Write c i x) (Begun r) v w silent row = absurd row
done_row z o (Write c i x) (Word y) v w silent row = absurd row
done_row z o (Write c i x) (Checked r) v w silent row = absurd row
done_row z o (Write c i x) (Upgraded r) v w silent row = absurd row
done_row z o (WriteLeaf l i x) (Begun r) v w silent row = absurd row
done_row z o (WriteLeaf l i x) (Word y) v w silent row = absurd row
done_row z o (WriteLeaf l i x) (Checked r) v w silent row = absurd row
done_row z o (WriteLeaf l i x) (Upgraded r) v w silent row = absurd row
done_row z None (Commit c b) (Begun r) v w silent row = absurd row
done_row z None (Commit c b) (Word y) v w silent row = absurd row
done_row z None (Commit c b) (Checked r) v w silent row = absurd row
done_row z None (Commit c b) (Upgraded r) v w silent row = absurd row
done_row z (Some e) (Commit c b) (Begun r) v w silent row = absurd row
done_row z (Some e) (Commit c b) (Word y) v w silent row = absurd row
done_row z (Some e) (Commit c b) (Checked r) v w silent row = absurd row
done_row z (Some e) (Commit c b) (Upgraded r) v w silent row = absurd row
done_row z o (Release c b) (Begun r) v w silent row = absurd row
done_row z o (Release c b) (Word y) v w silent row = absurd row
done_row z o (Release c b) (Checked r) v w silent row = absurd row
done_row z o (Release c b) (Upgraded r) v w silent row = absurd row
done_row z o (GiveBack d) (Begun r) v w silent row = absurd row
done_row z o (GiveBack d) (Word y) v w silent row = absurd row
done_row z o (GiveBack d) (Checked r) v w silent row = absurd row
done_row z o (GiveBack d) (Upgraded r) v w silent row = absurd row
done_row z o (Free d) (Begun r) v w silent row = absurd row
done_row z o (Free d) (Word y) v w silent row = absurd row
done_row z o (Free d) (Checked r) v w silent row = absurd row
done_row z o (Free d) (Upgraded r) v w silent row = absurd row
done_row z o (StorePin x) (Begun r) v w silent row = absurd row
done_row z o (StorePin x) (Word y) v w silent row = absurd row
done_row z o (StorePin x) (Checked r) v w silent row = absurd row
done_row z o (StorePin x) (Upgraded r) v w silent row = absurd row
done_row z o a answer v w silent row = absurd silent
