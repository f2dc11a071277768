-- A leaf in hand, as one word after another is written.
use Rattle.std.proofs.Common.{◌≡◌, ◌≢◌, ℕ, ◌+◌, ◌<◌, ◌≤◌, List, length, get_or, set, ⊎_elim, sym, refl, ap, ltb-true, ◌∙◌, subst, arith, length-set, get_or-set_same, get_or-set_other}
use Rattle.std.proofs.lemmas.Bool.{cases_eq}
use Rattle.std.proofs.lemmas.Option.{same_Some}
use Rattle.std.specs.Prelude.{Bool, None, Some, false, if◌then◌else◌, nat_lt, true}
use Rattle.art_cell.specs.declared.cells.Cell.TheVariants as cell
use Rattle.art_cell.specs.Leaves.{leaf_word}
use Rattle.art_cell.specs.Lemmas.LeafWords.{words_mean_leaf}
use Rattle.art_cell.specs.declared.cells.Link.TheVariants.{Leaf as leaf}
use Rattle.art_plan.specs.ArtCommit.CommitLaws.{HasLeaf}
use Rattle.art_epoch.specs.LeafWriter.{IsPacked, OnlyPacks, word_asked}
use Rattle.art_step.specs.Acting.{IsAllowed, IsLeafInHand}
use Rattle.art_step.specs.declared.actions.Action.{Action}
use Rattle.art_step.specs.declared.actions.Action.TheVariants.{WriteLeaf}
use Rattle.art_step.proofs.WordForms.{leaf_form}
use Rattle.art_step.specs.Shows.{rest_of}
use Rattle.art_step.specs.Steps.Write as write
use Rattle.art_step.specs.Views.{IsInHand, IsWordOf, Member, words_in}
use Rattle.art_step.specs.declared.views.InHand.{InHand}
use Rattle.art_step.specs.declared.views.Sizes.{Sizes}
use Rattle.art_step.specs.declared.views.View.{View}

-- each word has the form of its place: the length is that of a key of at most 64 bytes
pub word_form : (z : Sizes) (l : ℕ) (k : List ℕ) (value place : ℕ) → length k ≤ 64 → IsWordOf z (cell.Leaf l) place (leaf_word k value place)
word_form z l k value place few = leaf_form z l place (leaf_word k value place) (λ at. subst (λ (p : ℕ). leaf_word k value p ≤ 64) (sym at) few)

-- and the one that is asked for may be written
pub word_allowed : (z : Sizes) (v : View) (l : ℕ) (k : List ℕ) (value place : ℕ) (a : Action) → IsLeafInHand z v l → length k ≤ 64 → word_asked l k value place ≡ Some a → IsAllowed z None v a
word_allowed z v l k value place a has few = by_test (nat_lt place 10) refl
  where
    next : Action
    next = WriteLeaf l place (leaf_word k value place)

    by_test : (b : Bool) → nat_lt place 10 ≡ b → (if b then Some next else None) ≡ Some a → IsAllowed z None v a
    by_test true low is = subst (IsAllowed z None v) (same_Some next a is) (has, ltb-true place 10 low, word_form z l k value place few)
    by_test false low is = absurd (cc)

-- all ten words are written
pub packed_leaf : (z : Sizes) (v : View) (l : ℕ) (k : List ℕ) (value : ℕ) → ((i : ℕ) → get_or k i 0 < 256) → length k ≤ 64 → IsPacked z v l k value 10 → HasLeaf z v l k value
packed_leaf z v l k value bytes few p = record {
  hand = p.is.hand;
  has = p.is.has.0;
  link = p.is.has.1;
  words = words_mean_leaf (words_in p.is.hand.words) k value p.words bytes few;
  short = few;
  number = p.is.inside;
  fits = p.is.fits;
}

-- the next word is written
module _ (z : Sizes) (l : ℕ) (k : List ℕ) (value place : ℕ) (u v w : View) (low : place < 10) (p : IsPacked z v l k value place) (row : (y : InHand) → IsInHand v (leaf l) y → write.LeafOutcome v w y place (leaf_word k value place)) where
  o : write.LeafOutcome v w p.is.hand place (leaf_word k value place)
  o = row p.is.hand p.is.has

  abbrev now : InHand
  now = write.with_leaf_word p.is.hand place (leaf_word k value place)

  pub pack_on : IsPacked z w l k value (place + 1)
  pack_on = record {
    is = record {
      hand = now;
      has = (subst (λ (xs : List InHand). Member now xs) (sym (ap (λ (t : View). t.hand) o.is)) o.puts.has, p.is.has.1);
      long = length-set p.is.hand.words place (leaf_word k value place) ∙ p.is.long;
      inside = p.is.inside;
      fits = p.is.fits;
    };
    words = λ i below. ⊎_elim
        (λ (is : i ≡ place). subst (λ (j : ℕ). get_or (set p.is.hand.words place (leaf_word k value place)) j 0 ≡ leaf_word k value j) (sym is) (get_or-set_same p.is.hand.words place (leaf_word k value place) 0 (let long = p.is.long in omega arith)))
        (λ (other : i ≢ place). get_or-set_other p.is.hand.words place i (leaf_word k value place) 0 other ∙ p.words i (omega arith))
        (cases_eq i place);
  }

  pub packs_on : OnlyPacks u v l → OnlyPacks u w l
  packs_on only = record {
    rest = ap (λ (t : View). rest_of (record t { hand = u.hand })) o.is ∙ only.rest;
    stamps = ap (λ (t : View). t.stamps) o.is ∙ only.stamps;
    notes = ap (λ (t : View). t.notes) o.is ∙ only.notes;
    failures = ap (λ (t : View). t.failures) o.is ∙ only.failures;
    others = λ y other. (
      (λ m. (only.others y other).0 (⊎_elim
          (λ (e : y ≡ now). absurd (other (ap (λ (a : InHand). a.link) e ∙ p.is.has.1)))
          (λ (j : Member y v.hand × (y ≢ p.is.hand)). j.0)
          (o.puts.was y (subst (λ (xs : List InHand). Member y xs) (ap (λ (t : View). t.hand) o.is) m)))),
      (λ m. subst (λ (xs : List InHand). Member y xs) (sym (ap (λ (t : View). t.hand) o.is))
          (o.puts.stays y ((only.others y other).1 m) (λ e. other (ap (λ (a : InHand). a.link) e ∙ p.is.has.1)))),
    );
  }

  pub pack_steps : w.steps ≡ v.steps + 1
  pack_steps = ap (λ (t : View). t.steps) o.is
