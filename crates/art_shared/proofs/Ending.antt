-- What follows of a world in which some passes know what they know, and where they are all, there are no others.
use Rattle.art_key.specs.Spelling.{IsKeyOf}
use Rattle.std.proofs.Common.{◌≡◌, ◌≢◌, ◌+◌, ◌==◌, ℕ, List, [], ◌∷◌, length, ⊎_elim, sym, refl, ap, ◌∙◌, subst, arith, eq-eqb}
use Rattle.std.proofs.lemmas.Bool.{cond_both, false≢true}
use Rattle.std.proofs.lemmas.Option.{same_Some}
use Rattle.std.specs.Prelude.{Option, Some, None}
use Rattle.art_cell.specs.declared.cells.Cell.{Cell}
use Rattle.art_cell.specs.declared.cells.Link.{Link}
use Rattle.art_step.specs.declared.views.Event.{Event}
use Rattle.art_step.specs.declared.views.Sizes.{Sizes}
use Rattle.art_step.specs.declared.views.View.{View}
use Rattle.art_step.specs.Histories.{AreAdmitted, places_from}
use Rattle.art_step.specs.Sound.{InHandOf, InLimboOf, InTree, IsFree, IsSound, Nowhere, NumbersAccounted, ShowsReplay, Whereabouts}
use Rattle.art_step.specs.Views.{IsInLimbo, IsLocked, Member, Memory, Views}
use Rattle.art_step.specs.WordPlaces.{word_count}
use Rattle.art_step.specs.WordRows.{memory_of}
use Rattle.art_tree.specs.Heaps.{Cells}
use Rattle.art_shared.specs.declared.law.Basis.{Basis}
use Rattle.art_shared.specs.declared.pass.Pass.{Pass}
use Rattle.art_shared.specs.Closing.{AreAll, Closes, Fate, Free, HasFate, HaveNoNumber, HoldNoCell, InLimbo, IsAccounted, Linked, TellsAll, numbers_of}
use Rattle.art_shared.specs.Rule.{Apart}
use Rattle.art_shared.specs.Tables.{view_of_pass}

-- an event of a history has a place in it
has_place : (k : ℕ) (e : Event) (log : List Event) → Member e log → places_from e.pass k log ≡ [] → ⊥
has_place k e [] i none = absurd i
has_place k e (x ∷ log) i none = cond_both (x.pass == e.pass) (k ∷ places_from e.pass (k + 1) log) (places_from e.pass (k + 1) log) (λ (ps : List ℕ). ps ≡ [] → ⊥)
    (λ _ h. absurd (omega (arith, ap length h)))
    (λ other h. ⊎_elim
    (λ (is : e ≡ x). false≢true (sym other ∙ eq-eqb x.pass e.pass (ap (λ (y : Event). y.pass) (sym is))))
    (λ (j : Member e log). has_place (k + 1) e log j h)
    i)
    none

-- ---- where a number is, where nobody has one in hand

abbrev fate_of : Whereabouts → Option Fate
fate_of InTree = Some Linked
fate_of IsFree = Some Free
fate_of (InHandOf p) = None
fate_of (InLimboOf p) = Some (InLimbo p)
fate_of Nowhere = None

module _ (z : Sizes) (m : Memory) (f : Views) (passes : List Pass) (at : Link → Whereabouts) (r : NumbersAccounted z m f m.words at)
    (pass : (p : ℕ) (v : View) → f p ≡ Some v → v.pass ≡ p)
    (known : (a : Pass) → Member a passes → f (view_of_pass a).pass ≡ Some (view_of_pass a))
    (others : (p : ℕ) (v : View) → f p ≡ Some v → (a : Pass) × Member a passes × (view_of_pass a ≡ v))
    (hand : HaveNoNumber passes) where
  told : (d : Link) (u : Fate) → HasFate m passes d u → fate_of (at d) ≡ Some u
  told d Linked h = ap fate_of ((r.tree d).1 h)
  told d Free h = ap fate_of ((r.free d).1 h)
  told d (InLimbo p) h =
      let v : View = view_of_pass h.0 in
      let e : IsInLimbo v d = h.3 in
      let there : at e.0.link ≡ InLimboOf v.pass = (r.accounts v.pass v (known h.0 h.1)).limbo e.0 e.1 in
      ap fate_of (subst (λ (x : Link). at x ≡ InLimboOf p) e.2 (there ∙ ap InLimboOf h.2))

  no_hand : (d : Link) (p : ℕ) (o : Option View) → f p ≡ o → at d ≡ InHandOf p → ⊥
  no_hand d p None none e = (r.strangers p d none).0 e
  no_hand d p (Some v) some e =
      let x = (r.accounts p v some).in_hand d e in
      let a = others p v some in
      subst (Member x.0) (ap (λ (u : View). u.hand) (sym a.2) ∙ hand a.0 a.1) x.1

  in_limbo : (d : Link) (p : ℕ) (o : Option View) → f p ≡ o → at d ≡ InLimboOf p → HasFate m passes d (InLimbo p)
  in_limbo d p None none e = absurd ((r.strangers p d none).1 e)
  in_limbo d p (Some v) some e =
      let x : IsInLimbo v d = (r.accounts p v some).in_limbo d e in
      let a = others p v some in
      (a.0, a.1, ap (λ (u : View). u.pass) a.2 ∙ pass p v some, subst (λ (u : View). IsInLimbo u d) (sym a.2) x)

  found : (d : Link) (w : Whereabouts) → at d ≡ w → w ≢ Nowhere → (u : Fate) × HasFate m passes d u
  found d InTree e is = (Linked, (r.tree d).0 e)
  found d IsFree e is = (Free, (r.free d).0 e)
  found d (InHandOf p) e is = absurd (no_hand d p (f p) refl e)
  found d (InLimboOf p) e is = (InLimbo p, in_limbo d p (f p) refl e)
  found d Nowhere e is = absurd (is refl)

  accounted : IsAccounted z m passes
  accounted = record {
    one = λ d is. let w = found d (at d) refl ((r.numbers d).1 is) in (w.0, w.1, λ u h. same_Some u w.0 (sym (told d u h) ∙ told d w.0 w.1));
    numbers = λ d u h. (r.numbers d).0 (λ none. let e : Some u ≡ None = sym (told d u h) ∙ ap fate_of none in cc);
    once = λ a i. (r.accounts (view_of_pass a).pass (view_of_pass a) (known a i)).limbo_once;
  }

-- ---- the end

module _ (b : Basis) (m : Memory) (f : Views) (passes : List Pass) (r : IsSound b.sizes m f) (typed : AreAdmitted (IsKeyOf b.schema) r.log)
    (known : (a : Pass) → Member a passes → f (view_of_pass a).pass ≡ Some (view_of_pass a))
    (others : AreAll b passes → (p : ℕ) (v : View) → f p ≡ Some v → (a : Pass) × Member a passes × (view_of_pass a ≡ v)) where
  -- an event of the history is one of a pass
  abbrev z : Sizes
  z = b.sizes

  event_of : AreAll b passes → (e : Event) → Member e r.log → (o : Option View) → f e.pass ≡ o → (a : Pass) × Member a passes × (e.pass ≡ (view_of_pass a).pass)
  event_of all e i None none = absurd (has_place 0 e r.log i (r.history.strangers e.pass none))
  event_of all e i (Some v) some =
      let a = others all e.pass v some in
      (a.0, a.1, sym (r.history.tells e.pass v some).pass ∙ ap (λ (u : View). u.pass) (sym a.2))

  tells_all : TellsAll b passes r.log
  tells_all = record {
    legal = r.history.legal;
    typed = typed;
    begins = λ a i. (r.history.tells (view_of_pass a).pass (view_of_pass a) (known a i)).starts;
    own = λ a i. (r.history.tells (view_of_pass a).pass (view_of_pass a) (known a i)).own;
    whole = λ all e i. event_of all e i (f e.pass) refl;
  }

  -- no cell is locked, so each has its logical words
  unlocked : AreAll b passes → HoldNoCell passes → (c : Cell) → IsLocked (m.version c) → ⊥
  unlocked all held c locked =
      let h = r.holder.holder c locked in
      let a = others all h.pass h.view h.is in
      subst (Member h.holding) (ap (λ (v : View). v.held) (sym a.2) ∙ held a.0 a.1) h.holds

  logical_words : AreAll b passes → HoldNoCell passes → r.logical ≡ m.words
  logical_words all held = λ i c. r.holder.at_rest c (unlocked all held c) i

  shows_words : AreAll b passes → HoldNoCell passes → ShowsReplay z r.log m.words
  shows_words all held = subst (λ (s : Cells). ShowsReplay z r.log s) (logical_words all held) r.shows

  accounts : AreAll b passes → HoldNoCell passes → HaveNoNumber passes → IsAccounted z m passes
  accounts all held hand =
      let numbers : NumbersAccounted z m f m.words r.at = subst (λ (s : Cells). NumbersAccounted z m f s r.at) (logical_words all held) r.numbers in
      accounted z m f passes r.at numbers (λ p v e. (r.history.tells p v e).pass) known (others all) hand

pub closes_by : (b : Basis) (ws : List ℕ) (f : Views) (passes : List Pass) (r : IsSound b.sizes (memory_of b.sizes ws) f) → length ws ≡ word_count b.sizes
    → Apart (numbers_of passes) → AreAdmitted (IsKeyOf b.schema) r.log → ((a : Pass) → Member a passes → f (view_of_pass a).pass ≡ Some (view_of_pass a))
    → (AreAll b passes → (p : ℕ) (v : View) → f p ≡ Some v → (a : Pass) × Member a passes × (view_of_pass a ≡ v))
    → Closes b ws passes
closes_by b ws f passes r long apart typed known others = record {
  long = long;
  apart = apart;
  views = f;
  sound = r;
  each = known;
  whole = others;
  history = tells_all b (memory_of b.sizes ws) f passes r typed known others;
  tree = shows_words b (memory_of b.sizes ws) f passes r typed known others;
  numbers = accounts b (memory_of b.sizes ws) f passes r typed known others;
}
