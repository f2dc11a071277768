-- Steps of epochs and pins, over words in a row: the view after each.
use Rattle.std.proofs.Common.{◌≡◌, ℕ, ◌+◌, ◌^◌, ◌<◌, ◌==◌, true, false, List, length, sym, refl, ap, subst, ⊎_elim, arith}
use Rattle.std.proofs.lemmas.Bool.{cases_Bool}
use Rattle.std.specs.Prelude.{Some}
use Rattle.art_step.specs.declared.views.Sizes.{Sizes}
use Rattle.art_step.specs.declared.views.View.{View}
use Rattle.art_step.specs.Effects.{FindsEpoch, FindsPassWord, PutsPassWord, RaisesEpoch, SetsEpoch, SetsPassWord}
use Rattle.art_step.specs.Sound.{IsSound}
use Rattle.art_step.specs.Steps.{IsAdvance, IsEpoch, IsPin, IsWatch}
use Rattle.art_step.specs.Steps.Advance as advance
use Rattle.art_step.specs.Steps.Epoch as epoch
use Rattle.art_step.specs.Steps.Pin as pin
use Rattle.art_step.specs.Steps.Watch as watch
use Rattle.art_step.specs.Views.{Memory, Views}
use Rattle.art_step.specs.WordPlaces.{epoch_place, pass_place, word_count}
use Rattle.art_step.specs.WordRows.{memory_of}
use Rattle.art_step.proofs.Moves.{Moves, moved}

pinning_pass : (v : View) (x : ℕ) → (pin.view_after v x).pass ≡ v.pass
pinning_pass v x = ⊎_elim (λ (e : (x == 0) ≡ true). rw e refl) (λ (e : (x == 0) ≡ false). rw e refl) (cases_Bool (x == 0))

module _ (z : Sizes) (ws : List ℕ) (f : Views) (p : ℕ) (v : View) (r : IsSound z (memory_of z ws) f) (at : f p ≡ Some v) (long : length ws ≡ word_count z) where
  abbrev m : Memory
  m = memory_of z ws

  -- the epoch's place, and that of a pass's word, are among the words
  pub epoch_low : epoch_place z < length ws
  epoch_low = omega (arith, long)

  pub pass_low : (q : ℕ) → q < z.passes → pass_place z q < length ws
  pass_low q few = omega (arith, long, few)

  -- the pass has a word
  pub own_low : pass_place z p < length ws
  own_low = let few = (r.unstamped.pinned p v at).inside in omega (arith, long, few)

  -- the epoch may go up by 1
  pub epoch_fits : (x : ℕ) → x ≡ m.epoch → z.passes < 2 ^ 32 → x + 1 < 2 ^ 64
  epoch_fits x is few = let bound = r.formed.epoch in omega arith

  -- the epoch is found
  pub moves_notes : (found : ℕ) → found ≡ m.epoch → Moves z ws f p v ws (λ v w. epoch.Outcome z v w found) (FindsEpoch found)
  moves_notes found is = moved z ws f p v r at long ws (λ v w. epoch.Outcome z v w found) (FindsEpoch found) (epoch.view_after v m.epoch) refl
      record { some = let low = r.unstamped.epoch in omega arith; low = let bound = r.formed.epoch in omega arith; is = ap (epoch.view_after v) (sym is) }
      (λ g t. IsEpoch record { words = refl; view = t })
      (λ g t. record { found = is; same = refl })

  -- the pass stores its word
  pub moves_pins : (us : List ℕ) (x : ℕ) → pin.May v x → SetsPassWord m p x (memory_of z us) → Moves z ws f p v us (λ v w. pin.Outcome v w x) (PutsPassWord v.pass x)
  moves_pins us x may sets =
      let own : v.pass ≡ p = (r.history.tells p v at).pass in
      moved z ws f p v r at long us (λ v w. pin.Outcome v w x) (PutsPassWord v.pass x) (pin.view_after v x) (pinning_pass v x) refl
      (λ g t. IsPin record { word = x; may = may; sets = sets; view = t })
      (λ g t. rw own sets)

  -- the epoch goes up
  pub moves_advances : (us : List ℕ) (found : ℕ) → found ≡ m.epoch → advance.May v → SetsEpoch m (found + 1) (memory_of z us) → Moves z ws f p v us advance.Outcome (RaisesEpoch found)
  moves_advances us found is may sets = moved z ws f p v r at long us advance.Outcome (RaisesEpoch found) (advance.view_after v) refl refl
      (λ g t. IsAdvance record { may = may; sets = subst (λ (x : ℕ). SetsEpoch m (x + 1) (memory_of z us)) is sets; view = t })
      (λ g t. record { found = is; sets = sets })

  -- the word of another pass is found
  pub moves_watches : (q found : ℕ) → watch.May z v q → found ≡ m.pass_word q → Moves z ws f p v ws (λ v w. watch.Outcome v w q found) (FindsPassWord q found)
  moves_watches q found may is = moved z ws f p v r at long ws (λ v w. watch.Outcome v w q found) (FindsPassWord q found) (watch.view_after v q (m.pass_word q)) refl (ap (watch.view_after v q) (sym is))
      (λ g t. IsWatch record { pass = q; may = may; words = refl; view = t })
      (λ g t. record { found = is; same = refl })
