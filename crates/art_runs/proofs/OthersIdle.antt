-- What a pass that alone makes steps knows of the words between its steps.
use Rattle.std.proofs.Common.{◌≡◌, ◌≢◌, ◌⊎◌, ℕ, [], ⊎_elim, sym, ap, ◌∙◌, subst}
use Rattle.std.proofs.lemmas.Bool.{cases_eq}
use Rattle.std.proofs.lemmas.Option.{same_Some}
use Rattle.std.specs.Prelude.{List, Some}
use Rattle.art_cell.specs.declared.cells.Cell.{Cell}
use Rattle.art_step.specs.declared.views.Holding.{Holding}
use Rattle.art_step.specs.declared.views.Sizes.{Sizes}
use Rattle.art_step.specs.declared.views.View.{View}
use Rattle.art_step.specs.Sound.{IsSound}
use Rattle.art_step.specs.Steps.{OneStep}
use Rattle.art_step.specs.Views.{IsClear, IsLocked, IsObsolete, Member, Memory, Views}
use Rattle.art_step.proofs.Determined.{step_view}
use Rattle.art_runs.specs.OthersIdle.{AreCurrent, IsAlone}

-- a step of the pass that is alone leaves it alone
pub alone_on : (z : Sizes) (p : ℕ) (m : Memory) (f : Views) (m' : Memory) (f' : Views) → OneStep z p m f m' f' → IsAlone p f → IsAlone p f'
alone_on z p m f m' f' t alone q u other is = alone q u other (sym ((step_view z p m f m' f' t).1.there q other) ∙ is)

-- an idle pass has no stamps
pub idle_current : (z : Sizes) (p : ℕ) (v : View) (m : Memory) (f : Views) → IsSound z m f → f p ≡ Some v → v.pin ≡ 0 → AreCurrent m v
idle_current z p v m f r at idle x i free = absurd ((r.unstamped.pinned p v at).pinned x i idle)

-- where the pass holds nothing, no cell is locked
pub not_locked : (z : Sizes) (p : ℕ) (v : View) (m : Memory) (f : Views) → IsSound z m f → IsAlone p f → f p ≡ Some v → v.held ≡ [] → (c : Cell) → IsLocked (m.version c) → ⊥
not_locked z p v m f r alone at none c locked =
    let o = r.holder.holder c locked in
    let free : o.view.held ≡ [] = ⊎_elim
    (λ (same : o.pass ≡ p). ap (λ (u : View). u.held) (same_Some o.view v (sym o.is ∙ (ap f same ∙ at))) ∙ none)
    (λ (other : o.pass ≢ p). (alone o.pass o.view other o.is).1)
    (cases_eq o.pass p) in
    subst (λ (hs : List Holding). Member o.holding hs) free o.holds

-- so each that is not obsolete is clear
pub clear_unless : (z : Sizes) (p : ℕ) (v : View) (m : Memory) (f : Views) → IsSound z m f → IsAlone p f → f p ≡ Some v → v.held ≡ [] → (c : Cell) → (IsObsolete (m.version c) → ⊥) → IsClear (m.version c)
clear_unless z p v m f r alone at none c live = ⊎_elim
    (λ (clear : IsClear (m.version c)). clear)
    (λ (o : IsLocked (m.version c) ⊎ IsObsolete (m.version c)). ⊎_elim
    (λ (locked : IsLocked (m.version c)). absurd (not_locked z p v m f r alone at none c locked))
    (λ (obsolete : IsObsolete (m.version c)). absurd (live obsolete))
    o)
    (r.formed.versions c).form

-- the word of any other pass is 0
pub pass_idle : (z : Sizes) (p : ℕ) (m : Memory) (f : Views) → IsSound z m f → IsAlone p f → (q : ℕ) (u : View) → q ≢ p → f q ≡ Some u → m.pass_word q ≡ 0
pass_idle z p m f r alone q u other is = (r.unstamped.pinned q u is).word ∙ (alone q u other is).0
