-- A body stays one, and a body of a layout is one of its own.
use Rattle.std.proofs.Common.{◌≡◌, ℕ, Bool, true, false, Option, refl, sym, subst, ◌∙◌}
use Rattle.art_cell.specs.declared.cells.Layout.{Layout}
use Rattle.art_cell.specs.declared.cells.Body.{Body}
use Rattle.art_cell.specs.Bodies.{IsBody, Becomes}
use Rattle.art_cell.specs.Reads.{IsBodyOf, word_of}

-- a body that became another
pub stays : (k : Layout) (old new : Body) (child : ℕ → Option ℕ) → IsBodyOf k old → Becomes k (word_of old) (word_of new) child → new.layout ≡ old.layout → IsBodyOf k new
stays k old new child was becomes same = record { layout = same ∙ was.layout; meaning = becomes.body }

-- a body that took a child, or was full
pub stays_either_way : (k : Layout) (old new : Body) (added : Bool) (child : ℕ → Option ℕ) → IsBodyOf k old → (added ≡ true → Becomes k (word_of old) (word_of new) child) → (added ≡ false → new ≡ old) → new.layout ≡ old.layout
    → IsBodyOf k new
stays_either_way k old new true child was becomes refused same = stays k old new child was (becomes refl) same
stays_either_way k old new false child was becomes refused same = subst (IsBodyOf k) (sym (refused refl)) was

-- the layout that a body names is its own
pub of_its_layout : (k : Layout) (body : Body) → IsBodyOf k body → IsBody body.layout (word_of body)
of_its_layout k body is = subst (λ (l : Layout). IsBody l (word_of body)) (sym is.layout) is.meaning
