-- What is said of a node of its own layout, in the arm of a match that found which one it is.
use Rattle.std.proofs.Common.{◌≡◌, ℕ, Some, subst}
use Rattle.art_cell.specs.declared.cells.Body.{Body}
use Rattle.art_cell.specs.declared.cells.Layout.{Layout}
use Rattle.art_cell.specs.Bodies.{IsBody}
use Rattle.art_cell.specs.Reads.{IsBodyOf, word_of}
use Rattle.art_cell.specs.Words.{child_of}

pub body_of : (k : Layout) (body : Body) → body.layout ≡ k → IsBody body.layout (word_of body) → IsBodyOf k body
body_of k body is whole = record { layout = is; meaning = subst (λ (l : Layout). IsBody l (word_of body)) is whole }

pub child_there : (k : Layout) (body : Body) (byte : ℕ) → body.layout ≡ k → (c : ℕ) × (child_of body.layout (word_of body) byte ≡ Some c)
    → (c : ℕ) × (child_of k (word_of body) byte ≡ Some c)
child_there k body byte is there = subst (λ (l : Layout). (c : ℕ) × (child_of l (word_of body) byte ≡ Some c)) is there
