-- A text without its last byte.
use Rattle.std.proofs.Common.{◌≡◌, ◌∙◌, ◌+◌, ◌-◌, ℕ, List, [], ◌∷◌, ◌++◌, length, take, ap, arith}
use Rattle.std.proofs.Math.Seq.{take-append_seam}
use Rattle.std.proofs.lemmas.List.{length-append}

pub front_of : (n : ℕ) (text front : List ℕ) (x : ℕ) → n ≡ length text → text ≡ front ++ x ∷ [] → take (n - 1) text ≡ front
front_of n text front x long is =
    let count : length (front ++ x ∷ []) ≡ length front + 1 = length-append front (x ∷ []) in
    let whole : n ≡ length (front ++ x ∷ []) = long ∙ ap length is in
    let fewer : n - 1 ≡ length front = omega (arith, whole, count) in
    ap (λ (l : List ℕ). take (n - 1) l) is ∙ (ap (λ (k : ℕ). take k (front ++ x ∷ [])) fewer ∙ take-append_seam front (x ∷ []))
