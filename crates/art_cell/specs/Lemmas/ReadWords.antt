-- Words that were read one by one agree with the words of a cell.
use Rattle.std.proofs.Common.{◌≡◌, ℕ, zero, suc, List, [], ◌∷◌, Option, Some, None, ◌∙◌}
use Rattle.std.specs.Prelude.{set, replicate}
use Rattle.std.proofs.lemmas.Option.{none-some, same_Some}
use Rattle.art_cell.specs.Words.{Words}
use Rattle.art_cell.specs.Reads.{Agrees}

-- nothing is read
pub none_read : (count : ℕ) (w : Words) → Agrees (replicate count None) w
none_read zero w place value read = absurd (none-some value read)
none_read (suc count) w zero value read = absurd (none-some value read)
none_read (suc count) w (suc place) value read = none_read count (λ p. w (suc p)) place value read

-- one word more is read
pub one_read : (reads : List (Option ℕ)) (w : Words) (place word : ℕ) → w place ≡ word → Agrees reads w → Agrees (set reads place (Some word)) w
one_read [] w place word is agrees p value read = agrees p value read
one_read (r ∷ reads) w zero word is agrees zero value read = is ∙ same_Some word value read
one_read (r ∷ reads) w zero word is agrees (suc p) value read = agrees (suc p) value read
one_read (r ∷ reads) w (suc place) word is agrees zero value read = agrees 0 value read
one_read (r ∷ reads) w (suc place) word is agrees (suc p) value read = one_read reads (λ q. w (suc q)) place word is (λ q. agrees (suc q)) p value read
