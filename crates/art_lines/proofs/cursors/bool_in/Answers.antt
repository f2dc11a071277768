use Rattle.std.proofs.Common.{◌≡◌, ◌∙◌, ◌++◌, ℕ, List, drop, length, refl, sym, take, true}
use Rattle.std.proofs.lemmas.List.{take-append-drop}
use Rattle.std.proofs.lemmas.Slice.Eq.{bytes_eq-Decides}
use Rattle.std.specs.Prelude.{bytes_eq, codes}
use Rattle.art_lines.proofs.cursors.bool_in.Goals as goal

begins : (bytes word rest : List ℕ) → bytes_eq (take (length word) bytes) word ≡ true
    → rest ≡ drop (length word) bytes → bytes ≡ word ++ rest
begins bytes word rest same behind =
    let front = (bytes_eq-Decides (take (length word) bytes) word).0 same in
    sym (take-append-drop (length word) bytes) ∙ rw (front, behind) refl

pub returns-in-Some : goal.returns-in-Some
returns-in-Some c = begins c.args.bytes.now (codes "true") c.in-Some.rest.now c.in-Some.ensures.cases.0 c.in-Some.ensures.cases.1

pub returns : goal.returns
returns c = begins c.args.bytes.now (codes "false") c.in_ok-rest.rest.now c.in_ok-rest.ensures.cases.0 c.in_ok-rest.ensures.cases.1
