use Rattle.std.proofs.Common.{◌≡◌, ◌∷◌, ℕ, List, [], ap, arith, get_or, length, refl, suc}
use Rattle.std.specs.Prelude.{⊤, codes}
use Rattle.art_lines.specs.Lines.{get_of, remove_of}
use Rattle.art_lines.proofs.tokens.command_after.Goals as goal

-- The bytes from the place on are these.
abbrev Spells : List ℕ → ℕ → List ℕ → Type 0
Spells w place [] = ⊤
Spells w place (b ∷ bs) = (get_or w place 0 ≡ b) × Spells w (suc place) bs

behind : (a : ℕ) (w : List ℕ) (place : ℕ) (bs : List ℕ) → Spells (a ∷ w) (suc place) bs → Spells w place bs
behind a w place [] spells = tt
behind a w place (b ∷ bs) spells = (spells.0, behind a w (suc place) bs spells.1)

spelled : (w bs : List ℕ) → length w ≡ length bs → Spells w 0 bs → w ≡ bs
spelled [] [] long spells = refl
spelled [] (b ∷ bs) long spells = absurd (omega (arith, long))
spelled (a ∷ w) [] long spells = absurd (omega (arith, long))
spelled (a ∷ w) (b ∷ bs) long spells = rw (spells.0, spelled w bs (omega (arith, long)) (behind a w 0 bs spells.1)) refl

pub returns-in_ok-insert_after-in-insert : goal.returns-in_ok-insert_after-in-insert
returns-in_ok-insert_after-in-insert c =
    let w = c.args.word.now in
    let read = c.in_ok-insert_after-in-insert.ensures in
    let long : length w ≡ 6 = omega (arith, c.in-insert.len_at_least, c.in-insert.len_below) in
    let is = spelled w (codes "insert") long
    (assumption c, (assumption c, (assumption c, (assumption c, (assumption c, (assumption c, tt)))))) in
    (read.0, read.1, rw is read.2)

pub returns-in_ok-lone_tuple-in-remove : goal.returns-in_ok-lone_tuple-in-remove
returns-in_ok-lone_tuple-in-remove c =
    let w = c.args.word.now in
    let read = c.in_ok-lone_tuple-in-remove.ensures in
    let long : length w ≡ 6 = omega (arith, c.in-remove.len_at_least, c.in-remove.len_below) in
    let is = spelled w (codes "remove") long
    (assumption c, (assumption c, (assumption c, (assumption c, (assumption c, (assumption c, tt)))))) in
    (read.0, read.1, rw is (ap remove_of read.2))

pub returns-in_ok-lone_tuple-in-get : goal.returns-in_ok-lone_tuple-in-get
returns-in_ok-lone_tuple-in-get c =
    let w = c.args.word.now in
    let read = c.in_ok-lone_tuple-in-get.ensures in
    let long : length w ≡ 3 = omega (arith, c.in-get.len_at_least, c.in-get.len_below) in
    let is = spelled w (codes "get") long (assumption c, (assumption c, (assumption c, tt))) in
    (read.0, read.1, rw is (ap get_of read.2))

pub returns-in_ok-scan_after-in-scan : goal.returns-in_ok-scan_after-in-scan
returns-in_ok-scan_after-in-scan c =
    let w = c.args.word.now in
    let read = c.in_ok-scan_after-in-scan.ensures in
    let long : length w ≡ 4 = omega (arith, c.in-scan.len_at_least, c.in-scan.len_below) in
    let is = spelled w (codes "scan") long (assumption c, (assumption c, (assumption c, (assumption c, tt)))) in
    (read.0, read.1, rw is read.2)
