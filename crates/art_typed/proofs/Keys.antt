-- Keys that spell tuples of one schema.
use Rattle.std.proofs.Common.{◌≡◌, ◌++◌, ◌∙◌, List, ℕ, sym, ap, append-nil}
use Rattle.art_key.proofs.TupleLaws.{none_begins}
use Rattle.art_key.specs.Spelling.{IsKeyOf, spelling}
use Rattle.art_key.specs.declared.columns.Column.{Column}
use Rattle.art_step.specs.Histories.{AreApart}

-- no key of a schema begins another
pub keys_apart : (schema : List Column) → AreApart (IsKeyOf schema)
keys_apart schema k j a b begins =
    let same : spelling schema a.0 ++ begins.0 ≡ spelling schema b.0 = ap (λ (l : List ℕ). l ++ begins.0) (sym a.1.spelled) ∙ (begins.1 ∙ b.1.spelled) in
    let none = (none_begins schema a.0 b.0 begins.0 a.1.stands b.1.stands same).1 in
    sym (append-nil k) ∙ (ap (λ (rest : List ℕ). k ++ rest) (sym none) ∙ begins.1)
