use Rattle.std.proofs.Common.{◌≡◌, ◌==◌, ℕ, ◌^◌, ◌<◌, List, get_or, false, Option, Some, None, IfSome, sym, ap, ◌∙◌}
use Rattle.std.specs.Option.{SomeIff}
use Rattle.fast_float.specs.Text.{Parts, scan, digits_of, IsInteger}
use Rattle.serde_json.specs.Data.{unsigned}
use Rattle.serde_json.specs.Read.{number_of}
use Rattle.art_lines.proofs.NumberLaws.{number_of-unsigned}
use Rattle.art_lines.proofs.tokens.unsigned.Goals as goal

read_by : (s : List ℕ) (p : Parts) (r : Option ℕ) → p ≡ scan s → (get_or s 0 0 == 45) ≡ false → SomeIff r (IsInteger p × (digits_of p < 2 ^ 64)) (digits_of p)
    → IfSome r (λ whole. number_of s ≡ Some (unsigned whole))
read_by s p None parts plain read = tt
read_by s p (Some whole) parts plain read =
    number_of-unsigned s plain (rw parts at read.0.0) (rw parts at read.0.1) ∙ ap (λ n. Some (unsigned n)) (ap digits_of (sym parts) ∙ sym read.1)

pub returns : goal.returns
returns c =
    let s = c.args.text.now in
    let plain : (get_or s 0 0 == 45) ≡ false = sym c.if-has_minus.ensures.value in
    read_by s c.scan.result c.to_u64.result c.scan.ensures.parts plain c.to_u64.ensures
