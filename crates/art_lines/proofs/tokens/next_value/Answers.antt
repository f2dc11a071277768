use Rattle.std.proofs.Common.{refl}
use Rattle.std.proofs.lemmas.Option.{IfSome_then}
use Rattle.serde_json.specs.Data.{boolean, string, number}
use Rattle.art_lines.proofs.TokenLaws.{begins-boolean, begins-string, begins-number}
use Rattle.art_lines.proofs.tokens.next_value.Goals as goal

pub returns-in_ok-take_text-in-Some-eq34 : goal.returns-in_ok-take_text-in-Some-eq34
returns-in_ok-take_text-in-Some-eq34 c =
    let read = c.in_ok-take_text-in-Some-eq34 in
    IfSome_then c.text_value.result c.text_value.ensures (λ value said. (string read.field-0.now, begins-string 125 _ _ _ read.ensures, said))

pub returns-in_ok-take_bool-in-Some-eq116 : goal.returns-in_ok-take_bool-in-Some-eq116
returns-in_ok-take_bool-in-Some-eq116 c =
    let read = c.in_ok-take_bool-in-Some-eq116 in
    (boolean read.field-0, begins-boolean 125 _ _ _ read.ensures, λ place. refl)

pub returns-in_ok-take_number-in_default : goal.returns-in_ok-take_number-in_default
returns-in_ok-take_number-in_default c =
    IfSome_then c.whole_value.result c.whole_value.ensures (λ value said. (number said.0, begins-number 125 _ _ _ _ c.in_ok-take_number-in_default.ensures said.1, said.2))
