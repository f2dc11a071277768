-- The tokens that are still to come behind a cursor.
use Rattle.std.specs.Prelude.{List}
use Rattle.json.specs.Lex.{between, fresh, after_value, after_comma, lex, punctuate}
use Rattle.json.specs.Lex as json
use Rattle.json.specs.Token.{Token}
use Rattle.art_lines.specs.declared.cursors.Cursor.{Cursor}
use Rattle.art_lines.specs.declared.cursors.Place.{Place}
use Rattle.art_lines.specs.declared.cursors.Place.TheVariants.{Fresh, AfterValue, AfterComma}

-- the place, as the grammar has it
abbrev pub place_of : Place → json.Place
place_of Fresh = fresh
place_of AfterValue = after_value
place_of AfterComma = after_comma

abbrev pub tokens_left : Cursor → List Token
tokens_left c = punctuate (place_of c.place) (lex between c.rest.now)
