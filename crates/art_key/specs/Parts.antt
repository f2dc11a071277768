-- What stands at the front of a spelled text.
use Rattle.std.specs.Prelude.{◌≡◌, ℕ, ◌<◌, List, [], length, Option, Some}
use Rattle.art_key.specs.declared.kinds.Part.{Part}
use Rattle.art_key.specs.declared.kinds.Part.TheVariants.{Byte, End}
use Rattle.art_key.specs.Kinds.{with_byte, unescaped}

-- the text that a part begins, and the bytes after the text
abbrev pub text_from : Part → Option (List ℕ × List ℕ)
text_from (Byte b rest) = with_byte b (unescaped rest.now)
text_from (End rest) = Some ([], rest.now)

-- the bytes after a part
abbrev pub rest_of : Part → List ℕ
rest_of (Byte b rest) = rest.now
rest_of (End rest) = rest.now

pub record IsFrontPart (bytes : List ℕ) (part : Part) : Type 0 where
  pub text : unescaped bytes ≡ text_from part
  pub shorter : length (rest_of part) < length bytes
