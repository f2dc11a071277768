-- What a line of a schedule prints.
use Rattle.std.specs.Prelude.{◌≡◌, ◌≢◌, ℕ, ◌+◌, List, [], ◌∷◌, ◌++◌, codes, decimal, Option, Result, IfErr, OnOk}
use Rattle.std.specs.Io.KnownBytes.{Appends}
use Rattle.art_schedule.specs.Lines.{mark_word}
use Rattle.art_schedule.specs.declared.orders.Told.{Told}
use Rattle.art_schedule.specs.declared.stops.Stop.{Stop}
use Rattle.art_schedule.specs.declared.stops.Stop.TheVariants.{BadLine, WriteFault, NoMemory}
use Rattle.art_schedule.specs.declared.orders.Told.TheVariants.{Nothing, At, Stepped, Ended}

-- A to H
abbrev pub name_of : ℕ → ℕ
name_of place = 65 + place

abbrev pub told_text : ℕ → Told → List ℕ
told_text place Nothing = []
told_text place (At mark) = name_of place ∷ codes " at " ++ mark_word mark ++ 10 ∷ []
told_text place Stepped = name_of place ∷ codes " stepped" ++ 10 ∷ []
told_text place (Ended reply restarts) =
    name_of place ∷ 32 ∷ [] ++ reply.items ++ codes " restarts " ++ decimal restarts ++ 10 ∷ []

-- how much of a text is written where its writing stops: it is some text, of which a front was written or nothing was made
abbrev pub CutsFor : Stop → List ℕ → List ℕ → Type 0
CutsFor BadLine text part = ⊥
CutsFor WriteFault text part = text ≢ []
CutsFor NoMemory text part = (text ≢ []) × (part ≡ [])

-- a front of the line was written, and all of it where the result is Ok
pub record TellsLine {A : Type 0} (place : ℕ) (told : Told) (held held_after : Option (List ℕ)) (result : Result A Stop) : Type 0 where
  pub part : List ℕ
  pub rest : List ℕ
  pub whole : told_text place told ≡ part ++ rest
  pub appends : Appends held held_after part
  pub done : OnOk result (rest ≡ [])
  pub stops : IfErr result (λ stop. CutsFor stop (told_text place told) part)
