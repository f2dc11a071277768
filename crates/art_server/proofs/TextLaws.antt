-- The texts of replies that list no rows, as they are written.
use Rattle.std.proofs.Common.{◌≡◌, ◌≤◌, ℕ, List, [], ◌∷◌, ◌++◌, length, codes, decimal, Ok, Err, refl, sym, ap, ◌∙◌, append_assoc, arith}
use Rattle.json.specs.Print.{escape, escape_byte}
use Rattle.art_model.specs.declared.commands.Reply.TheVariants.{Inserted, Present, Removed, Absent, Found}
use Rattle.art_scan.specs.ArtRefusal.declared.refusals.Refusal.{Refusal}
use Rattle.art_scan.specs.ArtRefusal.declared.refusals.Refusal.TheVariants.{BadLine, LineTooLong, BadCommand, WrongColumns, WrongType, OutOfRange, TextTooLong, BadRange, BadLimit, Busy, Full, Crowded, Exhausted, NoMemory, NoColumns, TooManyColumns, KeyTooWide, BadColumn, BadConfig, PassesMissing}
use Rattle.art_scan.specs.ArtRefusal.Refusals.{refusal_number, refusal_name}
use Rattle.art_server.specs.Replies.{text_of_reply}

-- ---- a word alone

pub text_of_reply-inserted : text_of_reply (Ok Inserted) ≡ codes "[\"inserted\"]\n"
unfolding escape_byte
text_of_reply-inserted = refl

pub text_of_reply-absent : text_of_reply (Ok Absent) ≡ codes "[\"absent\"]\n"
unfolding escape_byte
text_of_reply-absent = refl

-- ---- a word and a value

closed : (word digits : List ℕ) → word ++ ((digits ++ 93 ∷ []) ++ 10 ∷ []) ≡ word ++ digits ++ 93 ∷ 10 ∷ []
closed word digits =
    ap (λ (l : List ℕ). word ++ l) (append_assoc digits (93 ∷ []) (10 ∷ [])) ∙ sym (append_assoc word digits (93 ∷ 10 ∷ []))

pub text_of_reply-present : (value : ℕ) → text_of_reply (Ok (Present value)) ≡ codes "[\"present\"," ++ decimal value ++ codes "]\n"
unfolding escape_byte
text_of_reply-present value = closed (codes "[\"present\",") (decimal value)

pub text_of_reply-removed : (value : ℕ) → text_of_reply (Ok (Removed value)) ≡ codes "[\"removed\"," ++ decimal value ++ codes "]\n"
unfolding escape_byte
text_of_reply-removed value = closed (codes "[\"removed\",") (decimal value)

pub text_of_reply-found : (value : ℕ) → text_of_reply (Ok (Found value)) ≡ codes "[\"found\"," ++ decimal value ++ codes "]\n"
unfolding escape_byte
text_of_reply-found value = closed (codes "[\"found\",") (decimal value)

-- ---- refusals

-- no name has a byte that is escaped
escape-refusal_name : (refusal : Refusal) → escape (refusal_name refusal) ≡ refusal_name refusal
unfolding escape_byte
escape-refusal_name BadLine = refl
escape-refusal_name LineTooLong = refl
escape-refusal_name BadCommand = refl
escape-refusal_name WrongColumns = refl
escape-refusal_name WrongType = refl
escape-refusal_name OutOfRange = refl
escape-refusal_name TextTooLong = refl
escape-refusal_name BadRange = refl
escape-refusal_name BadLimit = refl
escape-refusal_name Busy = refl
escape-refusal_name Full = refl
escape-refusal_name Crowded = refl
escape-refusal_name Exhausted = refl
escape-refusal_name NoMemory = refl
escape-refusal_name NoColumns = refl
escape-refusal_name TooManyColumns = refl
escape-refusal_name KeyTooWide = refl
escape-refusal_name BadColumn = refl
escape-refusal_name BadConfig = refl
escape-refusal_name PassesMissing = refl

pub length-refusal_name : (refusal : Refusal) → length (refusal_name refusal) ≤ 20
length-refusal_name BadLine = omega arith
length-refusal_name LineTooLong = omega arith
length-refusal_name BadCommand = omega arith
length-refusal_name WrongColumns = omega arith
length-refusal_name WrongType = omega arith
length-refusal_name OutOfRange = omega arith
length-refusal_name TextTooLong = omega arith
length-refusal_name BadRange = omega arith
length-refusal_name BadLimit = omega arith
length-refusal_name Busy = omega arith
length-refusal_name Full = omega arith
length-refusal_name Crowded = omega arith
length-refusal_name Exhausted = omega arith
length-refusal_name NoMemory = omega arith
length-refusal_name NoColumns = omega arith
length-refusal_name TooManyColumns = omega arith
length-refusal_name KeyTooWide = omega arith
length-refusal_name BadColumn = omega arith
length-refusal_name BadConfig = omega arith
length-refusal_name PassesMissing = omega arith

named : (word digits name : List ℕ)
    → word ++ ((digits ++ (44 ∷ 34 ∷ ((name ++ 34 ∷ []) ++ 93 ∷ []))) ++ 10 ∷ [])
    ≡ word ++ (digits ++ (44 ∷ 34 ∷ (name ++ 34 ∷ 93 ∷ 10 ∷ [])))
named word digits name = simp append_assoc

pub text_of_reply-refused : (refusal : Refusal) → text_of_reply (Err refusal)
    ≡ codes "[\"refused\"," ++ (decimal (refusal_number refusal) ++ (codes ",\"" ++ (refusal_name refusal ++ codes "\"]\n")))
unfolding escape_byte
text_of_reply-refused refusal =
    let word = codes "[\"refused\"," in
    let digits = decimal (refusal_number refusal) in
    ap (λ (name : List ℕ). word ++ ((digits ++ (44 ∷ 34 ∷ ((name ++ 34 ∷ []) ++ 93 ∷ []))) ++ 10 ∷ [])) (escape-refusal_name refusal)
    ∙ named word digits (refusal_name refusal)
