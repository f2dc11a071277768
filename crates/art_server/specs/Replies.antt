-- What is printed for a reply.
use Rattle.std.specs.Prelude.{ℕ, ◌^◌, List, [], ◌∷◌, ◌++◌, map, pos, neg_ℤ, ◌≤ℤ◌, ◌<ℤ◌, codes, All, ⊤, Result, Ok, Err}
use Rattle.art_model.specs.declared.commands.Answer.{Answer}
use Rattle.art_model.specs.declared.commands.Reply.{Reply}
use Rattle.art_model.specs.declared.commands.Reply.TheVariants.{Inserted, Present, Removed, Absent, Found, Rows}
use Rattle.art_model.specs.declared.rows.Row.{Row}
use Rattle.art_model.specs.declared.values.Value.{Value}
use Rattle.art_model.specs.declared.values.Value.TheVariants.{Bool, Int, Text}
use Rattle.art_model.specs.Answers.{reply_of_answer}
use Rattle.art_model.specs.Rows.{Tuple}
use Rattle.serde_json.specs.Data.{Data, boolean, number, unsigned, string, array, no_items, item}
use Rattle.serde_json.specs.Find.{of_integer}
use Rattle.serde_json.specs.View.{items_of}
use Rattle.serde_json.specs.Written.{compact_text}
use Rattle.art_scan.specs.ArtRefusal.declared.refusals.Refusal.{Refusal}
use Rattle.art_server.specs.declared.replies.ReplyHead.{ReplyHead}
use Rattle.art_server.specs.declared.replies.ReplyHead.TheVariants as head
use Rattle.art_scan.specs.ArtRefusal.Refusals.{refusal_number, refusal_name}

-- true or false, a whole number or a text
abbrev pub value_data : Value → Data
value_data (Bool b) = boolean b
value_data (Int n) = number (of_integer n)
value_data (Text s) = string s

-- a tuple is the array of its values
abbrev pub tuple_data : Tuple → Data
tuple_data t = array (items_of (map value_data t.items))

-- a row is its tuple and its value
abbrev pub row_data : Row → Data
row_data row = array (item (tuple_data row.tuple) (item (number (unsigned row.value)) no_items))

-- a word alone
abbrev pub word_data : List ℕ → Data
word_data word = array (item (string word) no_items)

-- a word and a stored value
abbrev pub word_with_value : List ℕ → ℕ → Data
word_with_value word value = array (item (string word) (item (number (unsigned value)) no_items))

abbrev pub reply_data : Result Reply Refusal → Data
reply_data (Ok Inserted) = word_data (codes "inserted")
reply_data (Ok (Present value)) = word_with_value (codes "present") value
reply_data (Ok (Removed value)) = word_with_value (codes "removed") value
reply_data (Ok Absent) = word_data (codes "absent")
reply_data (Ok (Found value)) = word_with_value (codes "found") value
reply_data (Ok (Rows rows more)) =
    array (item (string (codes "rows")) (item (array (items_of (map row_data rows.items))) (item (boolean more) no_items)))
reply_data (Err refusal) =
    array (item (string (codes "refused")) (item (number (unsigned (refusal_number refusal)))
    (item (string (refusal_name refusal)) no_items)))

-- the JSON text with no space, and a line feed
abbrev pub text_of_reply : Result Reply Refusal → List ℕ
text_of_reply reply = compact_text (reply_data reply) ++ 10 ∷ []

-- a whole number that a reader of JSON takes as one
abbrev pub IsPrintableValue : Value → Type 0
IsPrintableValue (Bool b) = ⊤
IsPrintableValue (Int n) = (neg_ℤ (pos (2 ^ 63)) ≤ℤ n) × (n <ℤ pos (2 ^ 64))
IsPrintableValue (Text s) = ⊤

abbrev pub IsPrintableRow : Row → Type 0
IsPrintableRow row = All IsPrintableValue row.tuple.items

-- each whole number of the reply's rows is from -2^63 to 2^64 - 1
abbrev pub IsPrintable : Result Reply Refusal → Type 0
IsPrintable (Ok Inserted) = ⊤
IsPrintable (Ok (Present value)) = ⊤
IsPrintable (Ok (Removed value)) = ⊤
IsPrintable (Ok Absent) = ⊤
IsPrintable (Ok (Found value)) = ⊤
IsPrintable (Ok (Rows rows more)) = All IsPrintableRow rows.items
IsPrintable (Err refusal) = ⊤

-- the reply of an answer with no rows, or the refusal
abbrev pub reply_of : Result Answer Refusal → Result Reply Refusal
reply_of (Ok answer) = Ok (reply_of_answer answer)
reply_of (Err refusal) = Err refusal

-- the reply of a head and the rows beside it, or the refusal
abbrev pub reply_with : List Row → Result ReplyHead Refusal → Result Reply Refusal
reply_with rows (Ok (head.Answer answer)) = Ok (reply_of_answer answer)
reply_with rows (Ok (head.Rows more)) = Ok (Rows (record { items = rows }) more)
reply_with rows (Err refusal) = Err refusal
