-- No reply has a float.
use Rattle.std.proofs.Common.{◌≡◌, pos, negsuc, false, List, [], ◌∷◌, map, Result, Ok, Err, refl}
use Rattle.serde_json.specs.View.{items_of}
use Rattle.serde_json.specs.Written.{has_float, items_have_float}
use Rattle.art_model.specs.declared.commands.Reply.{Reply}
use Rattle.art_model.specs.declared.commands.Reply.TheVariants.{Inserted, Present, Removed, Absent, Found, Rows}
use Rattle.art_model.specs.declared.rows.Row.{Row}
use Rattle.art_model.specs.declared.values.Value.{Value}
use Rattle.art_model.specs.declared.values.Value.TheVariants.{Bool, Int, Text}
use Rattle.art_scan.specs.ArtRefusal.declared.refusals.Refusal.{Refusal}
use Rattle.art_server.specs.Replies.{value_data, row_data, reply_data}

has_float-value_data : (v : Value) → has_float (value_data v) ≡ false
has_float-value_data (Bool b) = refl
has_float-value_data (Int (pos n)) = refl
has_float-value_data (Int (negsuc n)) = refl
has_float-value_data (Text s) = refl

items_have_float-values : (vs : List Value) → items_have_float (items_of (map value_data vs)) ≡ false
items_have_float-values [] = refl
items_have_float-values (v ∷ vs) = rw (has_float-value_data v) (items_have_float-values vs)

items_have_float-rows : (rows : List Row) → items_have_float (items_of (map row_data rows)) ≡ false
items_have_float-rows [] = refl
items_have_float-rows (row ∷ rows) = rw (items_have_float-values row.tuple.items) (items_have_float-rows rows)

pub has_float-reply_data : (reply : Result Reply Refusal) → has_float (reply_data reply) ≡ false
has_float-reply_data (Ok Inserted) = refl
has_float-reply_data (Ok (Present value)) = refl
has_float-reply_data (Ok (Removed value)) = refl
has_float-reply_data (Ok Absent) = refl
has_float-reply_data (Ok (Found value)) = refl
has_float-reply_data (Ok (Rows rows more)) = rw (items_have_float-rows rows.items)
has_float-reply_data (Err refusal) = refl
