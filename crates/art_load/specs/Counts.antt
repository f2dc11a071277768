-- How many replies there are of each kind.
use Rattle.std.specs.Prelude.{◌≡◌, ℕ, ◌+◌, List, [], ◌∷◌, Option, Some, None, Result, Ok, Err}
use Rattle.std.specs.List.{sum_by}
use Rattle.art_load.specs.declared.counts.Counts.{Counts}
use Rattle.art_load.specs.declared.counts.Kind.{Kind}
use Rattle.art_load.specs.declared.counts.Kind.TheVariants as kind
use Rattle.art_model.specs.declared.commands.Reply.{Reply}
use Rattle.art_model.specs.declared.commands.Reply.TheVariants.{Inserted, Present, Removed, Absent, Found, Rows}
use Rattle.art_sessions.specs.ArtServer.ArtRefusal.declared.refusals.Refusal.{Refusal}

-- of no reply
abbrev pub none_counted : Counts
none_counted = record { inserted = 0; present = 0; removed = 0; absent = 0; found = 0; refused = 0 }

-- the six together
abbrev pub total_of : Counts → ℕ
total_of c = c.inserted + c.present + c.removed + c.absent + c.found + c.refused

-- all but the refusals
abbrev pub answered_of : Counts → ℕ
answered_of c = c.inserted + c.present + c.removed + c.absent + c.found

-- the counts of both
abbrev pub added : Counts → Counts → Counts
added c d = record {
  inserted = c.inserted + d.inserted;
  present = c.present + d.present;
  removed = c.removed + d.removed;
  absent = c.absent + d.absent;
  found = c.found + d.found;
  refused = c.refused + d.refused;
}

-- of one reply
abbrev pub one_of : Kind → Counts
one_of kind.Inserted = record { inserted = 1; present = 0; removed = 0; absent = 0; found = 0; refused = 0 }
one_of kind.Present = record { inserted = 0; present = 1; removed = 0; absent = 0; found = 0; refused = 0 }
one_of kind.Removed = record { inserted = 0; present = 0; removed = 1; absent = 0; found = 0; refused = 0 }
one_of kind.Absent = record { inserted = 0; present = 0; removed = 0; absent = 1; found = 0; refused = 0 }
one_of kind.Found = record { inserted = 0; present = 0; removed = 0; absent = 0; found = 1; refused = 0 }
one_of kind.Refused = record { inserted = 0; present = 0; removed = 0; absent = 0; found = 0; refused = 1 }

-- 1 where the reply is of the kind, else 0
abbrev pub inserted_in : Result Reply Refusal → ℕ
inserted_in (Ok Inserted) = 1
inserted_in reply = 0

abbrev pub present_in : Result Reply Refusal → ℕ
present_in (Ok (Present value)) = 1
present_in reply = 0

abbrev pub removed_in : Result Reply Refusal → ℕ
removed_in (Ok (Removed value)) = 1
removed_in reply = 0

abbrev pub absent_in : Result Reply Refusal → ℕ
absent_in (Ok Absent) = 1
absent_in reply = 0

abbrev pub found_in : Result Reply Refusal → ℕ
found_in (Ok (Found value)) = 1
found_in reply = 0

abbrev pub refused_in : Result Reply Refusal → ℕ
refused_in (Err refusal) = 1
refused_in reply = 0

-- each count is that of the replies of its kind
pub record AreCounts (c : Counts) (replies : List (Result Reply Refusal)) : Type 0 where
  pub inserted : c.inserted ≡ sum_by inserted_in replies
  pub present : c.present ≡ sum_by present_in replies
  pub removed : c.removed ≡ sum_by removed_in replies
  pub absent : c.absent ≡ sum_by absent_in replies
  pub found : c.found ≡ sum_by found_in replies
  pub refused : c.refused ≡ sum_by refused_in replies

-- the kind of a reply that is no list of rows
abbrev pub kind_of : Result Reply Refusal → Option Kind
kind_of (Ok Inserted) = Some kind.Inserted
kind_of (Ok (Present value)) = Some kind.Present
kind_of (Ok (Removed value)) = Some kind.Removed
kind_of (Ok Absent) = Some kind.Absent
kind_of (Ok (Found value)) = Some kind.Found
kind_of (Ok (Rows rows more)) = None
kind_of (Err refusal) = Some kind.Refused

-- the counts of threads, together
abbrev pub sum_of : List Counts → Counts
sum_of [] = none_counted
sum_of (c ∷ cs) = added (sum_of cs) c
