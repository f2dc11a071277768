-- The kind of the reply to a call, by what the call answered.
use Rattle.std.proofs.Common.{◌≡◌, Option, Some, None, refl, subst}
use Rattle.std.specs.Prelude.{ℕ, Result, Ok, Err}
use Rattle.art_model.specs.declared.commands.Reply.TheVariants.{Inserted, Present, Removed, Absent, Found}
use Rattle.art_sessions.specs.ArtServer.ArtTable.Refusals.{fault_refusal}
use Rattle.art_table.specs.Jobs.{of_got, of_inserted, of_removed, with_result}
use Rattle.art_table.specs.declared.calls.Inserted.{Inserted as InsertedOf}
use Rattle.art_table.specs.declared.calls.Inserted.TheVariants as inserted
use Rattle.art_table.specs.declared.faults.Fault.{Fault}
use Rattle.art_load.specs.Loads.{HasReplyOf}
use Rattle.art_load.specs.declared.counts.Kind.{Kind}
use Rattle.art_load.specs.declared.counts.Kind.TheVariants as kind

abbrev pub kind_inserted : Result InsertedOf Fault → Kind
kind_inserted (Ok inserted.New) = kind.Inserted
kind_inserted (Ok (inserted.Present value)) = kind.Present
kind_inserted (Err fault) = kind.Refused

abbrev pub kind_removed : Result (Option ℕ) Fault → Kind
kind_removed (Ok (Some value)) = kind.Removed
kind_removed (Ok None) = kind.Absent
kind_removed (Err fault) = kind.Refused

abbrev pub kind_got : Result (Option ℕ) Fault → Kind
kind_got (Ok (Some value)) = kind.Found
kind_got (Ok None) = kind.Absent
kind_got (Err fault) = kind.Refused

insert_reply : (r : Result InsertedOf Fault) → HasReplyOf (with_result of_inserted r) (kind_inserted r)
insert_reply (Ok inserted.New) = (Ok Inserted, refl, refl)
insert_reply (Ok (inserted.Present value)) = (Ok (Present value), refl, refl)
insert_reply (Err fault) = (Err (fault_refusal fault), refl, refl)

remove_reply : (r : Result (Option ℕ) Fault) → HasReplyOf (with_result of_removed r) (kind_removed r)
remove_reply (Ok (Some value)) = (Ok (Removed value), refl, refl)
remove_reply (Ok None) = (Ok Absent, refl, refl)
remove_reply (Err fault) = (Err (fault_refusal fault), refl, refl)

get_reply : (r : Result (Option ℕ) Fault) → HasReplyOf (with_result of_got r) (kind_got r)
get_reply (Ok (Some value)) = (Ok (Found value), refl, refl)
get_reply (Ok None) = (Ok Absent, refl, refl)
get_reply (Err fault) = (Err (fault_refusal fault), refl, refl)

pub inserted_reply : (r : Result InsertedOf Fault) (k : Kind) → kind_inserted r ≡ k → HasReplyOf (with_result of_inserted r) k
inserted_reply r k is = subst (HasReplyOf (with_result of_inserted r)) is (insert_reply r)

pub removed_reply : (r : Result (Option ℕ) Fault) (k : Kind) → kind_removed r ≡ k → HasReplyOf (with_result of_removed r) k
removed_reply r k is = subst (HasReplyOf (with_result of_removed r)) is (remove_reply r)

pub got_reply : (r : Result (Option ℕ) Fault) (k : Kind) → kind_got r ≡ k → HasReplyOf (with_result of_got r) k
got_reply r k is = subst (HasReplyOf (with_result of_got r)) is (get_reply r)
