-- The one event of a call, at its place in a history.
use Rattle.std.proofs.Common.{◌≡◌, ℕ, ◌+◌, List, [], ◌∷◌, ◌++◌, length, append-nil, length-append, Option, Some, None, refl, sym, ap, ◌∙◌, subst, arith}
use Rattle.std.specs.List.{AllByRecursion}
use Rattle.art_key.specs.Histories.{IsAnswered, IsLegal, becomes, replay}
use Rattle.art_key.specs.declared.columns.Column.{Column}
use Rattle.art_key.specs.declared.events.Deed.{Deed}
use Rattle.art_key.specs.declared.events.Event.{Event}
use Rattle.art_sessions.proofs.Alone.{legal_split, run_push}
use Rattle.art_sessions.proofs.Places.{front, front_more, stands}
use Rattle.art_sessions.specs.Points.{IsWithin, StandsAt, rows_at}
use Rattle.art_server.specs.ArtTable.Calls.{Sees}
use Rattle.art_server.specs.ArtTable.Marks.{StartsWith}
use Rattle.art_server.specs.ArtTable.Tables.{number_of, own_of, schema_in, seen_by}
use Rattle.art_server.specs.ArtTable.declared.passes.Pass.{Pass}
use Rattle.art_server.specs.ArtTable.declared.tables.Table.{Table}

-- at the place the rows answer so, and become what that makes of them
pub record EventAt (schema : List Column) (log : List Event) (n k : ℕ) (what : Deed) : Type 0 where
  pub stands : StandsAt log n k what
  pub answered : IsAnswered schema (rows_at schema log k) what
  pub becomes : rows_at schema log (k + 1) ≡ becomes schema (rows_at schema log k) what

-- the one event at its place, or none
abbrev pub ToldAt : List Column → List Event → ℕ → Option Deed → List ℕ → Type 0
ToldAt schema log n None places = places ≡ []
ToldAt schema log n (Some what) places = (k : ℕ) × (places ≡ k ∷ []) × EventAt schema log n k what

event_at : (schema : List Column) (log before rest : List Event) (n : ℕ) (what : Deed) → log ≡ (before ++ record { pass = n; what = what } ∷ []) ++ rest
    → IsLegal schema (before ++ record { pass = n; what = what } ∷ []) → EventAt schema log n (length before) what
event_at schema log before rest n what split legal =
    let e : Event = record { pass = n; what = what } in
    let here = front log before rest e split in
    record {
      stands = stands log before rest e split;
      answered = subst (λ (l : List Event). IsAnswered schema (replay schema l) what) (sym here) (legal_split schema [] before e legal).1;
      becomes = ap (replay schema) (front_more log before rest e split)
          ∙ (run_push schema [] before e ∙ ap (λ (l : List Event). becomes schema (replay schema l) what) (sym here));
    }

module _ (t : Table) (p q : Pass) (log : List Event) (starts : StartsWith log (seen_by t q)) (legal : IsLegal (schema_in t) (seen_by t q)) where
  -- the new places of the pass, and what is told there
  abbrev pub Told : Option Deed → Type 0
  Told told =
      (places : List ℕ) × (own_of q ≡ own_of p ++ places) × AllByRecursion (IsWithin (length (seen_by t p)) (length (seen_by t q))) places
      × ToldAt (schema_in t) log (number_of p) told places

  pub sees_at : (told : Option Deed) → Sees t p q told → Told told
  sees_at None sees = ([], sees.1 ∙ sym (append-nil (own_of p)), tt, refl)
  sees_at (Some what) made =
      let e : Event = record { pass = number_of p; what = what } in
      let before = seen_by t p ++ made.between in
      let split : log ≡ (before ++ e ∷ []) ++ starts.0 = starts.1 ∙ ap (λ (l : List Event). l ++ starts.0) made.seen in
      let long = ap (length {A = Event}) made.seen in
      let parts = length-append before (e ∷ []) in
      let fronts = length-append (seen_by t p) made.between in (
        length before ∷ [],
        made.own,
        ((omega (arith, fronts), omega (arith, long, parts)), tt),
        (length before, refl, event_at (schema_in t) log before starts.0 (number_of p) what split (subst (IsLegal (schema_in t)) made.seen legal)),
      )
