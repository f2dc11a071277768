-- A pass that has seen its own events alone: nothing stands between two of them.
use Rattle.std.proofs.Common.{◌≡◌, ℕ, ◌+◌, ◌==◌, true, if◌then◌else◌, List, [], ◌∷◌, ◌++◌, length, append-nil, length-append, inl, inr, refl, sym, ap, ◌∙◌, subst, arith}
use Rattle.std.proofs.lemmas.Bool.Decides.{nat_tests}
use Rattle.std.proofs.lemmas.List.{nil_from_length}
use Rattle.std.specs.List.{AllByRecursion}
use Rattle.art_sessions.specs.Laws.{ClosedAlone, SawItselfAlone, IsOnlyPass}
use Rattle.art_key.specs.Histories.{IsAnswered, IsLegal, IsLegalFrom, becomes, replay, run}
use Rattle.art_key.specs.declared.columns.Column.{Column}
use Rattle.art_key.specs.declared.events.Event.{Event}
use Rattle.art_model.proofs.Parts.{All-first}
use Rattle.art_model.specs.declared.rows.Row.{Row}
use Rattle.art_sessions.proofs.Steps.{AreNext}
use Rattle.art_shared.specs.Rule.{AreBelow}
use Rattle.art_step.specs.Histories as bytes
use Rattle.art_step.specs.Views.{Member}
use Rattle.art_step.specs.declared.views.Event.{Event as ByteEvent}
use Rattle.art_server.specs.ArtTable.Closing.{IsHere, places_from}
use Rattle.art_server.specs.ArtTable.Tables.{IsPassOf, number_of, own_of, schema_in, seen_by, sizes_in, view_of}
use Rattle.art_server.specs.ArtTable.declared.passes.Pass.{Pass}
use Rattle.art_server.specs.ArtTable.declared.tables.Table.{Table}
use Rattle.art_typed.proofs.Events.{histories_are_typed}
use Rattle.art_typed.specs.Typed.{typed}

-- ---- places

-- an event of this pass
abbrev pub IsOf : ℕ → Event → Type 0
IsOf n e = e.pass ≡ n

own_place : (n k : ℕ) (e : ℕ) (rest : List ℕ) → e ≡ n → length (if e == n then k ∷ rest else rest) ≡ length rest + 1
own_place n k e rest is =
    let same : (e == n) ≡ true = grind (arith, nat_tests) in
    rw same (omega arith)

next_place : (n k : ℕ) (e : ℕ) (rest : List ℕ) → e ≡ n → AreNext (k + 1) rest → AreNext k (if e == n then k ∷ rest else rest)
next_place n k e rest is next =
    let same : (e == n) ≡ true = grind (arith, nat_tests) in
    rw same (refl, next)

-- of events of one pass each has a place
pub all_placed : (schema : List Column) (n k : ℕ) (log : List ByteEvent) → AllByRecursion (IsOf n) (typed schema log) → length (bytes.places_from n k log) ≡ length log
all_placed schema n k [] are = refl
all_placed schema n k (e ∷ log) are =
    let one = own_place n k e.pass (bytes.places_from n (k + 1) log) are.0 in
    let rest = all_placed schema n (k + 1) log are.1 in
    omega (arith, one, rest)

all_next : (schema : List Column) (n k : ℕ) (log : List ByteEvent) → AllByRecursion (IsOf n) (typed schema log) → AreNext k (bytes.places_from n k log)
all_next schema n k [] are = tt
all_next schema n k (e ∷ log) are = next_place n k e.pass (bytes.places_from n (k + 1) log) are.0 (all_next schema n (k + 1) log are.1)

pub all_placed_typed : (n k : ℕ) (log : List Event) → AllByRecursion (IsOf n) log → length (places_from n k log) ≡ length log
all_placed_typed n k [] are = refl
all_placed_typed n k (e ∷ log) are =
    let one = own_place n k e.pass (places_from n (k + 1) log) are.0 in
    let rest = all_placed_typed n (k + 1) log are.1 in
    omega (arith, one, rest)

typed_long : (schema : List Column) (log : List ByteEvent) → length (typed schema log) ≡ length log
typed_long schema [] = refl
typed_long schema (e ∷ log) = let rest = typed_long schema log in omega (arith, rest)

-- events of passes below 1 are of pass 0
all_first : (schema : List Column) (n passes : ℕ) (log : List ByteEvent) → passes ≡ 1 → n ≡ 0 → AreBelow passes log → AllByRecursion (IsOf n) (typed schema log)
all_first schema n passes [] one first below = tt
all_first schema n passes (e ∷ log) one first below =
    let low = below e (inl refl) in
    (omega (arith, low, one, first), all_first schema n passes log one first (λ x i. below x (inr i)))

-- so the only pass of a table has seen its own events alone
pub only_alone : (t : Table) (q : Pass) → IsOnlyPass t q → SawItselfAlone t q
only_alone t q is = all_first (schema_in t) (number_of q) (sizes_in t).passes (view_of q).seen is.one is.first is.pass.of.below

-- as many of its own as it has seen
pub own_all : (t : Table) (q : Pass) → IsPassOf t q → SawItselfAlone t q → length (own_of q) ≡ length (seen_by t q)
own_all t q is alone =
    ap (length {A = ℕ}) (sym is.all) ∙ (all_placed (schema_in t) (number_of q) 0 (view_of q).seen alone ∙ sym (typed_long (schema_in t) (view_of q).seen))

-- its places come one after another, from the first on
pub next_own : (t : Table) (q : Pass) → IsPassOf t q → SawItselfAlone t q → AreNext 0 (own_of q)
next_own t q is alone = subst (AreNext 0) is.all (all_next (schema_in t) (number_of q) 0 (view_of q).seen alone)

-- ---- what a history says

pub legal_split : (schema : List Column) (rows : List Row) (log : List Event) (e : Event) → IsLegalFrom schema rows (log ++ e ∷ [])
    → IsLegalFrom schema rows log × IsAnswered schema (run schema rows log) e.what
legal_split schema rows [] e legal = (tt, legal.0)
legal_split schema rows (d ∷ log) e legal =
    let split = legal_split schema (becomes schema rows d.what) log e legal.1 in
    ((legal.0, split.0), split.1)

pub run_push : (schema : List Column) (rows : List Row) (log : List Event) (e : Event) → run schema rows (log ++ e ∷ []) ≡ becomes schema (run schema rows log) e.what
run_push schema rows [] e = refl
run_push schema rows (d ∷ log) e = run_push schema (becomes schema rows d.what) log e

pub seen_legal : (t : Table) (q : Pass) → IsPassOf t q → IsLegal (schema_in t) (seen_by t q)
seen_legal t q is = (histories_are_typed (schema_in t) (view_of q).seen is.legal is.of.typed).0

-- ---- the close

all_here : (q : Pass) (log : List Event) → ((e : Event) → Member e log → IsHere e.pass (q ∷ [])) → AllByRecursion (IsOf (number_of q)) log
all_here q [] whole = tt
all_here q (e ∷ log) whole = (here (whole e (inl refl)), all_here q log (λ d i. whole d (inr i)))
  where
    here : IsHere e.pass (q ∷ []) → e.pass ≡ number_of q
    here h = sym h.2 ∙ ap number_of (only h.1)
      where
        only : Member h.0 (q ∷ []) → h.0 ≡ q
        only (inl same) = same
        only (inr none) = absurd none

same_history : (log seen rest : List Event) → log ≡ seen ++ rest → length log ≡ length seen → log ≡ seen
same_history log seen rest split long =
    let whole = ap (length {A = Event}) split in
    let parts = length-append seen rest in
    let none = nil_from_length rest (omega (arith, whole, parts, long)) in
    split ∙ (ap (λ (l : List Event). seen ++ l) none ∙ append-nil seen)

pub closed_alone : ClosedAlone
closed_alone t q closed is c =
    let log = typed (schema_in t) c.log in
    let starts = c.tells.begins q (inl refl) in
    let all = all_here q log c.tells.whole in
    let alone = All-first (IsOf (number_of q)) (seen_by t q) starts.0 (subst (AllByRecursion (IsOf (number_of q))) starts.1 all) in
    let own = ap (length {A = ℕ}) (sym (c.tells.own q (inl refl))) ∙ all_placed_typed (number_of q) 0 log all in
    let mine = own_all t q is alone in
    (alone, c.rows ∙ ap (replay (schema_in t)) (same_history log (seen_by t q) starts.0 starts.1 (sym own ∙ mine)))
