-- The threads of a load that had its table alone are of one history, which tells their counts.
use Rattle.std.proofs.Common.{◌≡◌, ℕ, suc, ◌+◌, ◌<◌, List, [], ◌∷◌, ◌++◌, length, Some, inl, inr, refl, sym, ap, ◌∙◌, subst, arith}
use Rattle.std.specs.List.{slice_get, sum_by}
use Rattle.std.specs.Prelude.{Result, ⊤}
use Rattle.art_key.specs.declared.events.Event.{Event}
use Rattle.art_load.proofs.Left.{rows_left}
use Rattle.art_load.proofs.Passes.{from_pass, all_passes, next_pass, no_pass, pass_weighs}
use Rattle.art_load.proofs.Told.{are_told, load_calls, sum_of_ones}
use Rattle.art_load.specs.Closes.{AreAllTold, EachAt, LoadsAreOneMap, ThreadAt}
use Rattle.art_load.specs.Commands.{load_commands}
use Rattle.art_load.specs.Counts.{absent_in, added, answered_of, found_in, inserted_in, none_counted, present_in, removed_in, sum_of}
use Rattle.art_load.specs.Loads.{LoadEach, Loads, asks_of}
use Rattle.art_load.specs.Own.{AreTold, told_at, told_by, told_in}
use Rattle.art_load.specs.declared.counts.Counts.{Counts}
use Rattle.art_model.specs.declared.commands.Command.{Command}
use Rattle.art_model.specs.declared.commands.Reply.{Reply}
use Rattle.art_model.specs.declared.rows.Row.{Row}
use Rattle.art_sessions.proofs.Points.{commands_are_points}
use Rattle.art_sessions.specs.ArtServer.ArtRefusal.declared.refusals.Refusal.{Refusal}
use Rattle.art_sessions.specs.Points.{AllAt}
use Rattle.art_step.specs.Views.{Member}
use Rattle.art_table.specs.Closing.{places_from}
use Rattle.art_table.specs.Marks.{StartsWith}
use Rattle.art_table.specs.Opening.{IsNew}
use Rattle.art_table.specs.Tables.{number_of, own_of, schema_in, seen_by}
use Rattle.art_table.specs.declared.passes.Pass.{Pass}
use Rattle.art_table.specs.declared.tables.Table.{Table}
use Rattle.art_typed.specs.Typed.{typed}

-- ---- the share of each thread

-- a pass that was new has no events but those of its commands
share : (t : Table) (log : List Event) (commands : List Command) (thread : ℕ) (p : Pass) (c : Counts) (q : Pass) → IsNew t thread p
    → Loads t commands p c q → StartsWith log (seen_by t q) → places_from (number_of q) 0 log ≡ own_of q
    → ThreadAt t log commands thread p c q
share t log commands thread p c q new loads starts own =
    let points = commands_are_points t (asks_of commands) p q loads.replies log new.of loads.answers starts in
    let number = points.1.number ∙ new.number_is in
    let fresh : own_of q ≡ points.0 = points.1.own ∙ ap (λ (l : List ℕ). l ++ points.0) new.own in
    let places : points.0 ≡ places_from thread 0 log =
    sym (ap (λ (n : ℕ). places_from n 0 log) (sym number) ∙ (own ∙ fresh)) in
    record {
      loads = loads;
      number = number;
      points = subst (AllAt (schema_in t) log thread (asks_of commands) loads.replies) places
          (subst (λ (n : ℕ). AllAt (schema_in t) log n (asks_of commands) loads.replies points.0) new.number_is points.2);
    }

-- what each thread counted is told by the pass of its number
abbrev EachTold : List Event → ℕ → List Counts → Type 0
EachTold log thread [] = ⊤
EachTold log thread (c ∷ cs) = AreTold log (places_from thread 0 log) c × EachTold log (thread + 1) cs

-- The shares of threads that are numbered from a number on; no pass has a number above theirs.
record Shares (t : Table) (log : List Event) (seed keys ops thread : ℕ) (ps : List Pass) (cs : List Counts) (qs : List Pass) : Type 0 where
  pub each : EachAt t log seed keys ops thread ps cs qs
  pub told : EachTold log thread cs
  pub below : (q : Pass) → Member q qs → number_of q < thread + length cs

module _ (t : Table) (log : List Event) (seed keys ops : ℕ) where
  shares : (thread : ℕ) (ps : List Pass) (cs : List Counts) (qs : List Pass)
      → ((i : ℕ) (p : Pass) → slice_get ps i ≡ Some p → IsNew t (thread + i) p)
      → ((q : Pass) → Member q qs → StartsWith log (seen_by t q))
      → ((q : Pass) → Member q qs → places_from (number_of q) 0 log ≡ own_of q)
      → LoadEach t seed keys ops thread ps cs qs → Shares t log seed keys ops thread ps cs qs
  shares thread [] [] [] new starts own loads = record { each = tt; told = tt; below = λ q none. absurd none }
  shares thread (p ∷ ps) (c ∷ cs) (q ∷ qs) new starts own (one, others) =
      let commands = load_commands seed keys thread ops in
      let first : IsNew t thread p = subst (λ (n : ℕ). IsNew t n p) (omega arith) (new 0 p refl) in
      let at : ThreadAt t log commands thread p c q =
      share t log commands thread p c q first one (starts q (inl refl)) (own q (inl refl)) in
      let later : (i : ℕ) (x : Pass) → slice_get ps i ≡ Some x → IsNew t (thread + 1 + i) x =
      λ i x is. subst (λ (n : ℕ). IsNew t n x) (omega arith) (new (suc i) x is) in
      let rest = shares (thread + 1) ps cs qs later (λ x m. starts x (inr m)) (λ x m. own x (inr m)) others in
      let calls = load_calls seed keys thread ops in
      record {
        each = (at, rest.each);
        told = (are_told t commands p c q log thread (places_from thread 0 log) calls at.loads at.points, rest.told);
        below = λ x m. elim m [
          | inl same ↦ (let number = ap number_of same ∙ at.number in omega (arith, number))
          | inr among ↦ (let low = rest.below x among in omega (arith, low))
        ];
      }
  shares thread [] [] (q ∷ qs) new starts own loads = absurd loads
  shares thread [] (c ∷ cs) [] new starts own loads = absurd loads
  shares thread [] (c ∷ cs) (q ∷ qs) new starts own loads = absurd loads
  shares thread (p ∷ ps) [] [] new starts own loads = absurd loads
  shares thread (p ∷ ps) [] (q ∷ qs) new starts own loads = absurd loads
  shares thread (p ∷ ps) (c ∷ cs) [] new starts own loads = absurd loads

-- ---- the sums over the threads

-- g of the counts of all threads together is what the events of their passes weigh
module _ (log : List Event) (w : Event → ℕ) (weight : ℕ → ℕ) (some : (k : ℕ) (e : Event) → slice_get log k ≡ Some e → weight k ≡ w e)
    (g : Counts → ℕ) (none : g none_counted ≡ 0) (both : (c d : Counts) → g (added c d) ≡ g c + g d)
    (told : (places : List ℕ) (c : Counts) → AreTold log places c → g c ≡ sum_by weight places) where
  weighed : (thread : ℕ) (cs : List Counts) → EachTold log thread cs → ((e : Event) → Member e log → e.pass < thread + length cs)
      → g (sum_of cs) ≡ sum_by (from_pass w thread) log
  weighed thread [] are below =
      none ∙ sym (no_pass w thread log (λ e m. let low = below e m in omega (arith, low)))
  weighed thread (c ∷ cs) are below =
      let all = both (sum_of cs) c in
      let here = told (places_from thread 0 log) c are.0 in
      let events = pass_weighs log w weight some thread in
      let later = weighed (thread + 1) cs are.1 (λ e m. let low = below e m in omega (arith, low)) in
      let split = next_pass w thread log in
      omega (arith, all, here, events, later, split)

  together : (c : Counts) (cs : List Counts) → c ≡ sum_of cs → EachTold log 0 cs → ((e : Event) → Member e log → e.pass < length cs)
      → g c ≡ sum_by w log
  together c cs sums are below =
      ap g sums ∙ (weighed 0 cs are (λ e m. let low = below e m in omega (arith, low)) ∙ all_passes w log)

module _ (log : List Event) (c : Counts) (cs : List Counts) (sums : c ≡ sum_of cs) (are : EachTold log 0 cs)
    (below : (e : Event) → Member e log → e.pass < length cs) where
  of_kind : (f : Result Reply Refusal → ℕ) (g : Counts → ℕ) → g none_counted ≡ 0 → ((a d : Counts) → g (added a d) ≡ g a + g d)
      → ((places : List ℕ) (a : Counts) → AreTold log places a → g a ≡ sum_by (told_at f log) places)
      → g c ≡ sum_by (told_by f) log
  of_kind f g none both told =
      together log (told_by f) (told_at f log) (λ k e is. ap (told_in f) is) g none both told c cs sums are below

  all_of_them : length log ≡ answered_of c
  all_of_them =
      let each : (places : List ℕ) (a : Counts) → AreTold log places a → answered_of a ≡ sum_by (λ (k : ℕ). 1) places =
      λ places a told. sym told.all ∙ sym (sum_of_ones places) in
      let both : (a d : Counts) → answered_of (added a d) ≡ answered_of a + answered_of d = λ a d. omega arith in
      sym (
      together log (λ (e : Event). 1) (λ (k : ℕ). 1) (λ k e is. refl) answered_of refl both each c cs sums are below ∙ sum_of_ones log
      )

  counts_told : AreAllTold log c
  counts_told = record {
    inserted = of_kind inserted_in (λ a. a.inserted) refl (λ a d. refl) (λ places a told. told.inserted);
    present = of_kind present_in (λ a. a.present) refl (λ a d. refl) (λ places a told. told.present);
    removed = of_kind removed_in (λ a. a.removed) refl (λ a d. refl) (λ places a told. told.removed);
    absent = of_kind absent_in (λ a. a.absent) refl (λ a d. refl) (λ places a told. told.absent);
    found = of_kind found_in (λ a. a.found) refl (λ a d. refl) (λ places a told. told.found);
    all = all_of_them;
  }

-- ---- from the opening to the close

pub loads_are_one_map : LoadsAreOneMap
loads_are_one_map schema config t passes seed keys ops counts passes_after closed opened loads c =
    let log = typed (schema_in t) c.log in
    let new : (i : ℕ) (p : Pass) → slice_get passes i ≡ Some p → IsNew t (0 + i) p =
    λ i p is. subst (λ (n : ℕ). IsNew t n p) (omega arith) (opened.each i p is) in
    let all = shares t log seed keys ops 0 passes loads.each passes_after new c.tells.begins c.tells.own loads.loads in
    let below : (e : Event) → Member e log → e.pass < length loads.each =
    λ e m.
    let here = c.tells.whole e m in
    let low = all.below here.0 here.1 in
    let number = here.2 in
    omega (arith, low, number) in
    let told = counts_told log counts loads.each loads.sums all.told below in
    let rows = ap (length {A = Row}) c.rows in
    let left = rows_left (schema_in t) log c.tells.legal in
    let inserted = told.inserted in
    let removed = told.removed in
    record {
      log = log;
      tells = c.tells;
      rows = c.rows;
      each = loads.each;
      threads = all.each;
      sums = loads.sums;
      total = loads.total;
      told = told;
      left = omega (arith, rows, left, inserted, removed);
    }
