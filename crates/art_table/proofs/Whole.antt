-- What a table held that is closed with all of its passes.
use Rattle.std.proofs.Common.{◌≡◌, ◌+◌, ◌==◌, ◌∙◌, ℕ, zero, suc, if◌then◌else◌, List, [], ◌∷◌, Some, inl, inr, refl, sym, ap, subst}
use Rattle.std.proofs.lemmas.List.Elements.{All-head, All-tail}
use Rattle.std.proofs.lemmas.List.Sums.{sum_by-cons}
use Rattle.std.proofs.lemmas.Option.{same_Some}
use Rattle.std.specs.List.{slice_get}
use Rattle.art_cell.specs.declared.cells.Pool.{Pool}
use Rattle.art_cell.specs.declared.cells.Pool.TheVariants as pool
use Rattle.art_closed.proofs.Members.{map_member, member_map}
use Rattle.art_closed.proofs.Spelled.{maps_spell_one_list}
use Rattle.art_closed.proofs.Waiting.{limbos_add_up}
use Rattle.art_closed.specs.Cells.{HasAllWords, cells_in, heap_in, memory_in}
use Rattle.art_closed.specs.Counts.{HasWaiting, HaveLimbos, IsCounted, waiting_among, waiting_in_all}
use Rattle.art_closed.specs.Rows.{AreRowsOf, SpellsTuples}
use Rattle.art_epoch.specs.Limbo.{places_of}
use Rattle.art_key.specs.Histories.{replay}
use Rattle.art_key.specs.declared.columns.Column.{Column}
use Rattle.art_key.specs.declared.events.Event.{Event}
use Rattle.art_model.specs.declared.rows.Row.{Row}
use Rattle.art_shared.specs.Closing as shared
use Rattle.art_shared.specs.Closing.{AreAll, Closes, HaveNoNumber, HoldNoCell}
use Rattle.art_shared.specs.Ended.{words_of}
use Rattle.art_shared.specs.Tables.{basis_in, view_of_pass}
use Rattle.art_shared.specs.declared.ended.Ended.{Ended}
use Rattle.art_shared.specs.declared.pass.Pass.{Pass as Seat}
use Rattle.art_step.specs.Histories as bytes
use Rattle.art_step.specs.Knowledge.{IsShape}
use Rattle.art_step.specs.Sound.{ShowsReplay}
use Rattle.art_step.specs.Views.{Member}
use Rattle.art_step.specs.declared.views.Event.{Event as ByteEvent}
use Rattle.art_step.specs.declared.views.Sizes.{Sizes}
use Rattle.art_table.proofs.Histories.{as_long}
use Rattle.art_table.proofs.Looked.{typed_starts}
use Rattle.art_table.proofs.Members.{member_is}
use Rattle.art_table.specs.Closing.{AreAllPasses, IsClosed, TellsAll, count_of, limbos_of, places_from, seats_of, waits, waits_of}
use Rattle.art_table.specs.Tables.{AreOf, IsPassOf, caller_of, number_of, schema_in, sizes_in, view_of}
use Rattle.art_table.specs.declared.closing.Closed.{Closed}
use Rattle.art_table.specs.declared.passes.Pass.{Pass}
use Rattle.art_table.specs.declared.tables.Table.{Table}
use Rattle.art_typed.proofs.Events.{histories_are_typed}
use Rattle.art_typed.specs.Typed.{event_of, typed}

-- ---- places of events

typed_places : (schema : List Column) (p k : ℕ) (log : List ByteEvent) → places_from p k (typed schema log) ≡ bytes.places_from p k log
typed_places schema p k [] = refl
typed_places schema p k (e ∷ es) = ap (λ (l : List ℕ). if e.pass == p then k ∷ l else l) (typed_places schema p (k + 1) es)

-- ---- all passes

module _ (t : Table) (passes : List Pass) (are : AreOf t passes) (all : AreAllPasses (sizes_in t).passes passes) where
  seat_of : (a : Seat) → Member a (seats_of passes) → (p : Pass) × Member p passes × (a ≡ p.seat)
  seat_of a i = map_member (λ (p : Pass). p.seat) passes a i

  here : (p : Pass) → Member p passes → Member p.seat (seats_of passes)
  here p i = member_map (λ (p : Pass). p.seat) passes p i

  pub all_seats : AreAll (basis_in t.shared) (seats_of passes)
  all_seats = as_long (λ (p : Pass). p.seat) passes ∙ all.0

  pub hold_none : HoldNoCell (seats_of passes)
  hold_none a i = let p = seat_of a i in ap (λ (s : Seat). (view_of_pass s).held) p.2 ∙ (member_is (IsPassOf t) passes are p.0 p.1).caller.ready.frame.may.free

  pub have_none : HaveNoNumber (seats_of passes)
  have_none a i = let p = seat_of a i in ap (λ (s : Seat). (view_of_pass s).hand) p.2 ∙ (member_is (IsPassOf t) passes are p.0 p.1).caller.ready.hand

  -- ---- one history

  pub tells_all : (log : List ByteEvent) → shared.TellsAll (basis_in t.shared) (seats_of passes) log → TellsAll t passes (typed (schema_in t) log)
  tells_all log tells = record {
    legal = (histories_are_typed (schema_in t) log tells.legal tells.typed).0;
    begins = λ p i. typed_starts t log (view_of p).seen (tells.begins p.seat (here p i));
    own = λ p i. typed_places (schema_in t) (number_of p) 0 log ∙ tells.own p.seat (here p i);
    whole = λ e i.
        let b = map_member (event_of (schema_in t)) log e i in
        let a = tells.whole all_seats b.0 b.1 in
        let p = seat_of a.0 a.1 in
        (p.0, p.1, sym (ap (λ (x : Event). x.pass) b.2 ∙ (a.2 ∙ ap (λ (s : Seat). (view_of_pass s).pass) p.2)));
  }

-- ---- the rows

module _ (schema : List Column) (z : Sizes) (log : List ByteEvent) (legal : bytes.IsLegal log) (keys : bytes.AreAdmitted (Rattle.art_key.specs.Spelling.IsKeyOf schema) log) (e : Ended) (shows : ShowsReplay z log (cells_in z e)) where
  pub spells_tuples : SpellsTuples schema (heap_in z e)
  spells_tuples k v row = (histories_are_typed schema log legal keys).1.keys k v ((shows.rows k v).0 row)

  pub rows_replay : (rows : List Row) → AreRowsOf schema (heap_in z e) rows → rows ≡ replay schema (typed schema log)
  rows_replay rows are = maps_spell_one_list schema (bytes.replay log) rows (replay schema (typed schema log)) (are (bytes.replay log) shows.rows) (histories_are_typed schema log legal keys).1

-- ---- what waits

have_limbos : (t : Table) (passes : List Pass) → AreOf t passes → HaveLimbos (seats_of passes) (limbos_of passes)
have_limbos t [] are = tt
have_limbos t (p ∷ passes) are = ((All-head (IsPassOf t) p passes are).caller.ready.frame.limbo, have_limbos t passes (All-tail (IsPassOf t) p passes are))

waits_all : (pool : Pool) (passes : List Pass) → waits pool passes ≡ waiting_in_all pool (limbos_of passes)
waits_all pool [] = refl
waits_all pool (p ∷ passes) =
    sum_by-cons (waits_of pool) p passes ∙ (ap (λ (n : ℕ). waits_of pool p + n) (waits_all pool passes) ∙ sym (sum_by-cons (waiting_among pool) (places_of (caller_of p).limbo) (limbos_of passes)))

-- ---- a table that is closed with all of its passes, none of which holds anything

get_member : (xs : List Seat) (i : ℕ) (a : Seat) → slice_get xs i ≡ Some a → Member a xs
get_member [] i a e = cc
get_member (x ∷ xs) zero a e = inl (sym (same_Some x a e))
get_member (x ∷ xs) (suc i) a e = inr (get_member xs i a e)

module _ (t : Table) (passes : List Pass) (are : AreOf t passes) (all : AreAllPasses (sizes_in t).passes passes) (seats : List Seat) (seats_are : seats ≡ seats_of passes) where
  pub seats_of_table : (i : ℕ) (a : Seat) → slice_get seats i ≡ Some a → Rattle.art_shared.specs.Tables.IsPassOf t.shared a
  seats_of_table i a e =
      let p = seat_of t passes are all a (subst (Member a) seats_are (get_member seats i a e)) in
      subst (λ (s : Seat). Rattle.art_shared.specs.Tables.IsPassOf t.shared s) (sym p.2) (member_is (IsPassOf t) passes are p.0 p.1).of

  module _ (e : Ended) (z : Sizes) (z_is : z ≡ sizes_in t) (had : Closes (basis_in t.shared) (words_of e) seats) where
    closes : Closes (basis_in t.shared) (words_of e) (seats_of passes)
    closes = subst (λ (l : List Seat). Closes (basis_in t.shared) (words_of e) l) seats_are had

    whole : HasAllWords z e
    whole = subst (λ (y : Sizes). HasAllWords y e) (sym z_is) closes.long

    pub shape_at : IsShape z (cells_in z e)
    shape_at = subst (λ (y : Sizes). IsShape y (cells_in y e)) (sym z_is) (closes.tree (all_seats t passes are all) (hold_none t passes are all)).shape

    pub keys_at : (schema : List Column) → schema ≡ schema_in t → SpellsTuples schema (heap_in z e)
    keys_at schema is =
        let c = closes in
        subst (λ (y : Sizes). SpellsTuples schema (heap_in y e)) (sym z_is) (subst (λ (s : List Column). SpellsTuples s (heap_in (sizes_in t) e)) (sym is)
        (spells_tuples (schema_in t) (sizes_in t) c.sound.log c.history.legal c.history.typed e (c.tree (all_seats t passes are all) (hold_none t passes are all))))

    pub waiting_at : (pool : Pool) (n : ℕ) → n ≡ waits pool passes → HasWaiting z (memory_in z e) pool n (seats_of passes)
    waiting_at pool n is =
        let c = closes in
        let accounted = c.numbers (all_seats t passes are all) (hold_none t passes are all) (have_none t passes are all) in
        subst (λ (y : Sizes). HasWaiting y (memory_in y e) pool n (seats_of passes)) (sym z_is)
        (subst (λ (m : ℕ). HasWaiting (sizes_in t) (memory_in (sizes_in t) e) pool m (seats_of passes)) (sym (is ∙ waits_all pool passes))
        (limbos_add_up (sizes_in t) (memory_in (sizes_in t) e) (seats_of passes) (limbos_of passes) pool accounted c.apart (have_limbos t passes are)).0)

    pub known_at : (pool : Pool) (n : ℕ) → n ≡ waits pool passes → (held : List Seat) × HasWaiting z (memory_in z e) pool n held
    known_at pool n is = (seats_of passes, waiting_at pool n is)

    pub closed_at : (schema : List Column) → schema ≡ schema_in t → (c : Closed) → AreRowsOf schema (heap_in z e) c.rows.items
        → ((p : Pool) → IsCounted z (memory_in z e) (seats_of passes) p (count_of p c)) → IsClosed t passes c
    closed_at schema is c rows counts =
        let k = closes in
        let shows = k.tree (all_seats t passes are all) (hold_none t passes are all) in
        let here = subst (λ (y : Sizes). AreRowsOf (schema_in t) (heap_in y e) c.rows.items) z_is (subst (λ (s : List Column). AreRowsOf s (heap_in z e) c.rows.items) is rows) in
        record {
          log = k.sound.log;
          memory = memory_in (sizes_in t) e;
          shows = shows;
          tells = tells_all t passes are all k.sound.log k.history;
          rows = rows_replay (schema_in t) (sizes_in t) k.sound.log k.history.legal k.history.typed e shows c.rows.items here;
          accounted = k.numbers (all_seats t passes are all) (hold_none t passes are all) (have_none t passes are all);
          counts = λ p. subst (λ (y : Sizes). IsCounted y (memory_in y e) (seats_of passes) p (count_of p c)) z_is (counts p);
        }

-- one for each pool
pub by_pool : (P : Pool → Type 0) → P pool.Leaves → P pool.N4 → P pool.N16 → P pool.N48 → P pool.N256 → (p : Pool) → P p
by_pool P a b c d e pool.Leaves = a
by_pool P a b c d e pool.N4 = b
by_pool P a b c d e pool.N16 = c
by_pool P a b c d e pool.N48 = d
by_pool P a b c d e pool.N256 = e
