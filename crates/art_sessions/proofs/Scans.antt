-- A scan is answered at the places of its looks.
use Rattle.std.proofs.Common.{◌≡◌, ℕ, ◌==◌, Bool, true, false, List, [], ◌∷◌, ◌++◌, length, map, append-nil, append_assoc, length-append, Option, Some, None, inl, inr, refl, sym, ap, ◌∙◌, subst, arith}
use Rattle.std.specs.List.{AllByRecursion}
use Rattle.std.specs.Option.{option_map}
use Rattle.std.specs.Prelude.{Result, Ok, Err}
use Rattle.art_key.specs.Columns.{order_of}
use Rattle.art_key.specs.Histories.{replay}
use Rattle.art_key.specs.declared.columns.Column.{Column}
use Rattle.art_key.specs.declared.events.Deed.TheVariants.{Look}
use Rattle.art_key.specs.declared.events.Event.{Event}
use Rattle.art_model.specs.Rows.{Tuple}
use Rattle.art_model.specs.Scans.{IsScanOf}
use Rattle.art_model.specs.declared.commands.Reply.{Reply}
use Rattle.art_model.specs.declared.commands.Reply.TheVariants.{Rows}
use Rattle.art_model.specs.declared.rows.Row.{Row}
use Rattle.art_server.specs.ArtScan.Scans.{EndsAs, HasScanned, MakesLooks, more_at, scan_fault}
use Rattle.art_server.specs.ArtScan.Tiles.{Tile, states_of}
use Rattle.art_server.specs.ArtScan.declared.faults.ScanFault.{ScanFault}
use Rattle.art_server.specs.ArtScan.declared.faults.ScanFault.TheVariants.{Busy}
use Rattle.art_server.specs.ArtScan.declared.scans.More.{More}
use Rattle.art_server.specs.ArtScan.Refusals.{scan_refusal}
use Rattle.art_server.specs.Sessions.{AnswersScanIn, IsReplyOfScan, is_limit}
use Rattle.art_server.specs.ArtRefusal.declared.refusals.Refusal.{Refusal}
use Rattle.art_sessions.proofs.Goes.{looks_start, starts_on}
use Rattle.art_sessions.proofs.Places.{all_within, front, no_shorter, stands}
use Rattle.art_sessions.specs.Points.{AreAt, IsWithin, ScanAt, rows_at}
use Rattle.art_server.specs.ArtTable.Marks.{StartsWith}
use Rattle.art_server.specs.ArtTable.Tables.{number_of, own_of, schema_in, seen_by}
use Rattle.art_server.specs.ArtTable.declared.passes.Pass.{Pass}
use Rattle.art_server.specs.ArtTable.declared.tables.Table.{Table}

-- ---- its looks

module _ (log : List Event) (n : ℕ) where
  pub looks_at : (tiles : List Tile) (seen own : _) (seen' own' : _) → MakesLooks n seen own tiles seen' own' → StartsWith log seen'
      → (places : List ℕ) × (own' ≡ own ++ places) × AllByRecursion (IsWithin (length seen) (length seen')) places × AreAt log n tiles places
  looks_at [] seen own seen' own' made starts = ([], made.1 ∙ sym (append-nil own), tt, refl)
  looks_at (tile ∷ tiles) seen own seen' own' made starts =
      let e : Event = record { pass = n; what = Look tile.lo tile.hi tile.row } in
      let there = tile.before ++ e ∷ [] in
      let rest = looks_at tiles there (own ++ length tile.before ∷ []) seen' own' made.2 starts in
      let after = looks_start n tiles there (own ++ length tile.before ∷ []) seen' own' made.2 in
      let on = starts_on there seen' log after starts in
      let fronts = ap (length {A = Event}) made.1 in
      let parts = length-append seen made.0 in
      let more = length-append tile.before (e ∷ []) in
      let before_end = no_shorter there seen' after in (
        length tile.before ∷ rest.0,
        rest.1 ∙ append_assoc own (length tile.before ∷ []) rest.0,
        (
          (omega (arith, fronts, parts), omega (arith, more, before_end)),
          all_within (length there) (length seen') (length seen) (length seen') (omega (arith, fronts, parts, more)) (omega arith) rest.0 rest.2,
        ),
        (sym (front log tile.before on.0 e on.1), stands log tile.before on.0 e on.1, rest.3),
      )

  -- the rows that they saw are those at their places
  pub states_at : (schema : List Column) (tiles : List Tile) (places : List ℕ) → AreAt log n tiles places → states_of schema tiles ≡ map (rows_at schema log) places
  states_at schema [] places none = ap (λ (ks : List ℕ). map (rows_at schema log) ks) (sym none)
  states_at schema (tile ∷ tiles) [] at = absurd at
  states_at schema (tile ∷ tiles) (k ∷ ks) at =
      ap (λ (rows : List Row). rows ∷ states_of schema tiles) (ap (replay schema) at.0)
      ∙ ap (λ (states : List (List Row)). rows_at schema log k ∷ states) (states_at schema tiles ks at.2)

-- ---- a scan

pub limits : (listed limit : ℕ) → is_limit (more_at listed limit) ≡ (listed == limit)
limits listed limit = by (listed == limit) refl
  where
    by : (b : Bool) → (listed == limit) ≡ b → is_limit (more_at listed limit) ≡ (listed == limit)
    by true e = rw e refl
    by false e = rw e refl

module _ (t : Table) (p q : Pass) (log : List Event) (starts : StartsWith log (seen_by t q)) (turns : ℕ) (reply : Result Reply Refusal) (lo hi : Tuple) (limit : ℕ) where
  abbrev pub Answered : Type 0
  Answered =
      (places : List ℕ) × (own_of q ≡ own_of p ++ places) × AllByRecursion (IsWithin (length (seen_by t p)) (length (seen_by t q))) places
      × ScanAt (schema_in t) log (number_of p) lo hi limit reply places

  wrong : (fault : ScanFault) (listed : List Row) (r : Result More ScanFault) → scan_fault (schema_in t) lo hi limit ≡ Some fault → r ≡ Err fault → q ≡ p → IsReplyOfScan listed r reply → Answered
  wrong fault listed r is r_is same told =
      let said : reply ≡ Err (scan_refusal fault) = subst (λ (x : Result More ScanFault). IsReplyOfScan listed x reply) r_is told in (
        [],
        ap own_of same ∙ sym (append-nil (own_of p)),
        tt,
        subst (λ (x : Result Reply Refusal). ScanAt (schema_in t) log (number_of p) lo hi limit x []) (sym said) (inl (ap (option_map scan_refusal) is, refl)),
      )

  ended : (none : scan_fault (schema_in t) lo hi limit ≡ None) (listed : List Row) (r : Result More ScanFault) (e : HasScanned t lo hi limit turns p listed r q)
      → EndsAs t lo hi limit turns e.reached e.tiles p listed r q → IsReplyOfScan listed r reply → Answered
  ended none listed (Err fault) e ends told =
      let looks = looks_at log (number_of p) e.tiles (seen_by t p) (own_of p) (seen_by t q) (own_of q) e.tiled.looks starts in
      let said : reply ≡ Err (scan_refusal Busy) = told ∙ ap (λ (f : ScanFault). Err (scan_refusal f)) ends.0 in (
        looks.0,
        looks.1,
        looks.2,
        subst (λ (x : Result Reply Refusal). ScanAt (schema_in t) log (number_of p) lo hi limit x looks.0) (sym said)
            (inr (ap (option_map scan_refusal) none, refl, (e.tiles, e.reached, record { at = looks.3; tiled = e.tiled.tiles_are }))),
      )
  ended none listed (Ok more) e ends told =
      let looks = looks_at log (number_of p) e.tiles (seen_by t p) (own_of p) (seen_by t q) (own_of q) e.tiled.looks starts in
      let states = states_at log (number_of p) (schema_in t) e.tiles looks.0 looks.3 in
      let count = ap is_limit ends.more_is ∙ limits (length listed) limit in
      let said : reply ≡ Ok (Rows (record { items = listed }) (length listed == limit)) = told ∙ ap (λ (b : Bool). Ok (Rows (record { items = listed }) b)) count in (
        looks.0,
        looks.1,
        looks.2,
        subst (λ (x : Result Reply Refusal). ScanAt (schema_in t) log (number_of p) lo hi limit x looks.0) (sym said) (
          ap (option_map scan_refusal) none,
          (
            listed,
            refl,
            record {
              tiles = e.tiles;
              reached = e.reached;
              more = more;
              looks = record { at = looks.3; tiled = e.tiled.tiles_are };
              listed = ends;
              owed = subst (λ (s : List (List Row)). IsScanOf (order_of (schema_in t)) s lo hi limit listed) states ends.owed;
            },
          ),
        ),
      )

  pub scanned : AnswersScanIn t lo hi limit turns p reply q → Answered
  scanned a = by (scan_fault (schema_in t) lo hi limit) refl
    where
      by : (o : Option ScanFault) → scan_fault (schema_in t) lo hi limit ≡ o → Answered
      by (Some fault) is = let kept = a.scans.fault fault is in wrong fault a.rows a.result is kept.0 kept.2 a.told
      by None is = let e = a.scans.scanned is in ended is a.rows a.result e e.ends a.told
