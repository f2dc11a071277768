-- A scan between two of its looks: what its pass saw so far, what is listed, and how many turns are left.
use Rattle.std.proofs.Common.{◌≡◌, ◌⊎◌, ℕ, ◌+◌, ◌<◌, ◌≤◌, true, List, [], ◌∷◌, ◌++◌, length, Option, Some, None, inl, inr, refl, sym, ap, ◌∙◌, subst, arith}
use Rattle.std.proofs.lemmas.List.{length_push}
use Rattle.std.specs.List.{cons_option}
use Rattle.std.specs.Prelude.{Ok, Err}
use Rattle.art_key.specs.Bounds.{is_before}
use Rattle.art_key.specs.Histories.{IsAnswered, IsLegal, IsLegalFrom, becomes, run}
use Rattle.art_key.specs.declared.bounds.Bound.{Bound}
use Rattle.art_key.specs.declared.columns.Column.{Column}
use Rattle.art_key.specs.declared.events.Deed.TheVariants.{Look as looked}
use Rattle.art_key.specs.declared.events.Event.{Event}
use Rattle.art_model.specs.declared.rows.Row.{Row}
use Rattle.art_scan.specs.Scans.{HasTiled, MakesLooks, UsedTurns}
use Rattle.art_scan.specs.Tiles.{AreTiles, IsTile, Tile, rows_of, with_found}
use Rattle.art_scan.specs.Tilings.{IsTiling}
use Rattle.art_scan.specs.declared.tilings.Tiling.{Tiling}
use Rattle.art_shared.specs.SamePass.{SamePass}
use Rattle.art_shared.specs.declared.pass.Pass.{Pass as Seat}
use Rattle.art_table.specs.Calls.{HasEnded, LeavesTurns, Makes}
use Rattle.art_table.specs.Jobs.{Within}
use Rattle.art_table.specs.Tables.{IsPassOf, number_of, own_of, schema_in, seen_by, turns_left_by, view_of}
use Rattle.art_table.specs.declared.faults.Fault.{Fault}
use Rattle.art_table.specs.declared.jobs.Job.TheVariants.{Look}
use Rattle.art_table.specs.declared.jobs.Outcome.TheVariants.{Seen as saw}
use Rattle.art_table.specs.declared.jobs.Seen.{Seen}
use Rattle.art_table.specs.declared.passes.Pass.{Pass}
use Rattle.art_table.specs.declared.tables.Table.{Table}

-- ---- one look more

-- a legal history with one event more: the others are legal, and it says what the rows answer after them
legal_split : (schema : List Column) (rows : List Row) (log : List Event) (e : Event) → IsLegalFrom schema rows (log ++ e ∷ [])
    → IsLegalFrom schema rows log × IsAnswered schema (run schema rows log) e.what
legal_split schema rows [] e legal = (tt, legal.0)
legal_split schema rows (d ∷ log) e legal =
    let split = legal_split schema (becomes schema rows d.what) log e legal.1 in
    ((legal.0, split.0), split.1)

tiles_push : (schema : List Column) (tiles : List Tile) (from to : Bound) (tile : Tile) → AreTiles schema from to tiles → IsTile schema to tile
    → AreTiles schema from tile.hi (tiles ++ tile ∷ [])
tiles_push schema [] from to tile are is = (subst (λ (b : Bound). IsTile schema b tile) (sym are) is, refl)
tiles_push schema (t ∷ tiles) from to tile are is = (are.0, tiles_push schema tiles t.hi to tile are.1 is)

event_of : ℕ → Tile → Event
event_of pass tile = record { pass = pass; what = looked tile.lo tile.hi tile.row }

looks_push : (pass : ℕ) (tiles : List Tile) (tile : Tile) (seen own : _) (seen' own' seen'' own'' : _) → MakesLooks pass seen own tiles seen' own'
    → (between : List Event) → tile.before ≡ seen' ++ between → seen'' ≡ tile.before ++ event_of pass tile ∷ [] → own'' ≡ own' ++ length tile.before ∷ []
    → MakesLooks pass seen own (tiles ++ tile ∷ []) seen'' own''
unfolding event_of
looks_push pass [] tile seen own seen' own' seen'' own'' made between before sees owns = (
  between,
  before ∙ ap (λ (l : List Event). l ++ between) made.0,
  (sees, owns ∙ ap (λ (l : List ℕ). l ++ length tile.before ∷ []) made.1),
)
looks_push pass (t ∷ tiles) tile seen own seen' own' seen'' own'' made between before sees owns =
    (made.0, made.1, looks_push pass tiles tile _ _ seen' own' seen'' own'' made.2 between before sees owns)

-- a look that saw nothing changes nothing
pub looks_still : (pass : ℕ) (tiles : List Tile) (seen own : _) (seen' own' seen'' own'' : _) → MakesLooks pass seen own tiles seen' own' → seen'' ≡ seen' → own'' ≡ own'
    → MakesLooks pass seen own tiles seen'' own''
looks_still pass [] seen own seen' own' seen'' own'' made sees owns = (sees ∙ made.0, owns ∙ made.1)
looks_still pass (t ∷ tiles) seen own seen' own' seen'' own'' made sees owns = (made.0, made.1, looks_still pass tiles _ _ seen' own' seen'' own'' made.2 sees owns)

found_after : (row : Row) (rows : List Row) (o : Option Row) → with_found (row ∷ rows) o ≡ row ∷ with_found rows o
found_after row rows (Some r) = refl
found_after row rows None = refl

rows_first : (o : Option Row) → cons_option o [] ≡ with_found [] o
rows_first (Some r) = refl
rows_first None = refl

rows_next : (o found : Option Row) (rows more : List Row) → more ≡ with_found rows found → cons_option o more ≡ with_found (cons_option o rows) found
rows_next (Some r) found rows more is = ap (λ (l : List Row). r ∷ l) is ∙ sym (found_after r rows found)
rows_next None found rows more is = is

rows_push : (tiles : List Tile) (tile : Tile) → rows_of (tiles ++ tile ∷ []) ≡ with_found (rows_of tiles) tile.row
rows_push [] tile = rows_first tile.row
rows_push (t ∷ tiles) tile = rows_next t.row tile.row (rows_of tiles) (rows_of (tiles ++ tile ∷ [])) (rows_push tiles tile)

one_found : (rows : List Row) (o : Option Row) → length (with_found rows o) ≤ length rows + 1
one_found rows (Some r) = let more = length_push rows r in omega (arith, more)
one_found rows None = omega arith

pub same_then : (a b c : Seat) → SamePass a b → SamePass b c → SamePass a c
same_then a b c x y = record {
  number = y.number ∙ x.number;
  table = y.table ∙ x.table;
  seat = y.seat ∙ x.seat;
  basis = y.basis ∙ x.basis;
  told = y.told ∙ x.told;
}

-- ---- between two looks

-- before the first
pub begun : (t : Table) (limit : ℕ) (p : Pass) (rows : List Row) (g : Tiling) → IsPassOf t p → rows ≡ [] → g.limit ≡ limit → IsTiling t g.from g.end limit g.turns p p rows g
begun t limit p rows g is none limit_is = record {
  tiles = [];
  tiled = record {
    pass = is;
    same = record { number = refl; table = refl; seat = refl; basis = refl; told = refl };
    looks = (refl, refl);
    tiles_are = refl;
  };
  rows_are = none;
  few = rw none (omega arith);
  within = inl refl;
  end_is = refl;
  limit_is = limit_is;
  used = omega arith;
  some = omega arith;
  fewer = omega arith;
}

module _ (t : Table) (from end : Bound) (limit turns : ℕ) (p q : Pass) (rows : List Row) (g : Tiling) (on : IsTiling t from end limit turns p q rows g) (q' : Pass) where
  number_is : number_of q ≡ number_of p
  number_is = sym q.seat.own ∙ (on.tiled.same.number ∙ p.seat.own)

  -- a look was answered
  module _ (s : Seen) (room : length rows < limit) (e : HasEnded t (Look g.from g.end) g.turns g.turns q (Ok (saw s)) q') where
    made : Makes t q q' (looked s.lo s.hi s.row)
    made = e.sees

    tile : Tile
    tile = record { before = seen_by t q ++ made.between; lo = s.lo; hi = s.hi; row = s.row }

    sees : seen_by t q' ≡ (seen_by t q ++ made.between) ++ event_of (number_of p) tile ∷ []
    unfolding event_of tile
    sees = made.seen ∙ ap (λ (n : ℕ). (seen_by t q ++ made.between) ++ record { pass = n; what = looked s.lo s.hi s.row } ∷ []) number_is

    is_tile : IsTile (schema_in t) g.from tile
    unfolding event_of tile
    is_tile =
        let range : Within g.from g.end s = e.range in
        let split = legal_split (schema_in t) [] (seen_by t q ++ made.between) (event_of (number_of p) tile) (subst (IsLegal (schema_in t)) sees e.legal) in
        record {
          begins = range.begins;
          after = subst (λ (b : Bound). is_before b s.hi ≡ true) (sym range.begins) range.after;
          legal = split.0;
          exact = split.1;
        }

    same_end : (s.hi ≡ g.end) ⊎ (is_before s.hi g.end ≡ true) → (s.hi ≡ end) ⊎ (is_before s.hi end ≡ true)
    same_end (inl is) = inl (is ∙ on.end_is)
    same_end (inr before) = inr (subst (λ (b : Bound). is_before s.hi b ≡ true) on.end_is before)

    pub answered : (g' : Tiling) (rows' : List Row) → g'.from ≡ s.hi → g'.turns ≡ turns_left_by q' → g'.end ≡ g.end → g'.limit ≡ g.limit → rows' ≡ with_found rows s.row
        → IsTiling t from end limit turns p q' rows' g'
    unfolding tile
    answered g' rows' from_is turns_is end_is limit_is rows_is =
        let range : Within g.from g.end s = e.range in
        let left : LeavesTurns g.turns (turns_left_by q') q (Ok (saw s)) q' = e.left in
        let all = left.spent.all in
        let few = left.spent.few in
        let three = left.some (saw s) refl in
        let used = on.used in
        let some = on.some in
        let fewer = on.fewer in
        let more = length_push on.tiles tile in
        let one = one_found rows s.row in
        record {
          tiles = on.tiles ++ tile ∷ [];
          tiled = record {
            pass = e.pass;
            same = same_then p.seat q.seat q'.seat on.tiled.same e.same;
            looks = looks_push (number_of p) on.tiles tile _ _ (seen_by t q) (own_of q) (seen_by t q') (own_of q') on.tiled.looks made.between refl sees made.own;
            tiles_are = subst (λ (b : Bound). AreTiles (schema_in t) from b (on.tiles ++ tile ∷ [])) (sym from_is)
                (tiles_push (schema_in t) on.tiles from g.from tile on.tiled.tiles_are is_tile);
          };
          rows_are = rows_is ∙ (ap (λ (l : List Row). with_found l s.row) on.rows_are ∙ sym (rows_push on.tiles tile));
          few = rw rows_is (omega (arith, one, room));
          within = inr (subst (λ (b : Bound). (b ≡ end) ⊎ (is_before b end ≡ true)) (sym from_is) (same_end range.within));
          end_is = end_is ∙ on.end_is;
          limit_is = limit_is ∙ on.limit_is;
          used = omega (arith, turns_is, more, all, used);
          some = omega (arith, turns_is, more, three, some);
          fewer = omega (arith, turns_is, more, few, fewer);
        }

  -- a look was refused
  module _ (f : Fault) (e : HasEnded t (Look g.from g.end) g.turns g.turns q (Err f) q') where
    pub refused : HasTiled t from g.from on.tiles p q'
    refused = record {
      pass = e.pass;
      same = same_then p.seat q.seat q'.seat on.tiled.same e.same;
      looks = looks_still (number_of p) on.tiles _ _ (seen_by t q) (own_of q) (seen_by t q') (own_of q') on.tiled.looks e.sees.0 e.sees.1;
      tiles_are = on.tiled.tiles_are;
    }

    pub used_up : UsedTurns turns (length on.tiles) (view_of p) (view_of q')
    used_up =
        let left : LeavesTurns g.turns (turns_left_by q') q (Err f) q' = e.left in
        let all = left.spent.all in
        let few = left.spent.few in
        let none = (left.none f refl).1 in
        let used = on.used in
        let fewer = on.fewer in
        record { all = omega (arith, all, none, used); few = omega (arith, few, none, fewer) }
