-- The passes that come back of a load, or of a server, are all passes of their table.
use Rattle.std.proofs.Common.{◌≡◌, ℕ, ◌+◌, zero, suc, List, [], ◌∷◌, length, Some, inl, inr, refl, sym, ap, ◌∙◌, subst, arith}
use Rattle.std.specs.List.{slice_get}
use Rattle.std.specs.Prelude.{◌≤◌, Ok}
use Rattle.art_key.specs.declared.columns.Column.{Column}
use Rattle.art_load.specs.Commands.{load_commands}
use Rattle.art_load.specs.Loads.{LoadEach, LoadsAll, asks_of}
use Rattle.art_load.specs.declared.counts.Counts.{Counts}
use Rattle.art_server.specs.ArtTable.Closing.{AreAllPasses}
use Rattle.art_server.specs.ArtTable.Opening.{IsOpened}
use Rattle.art_server.specs.ArtTable.Sizes.{IsConfig}
use Rattle.art_server.specs.ArtTable.Tables.{AreOf, IsPassOf, number_of, seen_by, sizes_in}
use Rattle.art_server.specs.ArtTable.declared.configs.Config.{Config}
use Rattle.art_server.specs.ArtTable.declared.passes.Pass.{Pass}
use Rattle.art_server.specs.ArtTable.declared.tables.Table.{Table}
use Rattle.art_workers.proofs.ArtSessions.Goes.{starts_itself}
use Rattle.art_workers.proofs.ArtSessions.Points.{commands_are_points}
use Rattle.art_workers.proofs.ArtSessions.Talks.{talks_go}
use Rattle.art_workers.specs.ArtSessions.Talks.{HasTalks, Worker}
use Rattle.art_step.specs.Views.{Member}
use Rattle.art_step.specs.declared.views.Sizes.{Sizes}
use Rattle.art_tools.proofs.Passes.{all_here, all_of, new_passes}
use Rattle.art_tools.specs.Schedules.{AreInPlace}
use Rattle.art_tools.specs.Tables.{of_passes}
use Rattle.art_workers.specs.Serving.{HaveServed, afters_of, befores_of}

-- ---- the table

-- its sizes may be those of a table with so many passes
pub many_valid : (count : ℕ) (sizes : Config) → IsConfig sizes → 1 ≤ count → count ≤ 32 → IsConfig (of_passes count sizes)
many_valid count sizes valid some few = record {
  leaves = valid.leaves;
  n4 = valid.n4;
  n16 = valid.n16;
  n48 = valid.n48;
  n256 = valid.n256;
  passes = (some, few);
  counter_start = valid.counter_start;
}

module _ (schema : List Column) (count : ℕ) (sizes : Config) (t : Table) (passes : List Pass)
    (opened : IsOpened schema (of_passes count sizes) t passes) where
  pub opened_of : AreOf t passes
  opened_of = all_of t passes (new_passes schema (of_passes count sizes) t passes opened)

  -- as many passes that stand in their places are all that the table has
  all_passes : (back : List Pass) → length back ≡ length passes → AreInPlace t back → AreAllPasses (sizes_in t).passes back
  all_passes back long places =
      let many = ap (λ (z : Sizes). z.passes) opened.sizes_are in
      all_here t back places (sizes_in t).passes (long ∙ (opened.count ∙ sym many))

-- ---- passes in their places

module _ (t : Table) where
  -- each is a pass of the table, and they have the numbers from this one on
  abbrev AreFrom : ℕ → List Pass → Type 0
  AreFrom k ps = (n : ℕ) (p : Pass) → slice_get ps n ≡ Some p → IsPassOf t p × (number_of p ≡ k + n)

  same_some : (x y : Pass) → Some x ≡ Some y → x ≡ y
  same_some x y is = cc

  none_from : (k : ℕ) → AreFrom k []
  none_from k n p is = absurd (cc)

  one_more : (k : ℕ) (q : Pass) (qs : List Pass) → IsPassOf t q → number_of q ≡ k + 0 → AreFrom (k + 1) qs → AreFrom k (q ∷ qs)
  one_more k q qs is number are zero p found =
      let same = same_some q p found in
      (subst (IsPassOf t) same is, subst (λ (x : Pass). number_of x ≡ k + 0) same number)
  one_more k q qs is number are (suc n) p found =
      let later = are n p found in
      (later.0, later.1 ∙ omega arith)

  others : (k : ℕ) (p : Pass) (ps : List Pass) → AreFrom k (p ∷ ps) → AreFrom (k + 1) ps
  others k p ps are n x found =
      let there = are (suc n) x found in
      (there.0, there.1 ∙ omega arith)

  -- passes that come back, as many as were given
  record ComeFrom (k : ℕ) (ps qs : List Pass) : Type 0 where
    pub long : length qs ≡ length ps
    pub places : AreFrom k qs

  come_more : (k : ℕ) (p q : Pass) (ps qs : List Pass) → IsPassOf t q → number_of q ≡ k + 0 → ComeFrom (k + 1) ps qs
      → ComeFrom k (p ∷ ps) (q ∷ qs)
  come_more k p q ps qs is number rest =
      record { long = (let long = rest.long in omega (arith, long)); places = one_more k q qs is number rest.places }

  loads_back : (seed keys ops k : ℕ) (ps : List Pass) (cs : List Counts) (qs : List Pass) → AreFrom k ps
      → LoadEach t seed keys ops k ps cs qs → ComeFrom k ps qs
  loads_back seed keys ops k [] [] [] are loads = record { long = refl; places = none_from k }
  loads_back seed keys ops k (p ∷ ps) (c ∷ cs) (q ∷ qs) are (one, rest) =
      let first = are 0 p refl in
      let asks = asks_of (load_commands seed keys k ops) in
      let points = commands_are_points t asks p q one.replies (seen_by t q) first.0 one.answers (starts_itself (seen_by t q)) in
      come_more k p q ps qs one.pass (points.1.number ∙ first.1) (loads_back seed keys ops (k + 1) ps cs qs (others k p ps are) rest)
  loads_back seed keys ops k [] [] (q ∷ qs) are loads = absurd loads
  loads_back seed keys ops k [] (c ∷ cs) [] are loads = absurd loads
  loads_back seed keys ops k [] (c ∷ cs) (q ∷ qs) are loads = absurd loads
  loads_back seed keys ops k (p ∷ ps) [] [] are loads = absurd loads
  loads_back seed keys ops k (p ∷ ps) [] (q ∷ qs) are loads = absurd loads
  loads_back seed keys ops k (p ∷ ps) (c ∷ cs) [] are loads = absurd loads

  served_back : (k : ℕ) (ws : List Worker) → AreFrom k (befores_of ws)
      → ((w : Worker) → Member w ws → HasTalks t w.before w.talks w.after) → ComeFrom k (befores_of ws) (afters_of ws)
  served_back k [] are had = record { long = refl; places = none_from k }
  served_back k (w ∷ ws) are had =
      let first = are 0 w.before refl in
      let goes = talks_go t w.talks w.before w.after first.0 (had w (inl refl)) in
      come_more k w.before w.after (befores_of ws) (afters_of ws) goes.pass (goes.number ∙ first.1)
      (served_back (k + 1) ws (others k w.before (befores_of ws) are) (λ x m. had x (inr m)))

  from_first : (ps : List Pass) → AreInPlace t ps → AreFrom 0 ps
  from_first ps places n p found =
      let there = places n p found in
      (there.0, there.1 ∙ omega arith)

  in_place : (ps : List Pass) → AreFrom 0 ps → AreInPlace t ps
  in_place ps are n p found =
      let there = are n p found in
      (there.0, there.1 ∙ omega arith)

-- ---- all of them

module _ (schema : List Column) (count : ℕ) (sizes : Config) (t : Table) (passes back : List Pass)
    (opened : IsOpened schema (of_passes count sizes) t passes) where
  places : AreFrom t 0 passes
  places = from_first t passes (new_passes schema (of_passes count sizes) t passes opened)

  pub loaded_all : (seed keys ops : ℕ) (counts : Counts) → LoadsAll t seed keys ops passes counts back
      → AreAllPasses (sizes_in t).passes back
  loaded_all seed keys ops counts loads =
      let come = loads_back t seed keys ops 0 passes loads.each back places loads.loads in
      all_passes schema count sizes t passes opened back come.long (in_place t back come.places)

  pub served_all : (ended : ℕ) → HaveServed t passes back (Ok ended) → AreAllPasses (sizes_in t).passes back
  served_all ended served =
      let whole = served.whole.0 in
      let befores = subst (AreFrom t 0) (sym whole) places in
      let come = served_back t 0 served.workers befores served.talks in
      let after = served.after in
      let long = sym (ap (length {A = Pass}) after) ∙ (come.long ∙ ap (length {A = Pass}) whole) in
      all_passes schema count sizes t passes opened back long (in_place t back (subst (AreFrom t 0) after come.places))
