-- A scan that goes on by a look: what is known when the look has ended.
use Rattle.std.proofs.Common.{◌≡◌, ◌∙◌, ◌+◌, ◌*◌, ◌<◌, ◌≤◌, ◌&&◌, ℕ, true, length, nat_lt, Some, refl, sym, ap, subst, arith}
use Rattle.std.specs.Prelude.{List, [], Result, Ok, Err}
use Rattle.art_key.specs.Bounds.{is_before}
use Rattle.art_key.specs.Histories.{bound_at}
use Rattle.art_model.specs.Rows.{Tuple}
use Rattle.art_model.specs.declared.rows.Row.{Row}
use Rattle.art_scan.proofs.Between.{looks_still, refused, same_then}
use Rattle.art_scan.proofs.Ended.{few_steps, goes_on, is_wanted, refused_scans}
use Rattle.art_scan.specs.Running.{IsLooking, LeavesScan, wants_look}
use Rattle.art_scan.specs.Tiles.{EndsRange, rows_of, with_found}
use Rattle.std.proofs.lemmas.Bool.{and_parts}
use Rattle.art_scan.specs.Scans.{Scans}
use Rattle.art_scan.specs.Tilings.{IsScanning}
use Rattle.art_scan.specs.declared.faults.ScanFault.TheVariants.{Busy}
use Rattle.art_scan.specs.declared.looking.Looking.{Looking}
use Rattle.art_scan.specs.declared.tilings.Tiling.{Tiling}
use Rattle.art_table.proofs.Answered.{look_ends}
use Rattle.art_table.specs.Attempts as attempts
use Rattle.art_key.specs.declared.bounds.Bound.{Bound}
use Rattle.art_table.specs.Calls.{Ends, IsAttempt, LeavesTurns}
use Rattle.art_table.specs.Jobs.{IsOf}
use Rattle.art_table.specs.Tables.{number_of, own_of, schema_in, seen_by, turns_left_by, view_of}
use Rattle.art_table.specs.declared.attempts.Attempt.{Attempt}
use Rattle.art_table.specs.declared.faults.Fault.{Fault}
use Rattle.art_table.specs.declared.jobs.Job.TheVariants.{Look}
use Rattle.art_table.specs.declared.jobs.Outcome.{Outcome}
use Rattle.art_table.specs.declared.jobs.Outcome.TheVariants.{Seen as saw}
use Rattle.art_table.specs.declared.jobs.Seen.{Seen}
use Rattle.art_table.specs.declared.passes.Pass.{Pass}
use Rattle.art_table.specs.declared.tables.Table.{Table}

abbrev okay : Outcome → Result Outcome Fault
okay x = Ok x

-- a look that was answered leaves fewer turns
pub answered_turns : (t : Table) (lo hi : Bound) (turns : ℕ) (p q : Pass) (s : Seen) → Ends t (Look lo hi) turns p (Ok (saw s)) q → (left : ℕ) → left ≡ turns_left_by q → left < turns
answered_turns t lo hi turns p q s e left is =
    let leaves : LeavesTurns turns (turns_left_by q) p (Ok (saw s)) q = (e.called refl).left in
    let three = leaves.some (saw s) refl in
    omega (arith, three, is)

-- another look is wanted after one that saw this, and then the scan goes on
pub wanted_then : (rows rows' : List Row) (g g' : Tiling) (s : Seen) → wants_look rows g (Some s) ≡ true → rows' ≡ with_found rows s.row → g'.from ≡ s.hi
    → (g'.end ≡ g.end) × (g'.limit ≡ g.limit) → (nat_lt (length rows') g'.limit && is_before g'.from g'.end) ≡ true
wanted_then rows rows' g g' s wanted rows_is from_is same = rw (rows_is, from_is, same.0, same.1) wanted

module _ (t : Table) (lo hi : Tuple) (limit turns : ℕ) (p : Pass) (rows : List Row) (l : Looking) (on : IsLooking t lo hi limit turns p rows l) where
  -- there is room for one row more
  pub has_room : length rows < 100
  has_room =
      let low = is_wanted t lo hi limit turns p on.began rows l.tiling on.scan on.on in
      let most = on.scan.most in
      omega (arith, low, most)

  -- the look goes on
  pub look_goes_on : (a : Attempt) → IsAttempt t (Look l.tiling.from l.tiling.end) l.tiling.turns on.began a
      → IsLooking t lo hi limit turns p rows (record l { attempt = a })
  look_goes_on a look = record { began = on.began; scan = on.scan; on = on.on; look = look }

  -- it was answered: the scan is made as far as its end
  pub looked : (q : Pass) (s : Seen) → Ends t (Look l.tiling.from l.tiling.end) l.tiling.turns on.began (Ok (saw s)) q → (g : Tiling) (rows' : List Row)
      → g.from ≡ s.hi → g.turns ≡ turns_left_by q → (g.end ≡ l.tiling.end) × (g.limit ≡ l.tiling.limit) → rows' ≡ with_found rows s.row
      → IsScanning t lo hi limit turns p q rows' g
  looked q s e g rows' from_is turns_is same rows_is =
      goes_on t lo hi limit turns p on.began rows l.tiling on.scan q s on.on (e.called refl) g rows' from_is turns_is same rows_is

  -- the next one begins
  pub looks_again : (q : Pass) (s : Seen) → Ends t (Look l.tiling.from l.tiling.end) l.tiling.turns on.began (Ok (saw s)) q → (g : Tiling) (rows' : List Row)
      → g.from ≡ s.hi → g.turns ≡ turns_left_by q → (g.end ≡ l.tiling.end) × (g.limit ≡ l.tiling.limit) → rows' ≡ with_found rows s.row
      → wants_look rows l.tiling (Some s) ≡ true → (a : Attempt) → IsAttempt t (Look g.from g.end) g.turns q a → (n : ℕ)
      → IsLooking t lo hi limit turns p rows' (record { tiling = g; attempt = a; restarts = n })
  looks_again q s e g rows' from_is turns_is same rows_is wanted a look n = record {
    began = q;
    scan = looked q s e g rows' from_is turns_is same rows_is;
    on = wanted_then rows rows' l.tiling g s wanted rows_is from_is same;
    look = look;
  }

  -- an answer of it is what it has seen
  pub answer_seen : (x : Outcome) (r : Result Outcome Fault) (q : Pass) → r ≡ Ok x → Ends t (Look l.tiling.from l.tiling.end) l.tiling.turns on.began r q → IsOf saw x
  answer_seen x r q is e =
      let here = subst (λ (y : Result Outcome Fault). Ends t (Look l.tiling.from l.tiling.end) l.tiling.turns on.began y q) is e in
      look_ends t l.tiling.turns on.began x q l.tiling.from l.tiling.end (here.called refl)

  pub answered_as : (x : Outcome) (s : Seen) (r : Result Outcome Fault) (q : Pass) → r ≡ Ok x → saw s ≡ x → Ends t (Look l.tiling.from l.tiling.end) l.tiling.turns on.began r q
      → Ends t (Look l.tiling.from l.tiling.end) l.tiling.turns on.began (Ok (saw s)) q
  answered_as x s r q is same e =
      subst (λ (y : Result Outcome Fault). Ends t (Look l.tiling.from l.tiling.end) l.tiling.turns on.began y q)
      (is ∙ ap okay (sym same)) e

  -- it was refused
  pub look_refused : (q : Pass) (f : Fault) → Ends t (Look l.tiling.from l.tiling.end) l.tiling.turns on.began (Err f) q → Scans t lo hi limit turns p [] (Err Busy) q
  look_refused q f e = refused_scans t lo hi limit turns p on.began rows l.tiling on.scan q f (e.called refl)

  -- ---- it is given up

  -- another look was wanted when this one began
  left_before : (end : Bound) × EndsRange (schema_in t) hi end × (is_before l.tiling.from end ≡ true) × (length (rows_of on.scan.on.tiles) < limit)
  left_before =
      let both = and_parts (nat_lt (length rows) l.tiling.limit) (is_before l.tiling.from l.tiling.end) on.on in
      let room = is_wanted t lo hi limit turns p on.began rows l.tiling on.scan on.on in (
        on.scan.end,
        on.scan.ends,
        subst (λ (b : Bound). is_before l.tiling.from b ≡ true) on.scan.on.end_is both.1,
        subst (λ (xs : List Row). length xs < limit) on.scan.on.rows_are room,
      )

  -- the look takes no more steps than turns are left, and a thousand
  few_more : (q : Pass) → (view_of q).steps ≤ (view_of on.began).steps + l.tiling.turns + 1000 → (view_of q).steps ≤ (view_of p).steps + 2 * turns + 1000
  few_more q steps = let used = on.scan.on.used in let some = on.scan.on.some in omega (arith, steps, used, some)

  pub refused_tiled : (q : Pass) (f : Fault) → Ends t (Look l.tiling.from l.tiling.end) l.tiling.turns on.began (Err f) q → LeavesScan t lo hi limit turns p q
  refused_tiled q f e = record {
    reached = l.tiling.from;
    tiles = on.scan.on.tiles;
    tiled = refused t (bound_at (schema_in t) lo) on.scan.end limit turns p on.began rows l.tiling on.scan.on q f (e.called refl);
    left = λ none. left_before;
    steps = few_more q (e.called refl).steps;
  }

  pub given_tiled : (q : Pass) → attempts.IsGivenUp t l.tiling.turns on.began q → LeavesScan t lo hi limit turns p q
  given_tiled q g =
      let tiled = on.scan.on.tiled in
      record {
        reached = l.tiling.from;
        tiles = on.scan.on.tiles;
        tiled = record {
          pass = g.pass;
          same = same_then p.seat on.began.seat q.seat tiled.same g.same;
          looks = looks_still (number_of p) on.scan.on.tiles _ _ (seen_by t on.began) (own_of on.began) (seen_by t q) (own_of q) tiled.looks g.sees.0 g.sees.1;
          tiles_are = tiled.tiles_are;
        };
        left = λ none. left_before;
        steps = few_more q g.steps;
      }

-- a scan that goes on, and is given up between two looks
pub between_looks : (t : Table) (lo hi : Tuple) (limit turns : ℕ) (p q : Pass) (rows : List Row) (g : Tiling) → (s : IsScanning t lo hi limit turns p q rows g)
    → (nat_lt (length rows) g.limit && is_before g.from g.end) ≡ true → LeavesScan t lo hi limit turns p q
between_looks t lo hi limit turns p q rows g s test =
    let both = and_parts (nat_lt (length rows) g.limit) (is_before g.from g.end) test in
    let room = is_wanted t lo hi limit turns p q rows g s test in
    record {
      reached = g.from;
      tiles = s.on.tiles;
      tiled = s.on.tiled;
      left = λ none. (
        s.end,
        s.ends,
        subst (λ (b : Bound). is_before g.from b ≡ true) s.on.end_is both.1,
        subst (λ (xs : List Row). length xs < limit) s.on.rows_are room,
      );
      steps = few_steps t lo hi limit turns p q rows g s;
    }
