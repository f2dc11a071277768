-- How the steps that were made of a command go on, one step more at a time.
use Rattle.std.proofs.Common.{Option, Some, None, Result, ◌≡◌, ℕ, ◌+◌, ◌-◌, ◌*◌, ◌^◌, ◌<◌, ◌≤◌, Bool, true, false, List, [], ◌∷◌, ◌++◌, length, cond, add-zero, zero-add, refl, sym, subst, ap, ◌∙◌, arith}
use Rattle.std.proofs.lemmas.List.{length_push}
use Rattle.std.proofs.lemmas.List.Sums.{sum_by-append}
use Rattle.art_model.specs.declared.commands.Command.{Command}
use Rattle.art_model.specs.declared.rows.Row.{Row}
use Rattle.art_server.specs.ArtScan.Running.{IsRunning, HasNoStep, view_in, GoesOn, IsLooking, pass_at}
use Rattle.art_server.specs.ArtTable.Tables.{view_of, sizes_in, schema_in}
use Rattle.art_server.specs.ArtTable.Steps.{Made, MakesStep}
use Rattle.art_step.specs.declared.views.View.{View}
use Rattle.art_schedule.specs.Seats.{IsGoing, KeepsRunning}
use Rattle.art_schedule.specs.Steps.{MakesSteps, MakesMany, MakesFewer, StepsOrStops, ReachesMark, MissesMark, is_marked, marked}
use Rattle.art_step.specs.declared.views.Sizes.{Sizes}
use Rattle.art_schedule.specs.declared.lines.Mark.{Mark}
use Rattle.art_server.specs.ArtTable.declared.passes.Pass.{Pass}
use Rattle.art_server.specs.ArtScan.declared.running.Running.{Running}
use Rattle.art_server.specs.ArtTable.declared.tables.Table.{Table}
use Rattle.art_key.specs.declared.faults.ValueFault.{ValueFault}
use Rattle.art_model.specs.Rows.{Tuple}
use Rattle.art_model.specs.declared.commands.Command.TheVariants.{Insert, Remove, Get, Scan}
use Rattle.art_server.specs.ArtScan.Scans.{Scans, scan_fault}
use Rattle.art_server.specs.ArtScan.declared.faults.ScanFault.{ScanFault}
use Rattle.art_server.specs.ArtScan.declared.looking.Looking.{Looking}
use Rattle.art_server.specs.ArtScan.declared.running.Stage.{Stage}
use Rattle.art_server.specs.ArtScan.declared.running.Stage.TheVariants as stage
use Rattle.art_server.specs.ArtScan.declared.scans.More.{More}
use Rattle.art_server.specs.ArtTable.Calls.{IsAttempt}
use Rattle.art_server.specs.ArtTable.declared.attempts.Attempt.{Attempt}
use Rattle.art_server.specs.ArtTable.declared.jobs.Job.{Job}
use Rattle.art_server.specs.ArtTable.declared.jobs.Job.TheVariants as job

-- ---- lists of steps

MakesSteps-push : (z : Sizes) (v m w : View) (made : List Made) (step : Made) → MakesSteps z v made m → MakesStep z m w step
    → MakesSteps z v (made ++ step ∷ []) w
MakesSteps-push z v m w [] step same one = (w, subst (λ (x : View). MakesStep z x w step) same one, refl)
MakesSteps-push z v m w (first ∷ made) step (next, before, rest) one = (next, before, MakesSteps-push z next m w made step rest one)

pub MakesSteps-append : (z : Sizes) (v m w : View) (before after : List Made) → MakesSteps z v before m → MakesSteps z m after w
    → MakesSteps z v (before ++ after) w
MakesSteps-append z v m w [] after same rest = subst (λ (x : View). MakesSteps z x after w) same rest
MakesSteps-append z v m w (first ∷ before) after (next, one, others) rest =
    (next, one, MakesSteps-append z next m w before after others rest)

-- each is counted
steps-MakesSteps : (z : Sizes) (v w : View) (made : List Made) → MakesSteps z v made w → w.steps ≡ v.steps + length made
steps-MakesSteps z v w [] same = omega (arith, ap (λ (x : View). x.steps) same)
steps-MakesSteps z v w (step ∷ made) (m, one, rest) = omega (arith, one.one, steps-MakesSteps z m w made rest)

-- ---- a command under way

pub KeepsRunning-none : (t : Table) (r : Running) (rows : List Row) → KeepsRunning t r rows r rows
KeepsRunning-none t r rows = record { keeps = λ c turns q runs. runs }

-- a step of it, or none
pub KeepsRunning-step : (t : Table) (r m s : Running) (rows rows_mid rows_after : List Row) → KeepsRunning t r rows m rows_mid
    → ((c : Command) (turns : ℕ) (q : Pass) → IsRunning t c turns q m rows_mid → IsRunning t c turns q s rows_after)
    → KeepsRunning t r rows s rows_after
KeepsRunning-step t r m s rows rows_mid rows_after before step =
    record { keeps = λ c turns q runs. step c turns q (before.keeps c turns q runs) }

-- it goes on, and steps were made
pub IsGoing-on : (t : Table) (p : Pass) (r s : Running) (rows rows_after : List Row) (made : List Made)
    → MakesSteps (sizes_in t) (view_in r) made (view_in s) → KeepsRunning t r rows s rows_after → IsGoing t p r rows → IsGoing t p s rows_after
IsGoing-on t p r s rows rows_after made steps keeps going =
    let since = going.since in
    record {
      command = going.command;
      turns = going.turns;
      began = going.began;
      same = going.same;
      few = going.few;
      runs = keeps.keeps going.command going.turns going.began going.runs;
      since = omega (arith, steps-MakesSteps (sizes_in t) (view_in r) (view_in s) made steps);
    }

-- a call makes few steps
attempt_few : (t : Table) (j : Job) (turns : ℕ) (p : Pass) (a : Attempt) → IsAttempt t j turns p a
    → (view_of a.pass).steps ≤ (view_of p).steps + turns + 1000
attempt_few t j turns p a at = by a.refused refl
  where
    by : (o : Option ValueFault) → a.refused ≡ o → (view_of a.pass).steps ≤ (view_of p).steps + turns + 1000
    by None is = let few = (at.goes_on is).calling.few in omega arith
    by (Some f) is = omega (arith, ap (λ (q : Pass). (view_of q).steps) (at.refused f is))

-- and so do the looks of a scan together
scan_few : (t : Table) (lo hi : Tuple) (limit turns : ℕ) (p : Pass) (rows : List Row) (r : Result More ScanFault) (q : Pass)
    → Scans t lo hi limit turns p rows r q → (view_of q).steps ≤ (view_of p).steps + 2 * turns + 1000
scan_few t lo hi limit turns p rows r q scans = by (scan_fault (schema_in t) lo hi limit) refl
  where
    by : (fault : Option ScanFault) → scan_fault (schema_in t) lo hi limit ≡ fault → (view_of q).steps ≤ (view_of p).steps + 2 * turns + 1000
    by None is = (scans.scanned is).steps
    by (Some f) is = let (told, none, same) = scans.fault f is in omega (arith, ap (λ (m : Pass). (view_of m).steps) same)

look_few : (t : Table) (lo hi : Tuple) (limit turns : ℕ) (p : Pass) (rows : List Row) (l : Looking) → IsLooking t lo hi limit turns p rows l
    → (view_of l.attempt.pass).steps ≤ (view_of p).steps + 2 * turns + 1000
look_few t lo hi limit turns p rows l looks =
    let on = looks.scan.on in
    let used = on.used in
    let some = on.some in
    omega (arith, attempt_few t (job.Look l.tiling.from l.tiling.end) l.tiling.turns looks.began l.attempt looks.look)

module _ (t : Table) (turns : ℕ) (p : Pass) (rows : List Row) where
  few_at : (c : Command) (s : Stage) → GoesOn t c turns p s rows → (view_of (pass_at s)).steps ≤ (view_of p).steps + 2 * turns + 1000
  few_at (Insert tuple value) (stage.Call a) at = omega (arith, attempt_few t (job.Insert tuple value) turns p a at)
  few_at (Insert tuple value) (stage.Look l) at = absurd at
  few_at (Insert tuple value) (stage.Over q r n) at = absurd at
  few_at (Remove tuple) (stage.Call a) at = omega (arith, attempt_few t (job.Remove tuple) turns p a at)
  few_at (Remove tuple) (stage.Look l) at = absurd at
  few_at (Remove tuple) (stage.Over q r n) at = absurd at
  few_at (Get tuple) (stage.Call a) at = omega (arith, attempt_few t (job.Get tuple) turns p a at)
  few_at (Get tuple) (stage.Look l) at = absurd at
  few_at (Get tuple) (stage.Over q r n) at = absurd at
  few_at (Scan lo hi limit) (stage.Call a) at = absurd at
  few_at (Scan lo hi limit) (stage.Look l) at = look_few t lo hi limit turns p rows l at
  few_at (Scan lo hi limit) (stage.Over q r n) at = scan_few t lo hi limit turns p rows r q at.scans

-- a command that has come so far has made few steps
steps_few : (t : Table) (c : Command) (turns : ℕ) (p : Pass) (r : Running) (rows : List Row) → IsRunning t c turns p r rows
    → (view_in r).steps ≤ (view_of p).steps + 2 * turns + 1000
steps_few t c turns p r rows runs = few_at t turns p rows c r.stage runs

module _ (t : Table) where
  -- ---- so many steps

  pub MakesMany-none : (r : Running) → MakesMany t 0 r r
  MakesMany-none r = record { made = []; steps = refl; many = refl }

  pub MakesMany-more : (n : ℕ) (old mid new : Running) (made : Made) → MakesMany t n old mid
      → MakesStep (sizes_in t) (view_in mid) (view_in new) made → MakesMany t (n + 1) old new
  MakesMany-more n old mid new made has one = record {
    made = has.made ++ made ∷ [];
    steps = MakesSteps-push (sizes_in t) (view_in old) (view_in mid) (view_in new) has.made made has.steps one;
    many = length_push has.made made ∙ ap (λ (k : ℕ). k + 1) has.many;
  }

  pub MakesFewer-stop : (k n : ℕ) (old mid new : Running) (rows : List Row) → MakesMany t k old mid → k < n → view_in new ≡ view_in mid
      → HasNoStep t new rows → MakesFewer t n old new rows
  MakesFewer-stop k n old mid new rows has less same none =
      let many = has.many in
      record {
        made = has.made;
        steps = subst (λ (x : View). MakesSteps (sizes_in t) (view_in old) has.made x) (sym same) has.steps;
        few = omega arith;
        none = none;
      }

  -- ---- steps with a mark

  -- so many steps were made, of which so many have the mark
  pub record HasMarked (mark : Mark) (steps found : ℕ) (old new : Running) : Type 0 where
    pub made : List Made
    pub all : MakesSteps (sizes_in t) (view_in old) made (view_in new)
    pub many : length made ≡ steps
    pub count : marked mark made ≡ found

  pub HasMarked-none : (mark : Mark) (r : Running) → HasMarked mark 0 0 r r
  HasMarked-none mark r = record { made = []; all = refl; many = refl; count = refl }

  count_push : (mark : Mark) (made : List Made) (step : Made) (has : Bool) → is_marked mark step ≡ has
      → marked mark (made ++ step ∷ []) ≡ marked mark made + cond has 1 0
  count_push mark made step has is =
      sum_by-append one made (step ∷ []) ∙ ap (λ (k : ℕ). marked mark made + k) (zero-add (one step) ∙ ap (λ (b : Bool). cond b 1 0) is)
    where
      one : Made → ℕ
      one s = cond (is_marked mark s) 1 0

  more : (mark : Mark) (steps found count : ℕ) (old mid new : Running) (step : Made) (has : Bool) → HasMarked mark steps found old mid
      → MakesStep (sizes_in t) (view_in mid) (view_in new) step → is_marked mark step ≡ has → count ≡ found + cond has 1 0
      → HasMarked mark (steps + 1) count old new
  more mark steps found count old mid new step has before one is same = record {
    made = before.made ++ step ∷ [];
    all = MakesSteps-push (sizes_in t) (view_in old) (view_in mid) (view_in new) before.made step before.all one;
    many = length_push before.made step ∙ ap (λ (k : ℕ). k + 1) before.many;
    count = count_push mark before.made step has is ∙ ap (λ (k : ℕ). k + cond has 1 0) before.count ∙ sym same;
  }

  -- a step with the mark
  pub HasMarked-hit : (mark : Mark) (steps found : ℕ) (old mid new : Running) (step : Made) → HasMarked mark steps found old mid
      → MakesStep (sizes_in t) (view_in mid) (view_in new) step → is_marked mark step ≡ true → HasMarked mark (steps + 1) (found + 1) old new
  HasMarked-hit mark steps found old mid new step before one is =
      more mark steps found (found + 1) old mid new step true before one is refl

  -- a step without it
  pub HasMarked-miss : (mark : Mark) (steps found : ℕ) (old mid new : Running) (step : Made) → HasMarked mark steps found old mid
      → MakesStep (sizes_in t) (view_in mid) (view_in new) step → is_marked mark step ≡ false → HasMarked mark (steps + 1) found old new
  HasMarked-miss mark steps found old mid new step before one is =
      more mark steps found found old mid new step false before one is (sym (add-zero found))

  -- the last step with the mark
  pub ReachesMark-hit : (mark : Mark) (steps found n : ℕ) (old mid new : Running) (step : Made) → HasMarked mark steps found old mid
      → MakesStep (sizes_in t) (view_in mid) (view_in new) step → is_marked mark step ≡ true → found + 1 ≡ n
      → ReachesMark t mark n old new
  ReachesMark-hit mark steps found n old mid new step has one is last = record {
    before = has.made;
    last = step;
    steps = MakesSteps-push (sizes_in t) (view_in old) (view_in mid) (view_in new) has.made step has.all one;
    is = is;
    count = ap (λ (k : ℕ). k + 1) has.count ∙ last;
  }

  pub MissesMark-stop : (mark : Mark) (steps found n : ℕ) (old mid new : Running) (rows : List Row) → HasMarked mark steps found old mid
      → found < n → view_in new ≡ view_in mid → HasNoStep t new rows → MissesMark t mark n old new rows
  MissesMark-stop mark steps found n old mid new rows has less same none =
      let count = has.count in
      record {
        made = has.made;
        steps = subst (λ (x : View). MakesSteps (sizes_in t) (view_in old) has.made x) (sym same) has.all;
        few = omega arith;
        none = none;
      }

  -- no command makes 2^64 - 1 steps
  never_so_many : (p : Pass) (made : List Made) (old new : Running) (rows rows_after : List Row) → IsGoing t p old rows
      → KeepsRunning t old rows new rows_after → MakesSteps (sizes_in t) (view_in old) made (view_in new) → 2 ^ 64 - 1 ≤ length made → ⊥
  never_so_many p made old new rows rows_after going keeps steps many =
      let since = going.since in
      let few = going.few in
      let bound = steps_few t going.command going.turns going.began new rows_after (keeps.keeps going.command going.turns going.began going.runs) in
      let all = steps-MakesSteps (sizes_in t) (view_in old) (view_in new) made steps in
      omega (arith, bound, all)

  pub never_marked : (p : Pass) (mark : Mark) (steps found : ℕ) (old new : Running) (rows rows_after : List Row) → IsGoing t p old rows
      → KeepsRunning t old rows new rows_after → HasMarked mark steps found old new → 2 ^ 64 - 1 ≤ steps → ⊥
  never_marked p mark steps found old new rows rows_after going keeps has many =
      let same = has.many in
      never_so_many p has.made old new rows rows_after going keeps has.all (omega arith)

  -- so where so many are asked for, fewer are made
  pub MakesFewer-all : (p : Pass) (old new : Running) (rows rows_after : List Row) (all : Bool) → IsGoing t p old rows
      → KeepsRunning t old rows new rows_after → StepsOrStops t (2 ^ 64 - 1) old new rows_after all → MakesFewer t (2 ^ 64 - 1) old new rows_after
  MakesFewer-all p old new rows rows_after true going keeps has =
      let many = has.many in
      absurd (never_so_many p has.made old new rows rows_after going keeps has.steps (omega arith))
  MakesFewer-all p old new rows rows_after false going keeps has = has
