-- Workers that were joined, from the last on.
use Rattle.std.proofs.Common.{◌≡◌, ◌∙◌, ℕ, ◌+◌, List, [], ◌∷◌, ◌++◌, length, map, append_assoc, append-nil, inl, inr, refl, sym, ap, subst, arith, Result, Ok, Err, IfOk, true}
use Rattle.std.specs.List.{AllZip}
use Rattle.std.proofs.lemmas.List.{length-map}
use Rattle.std.proofs.lemmas.List.Elements.{All-cons, All-nil}
use Rattle.std.proofs.lemmas.List.Sums.{sum_by-cons}
use Rattle.art_sessions.specs.Talks.{HasTalks, Worker}
use Rattle.art_step.specs.Views.{Member}
use Rattle.art_sessions.specs.ArtServer.ArtTable.Tables.{AreOf, IsPassOf}
use Rattle.art_sessions.specs.ArtServer.ArtTable.declared.passes.Pass.{Pass}
use Rattle.art_sessions.specs.ArtServer.ArtTable.declared.tables.Table.{Table}
use Rattle.art_workers.proofs.Lists.{as_many, some_all}
use Rattle.art_workers.specs.Serving.{AreSomeOf, HasWorked, HaveServed, HaveWorked, IsTaskOf, Running, Starts, afters_of, befores_of, talks_of}
use Rattle.art_workers.specs.declared.faults.ServeFault.{ServeFault}
use Rattle.art_workers.specs.declared.serving.Staff.{Staff}
use Rattle.art_workers.specs.declared.serving.Worked.{Worked}

-- ---- one more is joined

-- the last of the passes, and its worker
record LastTask (t : Table) (ps : List Pass) (hs : List Running) (h : Running) : Type 0 where
  others : List Pass
  last : Pass
  split : ps ≡ others ++ last ∷ []
  tasks : AllZip (IsTaskOf t) others hs
  task : IsTaskOf t last h

last_task : (t : Table) (ps : List Pass) (hs : List Running) (h : Running) → AllZip (IsTaskOf t) ps (hs ++ h ∷ [])
    → LastTask t ps hs h
last_task t [] [] h are = absurd are
last_task t [] (k ∷ hs) h are = absurd are
last_task t (p ∷ []) [] h are = record { others = []; last = p; split = refl; tasks = tt; task = are.0 }
last_task t (p ∷ q ∷ ps) [] h are = absurd are.1
last_task t (p ∷ ps) (k ∷ hs) h are =
    let rest = last_task t ps hs h are.1 in
    record {
      others = p ∷ rest.others;
      last = rest.last;
      split = ap (λ (l : List Pass). p ∷ l) rest.split;
      tasks = (are.0, rest.tasks);
      task = rest.task;
    }

-- a worker more, before these
more_worked : (t : Table) (p : Pass) (one : Worked) (started back : List Pass) (n : ℕ)
    → HasWorked t p one → HaveWorked t started back n → HaveWorked t (p ∷ started) (one.pass ∷ back) (n + one.ended)
more_worked t p one started back n is rest =
    let worker : Worker = record { before = p; talks = is.talks; after = one.pass } in
    let sum = sum_by-cons (λ (w : Worker). length w.talks) worker rest.workers in
    let ended = is.ended in
    let counted = rest.counted in
    record {
      workers = worker ∷ rest.workers;
      before = ap (λ (l : List Pass). p ∷ l) rest.before;
      after = ap (λ (l : List Pass). one.pass ∷ l) rest.after;
      had = λ w m. elim m [
        | inl same ↦ subst (λ (x : Worker). IsPassOf t x.after × HasTalks t x.before x.talks x.after) (sym same) (is.pass, is.had)
        | inr other ↦ rest.had w other
      ];
      counted = omega (arith, sum, ended, counted);
    }

-- the workers of the last passes were joined
pub record IsJoining (t : Table) (started : List Pass) (running : List Running) (back : List Pass) (n : ℕ) : Type 0 where
  pub left : List Pass
  pub done : List Pass
  pub split : started ≡ left ++ done
  pub tasks : AllZip (IsTaskOf t) left running
  pub worked : HaveWorked t done back n

pub joining_none : (t : Table) (started : List Pass) (running : List Running)
    → AllZip (IsTaskOf t) started running → IsJoining t started running [] 0
joining_none t started running tasks = record {
  left = started;
  done = [];
  split = sym (append-nil started);
  tasks = tasks;
  worked = record { workers = []; before = refl; after = refl; had = λ w m. absurd m; counted = refl };
}

pub joining_more : (t : Table) (started : List Pass) (before running : List Running) (h : Running) (back more : List Pass)
    (n k : ℕ) (one : Worked)
    → before ≡ running ++ h ∷ [] → IsJoining t started before back n
    → HasWorked h.promise.table.value h.promise.pass.value one → more ≡ one.pass ∷ back → k ≡ one.ended
    → IsJoining t started running more (n + k)
joining_more t started before running h back more n k one is j kept these count =
    let l = last_task t j.left running h (subst (λ (x : List Running). AllZip (IsTaskOf t) j.left x) is j.tasks) in
    let of_table = subst (λ (x : Table). HasWorked x h.promise.pass.value one) l.task.table kept in
    let of_pass = subst (λ (x : Pass). HasWorked t x one) l.task.pass of_table in
    let worked = more_worked t l.last one j.done back n of_pass j.worked in
    record {
      left = l.others;
      done = l.last ∷ j.done;
      split = j.split ∙ (ap (λ (x : List Pass). x ++ j.done) l.split ∙ append_assoc l.others (l.last ∷ []) j.done);
      tasks = l.tasks;
      worked = subst (λ (x : List Pass). HaveWorked t (l.last ∷ j.done) x (n + k)) (sym these)
          (subst (λ (m : ℕ). HaveWorked t (l.last ∷ j.done) (one.pass ∷ back) (n + m)) (sym count) worked);
    }

pub joined : (t : Table) (started : List Pass) (running : List Running) (back : List Pass) (n : ℕ)
    → running ≡ [] → IsJoining t started running back n → HaveWorked t started back n
joined t started running back n none j = by j.left refl
  where
    by : (left : List Pass) → j.left ≡ left → HaveWorked t started back n
    by [] is = subst (λ (x : List Pass). HaveWorked t x back n) (sym (j.split ∙ ap (λ (x : List Pass). x ++ j.done) is)) j.worked
    by (p ∷ rest) is =
        let tasks = subst (λ (x : List Pass). AllZip (IsTaskOf t) x running) is j.tasks in
        absurd (subst (λ (x : List Running). AllZip (IsTaskOf t) (p ∷ rest) x) none tasks)

-- ---- all are joined

of_afters : (t : Table) (ws : List Worker) → ((w : Worker) → Member w ws → IsPassOf t w.after) → AreOf t (afters_of ws)
of_afters t [] are = All-nil (IsPassOf t)
of_afters t (w ∷ ws) are = All-cons (IsPassOf t) w.after (afters_of ws) (are w (inl refl)) (of_afters t ws (λ x n. are x (inr n)))

pub worked_of : (t : Table) (started back : List Pass) (n : ℕ) → HaveWorked t started back n → AreOf t back
worked_of t started back n h = subst (AreOf t) h.after (of_afters t h.workers (λ w m. (h.had w m).0))

told_by : (told : Result ℕ ServeFault) (P Q : ℕ → Type 0) → ((n : ℕ) → P n → Q n) → IfOk told P → IfOk told Q
told_by (Ok n) P Q so is = so n is
told_by (Err fault) P Q so is = tt

-- what started workers had, told by their count only where all passes have one
pub served : (t : Table) (given back : List Pass) (staff : Staff) (n : ℕ) (told : Result ℕ ServeFault) (s : Starts t given staff)
    → HaveWorked t s.started back n → IfOk told (λ (ended : ℕ). (ended ≡ n) × (staff.all ≡ true)) → HaveServed t given back told
served t given back staff n told s h whole =
    let some = subst (λ (l : List Pass). AreSomeOf l given) (sym h.before) s.some in
    record {
      workers = h.workers;
      before = some;
      after = h.after;
      talks = λ w m. (h.had w m).1;
      all = λ many.
          let before = length-map h.workers (λ (w : Worker). w.before) in
          let after = length-map h.workers (λ (w : Worker). w.after) in
          let back_long = ap (length {A = Pass}) h.after in
          as_many (befores_of h.workers) given some (omega (arith, before, after, back_long, many));
      whole = told_by told (λ (ended : ℕ). (ended ≡ n) × (staff.all ≡ true))
          (λ (ended : ℕ). (befores_of h.workers ≡ given) × (ended ≡ talks_of h.workers))
          (λ ended is. (h.before ∙ s.all is.1, is.0 ∙ h.counted)) whole;
    }

-- ---- none was started

abbrev idle : Pass → Worker
idle p = record { before = p; talks = []; after = p }

idle_before : (ps : List Pass) → befores_of (map idle ps) ≡ ps
idle_before [] = refl
idle_before (p ∷ ps) = ap (λ (l : List Pass). p ∷ l) (idle_before ps)

idle_after : (ps : List Pass) → afters_of (map idle ps) ≡ ps
idle_after [] = refl
idle_after (p ∷ ps) = ap (λ (l : List Pass). p ∷ l) (idle_after ps)

idle_talks : (t : Table) (ps : List Pass) (w : Worker) → Member w (map idle ps) → HasTalks t w.before w.talks w.after
idle_talks t [] w m = absurd m
idle_talks t (p ∷ ps) w (inl same) = subst (λ (x : Worker). HasTalks t x.before x.talks x.after) (sym same) refl
idle_talks t (p ∷ ps) w (inr m) = idle_talks t ps w m

pub none_served : (t : Table) (given : List Pass) (fault : ServeFault) → HaveServed t given given (Err fault)
none_served t given fault = record {
  workers = map idle given;
  before = subst (λ (l : List Pass). AreSomeOf l given) (sym (idle_before given)) (some_all given);
  after = idle_after given;
  talks = idle_talks t given;
  all = λ many. idle_before given;
  whole = tt;
}
