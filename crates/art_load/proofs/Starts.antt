-- Threads that were started, and joined.
use Rattle.std.proofs.Common.{◌≡◌, ℕ, ◌+◌, ◌*◌, List, [], ◌∷◌, ◌++◌, length, length-append, append_assoc, append-nil, refl, sym, ap, ◌∙◌, subst, arith}
use Rattle.art_model.specs.declared.commands.Command.{Command}
use Rattle.art_load.proofs.Totals.{added_total, as_many}
use Rattle.art_load.specs.Commands.{load_commands}
use Rattle.art_load.specs.Counts.{added, none_counted, sum_of, total_of}
use Rattle.art_load.specs.Loads.{LoadEach, Loads, LoadsAll}
use Rattle.art_load.specs.Threads.{AreStarts, IsStart}
use Rattle.art_load.specs.declared.counts.Counts.{Counts}
use Rattle.art_load.specs.declared.threads.LoadPromise.{LoadPromise}
use Rattle.art_table.specs.declared.passes.Pass.{Pass}
use Rattle.art_table.specs.declared.tables.Table.{Table}

-- the last of the passes, and what was started for it
pub record LastStart (t : Table) (seed keys ops thread : ℕ) (ps : List Pass) (hs : List LoadPromise) (h : LoadPromise) : Type 0 where
  pub others : List Pass
  pub last : Pass
  pub split : ps ≡ others ++ last ∷ []
  pub starts : AreStarts t seed keys ops thread others hs
  pub start : IsStart t seed keys ops (thread + length others) last h

pub last_start : (t : Table) (seed keys ops thread : ℕ) (ps : List Pass) (hs : List LoadPromise) (h : LoadPromise)
    → AreStarts t seed keys ops thread ps (hs ++ h ∷ []) → LastStart t seed keys ops thread ps hs h
last_start t seed keys ops thread [] [] h are = absurd are
last_start t seed keys ops thread [] (k ∷ hs) h are = absurd are
last_start t seed keys ops thread (p ∷ []) [] h are = record {
  others = [];
  last = p;
  split = refl;
  starts = tt;
  start = subst (λ (n : ℕ). IsStart t seed keys ops n p h) (omega arith) are.0;
}
last_start t seed keys ops thread (p ∷ q ∷ ps) [] h are = absurd are.1
last_start t seed keys ops thread (p ∷ ps) (k ∷ hs) h are =
    let rest = last_start t seed keys ops (thread + 1) ps hs h are.1 in
    record {
      others = p ∷ rest.others;
      last = rest.last;
      split = ap (λ (l : List Pass). p ∷ l) rest.split;
      starts = (are.0, rest.starts);
      start = subst (λ (n : ℕ). IsStart t seed keys ops n rest.last h) (omega arith) rest.start;
    }

-- Some of the threads were joined: those of the last passes. Their counts are these.
pub record IsJoining (t : Table) (seed keys ops : ℕ) (ps : List Pass) (hs : List LoadPromise) (counts : Counts) (qs : List Pass)
    : Type 0 where
  pub left : List Pass
  pub done : List Pass
  pub each : List Counts
  pub split : ps ≡ left ++ done
  pub starts : AreStarts t seed keys ops 0 left hs
  pub loads : LoadEach t seed keys ops (length left) done each qs
  pub sums : counts ≡ sum_of each
  pub total : total_of counts ≡ length done * ops

-- one more thread was joined
module _ (t : Table) (seed keys ops : ℕ) (ps : List Pass) (hs : List LoadPromise) (h : LoadPromise) (counts c : Counts) (qs : List Pass)
    (q : Pass) where
  pub joins : IsJoining t seed keys ops ps (hs ++ h ∷ []) counts qs
      → Loads h.table.value (load_commands h.plan.seed h.plan.keys h.thread h.plan.ops) h.pass.value c q
      → IsJoining t seed keys ops ps hs (added counts c) (q ∷ qs)
  joins j kept =
      let l = last_start t seed keys ops 0 j.left hs h j.starts in
      let number : 0 + length l.others ≡ length l.others = omega arith in
      let table : Loads t (load_commands h.plan.seed h.plan.keys h.thread h.plan.ops) h.pass.value c q =
      subst (λ (x : Table). Loads x (load_commands h.plan.seed h.plan.keys h.thread h.plan.ops) h.pass.value c q) l.start.table kept in
      let pass : Loads t (load_commands h.plan.seed h.plan.keys h.thread h.plan.ops) l.last c q =
      subst (λ (x : Pass). Loads t (load_commands h.plan.seed h.plan.keys h.thread h.plan.ops) x c q) l.start.pass table in
      let commands : Loads t (load_commands seed keys (length l.others) ops) l.last c q =
      subst (λ (cs : List Command). Loads t cs l.last c q) (l.start.commands ∙ ap (λ (n : ℕ). load_commands seed keys n ops) number) pass in
      let many = as_many seed keys (length l.others) ops in
      let long = ap (length {A = Pass}) l.split ∙ length-append l.others (l.last ∷ []) in
      record {
        left = l.others;
        done = l.last ∷ j.done;
        each = c ∷ j.each;
        split = j.split ∙ (ap (λ (x : List Pass). x ++ j.done) l.split ∙ append_assoc l.others (l.last ∷ []) j.done);
        starts = l.starts;
        loads = (commands, subst (λ (n : ℕ). LoadEach t seed keys ops n j.done j.each qs) long j.loads);
        sums = ap (λ (x : Counts). added x c) j.sums;
        total = added_total counts c ∙ (let total = j.total in let one = commands.total in omega (arith, total, one, many));
      }

-- none is left
pub joined : (t : Table) (seed keys ops : ℕ) (ps : List Pass) (counts : Counts) (qs : List Pass)
    → IsJoining t seed keys ops ps [] counts qs → LoadsAll t seed keys ops ps counts qs
joined t seed keys ops ps counts qs j = by j.left refl
  where
    by : (left : List Pass) → j.left ≡ left → LoadsAll t seed keys ops ps counts qs
    by [] is =
        let all : ps ≡ j.done = j.split ∙ ap (λ (x : List Pass). x ++ j.done) is in
        record {
          each = j.each;
          loads = subst (λ (x : List Pass). LoadEach t seed keys ops 0 x j.each qs) (sym all)
              (subst (λ (n : ℕ). LoadEach t seed keys ops n j.done j.each qs) (ap (length {A = Pass}) is) j.loads);
          sums = j.sums;
          total = j.total ∙ ap (λ (x : List Pass). length x * ops) (sym all);
        }
    by (p ∷ rest) is = absurd (subst (λ (x : List Pass). AreStarts t seed keys ops 0 x []) is j.starts)

-- none was joined yet
pub joins_none : (t : Table) (seed keys ops : ℕ) (ps : List Pass) (hs : List LoadPromise) → AreStarts t seed keys ops 0 ps hs
    → IsJoining t seed keys ops ps hs none_counted []
joins_none t seed keys ops ps hs starts = record {
  left = ps;
  done = [];
  each = [];
  split = sym (append-nil ps);
  starts = starts;
  loads = tt;
  sums = refl;
  total = omega arith;
}
