use Rattle.std.proofs.Common.{List, ℕ, [], length, refl, sym, ap, ◌∙◌, append-nil, arith}
use Rattle.art_server.specs.Counted.{reads_of}
use Rattle.art_server.specs.Streams.{whole_lines}
use Rattle.art_server.proofs.CountLaws.{HasCounted-more, HasCounted-none, MakesReads-fault, MakesReads-used}
use Rattle.art_server.proofs.ReadLaws.{HasRead-end, HasRead-fault, HasRead-more, HasRead-none, lines-HasRead}
use Rattle.art_schedule.proofs.WayLaws.{EndsSchedule-fault, EndsSchedule-used, IsUnderWay-none, IsUnderWay-read, RunsFrom-ends}
use Rattle.art_schedule.proofs.schedules.run_reads.Goals as goal

pub reads-init : goal.reads-init
reads-init g c = rw c.new-lines.ensures (record {
  keeps = λ ps is. is;
  read = HasRead-none _;
  counted = HasCounted-none _;
  way = IsUnderWay-none c.args.table.now _ _;
  given = refl;
  count = refl;
})

-- ---- a line stopped it

pub returns-in-Err-obey_lines-clause-schedule : goal.returns-in-Err-obey_lines-clause-schedule
returns-in-Err-obey_lines-clause-schedule g c =
    let has = c.reads.invariant in
    let read = rw c.in-Ok-true.field-0-test at c.in-Ok-true.ensures.reads in
    let stops = c.in-Err-obey_lines.ensures.obeys in
    let way =
    IsUnderWay-read c.args.table.now c.reads.lines.taken read.bytes _ _ _ _ _ _ _ read.taken_is
    (c.in-Ok-true.ensures.given ∙ sym has.count) has.way in
    RunsFrom-ends c.args.table.now _ _ _ _ _ _ _ _ _ (HasRead-more _ _ _ _ _ _ _ _ has.read read) (omega arith) (stops.reaches _ _ way)

-- ---- the input ended

pub finish-requires-clause-room : goal.finish-requires-clause-room
finish-requires-clause-room g c =
    let has = c.reads.invariant in
    let few = lines-HasRead _ _ _ _ has.read in
    omega (arith, has.count, has.given)

pub returns-in-Ok-false-clause-schedule : goal.returns-in-Ok-false-clause-schedule
returns-in-Ok-false-clause-schedule g c =
    let has = c.reads.invariant in
    let read = rw c.in-Ok-false.field-0-test at c.in-Ok-false.ensures.reads in
    let way =
    IsUnderWay-read c.args.table.now c.reads.lines.taken [] _ _ _ _ _ _ _ (read.taken_is ∙ sym (append-nil c.reads.lines.taken))
    (c.in-Ok-false.ensures.given ∙ sym has.count) has.way in
    RunsFrom-ends c.args.table.now _ _ _ _ _ _ _ _ _ (HasRead-end _ _ _ _ _ _ _ _ has.read read) (omega arith)
    (c.finish.ensures.finishes.0 _ _ way)

-- ---- a read failed

pub returns-in-Err-clause-schedule : goal.returns-in-Err-clause-schedule
returns-in-Err-clause-schedule g c =
    let has = c.reads.invariant in
    let read = c.in-Err.ensures.reads in
    let way =
    IsUnderWay-read c.args.table.now c.reads.lines.taken [] _ _ _ _ _ _ _ (read.taken_is ∙ sym (append-nil c.reads.lines.taken)) refl
    has.way in
    let all = has.count ∙ has.given ∙ ap (λ (l : List ℕ). length (whole_lines l)) (sym read.taken_is) in
    RunsFrom-ends c.args.table.now _ _ _ _ _ _ _ _ _ (HasRead-fault _ _ _ _ _ _ _ _ has.read read) (omega arith)
    (EndsSchedule-fault c.args.table.now c.read.new.self.taken _ _ _ _ _ all way)

pub returns-in-Err-clause-failed : goal.returns-in-Err-clause-failed
returns-in-Err-clause-failed g c = λ _. MakesReads-fault _ _ _ _ c.reads.invariant.counted c.in-Err.ensures.reads.account_is (omega arith)

-- ---- one read more, and all of them

pub reads-preserved : goal.reads-preserved
reads-preserved g c =
    let has = c.reads.invariant in
    let read = rw c.in-Ok-true.field-0-test at c.in-Ok-true.ensures.reads in
    let (more, all) = c.in-Ok.ensures.obeys in
    let way =
    IsUnderWay-read c.args.table.now c.reads.lines.taken read.bytes _ _ _ _ _ _ _ read.taken_is
    (c.in-Ok-true.ensures.given ∙ sym has.count) has.way in
    record {
      keeps = λ ps is. c.in-Ok.ensures.keeps ps (has.keeps ps is);
      read = rw more.taken (HasRead-more _ _ _ _ _ _ _ _ has.read read);
      counted =
          HasCounted-more c.reads.counter (reads_of c.args.reader.now) (reads_of c.reads.reader) (reads_of c.read.new.reader) (length read.bytes)
          has.counted read.account_is read.some read.few;
      way = rw more.taken (more.reaches _ _ way);
      given = all;
      count = sym more.given;
    }

pub returns-clause-schedule : goal.returns-clause-schedule
returns-clause-schedule g c =
    let has = c.reads.invariant in
    let least = has.read.at_least in
    RunsFrom-ends c.args.table.now _ _ _ _ _ _ _ _ _ has.read (omega arith)
    (EndsSchedule-used c.args.table.now c.reads.lines.taken _ _ _ _ _ (has.count ∙ has.given) has.way (omega arith))

pub returns-clause-used : goal.returns-clause-used
returns-clause-used g c = λ _. MakesReads-used _ _ _ c.reads.invariant.counted (omega arith)
