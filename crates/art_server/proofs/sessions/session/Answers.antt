use Rattle.std.proofs.Common.{List, ℕ, ◌+◌, [], length, refl, sym, ap, ◌∙◌, append-nil, arith}
use Rattle.art_server.specs.Counted.{reads_of}
use Rattle.art_server.specs.Streams.{whole_lines}
use Rattle.art_server.specs.declared.sessions.EndCause.TheVariants.{ReadFault, ReadsUsed}
use Rattle.art_server.proofs.CountLaws.{HasCounted-more, HasCounted-none, MakesReads-fault, MakesReads-finish, MakesReads-stop, MakesReads-used}
use Rattle.art_server.proofs.PassLaws.{IsSamePass-session}
use Rattle.art_server.proofs.ReadLaws.{HasRead-end, HasRead-fault, HasRead-more, HasRead-none, lines-HasRead}
use Rattle.art_server.proofs.StepLaws.{EndsSession-whole, IsUnderWay-lines, IsUnderWay-none, IsUnderWay-read, RunsSession-ends}
use Rattle.art_server.proofs.sessions.session.Goals as goal

pub reads-init : goal.reads-init
reads-init g c = rw c.new-lines.ensures (record {
  read = HasRead-none _;
  counted = HasCounted-none _;
  way = IsUnderWay-none _ _ _;
  of = c.requires;
  given = refl;
  count = refl;
})

-- ---- a line stopped it

pub returns-in-Err-taken-clause-session : goal.returns-in-Err-taken-clause-session
returns-in-Err-taken-clause-session g c =
    let has = c.reads.invariant in
    let read = rw c.in-Ok-true.field-0-test at c.in-Ok-true.ensures.reads in
    let stops = rw c.in-Err-taken.is at c.answer_read-back.ensures.answers in
    let way =
    IsUnderWay-read _ c.reads.lines.taken read.bytes _ _ _ _ _ _ _ read.taken_is (c.in-Ok-true.ensures.given ∙ sym has.count) has.way in
    RunsSession-ends _ _ _ _ _ _ _ _ _ _ (HasRead-more _ _ _ _ _ _ _ _ has.read read) (omega arith) (stops.reaches _ _ way)

pub returns-in-Err-taken-clause-same : goal.returns-in-Err-taken-clause-same
returns-in-Err-taken-clause-same g c = IsSamePass-session _ _ _ _ _ _ _ _ (returns-in-Err-taken-clause-session g c)

pub returns-in-Err-taken-clause-reads : goal.returns-in-Err-taken-clause-reads
returns-in-Err-taken-clause-reads g c =
    let read = rw c.in-Ok-true.field-0-test at c.in-Ok-true.ensures.reads in
    let stops = rw c.in-Err-taken.is at c.answer_read-back.ensures.answers in
    let counted =
    HasCounted-more c.reads.counter (reads_of c.args.reader.now) (reads_of c.reads.reader) (reads_of c.read.new.reader) (length read.bytes)
    c.reads.invariant.counted read.account_is read.some read.few in
    MakesReads-stop (c.reads.counter + 1) (reads_of c.args.reader.now) (reads_of c.read.new.reader) _ _ counted (omega arith) stops.cause

-- ---- the input ended

pub finish-requires-clause-room : goal.finish-requires-clause-room
finish-requires-clause-room g c =
    let has = c.reads.invariant in
    let few = lines-HasRead _ _ _ _ has.read in
    omega (arith, has.count, has.given)

pub returns-in-Ok-false-clause-session : goal.returns-in-Ok-false-clause-session
returns-in-Ok-false-clause-session g c =
    let has = c.reads.invariant in
    let read = rw c.in-Ok-false.field-0-test at c.in-Ok-false.ensures.reads in
    let way =
    IsUnderWay-read _ c.reads.lines.taken [] _ _ _ _ _ _ _ (read.taken_is ∙ sym (append-nil c.reads.lines.taken))
    (c.in-Ok-false.ensures.given ∙ sym has.count) has.way in
    RunsSession-ends _ _ _ _ _ _ _ _ _ _ (HasRead-end _ _ _ _ _ _ _ _ has.read read) (omega arith)
    (c.finish.ensures.finishes.reaches _ _ way)

pub returns-in-Ok-false-clause-same : goal.returns-in-Ok-false-clause-same
returns-in-Ok-false-clause-same g c = IsSamePass-session _ _ _ _ _ _ _ _ (returns-in-Ok-false-clause-session g c)

pub returns-in-Ok-false-clause-reads : goal.returns-in-Ok-false-clause-reads
returns-in-Ok-false-clause-reads g c =
    let read = rw c.in-Ok-false.field-0-test at c.in-Ok-false.ensures.reads in
    MakesReads-finish _ _ _ _ _ c.reads.invariant.counted read.account_is (omega arith) c.finish.ensures.finishes.cause

-- ---- a read failed

pub returns-in-Err-clause-session : goal.returns-in-Err-clause-session
returns-in-Err-clause-session g c =
    let has = c.reads.invariant in
    let read = c.in-Err.ensures.reads in
    let way = IsUnderWay-read _ c.reads.lines.taken [] _ _ _ _ _ _ _ (read.taken_is ∙ sym (append-nil c.reads.lines.taken)) refl has.way in
    let all = has.count ∙ has.given ∙ ap (λ (l : List ℕ). length (whole_lines l)) (sym read.taken_is) in
    rw c.ended.ensures (RunsSession-ends _ _ _ _ _ _ _ _ _ _ (HasRead-fault _ _ _ _ _ _ _ _ has.read read) (omega arith)
    (EndsSession-whole _ c.read.new.self.taken _ _ _ _ _ ReadFault (IsUnderWay-lines _ c.read.new.self.taken _ _ _ _ _ way) (all, refl)))

pub returns-in-Err-clause-same : goal.returns-in-Err-clause-same
returns-in-Err-clause-same g c = IsSamePass-session _ _ _ _ _ _ _ _ (returns-in-Err-clause-session g c)

pub returns-in-Err-clause-reads : goal.returns-in-Err-clause-reads
returns-in-Err-clause-reads g c =
    let read = c.in-Err.ensures.reads in
    rw c.ended.ensures (MakesReads-fault _ _ _ _ c.reads.invariant.counted read.account_is (omega arith))

-- ---- one read more, and all of them

pub reads-preserved : goal.reads-preserved
reads-preserved g c =
    let has = c.reads.invariant in
    let read = rw c.in-Ok-true.field-0-test at c.in-Ok-true.ensures.reads in
    let (more, all) = rw c.in-Ok.is at c.answer_read-back.ensures.answers in
    let way =
    IsUnderWay-read _ c.reads.lines.taken read.bytes _ _ _ _ _ _ _ read.taken_is (c.in-Ok-true.ensures.given ∙ sym has.count) has.way in
    record {
      read = rw more.taken (HasRead-more _ _ _ _ _ _ _ _ has.read read);
      counted = HasCounted-more _ _ _ _ _ has.counted read.account_is read.some read.few;
      way = rw more.taken (more.reaches _ _ way);
      of = c.answer_read-back.ensures.pass;
      given = all;
      count = sym more.given;
    }

pub returns-clause-session : goal.returns-clause-session
returns-clause-session g c =
    let has = c.reads.invariant in
    let least = has.read.at_least in
    rw c.ended-2.ensures (RunsSession-ends _ _ _ _ _ _ _ _ _ _ has.read (omega arith)
    (EndsSession-whole _ c.reads.lines.taken _ _ _ _ _ ReadsUsed (IsUnderWay-lines _ c.reads.lines.taken _ _ _ _ _ has.way)
    (has.count ∙ has.given, refl, omega arith)))

pub returns-clause-same : goal.returns-clause-same
returns-clause-same g c = IsSamePass-session _ _ _ _ _ _ _ _ (returns-clause-session g c)

pub returns-clause-reads : goal.returns-clause-reads
returns-clause-reads g c = rw c.ended-2.ensures (MakesReads-used _ _ _ c.reads.invariant.counted (omega arith))
