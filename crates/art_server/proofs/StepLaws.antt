-- How a session under way goes on, and how it ends.
use Rattle.std.proofs.Common.{◌≡◌, ℕ, ◌+◌, ◌-◌, ◌<◌, ◌≤◌, Bool, true, false, List, [], ◌∷◌, ◌++◌, length, take, Option, Result, Ok, Err, refl, sym, ap, subst, ◌∙◌, arith, length-append}
use Rattle.std.specs.Io.KnownBytes.{Appends, Keeps}
use Rattle.std.proofs.lemmas.List.{length_push, take-append-le}
use Rattle.std.proofs.lemmas.Option.{slice_get_within}
use Rattle.std.proofs.KnownBytes.{Appends-nil, Appends-trans, Appends-kept}
use Rattle.art_model.specs.declared.commands.Reply.{Reply}
use Rattle.art_scan.specs.ArtTable.declared.passes.Pass.{Pass}
use Rattle.art_scan.specs.ArtTable.declared.tables.Table.{Table}
use Rattle.art_scan.specs.ArtRefusal.declared.refusals.Refusal.{Refusal}
use Rattle.art_server.specs.declared.sessions.EndCause.{EndCause}
use Rattle.art_server.specs.declared.sessions.EndCause.TheVariants.{Ended, ReadFault, WriteFault, NoMemory, ReadsUsed}
use Rattle.art_server.specs.declared.sessions.SessionEnd.{SessionEnd}
use Rattle.art_server.specs.declared.sessions.Stop.{Stop}
use Rattle.art_server.specs.Lines.{AllAreGiven, GoesOn, IsLineAt, LinesRead}
use Rattle.art_server.specs.Reads.{EndsAtInput}
use Rattle.art_server.specs.Sessions.{AnswersLine, AnswersLines, texts, EndsBy, RunsSession}
use Rattle.art_server.specs.Steps.{StopsBy, SendsReply, SendsText, AnswersOrStops, IsReplyCut, IsCutShort, SendsLine, IsUnderWay, EndsSession, AnswersMore, StopsAmong, Finishes}
use Rattle.art_server.specs.Streams.{whole_lines, last_part, last_line, lines_of}
use Rattle.art_server.proofs.GivenLines.{last_line_at, slice_get-longer, take_next}
use Rattle.art_server.proofs.ReadLaws.{HasRead}
use Rattle.art_server.proofs.SessionLaws.{AnswersLine-take, AnswersLines-push, texts-push, AnswersFront-whole, AnswersFront-cut, AnswersFront-last}
use Rattle.art_server.proofs.StreamLaws.{lines_of-last, lines_of-short, part_none, whole_lines-append}

-- a stop by a line is a cause of a session's end
EndsBy-stop : (why : EndCause) (answered : ℕ) (pending : Bool) (read : List ℕ) → StopsBy why pending → answered < length (lines_of read)
    → EndsBy why answered pending read
EndsBy-stop Ended answered pending read stops more = absurd stops
EndsBy-stop ReadFault answered pending read stops more = absurd stops
EndsBy-stop WriteFault answered pending read stops more = stops
EndsBy-stop NoMemory answered pending read stops more = more
EndsBy-stop ReadsUsed answered pending read stops more = absurd stops

-- a line can stop a session where its input ended
at_input : (why : EndCause) (pending : Bool) → StopsBy why pending → EndsAtInput why
at_input Ended pending stops = absurd stops
at_input ReadFault pending stops = absurd stops
at_input WriteFault pending stops = tt
at_input NoMemory pending stops = tt
at_input ReadsUsed pending stops = absurd stops

module _ (t : Table) where
  -- ---- a line's reply is sent

  cut_line : (line written : List ℕ) (p q : Pass) (reply : Result Reply Refusal) (why : EndCause) (pending : Bool)
      → AnswersLine t line p reply q
      → IsReplyCut reply written (record { why = why; pending = pending })
      → IsCutShort t line written p q (record { why = why; pending = pending })
  cut_line line written p q reply why true answers cut = record {
    begins = record { reply = reply; answers = answers; front = cut.front };
    whole = cut.whole;
    cause = cut.cause;
  }
  cut_line line written p q reply why false answers cut = absurd (let e = cut.pending in cc)

  sent_line : {A : Type 0} (line written : List ℕ) (p q : Pass) (reply : Result Reply Refusal) (result : Result A Stop)
      → AnswersLine t line p reply q
      → SendsText reply written result → AnswersOrStops t line written p q result
  sent_line line written p q reply (Ok a) answers sent = record { reply = reply; answers = answers; text = sent }
  sent_line line written p q reply (Err stop) answers sent = cut_line line written p q reply stop.why stop.pending answers sent

  -- a line is answered where its reply is sent
  pub SendsLine-from_reply : {A : Type 0} (line : List ℕ) (held held_after : Option (List ℕ)) (p q : Pass) (reply : Result Reply Refusal)
      (result : Result A Stop)
      → AnswersLine t line p reply q → SendsReply reply held held_after result → SendsLine t line held held_after p q result
  SendsLine-from_reply line held held_after p q reply result answers sent = record {
    written = sent.written;
    appends = sent.appends;
    answers = sent_line line sent.written p q reply result answers sent.sends;
  }

  -- what the front of a line is answered the line is
  last_answers : (line part : List ℕ) (p : Pass) (reply : Result Reply Refusal) (q : Pass) → line ≡ take 4097 part
      → AnswersLine t line p reply q
      → AnswersLine t part p reply q
  last_answers line part p reply q kept answers =
      AnswersLine-take t part p reply q (subst (λ (l : List ℕ). AnswersLine t l p reply q) kept answers)

  cut_kept : (line part written : List ℕ) (p q : Pass) (why : EndCause) (pending : Bool) → line ≡ take 4097 part
      → IsCutShort t line written p q (record { why = why; pending = pending })
      → IsCutShort t part written p q (record { why = why; pending = pending })
  cut_kept line part written p q why true kept cut =
      let last = cut.begins in
      record {
        begins = record { reply = last.reply; answers = last_answers line part p last.reply q kept last.answers; front = last.front };
        whole = cut.whole;
        cause = cut.cause;
      }
  cut_kept line part written p q why false kept cut = record { begins = cut.begins; whole = cut.whole; cause = cut.cause }

  whole_line : {A : Type 0} (line part written : List ℕ) (p q : Pass) (result : Result A Stop) → line ≡ take 4097 part
      → AnswersOrStops t line written p q result → AnswersOrStops t part written p q result
  whole_line line part written p q (Ok a) kept it =
      record { reply = it.reply; answers = last_answers line part p it.reply q kept it.answers; text = it.text }
  whole_line line part written p q (Err stop) kept it = cut_kept line part written p q stop.why stop.pending kept it

  -- ---- lines one after another

  pub IsUnderWay-none : (held : Option (List ℕ)) (start : Pass) → IsUnderWay t [] held held start start 0
  IsUnderWay-none held start = record { within = omega arith; replies = []; answers = (refl, refl); appends = Appends-nil held }

  -- one line more
  pub IsUnderWay-line : {A : Type 0} (lines : List (List ℕ)) (held held_mid held_after : Option (List ℕ)) (start p q : Pass) (n : ℕ)
      (line : List ℕ) (a : A)
      → IsUnderWay t lines held held_mid start p n → IsLineAt lines n line → SendsLine t line held_mid held_after p q (Ok a)
      → IsUnderWay t lines held held_after start q (n + 1)
  IsUnderWay-line lines held held_mid held_after start p q n line a way at sends =
      let it = whole_line line at.whole sends.written p q (Ok a) at.front sends.answers in
      let replies = way.replies ++ it.reply ∷ [] in
      let within : n < length lines = slice_get_within lines n at.whole at.stands in
      let text : texts way.replies ++ sends.written ≡ texts replies =
      ap (λ (w : List ℕ). texts way.replies ++ w) it.text ∙ sym (texts-push way.replies it.reply) in
      record {
        within = omega arith;
        replies = replies;
        answers =
            subst (λ (l : List (List ℕ)). AnswersLines t l start replies q) (sym (take_next lines n at.whole at.stands))
            (AnswersLines-push t (take n lines) at.whole start p q way.replies it.reply way.answers it.answers);
        appends =
            subst (Appends held held_after) text
            (Appends-trans held held_mid held_after (texts way.replies) sends.written way.appends sends.appends);
      }

  -- lines behind them change nothing
  pub IsUnderWay-longer : (lines more all : List (List ℕ)) (held held_after : Option (List ℕ)) (start now : Pass) (n : ℕ)
      → all ≡ lines ++ more → IsUnderWay t lines held held_after start now n → IsUnderWay t all held held_after start now n
  IsUnderWay-longer lines more all held held_after start now n split way =
      let within = way.within in
      let front : take n lines ≡ take n all = sym (ap (take n) split ∙ take-append-le n lines more within) in
      record {
        within = omega (arith, ap (length {A = List ℕ}) split, length-append lines more);
        replies = way.replies;
        answers = subst (λ (l : List (List ℕ)). AnswersLines t l start way.replies now) front way.answers;
        appends = way.appends;
      }

  -- bytes behind them change nothing
  pub IsUnderWay-read : (taken more taken_after : List ℕ) (held held_after : Option (List ℕ)) (start now : Pass) (n m : ℕ)
      → taken_after ≡ taken ++ more → m ≡ n → IsUnderWay t (whole_lines taken) held held_after start now n
      → IsUnderWay t (whole_lines taken_after) held held_after start now m
  IsUnderWay-read taken more taken_after held held_after start now n m grown same way =
      let extra = whole_lines-append taken more in
      rw same (IsUnderWay-longer (whole_lines taken) extra.0 (whole_lines taken_after) held held_after start now n
      (ap whole_lines grown ∙ extra.1) way)

  -- what was written stays so
  IsUnderWay-kept : (lines : List (List ℕ)) (held held_mid held_after : Option (List ℕ)) (start now : Pass) (n : ℕ)
      → IsUnderWay t lines held held_mid start now n → Keeps held_mid held_after → IsUnderWay t lines held held_after start now n
  IsUnderWay-kept lines held held_mid held_after start now n way keeps = record {
    within = way.within;
    replies = way.replies;
    answers = way.answers;
    appends = Appends-kept held held_mid held_after (texts way.replies) way.appends keeps;
  }

  -- ---- the end

  -- each line that was begun is answered
  pub EndsSession-whole : (taken : List ℕ) (held held_after : Option (List ℕ)) (start now : Pass) (n : ℕ) (why : EndCause)
      → IsUnderWay t (lines_of taken) held held_after start now n → EndsBy why n false taken
      → EndsSession t taken held held_after start now (record { why = why; answered = n; pending = false })
  EndsSession-whole taken held held_after start now n why way cause = record {
    written = texts way.replies;
    appends = way.appends;
    lines = AnswersFront-whole t (lines_of taken) (texts way.replies) start now why n way.replies way.within way.answers refl;
    cause = cause;
  }

  -- the next line stops it
  EndsSession-cut : {A : Type 0} (taken : List ℕ) (held held_mid held_after : Option (List ℕ)) (start p q : Pass) (n : ℕ) (line : List ℕ)
      (stop : Stop)
      → IsUnderWay t (lines_of taken) held held_mid start p n → IsLineAt (lines_of taken) n line
      → SendsLine {A = A} t line held_mid held_after p q (Err stop)
      → EndsSession t taken held held_after start q (record { why = stop.why; answered = n; pending = stop.pending })
  EndsSession-cut taken held held_mid held_after start p q n line stop way at sends =
      let cut = cut_kept line at.whole sends.written p q stop.why stop.pending at.front sends.answers in
      record {
        written = texts way.replies ++ sends.written;
        appends = Appends-trans held held_mid held_after (texts way.replies) sends.written way.appends sends.appends;
        lines =
            AnswersFront-cut t (lines_of taken) at.whole (texts way.replies) sends.written start p q stop.why stop.pending n way.replies
            at.stands way.answers refl cut;
        cause = EndsBy-stop stop.why n stop.pending taken cut.cause (slice_get_within (lines_of taken) n at.whole at.stands);
      }

  -- the last reply was not flushed
  EndsSession-unflushed : (taken : List ℕ) (held held_mid held_after : Option (List ℕ)) (start now : Pass) (n : ℕ)
      → IsUnderWay t (lines_of taken) held held_mid start now (n + 1) → Keeps held_mid held_after
      → EndsSession t taken held held_after start now (record { why = WriteFault; answered = n; pending = true })
  EndsSession-unflushed taken held held_mid held_after start now n way keeps = record {
    written = texts way.replies;
    appends = Appends-kept held held_mid held_after (texts way.replies) way.appends keeps;
    lines = AnswersFront-last t (lines_of taken) (texts way.replies) start now n way.replies way.within way.answers refl;
    cause = refl;
  }

  -- the session that has ended so, with the bytes that its reads took
  pub RunsSession-ends : (reads : ℕ) (left left_after held held_after : Option (List ℕ)) (start last : Pass) (taken : List ℕ)
      (end : SessionEnd)
      → HasRead reads left left_after taken → reads ≤ 1000000 → EndsSession t taken held held_after start last end
      → RunsSession left left_after held held_after t start last end
  RunsSession-ends reads left left_after held held_after start last taken end has bound ends =
      let most = has.at_most in (
        taken,
        ends.written,
        has.consumes,
        ends.appends,
        record { lines = ends.lines; cause = ends.cause; most = omega arith },
      )

  -- all whole lines are lines
  pub IsUnderWay-lines : (taken : List ℕ) (held held_after : Option (List ℕ)) (start now : Pass) (n : ℕ)
      → IsUnderWay t (whole_lines taken) held held_after start now n → IsUnderWay t (lines_of taken) held held_after start now n
  IsUnderWay-lines taken held held_after start now n way =
      IsUnderWay-longer (whole_lines taken) (last_line (last_part taken)) (lines_of taken) held held_after start now n refl way

  -- ---- the lines that were left

  pub AnswersMore-none : (at : LinesRead) (held : Option (List ℕ)) (p : Pass) (n : ℕ) → n ≡ at.given → AnswersMore t at at held held p p n
  AnswersMore-none at held p n same = record { taken = refl; given = sym same; reaches = λ before start way. rw same way }

  pub AnswersMore-line : {A : Type 0} (old now new : LinesRead) (held held_mid held_after : Option (List ℕ)) (p m q : Pass) (n : ℕ) (a : A)
      → AnswersMore t old now held held_mid p m n → GoesOn now new true → SendsLine t new.line held_mid held_after m q (Ok a)
      → AnswersMore t old new held held_after p q (n + 1)
  AnswersMore-line old now new held held_mid held_after p m q n a so_far (taken, given, line) sends = record {
    taken = taken ∙ so_far.taken;
    given = given ∙ ap (λ (k : ℕ). k + 1) so_far.given;
    reaches = λ before start way.
        IsUnderWay-line (whole_lines old.taken) before held_mid held_after start m q n new.line a (so_far.reaches before start way)
        (rw (so_far.taken, so_far.given) at line) sends;
  }

  pub StopsAmong-line : {A : Type 0} (old now new : LinesRead) (held held_mid held_after : Option (List ℕ)) (p m q : Pass) (n : ℕ)
      (stop : Stop) (end : SessionEnd)
      → AnswersMore t old now held held_mid p m n → GoesOn now new true → SendsLine {A = A} t new.line held_mid held_after m q (Err stop)
      → end ≡ record { why = stop.why; answered = n; pending = stop.pending }
      → StopsAmong t old held held_after p q end
  StopsAmong-line old now new held held_mid held_after p m q n stop end so_far (taken, given, line) sends is =
      let at : IsLineAt (whole_lines old.taken) n new.line = rw (so_far.taken, so_far.given) at line in
      let more = last_line (last_part old.taken) in
      rw is (record {
        cause = sends.answers.cause;
        reaches = λ before start way.
            EndsSession-cut old.taken before held_mid held_after start m q n new.line stop
            (IsUnderWay-lines old.taken before held_mid start m n (so_far.reaches before start way))
            (record { whole = at.whole; stands = slice_get-longer (whole_lines old.taken) more n at.whole at.stands; front = at.front })
            sends;
      })

  -- what was written stays so
  pub StopsAmong-kept : (at : LinesRead) (held held_mid held_after : Option (List ℕ)) (p q : Pass) (end : SessionEnd)
      → StopsAmong t at held held_mid p q end → Keeps held_mid held_after → StopsAmong t at held held_after p q end
  StopsAmong-kept at held held_mid held_after p q end stops keeps = record {
    cause = stops.cause;
    reaches = λ before start way.
        let ends = stops.reaches before start way in
        record {
          written = ends.written;
          appends = Appends-kept before held_mid held_after ends.written ends.appends keeps;
          lines = ends.lines;
          cause = ends.cause;
        };
  }

  -- the replies to the lines of one read were not flushed
  pub StopsAmong-unflushed : (old new : LinesRead) (held held_mid held_after : Option (List ℕ)) (p q : Pass) (n count : ℕ)
      (end : SessionEnd)
      → AnswersMore t old new held held_mid p q count → Keeps held_mid held_after → n < count
      → end ≡ record { why = WriteFault; answered = count - 1; pending = true }
      → StopsAmong t old held held_after p q end
  StopsAmong-unflushed old new held held_mid held_after p q n count end so_far keeps some is =
      let whole : count ≡ count - 1 + 1 = omega arith in
      rw is (record {
        cause = refl;
        reaches = λ before start way.
            EndsSession-unflushed old.taken before held_mid held_after start q (count - 1)
            (IsUnderWay-lines old.taken before held_mid start q (count - 1 + 1)
            (subst (IsUnderWay t (whole_lines old.taken) before held_mid start q) whole (so_far.reaches before start way)))
            keeps;
      })

-- ---- the last line, where the input ended and each whole line was answered

module _ (t : Table) (at : LinesRead) (n : ℕ) (line : List ℕ) (all : AllAreGiven at) (same : n ≡ at.given)
    (front : line ≡ take 4097 (last_part at.taken)) where
  under_way : (held held_after : Option (List ℕ)) (start now : Pass)
      → IsUnderWay t (whole_lines at.taken) held held_after start now at.given
      → IsUnderWay t (lines_of at.taken) held held_after start now n
  under_way held held_after start now way = IsUnderWay-lines t at.taken held held_after start now n (rw same way)

  -- none stands
  pub Finishes-empty : (held : Option (List ℕ)) (p : Pass) → length line ≡ 0
      → Finishes t at held held p p (record { why = Ended; answered = n; pending = false })
  Finishes-empty held p empty =
      let lines = lines_of-short at.taken _ refl (part_none (last_part at.taken) line front empty) in
      record {
        cause = tt;
        reaches = λ before start way.
            EndsSession-whole t at.taken before held start p n Ended (under_way before held start p way)
            (same ∙ all ∙ ap (length {A = List ℕ}) (sym lines), refl);
      }

  -- it was answered
  pub Finishes-answered : {A : Type 0} (held held_mid held_after : Option (List ℕ)) (p q : Pass) (a : A) → 0 < length line
      → SendsLine t line held held_mid p q (Ok a) → Keeps held_mid held_after
      → Finishes t at held held_after p q (record { why = Ended; answered = n + 1; pending = false })
  Finishes-answered held held_mid held_after p q a some sends keeps =
      let lines = lines_of-last at.taken line front some in
      let count : length (lines_of at.taken) ≡ length (whole_lines at.taken) + 1 =
      ap (length {A = List ℕ}) lines ∙ length_push (whole_lines at.taken) (last_part at.taken) in
      record {
        cause = tt;
        reaches = λ before start way.
            EndsSession-whole t at.taken before held_after start q (n + 1) Ended
            (IsUnderWay-kept t (lines_of at.taken) before held_mid held_after start q (n + 1)
            (IsUnderWay-line t (lines_of at.taken) before held held_mid start p q n line a (under_way before held start p way)
            (last_line_at at n line all same front some) sends)
            keeps)
            (omega arith, refl);
      }

  -- it stopped the session
  pub Finishes-cut : {A : Type 0} (held held_after : Option (List ℕ)) (p q : Pass) (stop : Stop) → 0 < length line
      → SendsLine {A = A} t line held held_after p q (Err stop)
      → Finishes t at held held_after p q (record { why = stop.why; answered = n; pending = stop.pending })
  Finishes-cut held held_after p q stop some sends = record {
    cause = at_input stop.why stop.pending sends.answers.cause;
    reaches = λ before start way.
        EndsSession-cut t at.taken before held held_after start p q n line stop (under_way before held start p way)
        (last_line_at at n line all same front some) sends;
  }

  -- its reply was not flushed
  pub Finishes-unflushed : {A : Type 0} (held held_mid held_after : Option (List ℕ)) (p q : Pass) (a : A) → 0 < length line
      → SendsLine t line held held_mid p q (Ok a) → Keeps held_mid held_after
      → Finishes t at held held_after p q (record { why = WriteFault; answered = n; pending = true })
  Finishes-unflushed held held_mid held_after p q a some sends keeps = record {
    cause = tt;
    reaches = λ before start way.
        EndsSession-unflushed t at.taken before held_mid held_after start q n
        (IsUnderWay-line t (lines_of at.taken) before held held_mid start p q n line a (under_way before held start p way)
        (last_line_at at n line all same front some) sends)
        keeps;
  }
