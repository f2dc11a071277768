-- How a place stands: what its pass was asked so far, and what it was told.
use Rattle.std.proofs.Common.{◌≡◌, ℕ, suc, ◌+◌, List, [], ◌∷◌, ◌++◌, length, length-append, map, Ok, Err, inl, inr, refl, sym, ap, subst, ◌∙◌, append-nil, arith}
use Rattle.std.specs.Prelude.{Result}
use Rattle.art_lines.specs.Lines.{line_says}
use Rattle.art_lines.specs.declared.lines.LineFault.{LineFault}
use Rattle.art_model.specs.declared.commands.Command.{Command}
use Rattle.art_model.specs.declared.commands.Reply.{Reply}
use Rattle.art_model.specs.declared.rows.Row.{Row}
use Rattle.art_schedule.specs.Lines.{Said, start, until, step, end}
use Rattle.art_schedule.specs.Orders.{Begins, EndsAfter, GoesOn, IsRefused, Obeys, TellsEnd}
use Rattle.art_schedule.specs.Points.{IsInTurn, asked_in, reply_in}
use Rattle.art_schedule.specs.Seats.{Finishes, KeepsRunning}
use Rattle.art_schedule.specs.declared.orders.Told.{Told}
use Rattle.art_schedule.specs.declared.orders.Told.TheVariants.{Nothing, At, Stepped, Ended}
use Rattle.art_schedule.specs.declared.seats.Seat.{Seat}
use Rattle.art_schedule.specs.declared.seats.Seat.TheVariants.{Idle, Going, Away}
use Rattle.art_server.specs.ArtScan.Running.{IsRunning}
use Rattle.art_server.specs.ArtScan.declared.running.Ending.{Ending}
use Rattle.art_server.specs.ArtScan.declared.running.Running.{Running}
use Rattle.art_server.specs.ArtTable.declared.passes.Pass.{Pass}
use Rattle.art_server.specs.ArtTable.declared.tables.Table.{Table}
use Rattle.art_server.specs.Endings.{reply_of_ending}
use Rattle.art_lines.specs.Refusals.{line_refusal}
use Rattle.art_server.specs.Replies.{text_of_reply}
use Rattle.art_server.specs.ArtRefusal.declared.refusals.Refusal.{Refusal}
use Rattle.art_sessions.specs.Points.{AnswersAll, AnswersSaidIn, Asked}
use Rattle.art_server.proofs.EndingLaws.{reply_answers}

-- replies to what a pass is asked
abbrev pub Replies : Type 0
Replies = List (Result Reply Refusal)

abbrev pub asked : Result Command LineFault → ℕ → Asked
asked says turns = record { says = says; turns = turns }

-- the last thing asked is the command under way, and those before it were answered
pub record IsAsked (t : Table) (p : Pass) (asks : List Asked) (replies : Replies) (r : Running) (rows : List Row) : Type 0 where
  pub before : List Asked
  pub command : Command
  pub turns : ℕ
  pub began : Pass
  pub asks_are : asks ≡ before ++ asked (Ok command) turns ∷ []
  pub answers : AnswersAll t before p replies began
  pub runs : IsRunning t command turns began r rows

-- the pass p was asked these things: it is idle and has answered them, or the last one is under way
abbrev pub Stands : Table → Pass → List Asked → Replies → Seat → List Row → Type 0
Stands t p asks replies (Idle q) rows = AnswersAll t asks p replies q
Stands t p asks replies (Going r) rows = IsAsked t p asks replies r rows
Stands t p asks replies Away rows = ⊥

module _ (t : Table) where
  -- ---- one thing more is answered

  pub answers_more : (asks : List Asked) (ask : Asked) (p : Pass) (replies : Replies) (m : Pass) (reply : Result Reply Refusal) (q : Pass)
      → AnswersAll t asks p replies m → AnswersSaidIn t ask.says ask.turns m reply q
      → AnswersAll t (asks ++ ask ∷ []) p (replies ++ reply ∷ []) q
  answers_more [] ask p replies m reply q (none, same) one = (
    reply,
    [],
    q,
    ap (λ (l : Replies). l ++ reply ∷ []) none,
    subst (λ (x : Pass). AnswersSaidIn t ask.says ask.turns x reply q) same one,
    (refl, refl),
  )
  answers_more (a ∷ asks) ask p replies m reply q (first, others, n, is, here, rest) one = (
    first,
    others ++ reply ∷ [],
    n,
    ap (λ (l : Replies). l ++ reply ∷ []) is,
    here,
    answers_more asks ask n others m reply q rest one,
  )

  length-AnswersAll : (asks : List Asked) (p : Pass) (replies : Replies) (q : Pass) → AnswersAll t asks p replies q
      → length asks ≡ length replies
  length-AnswersAll [] p replies q (none, same) = sym (ap (length {A = Result Reply Refusal}) none)
  length-AnswersAll (ask ∷ asks) p replies q (first, others, m, is, here, rest) =
      ap suc (length-AnswersAll asks m others q rest) ∙ sym (ap (length {A = Result Reply Refusal}) is)

  pub stands_in_turn : (p : Pass) (asks : List Asked) (replies : Replies) (s : Seat) (rows : List Row) → Stands t p asks replies s rows
      → IsInTurn (length asks) (length replies)
  stands_in_turn p asks replies (Idle q) rows answers = inl (length-AnswersAll asks p replies q answers)
  stands_in_turn p asks replies (Going r) rows is =
      let before = length-AnswersAll is.before p replies is.began is.answers in
      let all : length asks ≡ length is.before + 1 =
      ap (length {A = Asked}) is.asks_are ∙ length-append is.before (asked (Ok is.command) is.turns ∷ []) in
      inr (omega arith)
  stands_in_turn p asks replies Away rows none = absurd none

  module _ (p : Pass) (asks : List Asked) (replies : Replies) where
    -- nothing more was asked, and nothing more answered
    pub stands_same : (s : Seat) (rows : List Row) → Stands t p asks replies s rows → Stands t p (asks ++ []) (replies ++ []) s rows
    stands_same s rows stands =
        subst (λ (l : List Asked). Stands t p l (replies ++ []) s rows) (sym (append-nil asks))
        (subst (λ (l : Replies). Stands t p asks l s rows) (sym (append-nil replies)) stands)

    -- the command under way ended
    pub ends_answered : (r : Running) (rows : List Row) (q : Pass) (ending : Ending) (restarts : ℕ) (rows_after : List Row)
        → Finishes t r rows q ending restarts rows_after → IsAsked t p asks replies r rows
        → AnswersAll t asks p (replies ++ reply_of_ending rows_after ending ∷ []) q
    ends_answered r rows q ending restarts rows_after finishes is =
        let reply = reply_of_ending rows_after ending in
        let ends = finishes.ends is.command is.turns is.began is.runs in
        subst (λ (l : List Asked). AnswersAll t l p (replies ++ reply ∷ []) q) (sym is.asks_are)
        (answers_more is.before (asked (Ok is.command) is.turns) p replies is.began reply q is.answers
        (reply_answers t is.turns is.began rows_after q is.command ending ends))

    -- the command under way goes on
    pub keeps_asked : (r s : Running) (rows rows_after : List Row) → KeepsRunning t r rows s rows_after → IsAsked t p asks replies r rows
        → IsAsked t p asks replies s rows_after
    keeps_asked r s rows rows_after keeps is = record {
      before = is.before;
      command = is.command;
      turns = is.turns;
      began = is.began;
      asks_are = is.asks_are;
      answers = is.answers;
      runs = keeps.keeps is.command is.turns is.began is.runs;
    }

    -- ---- one order

    -- more was asked then, and more answered; and that is what is told
    pub record StandsThen (more : List Asked) (new : Seat) (rows : List Row) (told : Told) : Type 0 where
      pub fresh : Replies
      pub stands : Stands t p (asks ++ more) (replies ++ fresh) new rows
      pub tells : reply_in told ≡ map text_of_reply fresh

    begun : (turns : ℕ) (text : List ℕ) (old new : Seat) (rows rows_after : List Row) → Begins t turns text old new rows_after
        → Stands t p asks replies old rows → StandsThen (asked_in (start turns text)) new rows_after Nothing
    begun turns text old new rows rows_after begins stands =
        let there = begins.there in
        let idle : AnswersAll t asks p replies there.pass = subst (λ (s : Seat). Stands t p asks replies s rows) there.was stands in
        let says : asked_in (start turns text) ≡ asked (Ok begins.command) turns ∷ [] =
        ap (λ (x : Result Command LineFault). asked x turns ∷ []) begins.says in
        record {
          fresh = [];
          stands =
              subst (λ (s : Seat). Stands t p (asks ++ asked_in (start turns text)) (replies ++ []) s rows_after) (sym there.now)
              (record {
                before = asks;
                command = begins.command;
                turns = turns;
                began = there.pass;
                asks_are = ap (λ (l : List Asked). asks ++ l) says;
                answers = subst (λ (l : Replies). AnswersAll t asks p l there.pass) (sym (append-nil replies)) idle;
                runs = there.runs;
              });
          tells = refl;
        }

    -- a text that says no command is answered at once
    refused : (turns : ℕ) (text : List ℕ) (old new : Seat) (rows rows_after : List Row) (told : Told) (reply : List ℕ) (restarts : ℕ)
        → reply_in told ≡ (reply ++ 10 ∷ []) ∷ [] → IsRefused text old new reply restarts → Stands t p asks replies old rows
        → StandsThen (asked_in (start turns text)) new rows_after told
    refused turns text (Idle q) new rows rows_after told reply restarts tells is stands =
        let answer : Result Reply Refusal = Err (line_refusal is.fault) in
        let ask = asked (line_says text) turns in
        let says : AnswersSaidIn t (line_says text) turns q answer q =
        subst (λ (x : Result Command LineFault). AnswersSaidIn t x turns q answer q) (sym is.says) (refl, refl) in
        record {
          fresh = answer ∷ [];
          stands =
              subst (λ (s : Seat). Stands t p (asks ++ ask ∷ []) (replies ++ answer ∷ []) s rows_after) (sym is.stays)
              (answers_more asks ask p replies q answer q stands says);
          tells = tells ∙ ap (λ (l : List ℕ). l ∷ []) is.reply_is;
        }
    refused turns text (Going r) new rows rows_after told reply restarts tells is stands = absurd (let idle = is.idle in cc)
    refused turns text Away new rows rows_after told reply restarts tells is stands = absurd stands

    goes_on : (old new : Seat) (rows rows_after : List Row) (made : Running → Running → Type 0) (told : Told)
        → GoesOn t old rows new rows_after made → reply_in told ≡ [] → Stands t p asks replies old rows → StandsThen [] new rows_after told
    goes_on old new rows rows_after made told on none stands =
        let was = subst (λ (s : Seat). Stands t p asks replies s rows) on.was stands in
        let now = subst (λ (s : Seat). Stands t p asks replies s rows_after) (sym on.now)
        (keeps_asked on.running on.running_after rows rows_after on.keeps was) in
        record { fresh = []; stands = stands_same new rows_after now; tells = none }

    ended : (old new : Seat) (rows rows_after : List Row) (told : Told) (reply : List ℕ) (restarts : ℕ)
        → reply_in told ≡ (reply ++ 10 ∷ []) ∷ [] → TellsEnd t old rows new rows_after reply restarts → Stands t p asks replies old rows
        → StandsThen [] new rows_after told
    ended old new rows rows_after told reply restarts tells ends stands =
        let there = ends.there in
        let answer = reply_of_ending rows_after ends.ending in
        let was = subst (λ (s : Seat). Stands t p asks replies s rows) there.was stands in
        let now = subst (λ (s : Seat). Stands t p asks (replies ++ answer ∷ []) s rows_after) (sym there.now)
        (ends_answered there.running rows there.pass ends.ending restarts rows_after there.finishes was) in
        record {
          fresh = answer ∷ [];
          stands = subst (λ (l : List Asked). Stands t p l (replies ++ answer ∷ []) new rows_after) (sym (append-nil asks)) now;
          tells = tells ∙ ap (λ (l : List ℕ). l ∷ []) ends.reply_is;
        }

    ended_after : (old new : Seat) (rows rows_after : List Row) (made : Running → Running → List Row → Type 0) (told : Told)
        (reply : List ℕ) (restarts : ℕ) → reply_in told ≡ (reply ++ 10 ∷ []) ∷ []
        → EndsAfter t old rows made new rows_after reply restarts → Stands t p asks replies old rows → StandsThen [] new rows_after told
    ended_after old new rows rows_after made told reply restarts tells ends stands =
        let was = subst (λ (s : Seat). Stands t p asks replies s rows) ends.was stands in
        ended (Going ends.between) new ends.rows_between rows_after told reply restarts tells ends.ends
        (keeps_asked ends.running ends.between rows ends.rows_between ends.keeps was)

    pub after_order : (said : Said) (old new : Seat) (rows rows_after : List Row) (told : Told) → Obeys t said old rows new rows_after told
        → Stands t p asks replies old rows → StandsThen (asked_in said) new rows_after told
    after_order (start turns text) old new rows rows_after Nothing obeys stands = begun turns text old new rows rows_after obeys stands
    after_order (start turns text) old new rows rows_after (At m) obeys stands = absurd obeys
    after_order (start turns text) old new rows rows_after Stepped obeys stands = absurd obeys
    after_order (start turns text) old new rows rows_after (Ended reply restarts) obeys stands =
        refused turns text old new rows rows_after (Ended reply restarts) reply.items restarts refl obeys stands
    after_order (until mark n) old new rows rows_after Nothing obeys stands = absurd obeys
    after_order (until mark n) old new rows rows_after (At m) obeys stands = goes_on old new rows rows_after _ (At m) obeys.1 refl stands
    after_order (until mark n) old new rows rows_after Stepped obeys stands = absurd obeys
    after_order (until mark n) old new rows rows_after (Ended reply restarts) obeys stands =
        ended_after old new rows rows_after _ (Ended reply restarts) reply.items restarts refl obeys stands
    after_order (step n) old new rows rows_after Nothing obeys stands = absurd obeys
    after_order (step n) old new rows rows_after (At m) obeys stands = absurd obeys
    after_order (step n) old new rows rows_after Stepped obeys stands = goes_on old new rows rows_after _ Stepped obeys refl stands
    after_order (step n) old new rows rows_after (Ended reply restarts) obeys stands =
        ended_after old new rows rows_after _ (Ended reply restarts) reply.items restarts refl obeys stands
    after_order end old new rows rows_after Nothing obeys stands = absurd obeys
    after_order end old new rows rows_after (At m) obeys stands = absurd obeys
    after_order end old new rows rows_after Stepped obeys stands = absurd obeys
    after_order end old new rows rows_after (Ended reply restarts) obeys stands =
        ended old new rows rows_after (Ended reply restarts) reply.items restarts refl obeys stands
