-- How the replies and their texts go on with one line more, and what stands at a session's end.
use Rattle.std.proofs.Common.{◌≡◌, ℕ, ◌+◌, ◌<◌, ◌≤◌, Bool, true, false, List, [], ◌∷◌, ◌++◌, length, take, drop, take-append-drop, Result, Ok, Err, Some, refl, sym, subst, ap, ◌∙◌, arith, append_assoc, append-nil, add-zero}
use Rattle.std.specs.List.{slice_get}
use Rattle.std.proofs.lemmas.List.{length-take, take_at, take_all}
use Rattle.std.proofs.lemmas.Option.{slice_get_within}
use Rattle.std.proofs.lemmas.List.Concat.{flat_map-append}
use Rattle.art_model.specs.declared.commands.Command.{Command}
use Rattle.art_model.specs.declared.commands.Reply.{Reply}
use Rattle.art_scan.specs.ArtTable.declared.passes.Pass.{Pass}
use Rattle.art_scan.specs.ArtTable.declared.tables.Table.{Table}
use Rattle.art_lines.specs.declared.lines.LineFault.{LineFault}
use Rattle.art_scan.specs.ArtRefusal.declared.refusals.Refusal.{Refusal}
use Rattle.art_server.specs.declared.sessions.EndCause.{EndCause}
use Rattle.art_server.specs.declared.sessions.EndCause.TheVariants.{WriteFault}
use Rattle.art_lines.specs.Lines.{line_says}
use Rattle.art_lines.specs.Refusals.{line_refusal}
use Rattle.art_server.specs.Replies.{text_of_reply}
use Rattle.art_server.specs.Sessions.{AnswersCommand, AnswersSaid, AnswersLine, AnswersLines, texts, AnswersFront}
use Rattle.art_server.specs.Steps.{IsCutShort}
use Rattle.art_lines.proofs.LineLaws.{line_says-take}
use Rattle.art_server.proofs.GivenLines.{take_next}

-- a reply more is its text more
pub texts-push : (replies : List (Result Reply Refusal)) (reply : Result Reply Refusal)
    → texts (replies ++ reply ∷ []) ≡ texts replies ++ text_of_reply reply
texts-push replies reply =
    flat_map-append text_of_reply replies (reply ∷ []) ∙ ap (λ (t : List ℕ). texts replies ++ t) (append-nil (text_of_reply reply))

module _ (t : Table) where
  -- ---- one line

  pub AnswersLine-said : (line : List ℕ) (command : Command) (p : Pass) (reply : Result Reply Refusal) (q : Pass)
      → line_says line ≡ Ok command
      → AnswersCommand t command p reply q → AnswersLine t line p reply q
  unfolding AnswersLine
  AnswersLine-said line command p reply q said answers =
      subst (λ (r : Result Command LineFault). AnswersSaid t r p reply q) (sym said) answers

  pub AnswersLine-refused : (line : List ℕ) (fault : LineFault) (p : Pass) (reply : Result Reply Refusal) → line_says line ≡ Err fault
      → reply ≡ Err (line_refusal fault) → AnswersLine t line p reply p
  unfolding AnswersLine
  AnswersLine-refused line fault p reply said is =
      subst (λ (r : Result Command LineFault). AnswersSaid t r p reply p) (sym said) (is, refl)

  -- a line is as good as its first 4,097 bytes
  pub AnswersLine-take : (line : List ℕ) (p : Pass) (reply : Result Reply Refusal) (q : Pass) → AnswersLine t (take 4097 line) p reply q
      → AnswersLine t line p reply q
  unfolding AnswersLine
  AnswersLine-take line p reply q answers =
      subst (λ (r : Result Command LineFault). AnswersSaid t r p reply q) (line_says-take line) answers

  -- ---- one line more

  pub AnswersLines-push : (lines : List (List ℕ)) (line : List ℕ) (p m q : Pass) (replies : List (Result Reply Refusal))
      (reply : Result Reply Refusal)
      → AnswersLines t lines p replies m → AnswersLine t line m reply q → AnswersLines t (lines ++ line ∷ []) p (replies ++ reply ∷ []) q
  AnswersLines-push [] line p m q replies reply (none, same) last = (
    reply,
    [],
    q,
    ap (λ (l : List (Result Reply Refusal)). l ++ reply ∷ []) none,
    subst (λ (x : Pass). AnswersLine t line x reply q) same last,
    (refl, refl),
  )
  AnswersLines-push (first ∷ lines) line p m q replies reply (told, others, mid, is, one, rest) last = (
    told,
    others ++ reply ∷ [],
    mid,
    ap (λ (l : List (Result Reply Refusal)). l ++ reply ∷ []) is,
    one,
    AnswersLines-push lines line mid m q others reply rest last,
  )

  -- each line has one reply
  pub length-AnswersLines : (lines : List (List ℕ)) (p : Pass) (replies : List (Result Reply Refusal)) (q : Pass)
      → AnswersLines t lines p replies q
      → length replies ≡ length lines
  length-AnswersLines [] p replies q (none, same) = ap (length {A = Result Reply Refusal}) none
  length-AnswersLines (line ∷ lines) p replies q (told, others, mid, is, one, rest) =
      omega (arith, ap (length {A = Result Reply Refusal}) is, length-AnswersLines lines mid others q rest)

  -- ---- the end

  -- lines from the front are answered, and none is begun beyond them
  pub AnswersFront-whole : (all : List (List ℕ)) (written : List ℕ) (p q : Pass) (why : EndCause) (n : ℕ)
      (replies : List (Result Reply Refusal)) → n ≤ length all → AnswersLines t (take n all) p replies q → written ≡ texts replies
      → AnswersFront t all written p q (record { why = why; answered = n; pending = false })
  AnswersFront-whole all written p q why n replies within answers sent =
      let many : length replies ≡ length (take n all) = length-AnswersLines (take n all) p replies q answers in
      let text : written ≡ texts (take n replies) = sent ∙ ap texts (sym (take_all n replies (omega (arith, length-take n all)))) in
      record {
        within = omega arith;
        replies = replies;
        answers = subst (λ (k : ℕ). AnswersLines t (take k all) p replies q) (sym (add-zero n)) answers;
        answered = ([], text ∙ sym (append-nil (texts (take n replies))));
        begins = ([], append-nil written ∙ sent);
        whole = λ _. text;
      }

  -- lines from the front are answered, and the next one stopped the session
  pub AnswersFront-cut : (all : List (List ℕ)) (line sent written : List ℕ) (p m q : Pass) (why : EndCause) (pending : Bool) (n : ℕ)
      (replies : List (Result Reply Refusal))
      → slice_get all n ≡ Some line → AnswersLines t (take n all) p replies m → sent ≡ texts replies
      → IsCutShort t line written m q (record { why = why; pending = pending })
      → AnswersFront t all (sent ++ written) p q (record { why = why; answered = n; pending = pending })
  AnswersFront-cut all line sent written p m q why false n replies stands answers before cut =
      let (none, same) = cut.begins in
      let within : n < length all = slice_get_within all n line stands in
      AnswersFront-whole all (sent ++ written) p q why n replies (omega arith)
      (subst (λ (x : Pass). AnswersLines t (take n all) p replies x) (sym same) answers)
      (ap (λ (w : List ℕ). sent ++ w) none ∙ append-nil sent ∙ before)
  AnswersFront-cut all line sent written p m q why true n replies stands answers before cut =
      let last = cut.begins in
      let reply = last.reply in
      let told = replies ++ reply ∷ [] in
      let within : n < length all = slice_get_within all n line stands in
      let many : length replies ≡ n = omega (arith, length-AnswersLines (take n all) p replies m answers, length-take n all) in
      let text : sent ≡ texts (take n told) = before ∙ ap texts (sym (take_at replies (reply ∷ []) n many)) in
      record {
        within = omega arith;
        replies = told;
        answers =
            subst (λ (l : List (List ℕ)). AnswersLines t l p told q) (sym (take_next all n line stands))
            (AnswersLines-push (take n all) line p m q replies reply answers last.answers);
        answered = (written, ap (λ (w : List ℕ). w ++ written) text);
        begins = (
          last.front.0,
          append_assoc sent written last.front.0
              ∙ ap (λ (w : List ℕ). sent ++ w) last.front.1
              ∙ ap (λ (w : List ℕ). w ++ text_of_reply reply) before
              ∙ sym (texts-push replies reply),
        );
        whole = λ other. ap (λ (w : List ℕ). sent ++ w) (cut.whole other) ∙ append-nil sent ∙ text;
      }

  -- lines from the front are answered, and the last reply counts as cut at its end
  pub AnswersFront-last : (all : List (List ℕ)) (written : List ℕ) (p q : Pass) (n : ℕ) (replies : List (Result Reply Refusal))
      → n + 1 ≤ length all → AnswersLines t (take (n + 1) all) p replies q → written ≡ texts replies
      → AnswersFront t all written p q (record { why = WriteFault; answered = n; pending = true })
  AnswersFront-last all written p q n replies within answers sent = record {
    within = within;
    replies = replies;
    answers = answers;
    answered = (
      texts (drop n replies),
      sent ∙ ap texts (sym (take-append-drop n replies)) ∙ flat_map-append text_of_reply (take n replies) (drop n replies),
    );
    begins = ([], append-nil written ∙ sent);
    whole = λ other. absurd (other refl);
  }
