-- How each place stands, as one task after another is done.
use Rattle.std.proofs.Common.{◌≡◌, ◌≢◌, ℕ, ◌<◌, ◌==◌, if◌then◌else◌, Bool, true, false, List, [], ◌∷◌, ◌++◌, length, map, take, get_or, get_or-set_other, get_or-set_same, Option, inl, inr, refl, sym, ap, subst, ◌∙◌, append_assoc, arith}
use Rattle.std.specs.Prelude.{Result}
use Rattle.std.proofs.lemmas.Bool.{eqb-true, eqb-false}
use Rattle.std.proofs.lemmas.List.{length-map, length-set, map-append}
use Rattle.arrayvec.specs.ArrayVec.{ArrayVec}
use Rattle.art_model.specs.declared.commands.Reply.{Reply}
use Rattle.art_model.specs.declared.rows.Row.{Row}
use Rattle.art_schedule.specs.Desks.{Places}
use Rattle.art_schedule.specs.Lines.{Said, end}
use Rattle.art_schedule.specs.Points.{IsInTurn, Telling, asked_at, asked_by_order, asked_by_task, asked_in, replies_at, reply_by, reply_in}
use Rattle.art_schedule.specs.Tasks.{Task, end_at, obey}
use Rattle.art_schedule.specs.declared.orders.Told.{Told}
use Rattle.art_schedule.specs.declared.orders.Told.TheVariants.{Nothing}
use Rattle.art_schedule.specs.declared.seats.Seat.{Seat}
use Rattle.art_server.specs.ArtTable.declared.passes.Pass.{Pass}
use Rattle.art_server.specs.ArtTable.declared.tables.Table.{Table}
use Rattle.art_server.specs.Replies.{text_of_reply}
use Rattle.art_server.specs.ArtRefusal.declared.refusals.Refusal.{Refusal}
use Rattle.art_sessions.specs.Points.{Asked}
use Rattle.art_schedule.proofs.Standings.{Replies, Stands, after_order, stands_in_turn, stands_same}
use Rattle.art_schedule.proofs.TaskLaws.{ChangesAt}
use Rattle.art_schedule.proofs.Tellings.{FollowsAt, SpeakAll, SpeakAll-take, Speaks}

-- the pass p of the place k was asked these things so far, and answered
pub record StandsAt (t : Table) (k : ℕ) (p : Pass) (asks : List Asked) (replies : Replies) (places : Places) : Type 0 where
  pub within : k < length places.seats
  pub within_room : k < length places.rooms
  pub stands : (d : Seat) (e : ArrayVec Row) → Stands t p asks replies (get_or places.seats k d) (get_or places.rooms k e).items

-- an element of a list that has some
pub some_of : {A : Type 0} (xs : List A) (k : ℕ) → k < length xs → A
some_of [] k within = absurd (omega arith)
some_of (x ∷ xs) k within = x

module _ (t : Table) (k : ℕ) (p : Pass) where
  -- more was asked of the pass then, and more answered; and that is what was told of it
  pub record StandsOn (asks : List Asked) (replies : Replies) (more : List Asked) (heard : List (List ℕ)) (places : Places)
      : Type 0 where
    pub fresh : Replies
    pub at : StandsAt t k p (asks ++ more) (replies ++ fresh) places
    pub tells : heard ≡ map text_of_reply fresh

  stays_on : (asks : List Asked) (replies : Replies) (places : Places) → StandsAt t k p asks replies places
      → StandsOn asks replies [] [] places
  stays_on asks replies places at = record {
    fresh = [];
    at = record {
      within = at.within;
      within_room = at.within_room;
      stands = λ d e. stands_same t p asks replies (get_or places.seats k d) (get_or places.rooms k e).items (at.stands d e);
    };
    tells = refl;
  }

  -- its pass obeyed
  here : (asks : List Asked) (replies : Replies) (said : Said) (old : Places) (told : Told) (new : Places)
      → FollowsAt t k said old told new → StandsAt t k p asks replies old → StandsOn asks replies (asked_in said) (reply_in told) new
  here asks replies said old told new f at =
      let was = subst (λ (s : Seat). Stands t p asks replies s f.room.items) (sym f.changes.seat_is)
      (subst (λ (x : ArrayVec Row). Stands t p asks replies (get_or old.seats k f.seat) x.items) (sym f.changes.room_is)
      (at.stands f.seat f.room)) in
      let after = after_order t p asks replies said f.seat f.seat_after f.room.items f.room_after.items told f.obeys was in
      let many : length new.seats ≡ length old.seats = ap (length {A = Seat}) f.changes.seats ∙ length-set old.seats k f.seat_after in
      let many_rooms : length new.rooms ≡ length old.rooms =
      ap (length {A = ArrayVec Row}) f.changes.rooms ∙ length-set old.rooms k f.room_after in
      let within = at.within in
      let within_room = at.within_room in
      record {
        fresh = after.fresh;
        at = record {
          within = omega arith;
          within_room = omega arith;
          stands = λ d e.
              let seat : get_or new.seats k d ≡ f.seat_after =
              ap (λ (l : List Seat). get_or l k d) f.changes.seats ∙ get_or-set_same old.seats k f.seat_after d within in
              let room : get_or new.rooms k e ≡ f.room_after =
              ap (λ (l : List (ArrayVec Row)). get_or l k e) f.changes.rooms ∙ get_or-set_same old.rooms k f.room_after e within_room in
              subst (λ (s : Seat). Stands t p (asks ++ asked_in said) (replies ++ after.fresh) s (get_or new.rooms k e).items) (sym seat)
              (subst (λ (x : ArrayVec Row). Stands t p (asks ++ asked_in said) (replies ++ after.fresh) f.seat_after x.items) (sym room)
              after.stands);
        };
        tells = after.tells;
      }

  -- the pass of another place did
  there : (asks : List Asked) (replies : Replies) (place : ℕ) (old new : Places) (seat : Seat) (room : ArrayVec Row)
      (seat_after : Seat) (room_after : ArrayVec Row) → ChangesAt t place old new seat room seat_after room_after → k ≢ place
      → StandsAt t k p asks replies old → StandsAt t k p asks replies new
  there asks replies place old new seat room seat_after room_after changes other at =
      let many : length new.seats ≡ length old.seats = ap (length {A = Seat}) changes.seats ∙ length-set old.seats place seat_after in
      let many_rooms : length new.rooms ≡ length old.rooms =
      ap (length {A = ArrayVec Row}) changes.rooms ∙ length-set old.rooms place room_after in
      let within = at.within in
      let within_room = at.within_room in
      record {
        within = omega arith;
        within_room = omega arith;
        stands = λ d e.
            let same : get_or new.seats k d ≡ get_or old.seats k d =
            ap (λ (l : List Seat). get_or l k d) changes.seats ∙ get_or-set_other old.seats place k seat_after d other in
            let same_room : get_or new.rooms k e ≡ get_or old.rooms k e =
            ap (λ (l : List (ArrayVec Row)). get_or l k e) changes.rooms ∙ get_or-set_other old.rooms place k room_after e other in
            subst (λ (s : Seat). Stands t p asks replies s (get_or new.rooms k e).items) (sym same)
            (subst (λ (x : ArrayVec Row). Stands t p asks replies (get_or old.seats k d) x.items) (sym same_room) (at.stands d e));
      }

  follows_order : (asks : List Asked) (replies : Replies) (place : ℕ) (said : Said) (old : Places) (told : Told) (new : Places)
      → FollowsAt t place said old told new → StandsAt t k p asks replies old
      → StandsOn asks replies (if place == k then asked_in said else []) (if place == k then reply_in told else []) new
  follows_order asks replies place said old told new f at = by (place == k) refl
    where
      by : (same : Bool) → (place == k) ≡ same
          → StandsOn asks replies (if place == k then asked_in said else []) (if place == k then reply_in told else []) new
      by true is =
          rw is (here asks replies said old told new
          (subst (λ (n : ℕ). FollowsAt t n said old told new) (eqb-true place k is) f) at)
      by false is =
          let other : k ≢ place = λ (e : k ≡ place). eqb-false place k is (sym e) in
          rw is (stays_on asks replies new (there asks replies place old new f.seat f.room f.seat_after f.room_after f.changes other at))

  nothing_asked : (b : Bool) → (if b then asked_in end else []) ≡ []
  nothing_asked true = refl
  nothing_asked false = refl

  nothing_heard : (b : Bool) (told : Told) → told ≡ Nothing → (if b then reply_in told else []) ≡ []
  nothing_heard true told is = ap reply_in is
  nothing_heard false told is = refl

  after_task : (asks : List Asked) (replies : Replies) (task : Task) (old : Places) (telling : Telling) (new : Places)
      → Speaks t task old telling new → StandsAt t k p asks replies old
      → StandsOn asks replies (asked_by_task k task) (reply_by k telling) new
  after_task asks replies (obey line) old telling new (said, says, f) at =
      subst (λ (o : Option (ℕ × Said)). StandsOn asks replies (asked_by_order k o) (reply_by k telling) new) (sym says)
      (follows_order asks replies telling.place said old telling.told new f at)
  after_task asks replies (end_at place) old telling new (is, inl rests) at =
      subst (λ (l : List (List ℕ)). StandsOn asks replies [] l new) (sym (nothing_heard (telling.place == k) telling.told rests.none))
      (stays_on asks replies new (subst (λ (x : Places). StandsAt t k p asks replies x) (sym rests.same) at))
  after_task asks replies (end_at place) old telling new (is, inr f) at =
      subst (λ (l : List Asked). StandsOn asks replies l (reply_by k telling) new) (nothing_asked (telling.place == k))
      (follows_order asks replies telling.place end old telling.told new
      (subst (λ (n : ℕ). FollowsAt t n end old telling.told new) (sym is) f) at)

  -- one task after another
  pub after_all : (asks : List Asked) (replies : Replies) (tasks : List Task) (old : Places) (tellings : List Telling) (new : Places)
      → SpeakAll t tasks old tellings new → StandsAt t k p asks replies old
      → StandsOn asks replies (asked_at k tasks) (replies_at k tellings) new
  after_all asks replies [] old [] new same at =
      stays_on asks replies new (subst (λ (x : Places). StandsAt t k p asks replies x) (sym same) at)
  after_all asks replies [] old (telling ∷ tellings) new all at = absurd all
  after_all asks replies (task ∷ tasks) old [] new all at = absurd all
  after_all asks replies (task ∷ tasks) old (telling ∷ tellings) new (m, one, rest) at =
      let first = after_task asks replies task old telling m one at in
      let more = asked_by_task k task in
      let later = after_all (asks ++ more) (replies ++ first.fresh) tasks m tellings new rest first.at in
      record {
        fresh = first.fresh ++ later.fresh;
        at =
            subst (λ (l : List Asked). StandsAt t k p l (replies ++ (first.fresh ++ later.fresh)) new)
            (append_assoc asks more (asked_at k tasks))
            (subst (λ (l : Replies). StandsAt t k p ((asks ++ more) ++ asked_at k tasks) l new)
            (append_assoc replies first.fresh later.fresh) later.at);
        tells =
            ap (λ (l : List (List ℕ)). l ++ replies_at k tellings) first.tells
            ∙ ap (λ (l : List (List ℕ)). map text_of_reply first.fresh ++ l) later.tells
            ∙ sym (map-append text_of_reply first.fresh later.fresh);
      }

  -- ---- question and answer

  pub in_turn : (tasks : List Task) (old : Places) (tellings : List Telling) (new : Places) → SpeakAll t tasks old tellings new
      → StandsAt t k p [] [] old → (n : ℕ) → IsInTurn (length (asked_at k (take n tasks))) (length (replies_at k (take n tellings)))
  in_turn tasks old tellings new all at n =
      let front = SpeakAll-take t n tasks old tellings new all in
      let s = after_all [] [] (take n tasks) old (take n tellings) front.0 front.1 at in
      let seat = some_of front.0.seats k s.at.within in
      let room = some_of front.0.rooms k s.at.within_room in
      let heard : length (replies_at k (take n tellings)) ≡ length s.fresh =
      ap (length {A = List ℕ}) s.tells ∙ length-map {A = Result Reply Refusal} {B = List ℕ} s.fresh text_of_reply in
      subst (λ (h : ℕ). IsInTurn (length (asked_at k (take n tasks))) h) (sym heard)
      (stands_in_turn t p (asked_at k (take n tasks)) s.fresh (get_or front.0.seats k seat) (get_or front.0.rooms k room).items
      (s.at.stands seat room))
