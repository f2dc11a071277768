-- Tasks that are done one after another, and one that stops them.
use Rattle.std.proofs.Common.{◌≡◌, ◌≢◌, ◌↔◌, ℕ, ◌+◌, ◌<◌, ◌≤◌, false, true, not, nat_le, Bool, List, [], ◌∷◌, ◌++◌, length, take, get_or, Option, None, Some, Result, Ok, Err, IfErr, inl, inr, refl, sym, ap, subst, ◌∙◌, arith, append_assoc, append-nil, length-append}
use Rattle.std.proofs.KnownBytes.{Appends-nil}
use Rattle.std.proofs.lemmas.Bool.{cases_lt}
use Rattle.std.proofs.lemmas.Bool.Decides.{nat_tests}
use Rattle.std.proofs.Math.ListN.{set}
use Rattle.std.proofs.lemmas.List.{take_all, length-take, set-get_or}
use Rattle.arrayvec.specs.ArrayVec.{ArrayVec}
use Rattle.art_model.specs.declared.rows.Row.{Row}
use Rattle.art_schedule.specs.Desks.{Places}
use Rattle.art_schedule.specs.Lines.{Said, end, line_order, line_said}
use Rattle.art_schedule.specs.Orders.{Leaves, fits}
use Rattle.art_schedule.specs.Seats.{is_idle}
use Rattle.art_schedule.specs.Tasks.{AdvancesAt, CanDo, Does, DoesAll, ObeysAt, StopsAt, Task, end_at, obey}
use Rattle.art_schedule.specs.Tells.{TellsLine, told_text}
use Rattle.art_schedule.specs.Ways.{Comes, ComesAt, Tries, TriesAt}
use Rattle.art_schedule.specs.declared.orders.Told.{Told}
use Rattle.art_schedule.specs.declared.seats.Seat.{Seat}
use Rattle.art_schedule.specs.declared.stops.Stop.{Stop}
use Rattle.art_schedule.specs.declared.stops.Stop.TheVariants.{BadLine, WriteFault, NoMemory}
use Rattle.art_server.specs.ArtTable.declared.tables.Table.{Table}
use Rattle.art_schedule.proofs.AdvanceLaws.{Advances-obeyed}
use Rattle.art_schedule.proofs.DeskLaws.{read_twice}

-- ---- the front of a line that is kept

too_long : (n : ℕ) (within : Bool) → nat_le n 4096 ≡ within → 4096 < n → within ≡ false
too_long n true e more = absurd (let few : n ≤ 4096 = grind (arith, nat_tests) in omega arith)
too_long n false e more = refl

pub line_order-long : (line : List ℕ) → 4096 < length line → line_order line ≡ None
line_order-long line more = rw (too_long (length line) _ refl more)

fitting : (n : ℕ) (within : Bool) → nat_le n 4096 ≡ within → n ≤ 4096 → within ≡ true
fitting n true e few = refl
fitting n false e few = absurd (let more : 4096 < n = grind (arith, nat_tests) in omega arith)

pub line_order-fits : (line : List ℕ) → length line ≤ 4096 → line_order line ≡ line_said line
line_order-fits line few = rw (fitting (length line) _ refl few)

-- a line says what its first 4,097 bytes say
pub line_order-take : (line : List ℕ) → line_order (take 4097 line) ≡ line_order line
line_order-take line =
    elim (cases_lt 4096 (length line)) [
      | inl long ↦ (
          let kept : 4096 < length (take 4097 line) = omega (arith, length-take 4097 line) in
          line_order-long (take 4097 line) kept ∙ sym (line_order-long line long))
      | inr short ↦ ap line_order (take_all 4097 line (omega arith))
    ]

not_false : (b : Bool) → (b ≡ false → ⊥) → b ≡ true
not_false true other = refl
not_false false other = absurd (other refl)

module _ (t : Table) where
  -- ---- tasks one after another

  pub DoesAll-append : (xs ys : List Task) (old m new : Places) (a b : List ℕ) → DoesAll t xs old a m → DoesAll t ys m b new
      → DoesAll t (xs ++ ys) old (a ++ b) new
  DoesAll-append [] ys old m new a b (none, same) rest =
      subst (λ (l : List ℕ). DoesAll t ys old (l ++ b) new) (sym none) (subst (λ (p : Places). DoesAll t ys p b new) same rest)
  DoesAll-append (x ∷ xs) ys old m new a b (one, others, mid, split, does, more) rest = (
    one,
    others ++ b,
    mid,
    ap (λ (l : List ℕ). l ++ b) split ∙ append_assoc one others b,
    does,
    DoesAll-append xs ys mid m new others b more rest,
  )

  -- one task more
  pub DoesAll-push : (xs : List Task) (x : Task) (old m new : Places) (a one : List ℕ) → DoesAll t xs old a m → Does t x m one new
      → DoesAll t (xs ++ x ∷ []) old (a ++ one) new
  DoesAll-push xs x old m new a one before does =
      DoesAll-append xs (x ∷ []) old m new a one before (one, [], new, sym (append-nil one), does, (refl, refl))

  -- a task among others stops a schedule behind those before it
  pub StopsAt-later : (stop : Stop) (xs ys : List Task) (old m : Places) (a b : List ℕ) (count : ℕ) (new : Places)
      → DoesAll t xs old a m → StopsAt t stop ys m b count new → StopsAt t stop (xs ++ ys) old (a ++ b) (length xs + count) new
  StopsAt-later stop xs ys old m a b count new before stops = record {
    before = xs ++ stops.before;
    at = stops.at;
    after = stops.after;
    split = ap (λ (l : List Task). xs ++ l) stops.split ∙ sym (append_assoc xs stops.before (stops.at ∷ stops.after));
    count_is = ap (λ (k : ℕ). length xs + k) stops.count_is ∙ sym (length-append xs stops.before);
    text = a ++ stops.text;
    part = stops.part;
    m = stops.m;
    done = DoesAll-append xs stops.before old m stops.m a stops.text before stops.done;
    stops = stops.stops;
    whole = ap (λ (l : List ℕ). a ++ l) stops.whole ∙ sym (append_assoc a stops.text stops.part);
  }

  -- ---- what a pass is told to do, and what is printed of it

  -- what stood at the place, and what stands there then
  pub record ChangesAt (place : ℕ) (old new : Places) (seat : Seat) (room : ArrayVec Row) (seat_after : Seat) (room_after : ArrayVec Row)
      : Type 0 where
    pub seat_is : seat ≡ get_or old.seats place seat
    pub room_is : room ≡ get_or old.rooms place room
    pub seats : new.seats ≡ set old.seats place seat_after
    pub rooms : new.rooms ≡ set old.rooms place room_after

  abbrev both : List Seat → List (ArrayVec Row) → Places
  both seats rooms = record { seats = seats; rooms = rooms }

  same_places : (p q : Places) → p.seats ≡ q.seats → p.rooms ≡ q.rooms → p ≡ q
  same_places p q seats rooms =
      ap (λ (l : List Seat). both l p.rooms) seats ∙ ap (λ (l : List (ArrayVec Row)). both q.seats l) rooms

  -- nothing changes where nothing does at the place
  unchanged : (place : ℕ) (old new : Places) (seat : Seat) (room : ArrayVec Row) (seat_after : Seat) (room_after : ArrayVec Row)
      → ChangesAt place old new seat room seat_after room_after → seat_after ≡ seat → room_after ≡ room → new ≡ old
  unchanged place old new seat room seat_after room_after at same same_room =
      same_places new old
      (at.seats ∙ ap (set old.seats place) (same ∙ at.seat_is) ∙ set-get_or old.seats place seat)
      (at.rooms ∙ ap (set old.rooms place) (same_room ∙ at.room_is) ∙ set-get_or old.rooms place room)

  pub TriesAt-unfollowed : {A B : Type 0} (place : ℕ) (said : Said) (old new : Places) (held : Option (List ℕ)) (seat : Seat)
      (room : ArrayVec Row) (seat_after : Seat) (room_after : ArrayVec Row) (r : Result A Stop) (stop : Stop)
      → ChangesAt place old new seat room seat_after room_after
      → (r ≡ Err BadLine) ↔ (fits said (is_idle seat) ≡ false) → IfErr r (λ s. Leaves t s seat room seat_after room_after) → r ≡ Err stop
      → TriesAt {A = B} t place said old new held held (Err stop)
  TriesAt-unfollowed {A} place said old new held seat room seat_after room_after r BadLine at bad leaves err =
      let stays = subst (λ (x : Result A Stop). IfErr x (λ s. Leaves t s seat room seat_after room_after)) err leaves in
      record {
        written = [];
        appends = Appends-nil held;
        comes = (
          record { seat = seat; seat_is = at.seat_is; can_is = bad.0 err },
          refl,
          unchanged place old new seat room seat_after room_after at stays.0 stays.1,
        );
      }
  TriesAt-unfollowed {A} place said old new held seat room seat_after room_after r WriteFault at bad leaves err =
      absurd (subst (λ (x : Result A Stop). IfErr x (λ s. Leaves t s seat room seat_after room_after)) err leaves)
  TriesAt-unfollowed {A} place said old new held seat room seat_after room_after r NoMemory at bad leaves err =
      let good : r ≡ Err BadLine → ⊥ = λ e. cc in
      record {
        written = [];
        appends = Appends-nil held;
        comes = (
          record { seat = seat; seat_is = at.seat_is; can_is = not_false _ (λ e. good (bad.1 e)) },
          record {
            seat = seat;
            room = room;
            seat_after = seat_after;
            room_after = room_after;
            seat_is = at.seat_is;
            room_is = at.room_is;
            seats = at.seats;
            rooms = at.rooms;
            advances = subst (λ (x : Result A Stop). IfErr x (λ s. Leaves t s seat room seat_after room_after)) err leaves;
          },
          refl,
        );
      }

  -- an order that was obeyed, and of which something is told
  advanced : (place : ℕ) (said : Said) (old : Places) (text : List ℕ) (new : Places) → ObeysAt t place said old text new → text ≢ []
      → AdvancesAt t place old new
  advanced place said old text new obeys some = record {
    seat = obeys.seat;
    room = obeys.room;
    seat_after = obeys.seat_after;
    room_after = obeys.room_after;
    seat_is = obeys.seat_is;
    room_is = obeys.room_is;
    seats = obeys.seats;
    rooms = obeys.rooms;
    advances =
        Advances-obeyed t said obeys.seat obeys.seat_after obeys.room.items obeys.room_after.items obeys.told place obeys.obeys
        (λ none. some (obeys.prints ∙ none));
  }

  told_at : {A : Type 0} (place : ℕ) (said : Said) (told : Told) (old new : Places) (held held_after : Option (List ℕ)) (r : Result A Stop)
      → (tells : TellsLine place told held held_after r) → ObeysAt t place said old (told_text place told) new → CanDo place said old true
      → ComesAt t place said old new tells.part r
  told_at place said told old new held held_after (Ok a) tells obeys can =
      subst (λ (l : List ℕ). ObeysAt t place said old l new)
      (tells.whole ∙ ap (λ (l : List ℕ). tells.part ++ l) tells.done ∙ append-nil tells.part) obeys
  told_at place said told old new held held_after (Err BadLine) tells obeys can = absurd tells.stops
  told_at place said told old new held held_after (Err WriteFault) tells obeys can = record {
    text = told_text place told;
    rest = tells.rest;
    done = obeys;
    some = tells.stops;
    whole = tells.whole;
  }
  told_at place said told old new held held_after (Err NoMemory) tells obeys can =
      (can, advanced place said old (told_text place told) new obeys tells.stops.0, tells.stops.1)

  pub TriesAt-told : {A B : Type 0} (place : ℕ) (said : Said) (told : Told) (old new : Places) (held held_after : Option (List ℕ))
      (seat : Seat) (f : Result A Stop) (a : A) (r : Result B Stop) → seat ≡ get_or old.seats place seat
      → (f ≡ Err BadLine) ↔ (fits said (is_idle seat) ≡ false) → f ≡ Ok a
      → TellsLine place told held held_after r → ObeysAt t place said old (told_text place told) new
      → TriesAt t place said old new held held_after r
  TriesAt-told {A} place said told old new held held_after seat f a r is bad ok tells obeys =
      let good : f ≡ Err BadLine → ⊥ = λ e. cc in
      record {
        written = tells.part;
        appends = tells.appends;
        comes =
            told_at place said told old new held held_after r tells obeys
            (record { seat = seat; seat_is = is; can_is = not_false _ (λ e. good (bad.1 e)) });
      }

  -- ---- a line

  line_comes : {A : Type 0} (line : List ℕ) (place : ℕ) (said : Said) (old new : Places) (written : List ℕ) (r : Result A Stop)
      → line_order line ≡ Some (place, said) → ComesAt t place said old new written r → Comes t (obey line) old new written r
  line_comes line place said old new written (Ok a) says obeys = record { place = place; said = said; says = says; obeys = obeys }
  line_comes line place said old new written (Err BadLine) says (can, none, same) =
      (inr (record { place = place; said = said; says = says; can_do = can }), none, same)
  line_comes line place said old new written (Err WriteFault) says cut = record {
    text = cut.text;
    rest = cut.rest;
    done = record { place = place; said = said; says = says; obeys = cut.done };
    some = cut.some;
    whole = cut.whole;
  }
  line_comes line place said old new written (Err NoMemory) says (can, advances, none) =
      (record { place = place; said = said; says = says; can_do = can; advances = advances }, none)

  pub Tries-line : {A : Type 0} (line : List ℕ) (place : ℕ) (said : Said) (old new : Places) (held held_after : Option (List ℕ))
      (r : Result A Stop) → line_order line ≡ Some (place, said) → TriesAt t place said old new held held_after r
      → Tries t (obey line) old new held held_after r
  Tries-line line place said old new held held_after r says tries = record {
    written = tries.written;
    appends = tries.appends;
    comes = line_comes line place said old new tries.written r says tries.comes;
  }

  -- a line that says no order
  pub Tries-none : {A : Type 0} (line : List ℕ) (old : Places) (held : Option (List ℕ)) → line_order line ≡ None
      → Tries {A = A} t (obey line) old old held held (Err BadLine)
  Tries-none line old held none = record { written = []; appends = Appends-nil held; comes = (inl none, refl, refl) }

  -- ---- what is under way at a place

  end_comes : {A : Type 0} (place : ℕ) (old new : Places) (written : List ℕ) (r : Result A Stop) (seat : Seat)
      → seat ≡ get_or old.seats place seat → is_idle seat ≡ false → place < length old.seats → ComesAt t place end old new written r
      → Comes t (end_at place) old new written r
  end_comes place old new written (Ok a) seat is going within obeys = inr obeys
  end_comes place old new written (Err BadLine) seat is going within (can, none, same_end) =
      absurd (let same = read_twice old.seats place seat can.seat is can.seat_is within in
      let not_going : not (is_idle seat) ≡ false = ap (λ (s : Seat). not (is_idle s)) same ∙ can.can_is in
      let not_idle : not (is_idle seat) ≡ true = ap not going in
      cc)
  end_comes place old new written (Err WriteFault) seat is going within cut = record {
    text = cut.text;
    rest = cut.rest;
    done = inr cut.done;
    some = cut.some;
    whole = cut.whole;
  }
  end_comes place old new written (Err NoMemory) seat is going within (can, advances, none) = ((can, advances), none)

  pub Tries-end : {A : Type 0} (place : ℕ) (old new : Places) (held held_after : Option (List ℕ)) (r : Result A Stop) (seat : Seat)
      → seat ≡ get_or old.seats place seat → is_idle seat ≡ false → place < length old.seats
      → TriesAt t place end old new held held_after r → Tries t (end_at place) old new held held_after r
  Tries-end place old new held held_after r seat is going within tries = record {
    written = tries.written;
    appends = tries.appends;
    comes = end_comes place old new tries.written r seat is going within tries.comes;
  }

  pub Tries-idle : {A : Type 0} (place : ℕ) (old : Places) (held : Option (List ℕ)) (a : A) (seat : Seat)
      → seat ≡ get_or old.seats place seat → is_idle seat ≡ true → Tries {A = A} t (end_at place) old old held held (Ok a)
  Tries-idle place old held a seat is idle = record {
    written = [];
    appends = Appends-nil held;
    comes = inl (record { seat = seat; seat_is = is; idle = idle; none = refl; same = refl });
  }

  -- it is never bad to run what is under way to its end
  pub never_bad : {A : Type 0} (place : ℕ) (old new : Places) (held held_after : Option (List ℕ)) (r : Result A Stop)
      → Tries t (end_at place) old new held held_after r → IfErr r (λ s. s ≢ BadLine)
  never_bad place old new held held_after (Ok a) tries = tt
  never_bad place old new held held_after (Err BadLine) tries = absurd (tries.comes.0)
  never_bad place old new held held_after (Err WriteFault) tries = λ e. cc
  never_bad place old new held held_after (Err NoMemory) tries = λ e. cc
