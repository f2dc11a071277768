-- The places of all passes, one by one.
use Rattle.std.proofs.Common.{◌≡◌, ℕ, suc, zero, ◌+◌, ◌<◌, List, [], ◌∷◌, length, ◌≢◌, inl, inr, get_or, get_or-set_other, get_or-set_same, map, All, Some, refl, sym, subst, ap, ◌∙◌, arith}
use Rattle.std.proofs.Math.ListN.{set}
use Rattle.std.proofs.lemmas.Bool.{cases_lt}
use Rattle.std.proofs.lemmas.List.{get_or_default, length-map, set-get_or}
use Rattle.std.proofs.lemmas.List.Elements.{All-map}
use Rattle.arrayvec.specs.ArrayVec.{ArrayVec}
use Rattle.art_model.specs.declared.rows.Row.{Row}
use Rattle.art_server.specs.ArtScan.declared.running.Ending.{Ending}
use Rattle.art_server.specs.ArtTable.Tables.{IsPassOf}
use Rattle.art_server.specs.Sessions.{IsSamePass}
use Rattle.art_schedule.specs.Desks.{AreSeated, AreSettled, IsDesk, Places, SettlesAt}
use Rattle.art_schedule.specs.Schedules.{ArePassesOf, ComeBack}
use Rattle.art_schedule.specs.Seats.{EndsThere, IsSeat, IsIdle, SettlesTo}
use Rattle.art_schedule.specs.declared.desks.Desk.{Desk}
use Rattle.art_server.specs.ArtTable.declared.passes.Pass.{Pass}
use Rattle.art_server.specs.ArtTable.declared.tables.Table.{Table}
use Rattle.art_schedule.specs.declared.seats.Seat.{Seat}
use Rattle.art_schedule.specs.declared.seats.Seat.TheVariants.{Idle, Going, Away}
use Rattle.art_schedule.proofs.Ends.{IsSamePass-refl}

module _ (t : Table) where
  -- as many as there are passes
  pub length-AreSeated : (ps : List Pass) (ss : List Seat) (rs : List (ArrayVec Row)) → AreSeated t ps ss rs
      → (length ss ≡ length ps) × (length rs ≡ length ps)
  length-AreSeated [] [] [] seated = (refl, refl)
  length-AreSeated [] [] (r ∷ rs) seated = absurd seated
  length-AreSeated [] (s ∷ ss) rs seated = absurd seated
  length-AreSeated (p ∷ ps) [] rs seated = absurd seated
  length-AreSeated (p ∷ ps) (s ∷ ss) [] seated = absurd seated
  length-AreSeated (p ∷ ps) (s ∷ ss) (r ∷ rs) (one, rest) =
      let (seats, rooms) = length-AreSeated ps ss rs rest in
      (omega arith, omega arith)

  -- what stands at one place
  pub seat_at : (ps : List Pass) (ss : List Seat) (rs : List (ArrayVec Row)) (k : ℕ) (s : Seat) (r : ArrayVec Row) → AreSeated t ps ss rs
      → k < length ss → (p : Pass) × IsSeat t p (get_or ss k s) (get_or rs k r).items
  seat_at [] [] [] k s r seated within = absurd (omega arith)
  seat_at [] [] (x ∷ rs) k s r seated within = absurd seated
  seat_at [] (y ∷ ss) rs k s r seated within = absurd seated
  seat_at (p ∷ ps) [] rs k s r seated within = absurd seated
  seat_at (p ∷ ps) (y ∷ ss) [] k s r seated within = absurd seated
  seat_at (p ∷ ps) (y ∷ ss) (x ∷ rs) zero s r (one, rest) within = (p, one)
  seat_at (p ∷ ps) (y ∷ ss) (x ∷ rs) (suc k) s r (one, rest) within = seat_at ps ss rs k s r rest (omega arith)

  -- one place changes
  pub AreSeated-set : (ps : List Pass) (ss : List Seat) (rs : List (ArrayVec Row)) (k : ℕ) (s : Seat) (r : ArrayVec Row)
      (seat : Seat) (room : ArrayVec Row)
      → AreSeated t ps ss rs → ((p : Pass) → IsSeat t p (get_or ss k s) (get_or rs k r).items → IsSeat t p seat room.items)
      → AreSeated t ps (set ss k seat) (set rs k room)
  AreSeated-set [] [] [] k s r seat room seated keeps = tt
  AreSeated-set [] [] (x ∷ rs) k s r seat room seated keeps = absurd seated
  AreSeated-set [] (y ∷ ss) rs k s r seat room seated keeps = absurd seated
  AreSeated-set (p ∷ ps) [] rs k s r seat room seated keeps = absurd seated
  AreSeated-set (p ∷ ps) (y ∷ ss) [] k s r seat room seated keeps = absurd seated
  AreSeated-set (p ∷ ps) (y ∷ ss) (x ∷ rs) zero s r seat room (one, rest) keeps = (keeps p one, rest)
  AreSeated-set (p ∷ ps) (y ∷ ss) (x ∷ rs) (suc k) s r seat room (one, rest) keeps = (one, AreSeated-set ps ss rs k s r seat room rest keeps)

  -- idle passes at their places
  pub AreSeated-idle : (ps : List Pass) (rs : List (ArrayVec Row)) → ArePassesOf t ps → length rs ≡ length ps → AreSeated t ps (map Idle ps) rs
  AreSeated-idle [] [] are many = tt
  AreSeated-idle [] (r ∷ rs) are many = absurd (omega arith)
  AreSeated-idle (p ∷ ps) [] are many = absurd (omega arith)
  AreSeated-idle (p ∷ ps) (r ∷ rs) are many =
      ((are zero p refl, IsSamePass-refl p), AreSeated-idle ps rs (λ n q at. are (suc n) q at) (omega arith))

  same_some : (p q : Pass) → Some p ≡ Some q → p ≡ q
  same_some p q e = cc

  pub ComeBack-idle : (ps qs : List Pass) (rs : List (ArrayVec Row)) → AreSeated t ps (map Idle qs) rs → ComeBack t ps qs
  ComeBack-idle [] qs rs seated n p q at there = absurd (cc)
  ComeBack-idle (x ∷ ps) [] rs seated n p q at there = absurd seated
  ComeBack-idle (x ∷ ps) (y ∷ qs) [] seated n p q at there = absurd seated
  ComeBack-idle (x ∷ ps) (y ∷ qs) (r ∷ rs) (one, rest) zero p q at there =
      subst (λ (a : Pass). IsPassOf t q × IsSamePass a q) (same_some x p at)
      (subst (λ (b : Pass). IsPassOf t b × IsSamePass x b) (same_some y q there) one)
  ComeBack-idle (x ∷ ps) (y ∷ qs) (r ∷ rs) (one, rest) (suc n) p q at there = ComeBack-idle ps qs rs rest n p q at there

-- eight elements, each as it is taken out, and the same as another
pub eight_are : {X : Type 0} (xs : List X) (a b c d e f g h a' b' c' d' e' f' g' h' : X) → length xs ≡ 8
    → a ≡ get_or xs 0 a → b ≡ get_or xs 1 b → c ≡ get_or xs 2 c → d ≡ get_or xs 3 d
    → e ≡ get_or xs 4 e → f ≡ get_or xs 5 f → g ≡ get_or xs 6 g → h ≡ get_or xs 7 h
    → a ≡ a' → b ≡ b' → c ≡ c' → d ≡ d' → e ≡ e' → f ≡ f' → g ≡ g' → h ≡ h'
    → a' ∷ b' ∷ c' ∷ d' ∷ e' ∷ f' ∷ g' ∷ h' ∷ [] ≡ xs
eight_are [] a b c d e f g h a' b' c' d' e' f' g' h' eight ea eb ec ed ee ef eg eh sa sb sc sd se sf sg sh = absurd (omega arith)
eight_are (i ∷ []) a b c d e f g h a' b' c' d' e' f' g' h' eight ea eb ec ed ee ef eg eh sa sb sc sd se sf sg sh = absurd (omega arith)
eight_are (i ∷ j ∷ []) a b c d e f g h a' b' c' d' e' f' g' h' eight ea eb ec ed ee ef eg eh sa sb sc sd se sf sg sh = absurd (omega arith)
eight_are (i ∷ j ∷ k ∷ []) a b c d e f g h a' b' c' d' e' f' g' h' eight ea eb ec ed ee ef eg eh sa sb sc sd se sf sg sh = absurd (omega arith)
eight_are (i ∷ j ∷ k ∷ l ∷ []) a b c d e f g h a' b' c' d' e' f' g' h' eight ea eb ec ed ee ef eg eh sa sb sc sd se sf sg sh = absurd (omega arith)
eight_are (i ∷ j ∷ k ∷ l ∷ m ∷ []) a b c d e f g h a' b' c' d' e' f' g' h' eight ea eb ec ed ee ef eg eh sa sb sc sd se sf sg sh = absurd (omega arith)
eight_are (i ∷ j ∷ k ∷ l ∷ m ∷ n ∷ []) a b c d e f g h a' b' c' d' e' f' g' h' eight ea eb ec ed ee ef eg eh sa sb sc sd se sf sg sh = absurd (omega arith)
eight_are (i ∷ j ∷ k ∷ l ∷ m ∷ n ∷ o ∷ []) a b c d e f g h a' b' c' d' e' f' g' h' eight ea eb ec ed ee ef eg eh sa sb sc sd se sf sg sh = absurd (omega arith)
eight_are (i ∷ j ∷ k ∷ l ∷ m ∷ n ∷ o ∷ p ∷ []) a b c d e f g h a' b' c' d' e' f' g' h' eight ea eb ec ed ee ef eg eh sa sb sc sd se sf sg sh =
    let ia : a' ≡ i = sym sa ∙ ea in
    let ib : b' ≡ j = sym sb ∙ eb in
    let ic : c' ≡ k = sym sc ∙ ec in
    let id : d' ≡ l = sym sd ∙ ed in
    let ie : e' ≡ m = sym se ∙ ee in
    let if : f' ≡ n = sym sf ∙ ef in
    let ig : g' ≡ o = sym sg ∙ eg in
    let ih : h' ≡ p = sym sh ∙ eh in
    cc
eight_are (i ∷ j ∷ k ∷ l ∷ m ∷ n ∷ o ∷ p ∷ q ∷ rest) a b c d e f g h a' b' c' d' e' f' g' h' eight ea eb ec ed ee ef eg eh sa sb sc sd se sf sg sh = absurd (omega arith)

-- idle seats that are made of passes
pub all_idle : (ps : List Pass) → All IsIdle (map Idle ps)
all_idle ps = All-map IsIdle Idle ps (λ k d within. refl)

map_same : (ps qs : List Pass) → map Idle ps ≡ map Idle qs → ps ≡ qs
map_same [] [] e = refl
map_same [] (q ∷ qs) e = absurd (cc)
map_same (p ∷ ps) [] e = absurd (cc)
map_same (p ∷ ps) (q ∷ qs) e =
    let head : p ≡ q = cc in
    let rest : map Idle ps ≡ map Idle qs = cc in
    ap (λ (x : Pass). x ∷ ps) head ∙ ap (λ (l : List Pass). q ∷ l) (map_same ps qs rest)

pub passes_same : (ps qs : List Pass) (failed seats : List Seat) → map Idle qs ≡ failed → failed ≡ seats → seats ≡ map Idle ps → qs ≡ ps
passes_same ps qs failed seats a b c = map_same qs ps (a ∙ b ∙ c)

-- ---- a desk

module _ (t : Table) where
  pub IsDesk-open : (ps : List Pass) (desk : Desk) (seats : List Seat) → desk.seats.items ≡ seats → seats ≡ map Idle ps → length seats ≡ 8
      → length desk.rooms.items ≡ 8 → ArePassesOf t ps → IsDesk t ps desk
  IsDesk-open ps desk seats is made eight rooms are =
      let many : length ps ≡ 8 = omega (arith, length-map {A = Pass} {B = Seat} ps (λ p. Idle p), ap (length {A = Seat}) made, eight) in
      record {
        eight = many;
        seated =
            subst (λ (l : List Seat). AreSeated t ps l desk.rooms.items) (sym (is ∙ made)) (AreSeated-idle t ps desk.rooms.items are (omega arith));
      }

  pub eight_seats : (ps : List Pass) (desk : Desk) → IsDesk t ps desk → length desk.seats.items ≡ 8
  eight_seats ps desk is =
      let eight = is.eight in
      omega (arith, (length-AreSeated t ps desk.seats.items desk.rooms.items is.seated).0)

  pub eight_rooms : (ps : List Pass) (desk : Desk) → IsDesk t ps desk → length desk.rooms.items ≡ 8
  eight_rooms ps desk is =
      let eight = is.eight in
      omega (arith, (length-AreSeated t ps desk.seats.items desk.rooms.items is.seated).1)

  -- what stands at one place
  pub desk_at : (ps : List Pass) (desk : Desk) (k : ℕ) (s : Seat) (r : ArrayVec Row) → IsDesk t ps desk → k < 8
      → s ≡ get_or desk.seats.items k s → r ≡ get_or desk.rooms.items k r
      → (p : Pass) × IsSeat t p s r.items
  desk_at ps desk k s r is within seat room =
      let (p, at) = seat_at t ps desk.seats.items desk.rooms.items k s r is.seated (omega (arith, eight_seats ps desk is)) in
      (p, subst (λ (x : Seat). IsSeat t p x r.items) (sym seat) (subst (λ (x : ArrayVec Row). IsSeat t p (get_or desk.seats.items k s) x.items) (sym room) at))

  -- one place changes
  pub IsDesk-at : (ps : List Pass) (desk desk_after : Desk) (k : ℕ) (s : Seat) (r : ArrayVec Row) (seat : Seat) (room : ArrayVec Row)
      → s ≡ get_or desk.seats.items k s → r ≡ get_or desk.rooms.items k r
      → desk_after.seats.items ≡ set desk.seats.items k seat → desk_after.rooms.items ≡ set desk.rooms.items k room
      → ((p : Pass) → IsSeat t p s r.items → IsSeat t p seat room.items)
      → IsDesk t ps desk → IsDesk t ps desk_after
  IsDesk-at ps desk desk_after k s r seat room at there seats rooms keeps is = record {
    eight = is.eight;
    seated =
        subst (λ (l : List Seat). AreSeated t ps l desk_after.rooms.items) (sym seats)
        (subst (λ (l : List (ArrayVec Row)). AreSeated t ps (set desk.seats.items k seat) l) (sym rooms)
        (AreSeated-set t ps desk.seats.items desk.rooms.items k s r seat room is.seated
        (λ p here. keeps p (subst (λ (x : Seat). IsSeat t p x r.items) (sym at)
        (subst (λ (x : ArrayVec Row). IsSeat t p (get_or desk.seats.items k s) x.items) (sym there) here)))));
  }

  pub ComeBack-close : (ps qs : List Pass) (desk : Desk) (seats : List Seat) → seats ≡ desk.seats.items → map Idle qs ≡ seats → IsDesk t ps desk
      → ComeBack t ps qs
  ComeBack-close ps qs desk seats is made desk_is =
      ComeBack-idle t ps qs desk.rooms.items
      (subst (λ (l : List Seat). AreSeated t ps l desk.rooms.items) (sym (made ∙ is)) desk_is.seated)

-- ---- places that are settled

-- an idle seat has the pass that is idle there
idle_pass : (seat : Seat) → IsIdle seat → (q : Pass) × (seat ≡ Idle q)
idle_pass (Idle q) idle = (q, refl)
idle_pass (Going r) idle = absurd (cc)
idle_pass Away idle = absurd (cc)

room_at : (rooms : List (ArrayVec Row)) (place : ℕ) → place < length rooms → (room : ArrayVec Row) × (room ≡ get_or rooms place room)
room_at [] place within = absurd (omega arith)
room_at (r ∷ rooms) zero within = (r, refl)
room_at (r ∷ rooms) (suc place) within = room_at rooms place (omega arith)

module _ (t : Table) where
  -- a place that is settled stays
  pub SettlesAt-none : (place : ℕ) (places : Places) (seat : Seat) → seat ≡ get_or places.seats place seat → IsIdle seat
      → place < length places.rooms → SettlesAt t place places places
  SettlesAt-none place places seat at idle within =
      let pass = idle_pass seat idle in
      let room = room_at places.rooms place within in
      record {
        seat = seat;
        room = room.0;
        back = pass.0;
        room_after = room.0;
        seat_is = at;
        room_is = room.1;
        settles = subst (λ (s : Seat). SettlesTo t s room.0.items pass.0) (sym pass.1) refl;
        seats = sym (ap (set places.seats place) (sym pass.1 ∙ at) ∙ set-get_or places.seats place seat);
        rooms = sym (ap (set places.rooms place) room.1 ∙ set-get_or places.rooms place room.0);
      }

  -- what is under way at a place was run to its end
  pub SettlesAt-end : (place : ℕ) (old new : Places) (seat : Seat) (room : ArrayVec Row) (seat_after : Seat) (room_after : ArrayVec Row)
      (ending : Ending) (restarts : ℕ)
      → seat ≡ get_or old.seats place seat → room ≡ get_or old.rooms place room
      → new.seats ≡ set old.seats place seat_after → new.rooms ≡ set old.rooms place room_after
      → EndsThere t seat room.items seat_after room_after.items ending restarts → SettlesAt t place old new
  SettlesAt-end place old new seat room seat_after room_after ending restarts seat_is room_is seats rooms ends = record {
    seat = seat;
    room = room;
    back = ends.pass;
    room_after = room_after;
    seat_is = seat_is;
    room_is = room_is;
    settles =
        subst (λ (s : Seat). SettlesTo t s room.items ends.pass) (sym ends.was)
        (record { ending = ending; restarts = restarts; rows_after = room_after.items; finishes = ends.finishes });
    seats = seats ∙ ap (set old.seats place) ends.now;
    rooms = rooms;
  }

  -- ---- one place after another

  -- what is there then is the pass that comes back of the place
  pub record IsSettled (old : Seat) (rows : List Row) (new : Seat) : Type 0 where
    pub back : Pass
    pub now : new ≡ Idle back
    pub settles : SettlesTo t old rows back

  -- at the first places the pass that comes back is idle, and at the others what was there stays
  abbrev pub AreSettledUpTo : ℕ → List Seat → List (ArrayVec Row) → List Seat → List (ArrayVec Row) → Type 0
  AreSettledUpTo zero ss rs ss_after rs_after = (ss_after ≡ ss) × (rs_after ≡ rs)
  AreSettledUpTo (suc n) (s ∷ ss) (r ∷ rs) (a ∷ ss_after) (b ∷ rs_after) = IsSettled s r.items a × AreSettledUpTo n ss rs ss_after rs_after
  AreSettledUpTo (suc n) ss rs ss_after rs_after = ⊥

  one_more : (n : ℕ) (ss : List Seat) (rs : List (ArrayVec Row)) (ss_mid : List Seat) (rs_mid : List (ArrayVec Row)) (seat : Seat)
      (room : ArrayVec Row) (back : Pass) (room_after : ArrayVec Row)
      → n < length ss_mid → n < length rs_mid → seat ≡ get_or ss_mid n seat → room ≡ get_or rs_mid n room → SettlesTo t seat room.items back
      → AreSettledUpTo n ss rs ss_mid rs_mid → AreSettledUpTo (suc n) ss rs (set ss_mid n (Idle back)) (set rs_mid n room_after)
  one_more zero [] rs ss_mid rs_mid seat room back room_after below below_room seat_is room_is settles (same, same_room) =
      absurd (omega (arith, ap (length {A = Seat}) same))
  one_more zero (s ∷ ss) [] ss_mid rs_mid seat room back room_after below below_room seat_is room_is settles (same, same_room) =
      absurd (omega (arith, ap (length {A = ArrayVec Row}) same_room))
  one_more zero (s ∷ ss) (r ∷ rs) ss_mid rs_mid seat room back room_after below below_room seat_is room_is settles (same, same_room) =
      let at : seat ≡ s = seat_is ∙ ap (λ (l : List Seat). get_or l 0 seat) same in
      let there : room ≡ r = room_is ∙ ap (λ (l : List (ArrayVec Row)). get_or l 0 room) same_room in
      rw (same, same_room) (
        record {
          back = back;
          now = refl;
          settles =
              subst (λ (x : Seat). SettlesTo t x r.items back) at (subst (λ (x : ArrayVec Row). SettlesTo t seat x.items back) there settles);
        },
        (refl, refl),
      )
  one_more (suc n) [] rs ss_mid rs_mid seat room back room_after below below_room seat_is room_is settles so_far = absurd so_far
  one_more (suc n) (s ∷ ss) [] ss_mid rs_mid seat room back room_after below below_room seat_is room_is settles so_far = absurd so_far
  one_more (suc n) (s ∷ ss) (r ∷ rs) [] rs_mid seat room back room_after below below_room seat_is room_is settles so_far = absurd so_far
  one_more (suc n) (s ∷ ss) (r ∷ rs) (a ∷ ss_mid) [] seat room back room_after below below_room seat_is room_is settles so_far = absurd so_far
  one_more (suc n) (s ∷ ss) (r ∷ rs) (a ∷ ss_mid) (b ∷ rs_mid) seat room back room_after below below_room seat_is room_is settles so_far =
      (so_far.0, one_more n ss rs ss_mid rs_mid seat room back room_after (omega arith) (omega arith) seat_is room_is settles so_far.1)

  pub AreSettledUpTo-more : (n : ℕ) (start mid new : Places) → n < length mid.seats → n < length mid.rooms
      → AreSettledUpTo n start.seats start.rooms mid.seats mid.rooms → SettlesAt t n mid new
      → AreSettledUpTo (n + 1) start.seats start.rooms new.seats new.rooms
  AreSettledUpTo-more n start mid new below below_room so_far at =
      let next : suc n ≡ n + 1 = omega arith in
      subst (λ (k : ℕ). AreSettledUpTo k start.seats start.rooms new.seats new.rooms) next
      (subst (λ (l : List Seat). AreSettledUpTo (suc n) start.seats start.rooms l new.rooms) (sym at.seats)
      (subst (λ (l : List (ArrayVec Row)). AreSettledUpTo (suc n) start.seats start.rooms (set mid.seats n (Idle at.back)) l) (sym at.rooms)
      (one_more n start.seats start.rooms mid.seats mid.rooms at.seat at.room at.back at.room_after below below_room at.seat_is at.room_is
      at.settles so_far)))

  same_pass : (p q : Pass) → Idle p ≡ Idle q → p ≡ q
  same_pass p q e = cc

  -- so these passes come back
  pub AreSettled-all : (n : ℕ) (ss : List Seat) (rs : List (ArrayVec Row)) (ss_after : List Seat) (rs_after : List (ArrayVec Row))
      (back : List Pass) → length ss ≡ n → length rs ≡ n → map Idle back ≡ ss_after → AreSettledUpTo n ss rs ss_after rs_after
      → AreSettled t ss rs back
  AreSettled-all zero [] [] ss_after rs_after [] many many_rooms is up_to = tt
  AreSettled-all zero [] [] ss_after rs_after (q ∷ back) many many_rooms is (same, same_room) = absurd (let none = is ∙ same in cc)
  AreSettled-all zero [] (r ∷ rs) ss_after rs_after back many many_rooms is up_to = absurd (omega arith)
  AreSettled-all zero (s ∷ ss) rs ss_after rs_after back many many_rooms is up_to = absurd (omega arith)
  AreSettled-all (suc n) [] rs ss_after rs_after back many many_rooms is up_to = absurd (omega arith)
  AreSettled-all (suc n) (s ∷ ss) [] ss_after rs_after back many many_rooms is up_to = absurd (omega arith)
  AreSettled-all (suc n) (s ∷ ss) (r ∷ rs) [] rs_after back many many_rooms is up_to = absurd up_to
  AreSettled-all (suc n) (s ∷ ss) (r ∷ rs) (a ∷ ss_after) [] back many many_rooms is up_to = absurd up_to
  AreSettled-all (suc n) (s ∷ ss) (r ∷ rs) (a ∷ ss_after) (b ∷ rs_after) [] many many_rooms is up_to = absurd (cc)
  AreSettled-all (suc n) (s ∷ ss) (r ∷ rs) (a ∷ ss_after) (b ∷ rs_after) (q ∷ back) many many_rooms is (one, others) =
      let head : Idle q ≡ a = cc in
      let rest : map Idle back ≡ ss_after = cc in
      let same : one.back ≡ q = same_pass one.back q (sym one.now ∙ sym head) in (
        subst (λ (p : Pass). SettlesTo t s r.items p) same one.settles,
        AreSettled-all n ss rs ss_after rs_after back (omega arith) (omega arith) rest others,
      )

-- what is read twice is the same
pub read_twice : (seats : List Seat) (place : ℕ) (a b : Seat) → a ≡ get_or seats place a → b ≡ get_or seats place b → place < length seats → a ≡ b
read_twice seats place a b one other within = one ∙ get_or_default seats place a b within ∙ sym other

-- another place is idle
pub idle_more : (place : ℕ) (old new : List Seat) (back : Pass) → ((k : ℕ) (d : Seat) → k < place → IsIdle (get_or old k d))
    → new ≡ set old place (Idle back) → place < length old → (k : ℕ) (d : Seat) → k < place + 1 → IsIdle (get_or new k d)
idle_more place old new back before changed within k d less =
    subst (λ (l : List Seat). IsIdle (get_or l k d)) (sym changed)
    (elim (cases_lt k place) [
      | inl below ↦ (
          let other : k ≢ place = omega arith in
          rw (get_or-set_other) (before k d below))
      | inr at ↦ (
          let same : k ≡ place = omega arith in
          rw same (rw get_or-set_same refl))
    ])
