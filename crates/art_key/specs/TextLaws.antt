-- Texts of a column keep the laws of a kind.
use Rattle.std.proofs.Common.{◌≡◌, ℕ, zero, suc, ◌+◌, ◌*◌, ◌/◌, ◌%◌, ◌<◌, ◌≤◌, Bool, true, false, cond, ltb, eqb, List, [], ◌∷◌, ◌++◌, length, flat_map, Option, Some, None, encode_utf8_all, refl, sym, ap, subst, subst₂, ◌∙◌, inl, inr, arith, nat_cmp, Less, Greater, eqb-true, ne_eqb, ltb-true, ltb-false, append_assoc, length-append}
use Rattle.std.proofs.lemmas.Bool.{and_parts}
use Rattle.std.proofs.lemmas.Option.{some_pair_parts}
use Rattle.std.proofs.lemmas.Str.{IsUtf8-from_is_utf8}
use Rattle.std.proofs.Math.Utf8.{scalar, scalars, scalar_cases}
use Rattle.std.specs.Char.{encode_utf8}
use Rattle.std.specs.Ordering.{ordering_then}
use Rattle.std.specs.Option.{option_and_then}
use Rattle.std.specs.Cmp.Lexicographic.{slice_cmp}
use Rattle.std.specs.Str.{is_utf8}
use Rattle.art_model.specs.declared.values.Value.{Value}
use Rattle.art_model.specs.declared.values.Value.TheVariants as values
use Rattle.art_model.specs.Values.{value_cmp}
use Rattle.art_key.specs.declared.faults.ValueFault.TheVariants.{WrongType, TextTooLong}
use Rattle.art_key.specs.Kinds.{AreBytes, IsCoding, text_fault, escaped, text_spelling, with_byte, unescaped, short_text, front_text, text}
use Rattle.art_key.specs.Orders.{ordering_then_assoc, nat_cmp_less, nat_cmp_greater}
use Rattle.art_key.specs.Numbers.{AreBytes-append}

-- ---- a text, its end and what comes after it

abbrev pub ended : List ℕ → List ℕ → List ℕ
ended t rest = flat_map escaped t ++ 0 ∷ 0 ∷ rest

ended_is : (t rest : List ℕ) → (flat_map escaped t ++ 0 ∷ 0 ∷ []) ++ rest ≡ ended t rest
ended_is t rest = append_assoc (flat_map escaped t) (0 ∷ 0 ∷ []) rest

ended_other : (n : ℕ) (t rest : List ℕ) → ended (suc n ∷ t) rest ≡ suc n ∷ ended t rest
ended_other n t rest = ap (λ (front : List ℕ). (front ++ flat_map escaped t) ++ 0 ∷ 0 ∷ rest) (escaped_other n)
  where
    escaped_other : (n : ℕ) → escaped (suc n) ≡ suc n ∷ []
    escaped_other n = rw (ne_eqb (suc n) 0 (λ e. omega arith)) refl

-- ---- the order

-- the first bytes decide
first_less : (b c : ℕ) (x y : List ℕ) → b < c → slice_cmp nat_cmp (b ∷ x) (c ∷ y) ≡ Less
first_less b c x y lt = ap (λ o. ordering_then o (slice_cmp nat_cmp x y)) (nat_cmp_less b c lt)

first_greater : (b c : ℕ) (x y : List ℕ) → c < b → slice_cmp nat_cmp (b ∷ x) (c ∷ y) ≡ Greater
first_greater b c x y gt = ap (λ o. ordering_then o (slice_cmp nat_cmp x y)) (nat_cmp_greater b c gt)

lists_order : (s t x y : List ℕ) → slice_cmp nat_cmp (ended s x) (ended t y) ≡ ordering_then (slice_cmp nat_cmp s t) (slice_cmp nat_cmp x y)
lists_order [] [] x y = refl
lists_order [] (zero ∷ t) x y = refl
lists_order [] (suc n ∷ t) x y =
    ap (slice_cmp nat_cmp (0 ∷ 0 ∷ x)) (ended_other n t y) ∙ first_less 0 (suc n) (0 ∷ x) (ended t y) (omega arith)
lists_order (zero ∷ s) [] x y = refl
lists_order (suc m ∷ s) [] x y =
    ap (λ (a : List ℕ). slice_cmp nat_cmp a (0 ∷ 0 ∷ y)) (ended_other m s x) ∙ first_greater (suc m) 0 (ended s x) (0 ∷ y) (omega arith)
lists_order (zero ∷ s) (zero ∷ t) x y = lists_order s t x y
lists_order (zero ∷ s) (suc n ∷ t) x y =
    ap (slice_cmp nat_cmp (ended (0 ∷ s) x)) (ended_other n t y)
    ∙ first_less 0 (suc n) (255 ∷ ended s x) (ended t y) (omega arith)
    ∙ ap (λ o. ordering_then o (slice_cmp nat_cmp x y)) (sym (first_less 0 (suc n) s t (omega arith)))
lists_order (suc m ∷ s) (zero ∷ t) x y =
    ap (λ (a : List ℕ). slice_cmp nat_cmp a (ended (0 ∷ t) y)) (ended_other m s x)
    ∙ first_greater (suc m) 0 (ended s x) (255 ∷ ended t y) (omega arith)
    ∙ ap (λ o. ordering_then o (slice_cmp nat_cmp x y)) (sym (first_greater (suc m) 0 s t (omega arith)))
lists_order (suc m ∷ s) (suc n ∷ t) x y =
    rw (ended_other m s x, ended_other n t y) (
    ap (ordering_then (nat_cmp (suc m) (suc n))) (lists_order s t x y) ∙ ordering_then_assoc (nat_cmp (suc m) (suc n)) (slice_cmp nat_cmp s t) (slice_cmp nat_cmp x y)
    )

-- ---- reading

unescaped_other : (n : ℕ) (bytes : List ℕ) → unescaped (suc n ∷ bytes) ≡ with_byte (suc n) (unescaped bytes)
unescaped_other n [] = refl
unescaped_other n (c ∷ bytes) = rw (ne_eqb (suc n) 0 (λ e. omega arith)) refl

unescaped_again : (t rest : List ℕ) → unescaped (ended t rest) ≡ Some (t, rest)
unescaped_again [] rest = refl
unescaped_again (zero ∷ t) rest = ap (with_byte 0) (unescaped_again t rest)
unescaped_again (suc n ∷ t) rest = ap unescaped (ended_other n t rest) ∙ unescaped_other n (ended t rest) ∙ ap (with_byte (suc n)) (unescaped_again t rest)

-- what is read is a text with its end
abbrev IsEnded : List ℕ → Type 0
IsEnded bytes = (t rest : List ℕ) → unescaped bytes ≡ Some (t, rest) → bytes ≡ ended t rest

with_byte_some : (b : ℕ) (o : Option (List ℕ × List ℕ)) (t rest : List ℕ) → with_byte b o ≡ Some (t, rest) → (u : List ℕ) × (o ≡ Some (u, rest)) × (t ≡ b ∷ u)
with_byte_some b None t rest e = absurd cc
with_byte_some b (Some p) t rest e =
    let parts = some_pair_parts (b ∷ p.0) t p.1 rest e in
    (p.0, same_rest p parts.1, sym parts.0)
  where
    same_rest : (p : List ℕ × List ℕ) → p.1 ≡ rest → ◌≡◌ {A = Option (List ℕ × List ℕ)} (Some p) (Some (p.0, rest))
    same_rest p e = ap (λ (r : List ℕ). Some (p.0, r)) e

unescaped_takes : (bytes : List ℕ) → IsEnded bytes
unescaped_takes [] t rest e = absurd cc
unescaped_takes (b ∷ []) t rest e = absurd cc
unescaped_takes (zero ∷ c ∷ bytes) t rest e = after_zero c bytes (unescaped_takes bytes) (eqb c 0) (eqb c 255) refl refl t rest e
  where
    after_zero : (c : ℕ) (bytes : List ℕ) → IsEnded bytes → (z f : Bool) → eqb c 0 ≡ z → eqb c 255 ≡ f → (t rest : List ℕ)
        → cond z (Some ([], bytes)) (cond f (with_byte 0 (unescaped bytes)) None) ≡ Some (t, rest) → 0 ∷ c ∷ bytes ≡ ended t rest
    after_zero c bytes later true f is-zero is-last t rest e =
        let parts = some_pair_parts [] t bytes rest e in
        subst₂ (λ (u r : List ℕ). 0 ∷ c ∷ bytes ≡ ended u r) parts.0 parts.1 (ap (λ (x : ℕ). 0 ∷ x ∷ bytes) (eqb-true c 0 is-zero))
    after_zero c bytes later false true is-zero is-last t rest e =
        let more = with_byte_some 0 (unescaped bytes) t rest e in
        subst (λ (u : List ℕ). 0 ∷ c ∷ bytes ≡ ended u rest) (sym more.2) (
        ap (λ (x : ℕ). 0 ∷ x ∷ bytes) (eqb-true c 255 is-last) ∙ ap (λ (xs : List ℕ). 0 ∷ 255 ∷ xs) (later more.0 rest more.1)
        )
    after_zero c bytes later false false is-zero is-last t rest e = absurd cc
unescaped_takes (suc n ∷ c ∷ bytes) t rest e =
    let more = with_byte_some (suc n) (unescaped (c ∷ bytes)) t rest (sym (unescaped_other n (c ∷ bytes)) ∙ e) in
    subst (λ (u : List ℕ). suc n ∷ c ∷ bytes ≡ ended u rest) (sym more.2) (
    ap (λ (xs : List ℕ). suc n ∷ xs) (unescaped_takes (c ∷ bytes) more.0 rest more.1) ∙ sym (ended_other n more.0 rest)
    )

-- ---- bytes

cond_bytes : (b : Bool) (x y : List ℕ) → (b ≡ true → AreBytes x) → (b ≡ false → AreBytes y) → AreBytes (cond b x y)
cond_bytes true x y f g = f refl
cond_bytes false x y f g = g refl

encode_bytes : (c : ℕ) → c < 1114112 → AreBytes (encode_utf8 c)
unfolding encode_utf8
encode_bytes c lt = cond_bytes (ltb c 128) _ _ one (λ p. cond_bytes (ltb c 2048) _ _ (two p) (λ q. cond_bytes (ltb c 65536) _ _ (three q) (λ r. four r)))
  where
    one : ltb c 128 ≡ true → AreBytes (c ∷ [])
    one p = let low : c < 128 = ltb-true c 128 p in (omega arith, tt)

    two : ltb c 128 ≡ false → ltb c 2048 ≡ true → AreBytes ((192 + c / 64) ∷ (128 + c % 64) ∷ [])
    two p q = let low : c < 2048 = ltb-true c 2048 q in (omega arith, (omega arith, tt))

    three : ltb c 2048 ≡ false → ltb c 65536 ≡ true → AreBytes ((224 + c / 4096) ∷ (128 + c / 64 % 64) ∷ (128 + c % 64) ∷ [])
    three q r = let low : c < 65536 = ltb-true c 65536 r in (omega arith, (omega arith, (omega arith, tt)))

    four : ltb c 65536 ≡ false → AreBytes ((240 + c / 262144) ∷ (128 + c / 4096 % 64) ∷ (128 + c / 64 % 64) ∷ (128 + c % 64) ∷ [])
    four r = (omega arith, (omega arith, (omega arith, (omega arith, tt))))

scalar_below : (c : ℕ) → scalar c ≡ true → c < 1114112
scalar_below c ok =
    elim (scalar_cases c ok) [
      | inl low ↦ omega arith
      | inr high ↦ high.1
    ]

encodes_bytes : (cs : List ℕ) → scalars cs ≡ true → AreBytes (encode_utf8_all cs)
encodes_bytes [] ok = tt
encodes_bytes (c ∷ cs) ok =
    let both = and_parts (scalar c) (scalars cs) ok in
    AreBytes-append (encode_utf8 c) (encode_utf8_all cs) (encode_bytes c (scalar_below c both.0)) (encodes_bytes cs both.1)

utf8_bytes : (t : List ℕ) → is_utf8 t ≡ true → AreBytes t
utf8_bytes t ok =
    let spelled = IsUtf8-from_is_utf8 t ok in
    subst AreBytes spelled.1.1 (encodes_bytes spelled.0 spelled.1.0)

escaped_bytes : (b : ℕ) → b < 256 → AreBytes (escaped b)
escaped_bytes b lt = cond_bytes (eqb b 0) (0 ∷ 255 ∷ []) (b ∷ []) (λ e. (omega arith, (omega arith, tt))) (λ e. (lt, tt))

escapes_bytes : (t : List ℕ) → AreBytes t → AreBytes (flat_map escaped t)
escapes_bytes [] are = tt
escapes_bytes (b ∷ t) are = AreBytes-append (escaped b) (flat_map escaped t) (escaped_bytes b are.0) (escapes_bytes t are.1)

-- an escaped text is at most twice as long
length-escaped : (b : ℕ) → length (escaped b) ≤ 2
length-escaped b = either (eqb b 0)
  where
    either : (z : Bool) → length (cond z (0 ∷ 255 ∷ []) (b ∷ [])) ≤ 2
    either true = omega arith
    either false = omega arith

pub length-escapes : (t : List ℕ) → length (flat_map escaped t) ≤ 2 * length t
length-escapes [] = omega arith
length-escapes (b ∷ t) = omega (arith, length-append (escaped b) (flat_map escaped t), length-escaped b, length-escapes t)

-- ---- a text of a column

-- what stands is a text that is not too long
text_is : (longest place : ℕ) (v : Value) → text_fault longest place v ≡ None → (t : List ℕ) × (v ≡ values.Text t) × (ltb longest (length t) ≡ false) × (is_utf8 t ≡ true)
text_is longest place (values.Bool b) e = absurd cc
text_is longest place (values.Int z) e = absurd cc
text_is longest place (values.Text t) e = let both = none_none (ltb longest (length t)) (is_utf8 t) e in (t, refl, both.0, both.1)
  where
    none_none : (long utf8 : Bool) → cond long (Some (TextTooLong place)) (cond utf8 None (Some (WrongType place))) ≡ None → (long ≡ false) × (utf8 ≡ true)
    none_none true utf8 e = absurd cc
    none_none false true e = (refl, refl)
    none_none false false e = absurd cc

text_order : (longest place other : ℕ) (u v : Value) (x y : List ℕ) → text_fault longest place u ≡ None → text_fault longest other v ≡ None
    → slice_cmp nat_cmp (text_spelling u ++ x) (text_spelling v ++ y) ≡ ordering_then (value_cmp u v) (slice_cmp nat_cmp x y)
text_order longest place other u v x y u-stands v-stands =
    let a = text_is longest place u u-stands in
    let b = text_is longest other v v-stands in
    let texts : slice_cmp nat_cmp (text_spelling (values.Text a.0) ++ x) (text_spelling (values.Text b.0) ++ y) ≡ ordering_then (slice_cmp nat_cmp a.0 b.0) (slice_cmp nat_cmp x y) =
    rw (ended_is a.0 x, ended_is b.0 y) (lists_order a.0 b.0 x y) in
    subst₂ (λ (s t : Value). slice_cmp nat_cmp (text_spelling s ++ x) (text_spelling t ++ y) ≡ ordering_then (value_cmp s t) (slice_cmp nat_cmp x y)) (sym a.1) (sym b.1) texts

text_again : (longest place : ℕ) (v : Value) (rest : List ℕ) → text_fault longest place v ≡ None → front_text longest (text_spelling v ++ rest) ≡ Some (v, rest)
text_again longest place v rest stands =
    let a = text_is longest place v stands in
    let read : front_text longest (text_spelling (values.Text a.0) ++ rest) ≡ Some (values.Text a.0, rest) =
    rw (ended_is a.0 rest, unescaped_again a.0 rest, a.2, a.3) refl in
    subst (λ (s : Value). front_text longest (text_spelling s ++ rest) ≡ Some (s, rest)) (sym a.1) read

bind_some : {A B : Type 0} (o : Option A) (f : A → Option B) (y : B) → option_and_then f o ≡ Some y → (x : A) × (o ≡ Some x) × (f x ≡ Some y)
bind_some None f y e = absurd cc
bind_some (Some x) f y e = (x, refl, e)

text_takes : (longest place : ℕ) (v : Value) (bytes rest : List ℕ) → AreBytes bytes → front_text longest bytes ≡ Some (v, rest)
    → (text_fault longest place v ≡ None) × (bytes ≡ text_spelling v ++ rest)
text_takes longest place v bytes rest are e =
    let read = bind_some (unescaped bytes) (short_text longest) (v, rest) e in
    let t = read.0.0 in
    let after = read.0.1 in
    let short = some_some (ltb longest (length t)) (is_utf8 t) (values.Text t) after read.2 in
    let stands : text_fault longest place (values.Text t) ≡ None = rw (short.0, short.1) refl in
    let front : bytes ≡ text_spelling (values.Text t) ++ after = rw (ended_is t after) (unescaped_takes bytes t after read.1) in
    subst₂ (λ (u : Value) (r : List ℕ). (text_fault longest place u ≡ None) × (bytes ≡ text_spelling u ++ r)) short.2 short.3 (stands, front)
  where
    some_some : (long utf8 : Bool) (u : Value) (after : List ℕ) → cond {A = Option (Value × List ℕ)} long None (cond utf8 (Some (u, after)) None) ≡ Some (v, rest) → (long ≡ false) × (utf8 ≡ true) × (u ≡ v) × (after ≡ rest)
    some_some true utf8 u after e = absurd cc
    some_some false true u after e = let parts = some_pair_parts u v after rest e in (refl, refl, parts.0, parts.1)
    some_some false false u after e = absurd cc

text_bytes : (longest place : ℕ) (v : Value) → text_fault longest place v ≡ None → AreBytes (text_spelling v)
text_bytes longest place v stands =
    let a = text_is longest place v stands in
    subst (λ (s : Value). AreBytes (text_spelling s)) (sym a.1) (
    AreBytes-append (flat_map escaped a.0) (0 ∷ 0 ∷ []) (escapes_bytes a.0 (utf8_bytes a.0 a.3)) (omega arith, (omega arith, tt))
    )

text_narrow : (longest place : ℕ) (v : Value) → text_fault longest place v ≡ None → length (text_spelling v) ≤ 2 * longest + 2
text_narrow longest place v stands =
    let a = text_is longest place v stands in
    let short : length a.0 ≤ longest = ltb-false longest (length a.0) a.2 in
    subst (λ (s : Value). length (text_spelling s) ≤ 2 * longest + 2) (sym a.1) (
    omega (arith, length-append (flat_map escaped a.0) (0 ∷ 0 ∷ []), length-escapes a.0)
    )

pub text_is_coding : (longest : ℕ) → IsCoding false (text longest)
text_is_coding longest = record { order = text_order longest; again = text_again longest; takes = text_takes longest; bytes = text_bytes longest; narrow = text_narrow longest }
