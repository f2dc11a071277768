-- The laws of tuples, from those of one column.
use Rattle.std.proofs.Common.{◌≡◌, ℕ, suc, ◌+◌, ◌≤◌, Bool, true, false, cond, eqb, List, [], ◌∷◌, ◌++◌, length, Option, Some, None, refl, sym, ap, ap₂, subst, ◌∙◌, arith, nat_cmp, eq-eqb, eqb-true, length-append, append_assoc}
use Rattle.std.proofs.lemmas.Option.{some_pair_parts}
use Rattle.std.specs.Prelude.{IfSome, IfNone}
use Rattle.std.specs.Ordering.{ordering_then}
use Rattle.std.specs.Option.{option_map, option_or, option_and_then}
use Rattle.std.specs.Cmp.Lexicographic.{slice_cmp}
use Rattle.arrayvec.specs.ArrayVec.{ArrayVec}
use Rattle.art_model.specs.declared.values.Value.{Value}
use Rattle.art_model.specs.Rows.{column_cmp, values_cmp}
use Rattle.art_key.specs.declared.columns.Column.{Column}
use Rattle.art_key.specs.declared.faults.ValueFault.{ValueFault}
use Rattle.art_key.specs.declared.faults.ValueFault.TheVariants.{WrongColumns}
use Rattle.art_key.specs.Columns.{order_of, total_width, value_fault, first_fault, tuple_fault}
use Rattle.art_key.specs.Spelling.{value_spelling, spelling, IsSpelling, front_value, tuple_spelled}
use Rattle.art_key.specs.Laws.{KeysStandAsTuples, NoKeyBeginsAnother, TuplesAreReadBack, WhatIsReadIsSpelled, SpellingsAreBytes, SpellingsAreNarrow}
use Rattle.art_key.specs.Numbers.{AreBytes-append, AreBytes_right}
use Rattle.art_key.specs.Kinds.{AreBytes}
use Rattle.art_key.proofs.ColumnLaws.{column_law}

-- ---- no fault: as many values as columns, and no first fault

guard_none : (b : Bool) (o : Option ValueFault) → cond b o (Some WrongColumns) ≡ None → (b ≡ true) × (o ≡ None)
guard_none true o e = (refl, e)
guard_none false o e = absurd cc

stands_is : (cs : List Column) (vs : List Value) → tuple_fault cs vs ≡ None → (length cs ≡ length vs) × (first_fault 0 cs vs ≡ None)
stands_is cs vs e =
    let g = guard_none (eqb (length cs) (length vs)) (first_fault 0 cs vs) e in
    (eqb-true _ _ g.0, g.1)

pub stands_from : (cs : List Column) (vs : List Value) → length cs ≡ length vs → first_fault 0 cs vs ≡ None → tuple_fault cs vs ≡ None
stands_from cs vs len none = rw (eq-eqb (length cs) (length vs) len) none

or_none : (o p : Option ValueFault) → option_or o p ≡ None → (o ≡ None) × (p ≡ None)
or_none None p e = (refl, e)
or_none (Some f) p e = absurd cc

-- ---- the order

order : (cs : List Column) (place : ℕ) (a b : List Value) → length cs ≡ length a → length cs ≡ length b → first_fault place cs a ≡ None → first_fault place cs b ≡ None
    → slice_cmp nat_cmp (spelling cs a) (spelling cs b) ≡ values_cmp (order_of cs).items a b
order [] place [] [] a-len b-len a-stands b-stands = refl
order [] place [] (w ∷ b) a-len b-len a-stands b-stands = absurd (omega arith)
order [] place (v ∷ a) b a-len b-len a-stands b-stands = absurd (omega arith)
order (c ∷ cs) place [] b a-len b-len a-stands b-stands = absurd (omega arith)
order (c ∷ cs) place (v ∷ a) [] a-len b-len a-stands b-stands = absurd (omega arith)
order (c ∷ cs) place (v ∷ a) (w ∷ b) a-len b-len a-stands b-stands =
    let f = or_none (value_fault place c v) (first_fault (place + 1) cs a) a-stands in
    let g = or_none (value_fault place c w) (first_fault (place + 1) cs b) b-stands in
    (column_law c).order place place v w (spelling cs a) (spelling cs b) f.0 g.0
    ∙ ap (ordering_then (column_cmp c.descends v w)) (order cs (place + 1) a b (omega arith) (omega arith) f.1 g.1)

pub keys_stand : KeysStandAsTuples
keys_stand schema a b a-stands b-stands =
    let f = stands_is schema a a-stands in
    let g = stands_is schema b b-stands in
    order schema 0 a b f.0 g.0 f.1 g.1

-- ---- no key begins another

begins : (cs : List Column) (place : ℕ) (a b : List Value) (rest : List ℕ) → length cs ≡ length a → length cs ≡ length b → first_fault place cs a ≡ None → first_fault place cs b ≡ None
    → spelling cs a ++ rest ≡ spelling cs b → (a ≡ b) × (rest ≡ [])
begins [] place [] [] rest a-len b-len a-stands b-stands e = (refl, e)
begins [] place [] (w ∷ b) rest a-len b-len a-stands b-stands e = absurd (omega arith)
begins [] place (v ∷ a) b rest a-len b-len a-stands b-stands e = absurd (omega arith)
begins (c ∷ cs) place [] b rest a-len b-len a-stands b-stands e = absurd (omega arith)
begins (c ∷ cs) place (v ∷ a) [] rest a-len b-len a-stands b-stands e = absurd (omega arith)
begins (c ∷ cs) place (v ∷ a) (w ∷ b) rest a-len b-len a-stands b-stands e =
    let f = or_none (value_fault place c v) (first_fault (place + 1) cs a) a-stands in
    let g = or_none (value_fault place c w) (first_fault (place + 1) cs b) b-stands in
    let regrouped : value_spelling c v ++ (spelling cs a ++ rest) ≡ value_spelling c w ++ spelling cs b = sym (append_assoc (value_spelling c v) (spelling cs a) rest) ∙ e in
    let read = sym ((column_law c).again place v (spelling cs a ++ rest) f.0) ∙ ap (front_value c) regrouped ∙ (column_law c).again place w (spelling cs b) g.0 in
    let first = some_pair_parts v w (spelling cs a ++ rest) (spelling cs b) read in
    let others = begins cs (place + 1) a b rest (omega arith) (omega arith) f.1 g.1 first.1 in
    (ap₂ (λ (u : Value) (us : List Value). u ∷ us) first.0 others.0, others.1)

pub none_begins : NoKeyBeginsAnother
none_begins schema a b rest a-stands b-stands e =
    let f = stands_is schema a a-stands in
    let g = stands_is schema b b-stands in
    begins schema 0 a b rest f.0 g.0 f.1 g.1 e

-- ---- reading back

again : (cs : List Column) (place : ℕ) (vs : List Value) → length cs ≡ length vs → first_fault place cs vs ≡ None → tuple_spelled cs (spelling cs vs) ≡ Some vs
again [] place [] len stands = refl
again [] place (v ∷ vs) len stands = absurd (omega arith)
again (c ∷ cs) place [] len stands = absurd (omega arith)
again (c ∷ cs) place (v ∷ vs) len stands =
    let f = or_none (value_fault place c v) (first_fault (place + 1) cs vs) stands in
    rw ((column_law c).again place v (spelling cs vs) f.0, again cs (place + 1) vs (omega arith) f.1) refl

pub read_back : TuplesAreReadBack
read_back schema tuple stands =
    let f = stands_is schema tuple stands in
    again schema 0 tuple f.0 f.1

bind_some : {A B : Type 0} (o : Option A) (f : A → Option B) (y : B) → option_and_then f o ≡ Some y → (x : A) × (o ≡ Some x) × (f x ≡ Some y)
bind_some None f y e = absurd cc
bind_some (Some x) f y e = (x, refl, e)

same_some : {A : Type 0} (x y : A) → ◌≡◌ {A = Option A} (Some x) (Some y) → x ≡ y
same_some x y e = cc

-- what reading gives of its bytes
record Reads (cs : List Column) (place : ℕ) (vs : List Value) (bytes : List ℕ) : Type 0 where
  len : length cs ≡ length vs
  stands : first_fault place cs vs ≡ None
  spelled : bytes ≡ spelling cs vs

takes : (cs : List Column) (place : ℕ) (vs : List Value) (bytes : List ℕ) → AreBytes bytes → tuple_spelled cs bytes ≡ Some vs → Reads cs place vs bytes
takes [] place vs [] are e = subst (λ us. Reads [] place us []) (same_some [] vs e) (record { len = refl; stands = refl; spelled = refl })
takes [] place vs (b ∷ bytes) are e = absurd cc
takes (c ∷ cs) place vs bytes are e =
    let first = bind_some (front_value c bytes) (λ p. option_and_then (λ us. Some (p.0 ∷ us)) (tuple_spelled cs p.1)) vs e in
    let v = first.0.0 in
    let after = first.0.1 in
    let others = bind_some (tuple_spelled cs after) (λ us. Some (v ∷ us)) vs first.2 in
    let one = (column_law c).takes place v bytes after are first.1 in
    let rest = takes cs (place + 1) others.0 after (AreBytes_right (value_spelling c v) after (subst AreBytes one.1 are)) others.1 in
    let whole : Reads (c ∷ cs) place (v ∷ others.0) bytes = record {
      len = ap suc rest.len;
      stands = rw (one.0, rest.stands) refl;
      spelled = one.1 ∙ ap (λ x. value_spelling c v ++ x) rest.spelled;
    } in
    subst (λ us. Reads (c ∷ cs) place us bytes) (same_some (v ∷ others.0) vs others.2) whole

pub read_is_spelled : WhatIsReadIsSpelled
read_is_spelled schema tuple bytes are e =
    let r = takes schema 0 tuple bytes are e in
    record { stands = stands_from schema tuple r.len r.stands; spelled = r.spelled }

-- ---- bytes, and how many

spelling_bytes : (cs : List Column) (place : ℕ) (vs : List Value) → first_fault place cs vs ≡ None → AreBytes (spelling cs vs)
spelling_bytes [] place vs stands = tt
spelling_bytes (c ∷ cs) place [] stands = tt
spelling_bytes (c ∷ cs) place (v ∷ vs) stands =
    let f = or_none (value_fault place c v) (first_fault (place + 1) cs vs) stands in
    AreBytes-append (value_spelling c v) (spelling cs vs) ((column_law c).bytes place v f.0) (spelling_bytes cs (place + 1) vs f.1)

pub are_bytes : SpellingsAreBytes
are_bytes schema tuple bytes h = subst AreBytes (sym h.spelled) (spelling_bytes schema 0 tuple (stands_is schema tuple h.stands).1)

spelling_narrow : (cs : List Column) (place : ℕ) (vs : List Value) → first_fault place cs vs ≡ None → length (spelling cs vs) ≤ total_width cs
spelling_narrow [] place vs stands = omega arith
spelling_narrow (c ∷ cs) place [] stands = omega arith
spelling_narrow (c ∷ cs) place (v ∷ vs) stands =
    let f = or_none (value_fault place c v) (first_fault (place + 1) cs vs) stands in
    omega (arith, length-append (value_spelling c v) (spelling cs vs), (column_law c).narrow place v f.0, spelling_narrow cs (place + 1) vs f.1)

pub are_narrow : SpellingsAreNarrow
are_narrow schema tuple bytes h = rw (h.spelled) (spelling_narrow schema 0 tuple (stands_is schema tuple h.stands).1)

-- ---- what `decode` answers, from its exact answer

pub found_from_exact : (schema : List Column) (bytes : List ℕ) (r : Option (ArrayVec Value)) → AreBytes bytes → option_map (λ t. t.items) r ≡ tuple_spelled schema bytes → IfSome r (λ t. IsSpelling schema t.items bytes)
found_from_exact schema bytes None are e = tt
found_from_exact schema bytes (Some t) are e = read_is_spelled schema t.items bytes are (sym e)

pub none_from_exact : (schema : List Column) (bytes : List ℕ) (r : Option (ArrayVec Value)) → option_map (λ t. t.items) r ≡ tuple_spelled schema bytes → IfNone r ((t : List Value) → IsSpelling schema t bytes → ⊥)
none_from_exact schema bytes None e = λ t h.
    let read : tuple_spelled schema bytes ≡ Some t = ap (tuple_spelled schema) h.spelled ∙ read_back schema t h.stands in
    none_some t (e ∙ read)
  where
    none_some : (t : List Value) → ◌≡◌ {A = Option (List Value)} None (Some t) → ⊥
    none_some t e = cc
none_from_exact schema bytes (Some t) e = tt
