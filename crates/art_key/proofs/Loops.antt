-- The loops over the columns: what they have done, and what is left.
use Rattle.std.proofs.Common.{◌≡◌, ℕ, ◌+◌, ◌<◌, ◌≤◌, List, [], ◌∷◌, ◌++◌, length, get_or, drop, Option, Some, None, refl, sym, ap, subst, ◌∙◌, arith, length-append, append_assoc, append-nil}
use Rattle.std.proofs.lemmas.List.{drop_more, drop_all}
use Rattle.std.specs.Option.{option_map, option_or, option_and_then}
use Rattle.art_model.specs.declared.values.Value.{Value}
use Rattle.art_key.specs.declared.columns.Column.{Column}
use Rattle.art_key.specs.declared.faults.ValueFault.{ValueFault}
use Rattle.art_key.specs.Columns.{width, total_width, value_fault, first_fault}
use Rattle.art_key.specs.Spelling.{value_spelling, spelling, front_value, tuple_spelled}
use Rattle.art_key.proofs.ColumnLaws.{column_law}

-- the key has the spellings of the first n values, which stand in their columns, and has room for the others
pub record IsSpelledTo (cs : List Column) (vs : List Value) (key : List ℕ) (n : ℕ) : Type 0 where
  pub room : length key + total_width (drop n cs) ≤ 64
  pub bytes : key ++ spelling (drop n cs) (drop n vs) ≡ spelling cs vs
  pub faults : first_fault n (drop n cs) (drop n vs) ≡ first_fault 0 cs vs

pub IsSpelledTo-start : (cs : List Column) (vs : List Value) (key : List ℕ) → key ≡ [] → total_width cs ≤ 64 → IsSpelledTo cs vs key 0
IsSpelledTo-start cs vs key empty narrow = record {
  room = rw empty (omega arith);
  bytes = rw empty refl;
  faults = refl;
}

pub one_more : (cs : List Column) (vs : List Value) (key : List ℕ) (n : ℕ) (c : Column) (v : Value) → n < length cs → n < length vs → c ≡ get_or cs n c → v ≡ get_or vs n v
    → value_fault n c v ≡ None → IsSpelledTo cs vs key n → IsSpelledTo cs vs (key ++ value_spelling c v) (n + 1)
one_more cs vs key n c v n-lt-cs n-lt-vs c-is v-is stands so_far =
    let columns : drop n cs ≡ c ∷ drop (n + 1) cs = drop_more cs n c n-lt-cs ∙ ap (λ (d : Column). d ∷ drop (n + 1) cs) (sym c-is) in
    let values : drop n vs ≡ v ∷ drop (n + 1) vs = drop_more vs n v n-lt-vs ∙ ap (λ (w : Value). w ∷ drop (n + 1) vs) (sym v-is) in
    let room : length key + (width c + total_width (drop (n + 1) cs)) ≤ 64 = subst (λ (ds : List Column). length key + total_width ds ≤ 64) columns so_far.room in
    let bytes : key ++ (value_spelling c v ++ spelling (drop (n + 1) cs) (drop (n + 1) vs)) ≡ spelling cs vs = sym (ap₂_spelling key columns values) ∙ so_far.bytes in
    record {
      room = omega (arith, length-append key (value_spelling c v), (column_law c).narrow n v stands);
      bytes = append_assoc key (value_spelling c v) (spelling (drop (n + 1) cs) (drop (n + 1) vs)) ∙ bytes;
      faults = sym (ap (λ o. option_or o (first_fault (n + 1) (drop (n + 1) cs) (drop (n + 1) vs))) stands) ∙ sym (ap₂_fault n columns values) ∙ so_far.faults;
    }
  where
    ap₂_spelling : (key : List ℕ) {cs ds : List Column} {vs ws : List Value} → cs ≡ ds → vs ≡ ws → key ++ spelling cs vs ≡ key ++ spelling ds ws
    ap₂_spelling key e f = λ i. key ++ spelling (e i) (f i)

    ap₂_fault : (n : ℕ) {cs ds : List Column} {vs ws : List Value} → cs ≡ ds → vs ≡ ws → first_fault n cs vs ≡ first_fault n ds ws
    ap₂_fault n e f = λ i. first_fault n (e i) (f i)

-- the first value that does not stand in its column is the first fault
pub stops : (cs : List Column) (vs : List Value) (key : List ℕ) (n : ℕ) (c : Column) (v : Value) (f : ValueFault) → n < length cs → n < length vs → c ≡ get_or cs n c → v ≡ get_or vs n v
    → value_fault n c v ≡ Some f → IsSpelledTo cs vs key n → first_fault 0 cs vs ≡ Some f
stops cs vs key n c v f n-lt-cs n-lt-vs c-is v-is fault so_far =
    let columns : drop n cs ≡ c ∷ drop (n + 1) cs = drop_more cs n c n-lt-cs ∙ ap (λ (d : Column). d ∷ drop (n + 1) cs) (sym c-is) in
    let values : drop n vs ≡ v ∷ drop (n + 1) vs = drop_more vs n v n-lt-vs ∙ ap (λ (w : Value). w ∷ drop (n + 1) vs) (sym v-is) in
    sym so_far.faults ∙ (λ i. first_fault n (columns i) (values i)) ∙ ap (λ o. option_or o (first_fault (n + 1) (drop (n + 1) cs) (drop (n + 1) vs))) fault

-- the room for one more value
pub room_here : (cs : List Column) (vs : List Value) (key : List ℕ) (n : ℕ) (c : Column) → n < length cs → c ≡ get_or cs n c → IsSpelledTo cs vs key n → length key + width c ≤ 64
room_here cs vs key n c n-lt c-is so_far =
    let columns : drop n cs ≡ c ∷ drop (n + 1) cs = drop_more cs n c n-lt ∙ ap (λ (d : Column). d ∷ drop (n + 1) cs) (sym c-is) in
    let room : length key + (width c + total_width (drop (n + 1) cs)) ≤ 64 = subst (λ (ds : List Column). length key + total_width ds ≤ 64) columns so_far.room in
    omega arith

pub is_spelled : (cs : List Column) (vs : List Value) (key : List ℕ) (n : ℕ) → length cs ≤ n → IsSpelledTo cs vs key n → (key ≡ spelling cs vs) × (first_fault 0 cs vs ≡ None)
is_spelled cs vs key n le so_far =
    let none = drop_all n cs le in
    let bytes : key ++ spelling [] (drop n vs) ≡ spelling cs vs = subst (λ (ds : List Column). key ++ spelling ds (drop n vs) ≡ spelling cs vs) none so_far.bytes in
    let faults : first_fault n [] (drop n vs) ≡ first_fault 0 cs vs = subst (λ (ds : List Column). first_fault n ds (drop n vs) ≡ first_fault 0 cs vs) none so_far.faults in
    (sym (append-nil key) ∙ bytes, sym faults)

-- ---- reading

-- the values of the first columns, and what reading gives of the others, are what reading gives of all
abbrev pub with_front : List Value → Option (List Value) → Option (List Value)
with_front front others = option_map (λ vs. front ++ vs) others

regroup : (front : List Value) (v : Value) (others : Option (List Value)) → with_front front (option_and_then (λ vs. Some (v ∷ vs)) others) ≡ with_front (front ++ v ∷ []) others
regroup front v None = refl
regroup front v (Some vs) = ap (λ (us : List Value). Some us) (sym (append_assoc front (v ∷ []) vs))

pub goes_on : (front : List Value) (cs : List Column) (n : ℕ) (bytes : List ℕ) (c : Column) (v : Value) (after : List ℕ) (total : Option (List Value)) → n < length cs → c ≡ get_or cs n c → front_value c bytes ≡ Some (v, after)
    → with_front front (tuple_spelled (drop n cs) bytes) ≡ total → with_front (front ++ v ∷ []) (tuple_spelled (drop (n + 1) cs) after) ≡ total
goes_on front cs n bytes c v after total n-lt c-is read so_far =
    let columns : drop n cs ≡ c ∷ drop (n + 1) cs = drop_more cs n c n-lt ∙ ap (λ (d : Column). d ∷ drop (n + 1) cs) (sym c-is) in
    let one : with_front front (tuple_spelled (drop n cs) bytes) ≡ with_front (front ++ v ∷ []) (tuple_spelled (drop (n + 1) cs) after) = rw (columns, read) (regroup front v (tuple_spelled (drop (n + 1) cs) after)) in
    sym one ∙ so_far

pub ends : (front : List Value) (cs : List Column) (n : ℕ) (bytes : List ℕ) (c : Column) (total : Option (List Value)) → n < length cs → c ≡ get_or cs n c → front_value c bytes ≡ None
    → with_front front (tuple_spelled (drop n cs) bytes) ≡ total → total ≡ None
ends front cs n bytes c total n-lt c-is read so_far =
    let columns : drop n cs ≡ c ∷ drop (n + 1) cs = drop_more cs n c n-lt ∙ ap (λ (d : Column). d ∷ drop (n + 1) cs) (sym c-is) in
    let one : with_front front (tuple_spelled (drop n cs) bytes) ≡ None = rw (columns, read) refl in
    sym so_far ∙ one

-- at the end all bytes must have been read
pub is_done : (front : List Value) (cs : List Column) (n : ℕ) (total : Option (List Value)) → length cs ≤ n → with_front front (tuple_spelled (drop n cs) []) ≡ total → total ≡ Some front
is_done front cs n total le so_far =
    let one : with_front front (tuple_spelled (drop n cs) []) ≡ Some front = rw (drop_all n cs le) (ap (λ (us : List Value). Some us) (append-nil front)) in
    sym so_far ∙ one

pub is_too_long : (front : List Value) (cs : List Column) (n b : ℕ) (bytes : List ℕ) (total : Option (List Value)) → length cs ≤ n → with_front front (tuple_spelled (drop n cs) (b ∷ bytes)) ≡ total → total ≡ None
is_too_long front cs n b bytes total le so_far =
    let one : with_front front (tuple_spelled (drop n cs) (b ∷ bytes)) ≡ None = rw (drop_all n cs le) refl in
    sym so_far ∙ one
