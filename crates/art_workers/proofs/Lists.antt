-- Some of a list's passes, and passes at the front of one.
use Rattle.std.proofs.Common.{◌≡◌, ◌≤◌, ◌+◌, List, [], ◌∷◌, ◌++◌, length, length-append, Some, sym, subst, inl, inr, refl, ap, ◌∙◌, arith}
use Rattle.std.proofs.lemmas.List.Elements.{All-pop}
use Rattle.art_sessions.specs.ArtServer.ArtTable.Tables.{AreOf, IsPassOf}
use Rattle.art_sessions.specs.ArtServer.ArtTable.declared.passes.Pass.{Pass}
use Rattle.art_sessions.specs.ArtServer.ArtTable.declared.tables.Table.{Table}
use Rattle.art_workers.specs.Serving.{AreSomeOf}

-- the last pass is of the table, and so are the others
module _ (t : Table) (all rest : List Pass) (p : Pass) (is : all ≡ rest ++ p ∷ []) (are : AreOf t all) where
  pub last_of : IsPassOf t p
  last_of = (All-pop (IsPassOf t) all rest (Some p) is are).1

  pub rest_of : AreOf t rest
  rest_of = (All-pop (IsPassOf t) all rest (Some p) is are).0

pub one_fewer : {A : Type 0} (all rest : List A) (x : A) → all ≡ rest ++ x ∷ [] → length all ≡ length rest + 1
one_fewer {A} all rest x is =
    let long = ap (length {A = A}) is in
    let both = length-append rest (x ∷ []) in
    omega (arith, long, both)

pub one_more : {A : Type 0} (all rest : List A) (x : A) → all ≡ x ∷ rest → length all ≡ length rest + 1
one_more {A} all rest x is = let long = ap (length {A = A}) is in omega (arith, long)

pub no_items : {A : Type 0} (xs : List A) → length xs ≡ 0 → xs ≡ []
no_items [] e = refl
no_items (x ∷ xs) e = cc

pub some_all : (ps : List Pass) → AreSomeOf ps ps
some_all [] = refl
some_all (p ∷ ps) = inr (ps, refl, some_all ps)

pub some_fewer : (ps qs : List Pass) → AreSomeOf ps qs → length ps ≤ length qs
some_fewer ps [] none = let none_long = ap (length {A = Pass}) none in omega (arith, none_long)
some_fewer ps (q ∷ qs) (inl rest) = let fewer = some_fewer ps qs rest in omega (arith, fewer)
some_fewer ps (q ∷ qs) (inr (rest, is, some)) =
    let fewer = some_fewer rest qs some in
    let long = ap (length {A = Pass}) is in
    omega (arith, fewer, long)

pub as_many : (ps qs : List Pass) → AreSomeOf ps qs → length ps ≡ length qs → ps ≡ qs
as_many ps [] none many = none
as_many ps (q ∷ qs) (inl rest) many = let fewer = some_fewer ps qs rest in absurd (omega (arith, fewer, many))
as_many ps (q ∷ qs) (inr (rest, is, some)) many =
    let long = ap (length {A = Pass}) is in
    is ∙ ap (λ (l : List Pass). q ∷ l) (as_many rest qs some (omega (arith, long, many)))
