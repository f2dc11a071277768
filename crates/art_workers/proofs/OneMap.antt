-- What workers did is of one map, once the table is closed.
use Rattle.std.proofs.Common.{List, [], ◌∷◌, inl, inr, sym, subst}
use Rattle.std.proofs.lemmas.List.Elements.{All-cons, All-head, All-same, All-tail}
use Rattle.art_sessions.proofs.Talks.{sessions_are_one_map}
use Rattle.art_sessions.specs.Talks.{Worker}
use Rattle.art_step.specs.Views.{Member}
use Rattle.art_sessions.specs.ArtServer.ArtTable.Closing.{IsClosed}
use Rattle.art_sessions.specs.ArtServer.ArtTable.Tables.{AreOf, IsPassOf}
use Rattle.art_sessions.specs.ArtServer.ArtTable.declared.passes.Pass.{Pass}
use Rattle.art_sessions.specs.ArtServer.ArtTable.declared.tables.Table.{Table}
use Rattle.art_workers.specs.Serving.{AreSomeOf, ServedAreOneMap, befores_of}

-- some of a table's passes are of the table
some_are : (t : Table) (ps given : List Pass) → AreSomeOf ps given → AreOf t given → AreOf t ps
some_are t ps [] none of = All-same (IsPassOf t) ps [] none of
some_are t ps (q ∷ qs) (inl some) of = some_are t ps qs some (All-tail (IsPassOf t) q qs of)
some_are t ps (q ∷ qs) (inr (rest, is, some)) of =
    let others = some_are t rest qs some (All-tail (IsPassOf t) q qs of) in
    All-same (IsPassOf t) ps (q ∷ rest) is (All-cons (IsPassOf t) q rest (All-head (IsPassOf t) q qs of) others)

before_is : (t : Table) (ws : List Worker) → AreOf t (befores_of ws) → (w : Worker) → Member w ws → IsPassOf t w.before
before_is t [] of w none = absurd none
before_is t (x ∷ ws) of w (inl same) =
    subst (λ (y : Worker). IsPassOf t y.before) (sym same) (All-head (IsPassOf t) x.before (befores_of ws) of)
before_is t (x ∷ ws) of w (inr rest) = before_is t ws (All-tail (IsPassOf t) x.before (befores_of ws) of) w rest

pub served_are_one_map : ServedAreOneMap
served_are_one_map t given back told closed of served c =
    let befores = some_are t (befores_of served.workers) given served.before of in
    sessions_are_one_map t served.workers closed
    (λ w i. (before_is t served.workers befores w i, served.talks w i))
    (subst (λ (ps : List Pass). IsClosed t ps closed) (sym served.after) c)
