-- One session more of a worker's pass.
use Rattle.std.proofs.Common.{◌≡◌, ℕ, ◌+◌, List, [], ◌∷◌, ◌++◌, length, length-append, refl, subst, arith}
use Rattle.art_sessions.specs.ArtServer.Sessions.{IsSession}
use Rattle.art_sessions.specs.Talks.{HasTalks, Talk}
use Rattle.art_sessions.specs.ArtServer.ArtTable.Tables.{IsPassOf}
use Rattle.art_sessions.specs.ArtServer.ArtTable.declared.passes.Pass.{Pass}
use Rattle.art_sessions.specs.ArtServer.ArtTable.declared.tables.Table.{Table}

talks_more : (t : Table) (ss : List Talk) (s : Talk) (p m q : Pass)
    → HasTalks t p ss m → IsSession t s.read s.written m q s.end → HasTalks t p (ss ++ s ∷ []) q
talks_more t [] s p m q same one = (q, subst (λ (x : Pass). IsSession t s.read s.written x q s.end) same one, refl)
talks_more t (r ∷ ss) s p m q (between, first, rest) one = (between, first, talks_more t ss s between m q rest one)

-- so far the pass p had so many talks, and is q
pub record HasHad (t : Table) (p q : Pass) (n : ℕ) : Type 0 where
  pub pass : IsPassOf t q
  pub talks : List Talk
  pub had : HasTalks t p talks q
  pub count : n ≡ length talks

pub had_none : (t : Table) (p : Pass) → IsPassOf t p → HasHad t p p 0
had_none t p is = record { pass = is; talks = []; had = refl; count = refl }

pub had_more : (t : Table) (s : Talk) (p m q : Pass) (n : ℕ)
    → HasHad t p m n → IsPassOf t q → IsSession t s.read s.written m q s.end → HasHad t p q (n + 1)
had_more t s p m q n so_far is one =
    let long = length-append so_far.talks (s ∷ []) in
    let count = so_far.count in
    record {
      pass = is;
      talks = so_far.talks ++ s ∷ [];
      had = talks_more t so_far.talks s p m q so_far.had one;
      count = omega (arith, long, count);
    }
