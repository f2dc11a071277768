-- `changed` makes the empty struct, with the data that its `requires` shows to be possible. Assumes `Logic`.
use Rattle.std.proofs.Common.{List, [], ◌∷◌, ◌++◌, refl}
use seplogic.Ra.Ura.{Ura}
use mir.Syntax.{Fn, Args, Dict, dcons, dnil, a_type}
use mir.Val.{Val, vptr}
use mir.MapTy.{inst_fn}
use base.Logic.{SProp, ent}
use prog.Memory.{Memory}
use prog.Routine.{Routine}
use prog.Wp.{Calls, Loops, WpFn, Tables}
use contract.Monad.{Fun, fact}
use contract.Running.{tables, tables_of}
use sound.WpLaws.{WpFn-mono}
use types.Logic.{Logic}
use types.Kit.{‵, raw, ◌⊛◌, given, prop, ◌$◌, ◌∵◌, !, qed, move, keep, drop, split, fsplit, fjoin, feq_l, learn, regoal, suffices, done}
use base.Fml.{ftrue}
use types.Part.{agg}
use types.Run.{enter, returns, and_then, no_more}
use types.ByLocal.{alloc_all, pass_all, free_all, look_at, get, sets}
use denote.Exit.{yes}
use denote.RattleType.{RattleType, owns}
use denote.Builtin.{RefOf}
use denote.Laws.{Is}
use denote.Param.{param, bounded}
use denote.Signature.{plain, types_at}
use denote.Steps.{nothing, owned}
use denote.Struct.Laws.{makes}
use denote.Triple.Clauses.{Clauses, Ended, closing}
use denote.Triple.Entry.{alive}
use denote.Triple.Spec.{Meets, triple_of}
use denote.Triple.Table.{entered}
use denote.Triple.Walked.{says, Stays, stay_dropped, walk_of, ends_at, walk_Meets, Goes-dropped}
use Rattle.std.specs.contracts.marker.PhantomData as Mark
use Rattle.bytes.proofs.Walks.{none, one, one_made}
use Rattle.art_ghosts.specs.declared.Change as change
use Rattle.art_ghosts.specs.contracts.Ghost as Ghost
use Rattle.art_ghosts.specs.contracts.Ghost.changed as F
use Rattle.art_ghosts.specs.contracts.Ghost.changed.Key.{name as #self}
use Rattle.art_ghosts.proofs.Ghost.changed.Statement as stated
use Rattle.art_ghosts.proofs.Ghost.changed.Code as code

module _ (V A B K : RattleType) (g : change.Ghosts K.Denot A.Denot B.Denot V.Denot) (d : Dict) where
  abbrev args : Args
  args = bounded (a_type ∷ a_type ∷ a_type ∷ a_type ∷ []) (V, (A, (B, (K, tt)))) (dcons d dnil)

  abbrev row : RattleType
  row = param 0 V

  abbrev function : Fn
  function = inst_fn args code.function

  abbrev ended : Ended
  ended = F.ended V A B K g d

  abbrev stayed : Stays ended.signature.params ended.kept
  stayed = (
    stay_dropped (RefOf (0 ∷ []) tt (plain (λ _. Ghost.the_row (param 0 V))) (λ _. tt)) yes,
    (stay_dropped (RefOf (1 ∷ []) tt (plain (λ _. param 1 A)) (λ _. tt)) yes, (stay_dropped (RefOf (2 ∷ []) tt (plain (λ _. param 2 B)) (λ _. tt)) yes, tt)),
  )

  module _ {M : Type 1} {𝓤 : Ura M} (𝓛 : Logic 𝓤) (at_mem : Memory → SProp 𝓤) (run : Routine → Fun 𝓤) where
    open 𝓛 use {H}

    abbrev held : Clauses 𝓤 ended
    held = F.clauses V A B K g d 𝓛 at_mem run

    module _ (C : Calls 𝓤 H) (Λ : Loops 𝓤 H) (z : (walk_of 𝓛 ended stayed held).Ghost) where
      abbrev Post : Val → SProp 𝓤
      Post = (walk_of 𝓛 ended stayed held).post z

      abbrev toks : SProp 𝓤
      toks = alive 𝓛 ended.signature z.0.0 z.0.1

      walks : ent 𝓤 ((walk_of 𝓛 ended stayed held).pre z) (WpFn 𝓤 H C Λ function ((walk_of 𝓛 ended stayed held).args z) Post)
      walks =
          let a = z.0.3 in
          let vss = z.0.4 in
          let before : V.Denot = a.0.now.value in
          qed 𝓛 ((raw toks ⊛ ‵ (owns (types_at ended.signature.params z.0.0) a vss)) ∷ raw (fact 𝓤 _) ∷ raw (fact 𝓤 _) ∷ raw (fact 𝓤 _) ∷ raw (fact 𝓤 _) ∷ given ((w : V.Denot) × g.then a.1.0.now a.1.1.0.now before w) (‵ ftrue) ∷ []) ∵
          keep ! (5 ∷ 0 ∷ []) $ learn ! (λ asked. drop ! $
          let made : (Ghost.the_row (param 0 V)).Denot = record { of = record {}; value = asked.0 } in
          keep ! (0 ∷ []) $ split ! $ move ! (1 ∷ []) $
          fsplit ! $ fsplit ! $ feq_l ! (λ is₀. drop ! $ fsplit ! $ fsplit ! $ feq_l ! (λ is₁. drop ! $ fsplit ! $ fsplit ! $ feq_l ! (λ is₂. drop ! $ drop ! $
          let p = vptr a.0.ref_ptr.0 a.0.ref_ptr.1 in
          let q = vptr a.1.0.ref_ptr.0 a.1.0.ref_ptr.1 in
          let r = vptr a.1.1.0.ref_ptr.0 a.1.1.0.ref_ptr.1 in
          regoal ! (λ (us : List Val). prop (WpFn 𝓤 H C Λ function (us ++ (vss.1.0 ++ (vss.1.1.0 ++ []))) Post)) is₀ refl $
          regoal ! (λ (us : List Val). prop (WpFn 𝓤 H C Λ function ((p ∷ []) ++ (us ++ (vss.1.1.0 ++ []))) Post)) is₁ refl $
          regoal ! (λ (us : List Val). prop (WpFn 𝓤 H C Λ function ((p ∷ []) ++ ((q ∷ []) ++ (us ++ []))) Post)) is₂ refl $
          enter ! C Λ function (p ∷ q ∷ r ∷ []) Post $ alloc_all ! (λ l. pass_all ! refl ((tt, tt), ((tt, tt), ((tt, tt), tt))) $
          sets ! (agg ! (no_more !)) refl (tt, tt) $
          sets ! (agg ! (and_then ! (get ! refl) (no_more !))) refl (tt, (tt, tt)) $
          nothing ! $ owned ! (Mark.the_row row) (Is (Mark.the_row row)) (makes (Mark.the_type row) tt 𝓛) (record {}) (none ∷ []) (tt, (refl, tt)) $
          one_made ! (Mark.the_row row) (record {}) none $ fjoin ! $
          returns ! (look_at ! 0 refl) $ free_all ! refl $
          suffices ! _ (ends_at 𝓛 ended stayed held z (one none) made (tt, (tt, (tt, tt))) (tt, (tt, (tt, tt)))) $ says ! asked.1 $
          nothing ! $ nothing ! $ fjoin ! $ nothing ! $ fjoin ! $ nothing ! $ fjoin ! $ move ! (2 ∷ 0 ∷ 1 ∷ []) $ done !)))))

    meets : (𝓣 : Tables 𝓤 H) → Meets 𝓛 ended.signature (WpFn 𝓤 H 𝓣.C 𝓣.Λ function) (closing 𝓛 ended held)
    meets 𝓣 =
        walk_Meets 𝓛 ended stayed (
          Goes-dropped 𝓛 7 (RefOf (0 ∷ []) tt (plain (λ _. Ghost.the_row (param 0 V))) (λ _. tt)) yes (λ κs x f. refl),
          (
            Goes-dropped 𝓛 7 (RefOf (1 ∷ []) tt (plain (λ _. param 1 A)) (λ _. tt)) yes (λ κs x f. refl),
            (Goes-dropped 𝓛 7 (RefOf (2 ∷ []) tt (plain (λ _. param 2 B)) (λ _. tt)) yes (λ κs x f. refl), tt),
          ),
        ) held
        (WpFn 𝓤 H 𝓣.C 𝓣.Λ function) (WpFn-mono 𝓤 H 𝓛.laws 𝓣 function) (walks 𝓣.C 𝓣.Λ)

pub changed_spec : {M : Type 1} → stated.statement M
unfolding tables_of
changed_spec 𝓤 𝓛 𝓜 𝓡 wired V A B K LV LA LB LK g d met =
    let 𝓣 : Tables 𝓤 𝓛.H = tables_of 𝓤 𝓛.H 𝓜 (tables 𝓤 𝓛.H 𝓜 𝓡 𝓡.env) in
    entered 𝓤 𝓛.H (triple_of 𝓛 (ended V A B K g d).signature (closing 𝓛 (ended V A B K g d) (held V A B K g d 𝓛 𝓜.mem 𝓡.returns))) 𝓣.C 𝓣.Λ (#self (args V A B K g d)) (function V A B K g d)
    (code.unfolded 𝓤 𝓛.H 𝓜 𝓡 wired (V, (A, (B, (K, tt)))) d) (meets V A B K g d 𝓛 𝓜.mem 𝓡.returns 𝓣)
