-- `none` is null, and owns nothing.
use Rattle.std.proofs.Common.{List, [], ◌∷◌, ◌++◌, None, lit<, refl, subst, sym}
use mir.Val.{Val}
use base.Logic.{ent, emp}
use base.Fml.{ftrue, fsep}
use prog.Wp.{WpFn}
use types.Kit.{Item, ‵, raw, ◌⊛◌, ◌$◌, ◌∵◌, !, qed, by, move, drop, join, split, fsplit, fjoin, feq_i, suffices, done}
use types.Run.{lit, no_more, and_then, returns, enter}
use types.ByLocal.{alloc_all, pass_all, free_all, look_at, get, sets}
use types.Part.{agg}
use contract.Running.{tables}
use denote.Exit.{yes}
use denote.RawPtr.{Ptr, null_ptr, ptr_val}
use denote.Steps.{nothing}
use denote.Triple.Walked.{Stays, says, stay_dropped, walk_of, Goes-dropped, ends_at}
use Rattle.std.proofs.alloc.Calls.{handle_tells}
use Rattle.std.proofs.raw_atomic.Walks.{proved_at}
use Rattle.std_alloc.proofs.BoxSteps.Form.{P}
use Rattle.std_alloc.proofs.ResultValues.{and_tt}
use Rattle.art_index_c.proofs.AsBox.{E, FromHeap}
use Rattle.art_index_c.proofs.OpaqueSteps.{Heaps, both, opaque, opaque_in}
use Rattle.art_index_c.specs.contracts.opaque.OpaquePass.none as f
use Rattle.art_index_c.specs.contracts.opaque.OpaquePass.none.Key.{name as #self}
use Rattle.art_index_c.proofs.opaque.OpaquePass.none.Statement.{statement}
use Rattle.art_index_c.proofs.opaque.OpaquePass.none.Code as code

abbrev stayed : Stays f.ended.signature.params f.ended.kept
stayed = (stay_dropped FromHeap yes, tt)

pub none_spec : {M : Type 1} → statement M
none_spec 𝓤 𝓛 𝓜 𝓡 wired =
    let c = f.clauses 𝓛 𝓜.mem 𝓡.returns in let 𝓣 = tables 𝓤 𝓛.H 𝓜 𝓡 𝓡.env in let W = walk_of 𝓛 f.ended stayed c in
    proved_at 𝓛 f.ended stayed c 𝓜 𝓡 (Goes-dropped 𝓛 0 FromHeap yes (λ κs x w. refl), tt) #self code.function (code.unfolded 𝓤 𝓛.H 𝓜 𝓡 wired) (λ z are.
    let a : Heaps = z.0.3.0 in
    qed 𝓛 ((‵ ftrue ⊛ ‵ (fsep ((P E).own_val a z.0.4.0) ftrue)) ∷ raw (emp 𝓤) ∷ []) ∵ split ! $ drop ! $ fsplit ! $
    handle_tells E.al ! a z.0.4.0 (λ h is fits. move ! (1 ∷ 2 ∷ []) $ drop ! $ drop ! $
    -- [the heap]
    let Γ : List (Item 𝓤) = ‵ ((P E).own_val a (h ∷ [])) ∷ [] in
    by ! (subst (λ (us : List Val). ent 𝓤 (types.Kit.⋆ 𝓛 Γ) (WpFn 𝓤 𝓛.H 𝓣.C 𝓣.Λ code.function (us ++ []) (W.post z))) (sym is)
    (qed 𝓛 Γ ∵ enter ! _ _ _ (h ∷ []) _ $ alloc_all ! (λ ls. pass_all ! refl (fits, tt) $
    sets ! (agg ! (and_then ! (lit ! tt) (and_then ! (get ! refl) (no_more !)))) refl (and_tt _ fits.0, (record { fits = lit< tt }, (fits.1, tt))) $
    returns ! (look_at ! 0 refl) $ free_all ! refl $
    feq_i ! Ptr null_ptr null_ptr refl $ opaque_in ! null_ptr h a None $
    suffices ! _ (ends_at 𝓛 f.ended stayed c z (both (ptr_val null_ptr) h) (opaque null_ptr a None) (tt, tt) (tt, tt)) $ says ! refl $
    nothing ! $ nothing ! $ fjoin ! $ join ! $ nothing ! $ join ! $ done !)))))
