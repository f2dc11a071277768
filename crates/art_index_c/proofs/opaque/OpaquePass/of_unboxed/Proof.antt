-- `of_unboxed` moves the two fields, and what they own goes with them.
use Rattle.std.proofs.Common.{List, [], ◌∷◌, ◌++◌, Some, refl, subst, sym}
use mir.Val.{Val}
use base.Logic.{ent}
use base.Fml.{ftrue, fsep}
use prog.Wp.{WpFn}
use types.Kit.{Item, ‵, raw, ◌⊛◌, ◌$◌, ◌∵◌, !, qed, by, move, drop, join, split, fsplit, fjoin, fpack, suffices, done}
use types.Run.{stop, fld, of_opd, no_more, and_then, returns, enter}
use types.ByLocal.{alloc_all, pass_all, free_all, look_at, get, get_in, sets}
use types.Part.{agg, sub, whole}
use contract.Monad.{fact}
use contract.Running.{tables}
use denote.Exit.{yes}
use denote.RawPtr.{block_ptr}
use denote.Steps.{heard, nothing}
use denote.Triple.Walked.{Stays, says, stay_dropped, walk_of, Goes-dropped, ends_at}
use Rattle.std.proofs.raw_atomic.Walks.{proved_at}
use Rattle.std_alloc.proofs.BoxSteps.Form.{B, D, P, word, box_typed}
use Rattle.std_alloc.proofs.BoxSteps.Steps.{box_out}
use Rattle.art_handle.specs.Handles.{IsOfItsTable}
use Rattle.art_index_c.specs.Held.{boxed}
use Rattle.art_index_c.proofs.AsBox.{E, FromApart}
use Rattle.art_index_c.proofs.OpaqueSteps.{opaque, opaque_in}
use Rattle.art_index_c.specs.contracts.opaque.OpaquePass.of_unboxed as f
use Rattle.art_index_c.specs.contracts.opaque.OpaquePass.of_unboxed.Key.{name as #self}
use Rattle.art_index_c.proofs.opaque.OpaquePass.of_unboxed.Statement.{statement}
use Rattle.art_index_c.proofs.opaque.OpaquePass.of_unboxed.Code as code

abbrev stayed : Stays f.ended.signature.params f.ended.kept
stayed = (stay_dropped FromApart yes, tt)

pub of_unboxed_spec : {M : Type 1} → statement M
of_unboxed_spec 𝓤 𝓛 𝓜 𝓡 wired =
    let c = f.clauses 𝓛 𝓜.mem 𝓡.returns in let 𝓣 = tables 𝓤 𝓛.H 𝓜 𝓡 𝓡.env in let W = walk_of 𝓛 f.ended stayed c in
    proved_at 𝓛 f.ended stayed c 𝓜 𝓡 (Goes-dropped 𝓛 0 FromApart yes (λ κs x w. refl), tt) #self code.function (code.unfolded 𝓤 𝓛.H 𝓜 𝓡 wired) (λ z are.
    let x = z.0.3.0.value in let a = z.0.3.0.alloc in
    let d : D E = record { ptr = z.0.3.0.at; alloc = a; value = x } in
    qed 𝓛 ((‵ ftrue ⊛ ‵ (fsep ((B E).own_val d z.0.4.0) ftrue)) ∷ raw (fact 𝓤 (IsOfItsTable x)) ∷ []) ∵
    move ! (1 ∷ []) $ heard ! (IsOfItsTable x) (λ own. split ! $ drop ! $ fsplit ! $
    box_out E ! d z.0.4.0 (λ b o h e is fits. fjoin ! $ move ! (2 ∷ []) $ drop ! $
    -- [the handle, in its room; the heap]
    let w = word E h b o in
    let Γ : List (Item 𝓤) = ‵ (boxed a (block_ptr b o) x) ∷ ‵ ((P E).own_val a (h ∷ [])) ∷ [] in
    by ! (subst (λ (us : List Val). ent 𝓤 (types.Kit.⋆ 𝓛 Γ) (WpFn 𝓤 𝓛.H 𝓣.C 𝓣.Λ code.function (us ++ []) (W.post z))) (sym is)
    (qed 𝓛 Γ ∵ enter ! _ _ _ (w ∷ []) _ $ alloc_all ! (λ ls. pass_all ! refl (box_typed E h b o fits, tt) $
    sets ! (of_opd ! (get_in ! (fld ! refl (stop !)) (sub ! 0 refl (whole !)))) refl (tt, tt) $
    sets ! (of_opd ! (get_in ! (fld ! refl (stop !)) (sub ! 1 refl (whole !)))) refl fits $
    sets ! (of_opd ! (get ! refl)) refl (tt, tt) $
    sets ! (agg ! (and_then ! (get ! refl) (and_then ! (get ! refl) (no_more !)))) refl (box_typed E h b o fits) $
    returns ! (look_at ! 0 refl) $ free_all ! refl $
    nothing ! $ fpack ! (IsOfItsTable x) (λ _. ftrue) own $ fjoin ! $ opaque_in ! (block_ptr b o) h a (Some x) $
    suffices ! _ (ends_at 𝓛 f.ended stayed c z w (opaque (block_ptr b o) a (Some x)) (tt, tt) (tt, tt)) $ says ! refl $
    nothing ! $ nothing ! $ fjoin ! $ join ! $ nothing ! $ join ! $ done !))))))
