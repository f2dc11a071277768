-- `into_unboxed` looks whether the pointer is null, and moves the two fields where it is not.
use Rattle.std.proofs.Common.{List, [], ◌∷◌, ◌++◌, ◌∙◌, Option, None, Some, ap, lit<, refl, subst, sym}
use lib.Dec.{T}
use seplogic.Ra.Ura.{Ura}
use mir.Raw.{raw as bare}
use mir.Val.{Val, vcons, vnil, has_ty, WT}
use base.Logic.{SProp, ent, emp, via, snd∗, fst∗, never, guard_i}
use base.Fml.{ftrue, fsep}
use base.Fraction.{full_share}
use prog.Model.{Model}
use prog.Wp.{WpFn}
use types.Logic.{Logic, sem}
use types.Kit.{Item, ‵, raw, ◌⊛◌, given, at_ret, ◌$◌, ◌∵◌, !, qed, by, move, drop, learn, use0, use1, join, split, fsplit, fjoin, fpick, feq_l, suffices, done}
use types.Match.{live}
use types.Part.{agg, sub, whole}
use types.Run.{bin, lit, stop, fld, first, branches, skips, exec, no_more, and_then, of_opd, returns, returns_within, enter}
use types.ByLocal.{alloc_all, pass_all, free_all, look_at, get, get_in, sets, env}
use contract.Monad.{fact_use}
use contract.Running.{MachineTables, Running, tables}
use denote.Exit.{yes}
use denote.Memory.{lone}
use denote.Param.{layout}
use denote.RattleType.{RattleType}
use denote.RawPtr.{Ptr, block_ptr, null_ptr, ptr_val, lies_at, in_a_block, Testable, tests_null}
use denote.Signature.{type_at}
use denote.Steps.{nothing}
use denote.Triple.Clauses.{Clauses}
use denote.Triple.Walked.{Stays, stay_dropped, walk_of, Goes-dropped, ends_at}
use Rattle.std.proofs.GlobalToken.{dealloc_token-Testable}
use Rattle.std.proofs.alloc.Shapes.{after}
use Rattle.std.proofs.mem.Facts.{says_two}
use Rattle.std.proofs.option.Made.{Some-of, none_of}
use Rattle.std.proofs.raw_atomic.Walks.{proved_at}
use Rattle.std_alloc.proofs.BoxSteps.Form.{X, D, P, R, word, box_typed}
use Rattle.std_alloc.proofs.BoxSteps.Steps.{box_in}
use Rattle.std_alloc.proofs.ResultValues.{and_tt}
use Rattle.std_heap.specs.contracts.GlobalAllocator.TheImpl.{ghosts}
use Rattle.art_index_c.specs.Held.{boxed}
use Rattle.art_index_c.proofs.AsBox.{E, ApartRow, FromOpaque, OpaqueRow}
use Rattle.art_index_c.proofs.OpaqueSteps.{Heaps, both, opaque, opaque_out}
use Rattle.art_index_c.specs.contracts.opaque.OpaquePass.into_unboxed as f
use Rattle.art_index_c.specs.contracts.opaque.OpaquePass.into_unboxed.Key.{name as #self}
use Rattle.art_index_c.proofs.opaque.OpaquePass.into_unboxed.Statement.{statement}
use Rattle.art_index_c.proofs.opaque.OpaquePass.into_unboxed.Code as code

abbrev stayed : Stays f.ended.signature.params f.ended.kept
stayed = (stay_dropped FromOpaque yes, tt)

abbrev Out : RattleType
Out = type_at (f.signature).result tt

-- whoever may give a block back may ask whether its pointer is null
tested : {M : Type 1} {𝓤 : Ura M} (𝓛 : Logic 𝓤) (a : Heaps) (p : Ptr) (x : X E)
    → ent 𝓤 (sem 𝓛 (boxed a p x)) (base.Logic.guard 𝓤 (Testable p) (sem 𝓛 (boxed a p x)))
tested {𝓤 = 𝓤} 𝓛 a p x =
    let token = sem 𝓛 (ghosts.dealloc_token a (bare (lone (R E).mir)) p) in
    fact_use 𝓤 (Testable p) (via 𝓤 token (snd∗ 𝓤 (sem 𝓛 (lies_at (R E) full_share p x)) token) (dealloc_token-Testable 𝓛 a (bare (lone (R E).mir)) p))
    (guard_i 𝓤 (Testable p) (sem 𝓛 (boxed a p x)))

none_good : T (has_ty (layout Out) (live 0 vnil)) × WT (live 0 vnil)
none_good = (tt, (record { fits = lit< tt }, tt))

module _ {M : Type 1} {𝓤 : Ura M} (𝓛 : Logic 𝓤) (𝓜 : Model 𝓤 𝓛.H) (𝓡 : Running 𝓤 𝓛.H 𝓜) where
  abbrev 𝓣 : MachineTables 𝓤 𝓛.H 𝓜
  𝓣 = tables 𝓤 𝓛.H 𝓜 𝓡 𝓡.env

  abbrev c : Clauses 𝓤 f.ended
  c = f.clauses 𝓛 𝓜.mem 𝓡.returns

  abbrev at_z : Ptr → Heaps → Option (X E) → List Val → (walk_of 𝓛 f.ended stayed c).Ghost
  at_z p a held vs = ((tt, tt, tt, (opaque p a held, tt), (vs, tt)), tt)

  abbrev Post : Ptr → Heaps → Option (X E) → List Val → Val → SProp 𝓤
  Post p a held vs = (walk_of 𝓛 f.ended stayed c).post (at_z p a held vs)

  walk : (p : Ptr) (a : Heaps) (held : Option (X E)) (vs : List Val)
      → ent 𝓤 ((walk_of 𝓛 f.ended stayed c).pre (at_z p a held vs)) (WpFn 𝓤 𝓛.H 𝓣.C 𝓣.Λ code.function (vs ++ []) (Post p a held vs))
  walk p a None vs =
      let v : Val = live 0 vnil in
      qed 𝓛 ((‵ ftrue ⊛ ‵ (fsep (OpaqueRow.own_val (opaque p a None) vs) ftrue)) ∷ raw (emp 𝓤) ∷ []) ∵ split ! $ drop ! $ fsplit ! $
      opaque_out ! p a None vs (λ h is fits. feq_l ! (λ null. drop ! $ drop ! $ drop ! $
      by ! (subst (λ (us : List Val). ent 𝓤 (types.Kit.⋆ 𝓛 []) (WpFn 𝓤 𝓛.H 𝓣.C 𝓣.Λ code.function (us ++ []) (Post p a None vs)))
      (sym (is ∙ ap (λ (q : Ptr). both (ptr_val q) h ∷ []) null))
      (qed 𝓛 [] ∵ enter ! 𝓣.C 𝓣.Λ code.function (both (ptr_val null_ptr) h ∷ []) _ $
      alloc_all ! (λ ls. pass_all ! refl ((and_tt _ fits.0, (record { fits = lit< tt }, (fits.1, tt))), tt) $
      sets ! (of_opd ! (get_in ! (fld ! refl (stop !)) (sub ! 0 refl (whole !)))) refl (tt, record { fits = lit< tt }) $
      sets ! (of_opd ! (get_in ! (fld ! refl (stop !)) (sub ! 1 refl (whole !)))) refl fits $
      sets ! (bin ! (get ! refl) (lit ! tt) tt) refl (tt, tt) $ first ! $ branches ! (get ! refl)
      (λ _. sets ! (agg ! (and_then ! (lit ! tt) (no_more !))) refl none_good $
      returns_within ! (Post p a None vs) refl (look_at ! 0 refl) $ free_all ! refl $
      use0 𝓛 (‵ (Out.own_val None (v ∷ []))) (none_of 𝓛 ApartRow) $
      suffices ! _ (ends_at 𝓛 f.ended stayed c (at_z p a None vs) v None (tt, tt) (tt, tt)) $ says_two ! (refl, tt) $
      nothing ! $ nothing ! $ fjoin ! $ join ! $ nothing ! $ join ! $ done !)
      (λ wrong. absurd wrong))))))
  walk p a (Some x) vs =
      qed 𝓛 ((‵ ftrue ⊛ ‵ (fsep (OpaqueRow.own_val (opaque p a (Some x)) vs) ftrue)) ∷ raw (emp 𝓤) ∷ []) ∵ split ! $ drop ! $ fsplit ! $
      opaque_out ! p a (Some x) vs (λ h is fits. fsplit ! $ fpick ! (λ own. drop ! $
      use1 𝓛 (given (Testable p) (‵ (boxed a p x))) (tested 𝓛 a p x) $ learn ! (λ may.
      in_a_block ! p (λ q. boxed a q x) (fst∗ 𝓤 (never 𝓤) (sem 𝓛 (ghosts.dealloc_token a (bare (lone (R E).mir)) null_ptr))) (λ b o e.
      move ! (2 ∷ 3 ∷ []) $ drop ! $ drop ! $
      -- [the handle, in its room; the heap]
      let at : Ptr = block_ptr b o in let d : D E = record { ptr = at; alloc = a; value = x } in
      let apart : ApartRow.Denot = record { at = at; alloc = a; value = x } in
      let w : Val = word E h b o in let v : Val = live 1 (vcons w vnil) in
      let typed = box_typed E h b o fits in
      let good : T (has_ty (layout Out) v) × WT v = (and_tt _ typed.0, (record { fits = lit< tt }, (typed.1, tt))) in
      let Γ : List (Item 𝓤) = ‵ (boxed a at x) ∷ ‵ ((P E).own_val a (h ∷ [])) ∷ [] in
      by ! (subst (λ (us : List Val). ent 𝓤 (types.Kit.⋆ 𝓛 Γ) (WpFn 𝓤 𝓛.H 𝓣.C 𝓣.Λ code.function (us ++ []) (Post p a (Some x) vs)))
      (sym (is ∙ ap (λ (q : Ptr). both (ptr_val q) h ∷ []) e))
      (qed 𝓛 Γ ∵ enter ! 𝓣.C 𝓣.Λ code.function (w ∷ []) _ $ alloc_all ! (λ ls. pass_all ! refl (typed, tt) $
      let Ev = env (code.function).locals ls in
      sets ! (of_opd ! (get_in ! (fld ! refl (stop !)) (sub ! 0 refl (whole !)))) refl (tt, tt) $
      sets ! (of_opd ! (get_in ! (fld ! refl (stop !)) (sub ! 1 refl (whole !)))) refl fits $
      sets ! (bin ! (get ! refl) (lit ! tt) (tests_null at (subst Testable e may))) refl (tt, tt) $ first ! $ branches ! (get ! refl)
      (λ wrong. absurd wrong)
      (λ _. skips ! $ exec ! 𝓣.C 𝓣.Λ Ev (after 4 (code.function).body) (at_ret Ev (Post p a (Some x) vs)) $
      sets ! (of_opd ! (get ! refl)) refl (tt, tt) $
      sets ! (agg ! (and_then ! (get ! refl) (and_then ! (get ! refl) (no_more !)))) refl typed $
      sets ! (agg ! (and_then ! (lit ! tt) (and_then ! (get ! refl) (no_more !)))) refl good $
      returns ! (look_at ! 0 refl) $ free_all ! refl $
      fsplit ! $ box_in E ! d b o x refl refl $ use1 𝓛 (‵ (Out.own_val (Some apart) (v ∷ []))) (Some-of 𝓛 ApartRow apart w) $
      suffices ! _ (ends_at 𝓛 f.ended stayed c (at_z p a (Some x) vs) v (Some apart) (tt, tt) (tt, tt)) $ says_two ! (refl, own) $
      nothing ! $ nothing ! $ fjoin ! $ join ! $ nothing ! $ join ! $ done !))))))))

pub into_unboxed_spec : {M : Type 1} → statement M
into_unboxed_spec 𝓤 𝓛 𝓜 𝓡 wired =
    proved_at 𝓛 f.ended stayed (f.clauses 𝓛 𝓜.mem 𝓡.returns) 𝓜 𝓡 (Goes-dropped 𝓛 0 FromOpaque yes (λ κs x w. refl), tt)
    #self code.function (code.unfolded 𝓤 𝓛.H 𝓜 𝓡 wired)
    (λ z are. walk 𝓛 𝓜 𝓡 z.0.3.0.at z.0.3.0.alloc z.0.3.0.held z.0.4.0)
