-- `of` asks the box for its pointer and its allocator, with which it has what the box owned, and puts the two together.
use Rattle.std.proofs.Common.{◌≡◌, List, [], ◌∷◌, ◌++◌, ◌∙◌, ap, refl, subst, sym}
use mir.MapTy.{inst_fn}
use mir.Raw.{raw as bare}
use mir.Syntax.{Args, a_type, dcons, dnil}
use mir.Val.{Val, vstruct, of_list}
use base.Logic.{ent, id⊢, never, fst∗}
use base.Fml.{ftrue, fsep, flft}
use prog.Wp.{WpFn}
use types.Logic.{sem}
use types.Kit.{Item, ‵, raw, ◌⊛◌, some, later, ◌$◌, ◌∵◌, !, qed, by, move, drop, use1, join, split, split3, pick, rewrite, fsplit, fjoin, fpick, feq_l, suffices, await, done}
use types.Part.{agg, sub, whole}
use types.Run.{stop, fld, no_more, and_then, of_opd, returns, enter}
use types.ByLocal.{alloc_all, pass_all, free_all, look_at, get, get_in, sets, lands_as}
use contract.BorrowLft.{◌⊑◌}
use contract.Monad.{fact}
use contract.Running.{tables}
use denote.Exit.{no}
use denote.Param.{bounded}
use denote.RattleType.{RattleType}
use denote.RawPtr.{Ptr, RawPtr, block_ptr, null_ptr, ptr_val, in_a_block}
use denote.Signature.{plain}
use denote.Steps.{heard, nothing, only}
use denote.Struct.Tuple.{Tuple}
use denote.Triple.Call.{calls_at}
use denote.Triple.Spec.{triple_of}
use denote.Triple.Table.{framed}
use denote.Triple.Walked.{Stays, says, stay_dropped, walk_of, ends_at}
use Rattle.std.proofs.alloc.Calls.{token, handle_tells, Goes-blank}
use Rattle.std.proofs.raw_atomic.Walks.{proved_at}
use Rattle.std_alloc.specs.Box.Ownership.{box_owns}
use Rattle.std_alloc.proofs.BoxSteps.Form.{Bx, B, D, P, R, τ, word, box_typed}
use Rattle.std_alloc.proofs.BoxSteps.Steps.{box_out, box_in}
use Rattle.std_alloc.specs.contracts.boxed.Box.into_raw_with_allocator as g
use Rattle.std_alloc.proofs.boxed.Box.into_raw_with_allocator.Met.{met}
use Rattle.art_index_c.specs.contracts.unboxed.Unboxed as apart
use Rattle.art_index_c.specs.contracts.unboxed.Unboxed.of as f
use Rattle.art_index_c.specs.contracts.unboxed.Unboxed.of.Key.{name as #self}
use Rattle.art_index_c.proofs.unboxed.Unboxed.of.Statement.{statement}
use Rattle.art_index_c.proofs.unboxed.Unboxed.of.Code as code

pub of_spec : {M : Type 1} → statement M
of_spec 𝓤 𝓛 𝓜 𝓡 wired X Z LX LZ ghosts dict drops glue allocator undropped dropped =
    let E : Bx = record { row = X; laws = LX; al = record { row = Z; laws = LZ; g = ghosts; d = dict; drops = drops } } in
    let T = f.ended X Z ghosts dict drops glue in let c = f.clauses X Z ghosts dict drops glue 𝓛 𝓜.mem 𝓡.returns in
    let 𝓣 = tables 𝓤 𝓛.H 𝓜 𝓡 𝓡.env in
    let hs : Stays T.signature.params T.kept = (stay_dropped (plain (λ _. B E)) no, tt) in let W = walk_of 𝓛 T hs c in
    let passed : Args = bounded (a_type ∷ a_type ∷ []) (X, (Z, tt)) (dcons dict (dcons drops (dcons glue dnil))) in
    let fn = inst_fn passed code.function in
    let G = triple_of 𝓛 (g.signature X Z ghosts dict drops glue) (g.spec X Z ghosts dict drops glue 𝓛 𝓜.mem 𝓡.returns) in
    let To : RattleType = apart.the_row (R E) (P E) ghosts in
    proved_at 𝓛 T hs c 𝓜 𝓡 (Goes-blank 𝓛 2 (plain (λ _. B E)) no (λ κs x w. tt), tt) (#self passed) fn
    (code.unfolded 𝓤 𝓛.H 𝓜 𝓡 wired (X, (Z, tt)) dict drops glue) (λ z are.
    let κs = z.0.0 in let qs = z.0.1 in let d : D E = z.0.3.0 in let a = d.alloc in let x = d.value in
    let alive : Item 𝓤 = ‵ (flft κs.0 qs.0) ⊛ ‵ (flft κs.1.0 qs.1.0) ⊛ ‵ ftrue in
    let outlive : Item 𝓤 = raw (fact 𝓤 (κs.0 ⊑ X.lives)) ⊛ raw (fact 𝓤 (κs.1.0 ⊑ Z.lives)) ⊛ ‵ ftrue in
    qed 𝓛 ((alive ⊛ ‵ (fsep ((B E).own_val d z.0.4.0) ftrue)) ∷ outlive ∷ []) ∵ split ! $ move ! (1 ∷ []) $ fsplit ! $
    box_out E ! d z.0.4.0 (λ b o h e is fits. box_in E ! d b o x e refl $
    -- [the box; true; what is alive; what outlives it]
    let w = word E h b o in let good = box_typed E h b o fits in
    let Γ : List (Item 𝓤) = ‵ ((B E).own_val d (w ∷ [])) ∷ ‵ ftrue ∷ alive ∷ outlive ∷ [] in
    by ! (subst (λ (us : List Val). ent 𝓤 (types.Kit.⋆ 𝓛 Γ) (WpFn 𝓤 𝓛.H 𝓣.C 𝓣.Λ fn (us ++ []) (W.post z))) (sym is)
    (qed 𝓛 Γ ∵ enter ! _ _ _ (w ∷ []) _ $ alloc_all ! (λ ls. pass_all ! refl (good, tt) $ sets ! (of_opd ! (get ! refl)) refl good $
    fjoin ! $ move ! (1 ∷ 0 ∷ []) $ join ! $ join ! $
    let y : G.Ghost = ((κs, qs, tt, (d, tt), (w ∷ [], tt)), tt) in use1 𝓛 (raw (G.pre y)) (id⊢ 𝓤 _) $
    calls_at ! (framed 𝓤 𝓛.H 𝓜 𝓣) G
    (met 𝓤 𝓛 𝓜 𝓡 (code.calls-std_alloc::boxed::Box::into_raw_with_allocator 𝓡.env wired) X Z LX LZ ghosts dict drops glue allocator undropped dropped) y
    (and_then ! (get ! refl) (no_more !)) (λ u.
    use1 𝓛 (later (some (λ (r : Ptr × Z.Denot). (alive ⊛ ‵ ((Tuple (RawPtr ∷ P E ∷ [])).own_val r (u ∷ []))) ⊛
    some (λ (_ : (Unit {0} × (Unit {0} × Unit {0})) × Unit {0}). ‵ (fsep (fsep ftrue (fsep ftrue ftrue)) ftrue) ⊛
    (raw (fact 𝓤 (r.1 ≡ a)) ⊛ ‵ (box_owns (token E.al a) (R E) r.0 x)))))) (id⊢ 𝓤 _) $
    await ! tt $ pick ! (λ r. split ! $ move ! (1 ∷ []) $ pick ! (λ _. split3 ! $ drop ! $ heard ! (r.1 ≡ a) (λ same.
    in_a_block ! r.0 (λ p. box_owns (token E.al a) (R E) p x) (fst∗ 𝓤 (never 𝓤) (sem 𝓛 (token E.al a (bare (τ E)) null_ptr))) (λ b' o' e'.
    move ! (1 ∷ []) $ split ! $ move ! (1 ∷ []) $
    -- [the pair; what is alive; the value, in its room]
    fpick ! (λ vss. fsplit ! $ feq_l ! (λ pair. fsplit ! $ feq_l ! (λ at. fsplit ! $
    rewrite ! 0 (λ (s : Z.Denot). ‵ (Z.own_val s vss.1.0)) same refl $ handle_tells E.al ! a vss.1.0 (λ h' bits fits'.
    let w' = word E h' b' o' in let good' = box_typed E h' b' o' fits' in
    lands_as ! (ap only (pair ∙ (λ j. vstruct (of_list ((at ∙ ap (λ (p : Ptr). ptr_val p ∷ []) e') j ++ (bits j ++ []))) ∷ []))) refl good' $
    sets ! (of_opd ! (get_in ! (fld ! refl (stop !)) (sub ! 0 refl (whole !)))) refl (tt, tt) $
    sets ! (of_opd ! (get_in ! (fld ! refl (stop !)) (sub ! 1 refl (whole !)))) refl fits' $
    sets ! (of_opd ! (get ! refl)) refl fits' $
    sets ! (agg ! (and_then ! (get ! refl) (and_then ! (get ! refl) (no_more !)))) refl good' $
    returns ! (look_at ! 0 refl) $ free_all ! refl $
    -- [the allocator; true; what is alive; the value, in its room]
    let made : To.Denot = record { at = block_ptr b' o'; alloc = a; value = x } in
    move ! (3 ∷ []) $ fsplit ! $ box_in E ! (record { ptr = block_ptr b' o'; alloc = a; value = x }) b' o' x refl refl $
    use1 𝓛 (‵ (To.own_val made (w' ∷ []))) (id⊢ 𝓤 _) $ move ! (1 ∷ []) $ drop ! $
    suffices ! _ (ends_at 𝓛 T hs c z w' made ((tt, (tt, tt)), tt) (tt, tt)) $ says ! refl $
    nothing ! $ nothing ! $ fjoin ! $ join ! $ move ! (1 ∷ 0 ∷ []) $ join ! $ done !))))))))))))))
