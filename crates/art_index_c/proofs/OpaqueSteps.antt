-- An opaque pass is made of a pointer and the heap with what it owns, and taken apart.
use Rattle.std.proofs.Common.{◌≡◌, List, [], ◌∷◌, ◌++◌, Option, refl, subst}
use seplogic.Ra.Ura.{Ura}
use mir.Val.{Val, vstruct, vcons, vnil, of_list}
use types.Logic.{Logic}
use types.Kit.{Item, Goal, Seq, Step, step, ‵, ◌$◌, move, drop, fsplit, fjoin, fpick, fpack, feq_i, feq_l}
use denote.RattleType.{Valss}
use denote.Builtin.{RawPtr}
use denote.RawPtr.{Ptr, ptr_val}
use denote.Steps.{nothing}
use denote.Struct.Struct.{within}
use denote.Struct.Owning.{shape, to}
use Rattle.std.proofs.alloc.Calls.{Fits, handle_tells}
use Rattle.std_alloc.proofs.BoxSteps.Form.{X, P}
use Rattle.std_heap.specs.contracts.Global as Heap
use Rattle.art_index_c.specs.Held.{owns_held}
use Rattle.art_index_c.specs.contracts.opaque.OpaquePass as Opaque
use Rattle.art_index_c.proofs.AsBox.{E, OpaqueRow}

abbrev pub Heaps : Type 0
Heaps = Heap.the_row.Denot

-- the machine's value of two fields
abbrev pub both : Val → Val → Val
both v w = vstruct (vcons v (vcons w vnil))

-- the opaque pass at p of what is held
abbrev pub opaque : Ptr → Heaps → Option (X E) → OpaqueRow.Denot
opaque p a held = record { at = p; alloc = a; held = held }

module _ {M : Type 1} {𝓤 : Ura M} {𝓛 : Logic 𝓤} {K : Type 0} {Γ : List (Item 𝓤)} {G : Goal 𝓤 𝓛.H} where
  pub opaque_in : K → (p : Ptr) (h : Val) (a : Heaps) (held : Option (X E))
      → Step K 𝓛 (‵ (OpaqueRow.own_val (opaque p a held) (both (ptr_val p) h ∷ [])) ∷ Γ) G (‵ (owns_held a p held) ∷ ‵ ((P E).own_val a (h ∷ [])) ∷ Γ) G
  opaque_in t p h a held = step (λ s.
      let v : Val = both (ptr_val p) h in
      nothing t $ move t (2 ∷ 0 ∷ []) $ fjoin t $ feq_i t (List Val) (ptr_val p ∷ []) (ptr_val p ∷ []) refl $ fjoin t $
      feq_i t (List Val) (v ∷ []) (v ∷ []) refl $ fjoin t $
      fpack t (Valss (RawPtr ∷ P E ∷ [])) (within (shape Opaque.the_type) (to Opaque.the_type (opaque p a held)) (v ∷ [])) (ptr_val p ∷ [], (h ∷ [], tt)) $ fjoin t $ s)

  pub opaque_out : K → (p : Ptr) (a : Heaps) (held : Option (X E)) (vs : List Val)
      → ((h : Val) → vs ≡ both (ptr_val p) h ∷ [] → Fits E.al h → Seq K 𝓛 (‵ (owns_held a p held) ∷ ‵ ((P E).own_val a (h ∷ [])) ∷ Γ) G)
      → Seq K 𝓛 (‵ (OpaqueRow.own_val (opaque p a held) vs) ∷ Γ) G
  opaque_out t p a held vs k =
      fsplit t $ fpick t (λ vss. fsplit t $ feq_l t (λ fields. fsplit t $ feq_l t (λ at. fsplit t $ handle_tells E.al t a vss.1.0 (λ h is fits. move t (1 ∷ []) $ drop t $ move t (1 ∷ []) $
      k h (subst (λ (ws : List Val). vs ≡ vstruct (of_list (ptr_val p ∷ (ws ++ []))) ∷ []) is
      (subst (λ (ps : List Val). vs ≡ vstruct (of_list (ps ++ (vss.1.0 ++ []))) ∷ []) at fields)) fits))))
