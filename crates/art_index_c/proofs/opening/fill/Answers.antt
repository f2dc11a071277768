use Rattle.std.proofs.Common.{◌≡◌, ◌<◌, ◌∙◌, Box, List, [], ◌∷◌, ◌++◌, Option, Some, ap, append_assoc, arith, length, length-append, map, set, subst, sym}
use Rattle.std.proofs.lemmas.List.{length-map, length_push, map-append, map-set}
use Rattle.std.proofs.lemmas.List.Elements.{All-head, All-tail}
use Rattle.std.specs.Global.{Global}
use Rattle.std.specs.List.{All}
use Rattle.art_handle.specs.Handles.{IsOfItsTable}
use Rattle.art_handle.specs.declared.handles.Handle.{Handle}
use Rattle.art_index_c.specs.Columns.{over}
use Rattle.art_index_c.specs.declared.opaque.OpaquePass.{OpaquePass}
use Rattle.art_index_c.proofs.Overwrites.{over-push_at}
use Rattle.art_index_c.proofs.opening.fill.Goals as goal

abbrev value_of : Box Handle Global → Handle
value_of b = b.value

abbrev held_by : OpaquePass → Option Handle
held_by p = p.held

abbrev AreOwn : List (Box Handle Global) → Type 0
AreOwn boxes = All IsOfItsTable (map value_of boxes)

pub of-requires : goal.of-requires
of-requires c =
    All-head IsOfItsTable c.in-Some.handle.value (map value_of c.next.new.self.rest.items) (subst AreOwn c.in-Some.ensures.steps.0 c.loop-handle.invariant.left)

pub loop-handle-preserved : goal.loop-handle-preserved
loop-handle-preserved c =
    let i = c.loop-handle.invariant in let handle = c.in-Some.handle in let done = c.loop-handle.yielded in
    let rest = c.next.new.self.rest.items in let now = c.loop-handle.passes in let olds = map held_by c.args.passes.now in
    let front = map Some (map value_of done) in
    let next = c.in-Some.ensures.steps.0 in
    let many : length front ≡ c.loop-handle.place =
    length-map (map value_of done) Some ∙ (length-map done value_of ∙ sym i.place) in
    let lt : c.loop-handle.place < length olds =
    omega (arith, length-map c.args.passes.now held_by, ap length i.whole, length-append done c.loop-handle.handle-iterator.rest.items, ap length next, c.requires.one_each) in
    let more : front ++ Some handle.value ∷ [] ≡ map Some (map value_of (done ++ handle ∷ [])) =
    sym (ap (map Some) (map-append value_of done (handle ∷ [])) ∙ map-append Some (map value_of done) (handle.value ∷ [])) in
    record {
      place = omega (arith, length_push done handle);
      whole = append_assoc done (handle ∷ []) rest ∙ (ap (λ (bs : List (Box Handle Global)). done ++ bs) (sym next) ∙ i.whole);
      left = All-tail IsOfItsTable handle.value (map value_of rest) (subst AreOwn next i.left);
      held = map-set held_by now c.loop-handle.place c.of.result
          ∙ (ap (λ (hs : List (Option Handle)). set hs c.loop-handle.place c.of.result.held) i.held
          ∙ (ap (λ (h : Option Handle). set (over front olds) c.loop-handle.place h) c.of.ensures
          ∙ (over-push_at front olds (Some handle.value) c.loop-handle.place many lt ∙ ap (λ (hs : List (Option Handle)). over hs olds) more)));
    }
