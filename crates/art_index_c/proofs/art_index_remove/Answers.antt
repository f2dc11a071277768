use Rattle.std.proofs.Common.{◌≡◌, Some, rules, subst}
use Rattle.art_handle.specs.declared.handles.Handle.{Handle}
use Rattle.art_index_c.specs.Calls.{HasNoPass, Removes}
use Rattle.art_index_c.proofs.Called.{is_held}
use Rattle.art_index_c.proofs.art_index_remove.Goals as goal

pub returns : goal.returns
returns c =
    let h = c.in-Some.held.value in let k = c.remove-status.new.handle in let tuple = c.args.tuple.now in
    let status = c.remove-status.result in let word = c.args.gone.now in let word_after = c.remove-status.new.gone in
    let was : c.args.pass.now.held ≡ Some h = search (rules, c.in-Some.ensures, c.replace.ensures) in
    let now : c.of.result.held ≡ Some k = search (rules, c.of.ensures) in
    let does : Removes h tuple status word word_after k =
    subst (λ (x : Handle). Removes x tuple status word word_after k) c.deref_mut.ensures.value c.remove-status.ensures in
    is_held (λ x y. Removes x tuple status word word_after y) (HasNoPass status word word_after) c.args.pass.now.held c.of.result.held h k was now does
