use Rattle.std.proofs.Common.{◌≡◌, Some, rules, subst}
use Rattle.art_handle.specs.declared.handles.Handle.{Handle}
use Rattle.art_index_c.specs.Calls.{Gets, HasNoPass}
use Rattle.art_index_c.proofs.Called.{is_held}
use Rattle.art_index_c.proofs.art_index_get.Goals as goal

pub returns : goal.returns
returns c =
    let h = c.in-Some.held.value in let k = c.get-status.new.handle in let tuple = c.args.tuple.now in
    let status = c.get-status.result in let word = c.args.found.now in let word_after = c.get-status.new.found in
    let was : c.args.pass.now.held ≡ Some h = search (rules, c.in-Some.ensures, c.replace.ensures) in
    let now : c.of.result.held ≡ Some k = search (rules, c.of.ensures) in
    let does : Gets h tuple status word word_after k =
    subst (λ (x : Handle). Gets x tuple status word word_after k) c.deref_mut.ensures.value c.get-status.ensures in
    is_held (λ x y. Gets x tuple status word word_after y) (HasNoPass status word word_after) c.args.pass.now.held c.of.result.held h k was now does
