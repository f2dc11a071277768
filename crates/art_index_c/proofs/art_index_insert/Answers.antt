use Rattle.std.proofs.Common.{◌≡◌, Some, rules, subst}
use Rattle.art_handle.specs.declared.handles.Handle.{Handle}
use Rattle.art_index_c.specs.Calls.{HasNoPass, Inserts}
use Rattle.art_index_c.proofs.Called.{is_held}
use Rattle.art_index_c.proofs.art_index_insert.Goals as goal

pub returns : goal.returns
returns c =
    let h = c.in-Some.held.value in let k = c.insert-status.new.handle in let tuple = c.args.tuple.now in
    let status = c.insert-status.result in let word = c.args.stands.now in let word_after = c.insert-status.new.stands in
    let was : c.args.pass.now.held ≡ Some h = search (rules, c.in-Some.ensures, c.replace.ensures) in
    let now : c.of.result.held ≡ Some k = search (rules, c.of.ensures) in
    let does : Inserts h tuple c.args.value status word word_after k =
    subst (λ (x : Handle). Inserts x tuple c.args.value status word word_after k) c.deref_mut.ensures.value c.insert-status.ensures in
    is_held (λ x y. Inserts x tuple c.args.value status word word_after y) (HasNoPass status word word_after) c.args.pass.now.held c.of.result.held h k was now does
