use Rattle.std.proofs.Common.{◌≡◌, Some, rules, subst}
use Rattle.art_handle.specs.declared.handles.Handle.{Handle}
use Rattle.art_index_c.specs.Calls.{HasNoPass}
use Rattle.art_index_c.specs.Listing.{Lists}
use Rattle.art_index_c.proofs.Called.{is_held}
use Rattle.art_index_c.proofs.art_index_scan.Goals as goal

pub returns : goal.returns
returns c =
    let h = c.in-Some.held.value in let k = c.scan-status.new.handle in let lo = c.args.lo.now in let hi = c.args.hi.now in
    let status = c.scan-status.result in let rows = c.args.rows.now in let rows_after = c.scan-status.new.rows in
    let listed = c.args.listed.now in let listed_after = c.scan-status.new.listed in
    let was : c.args.pass.now.held ≡ Some h = search (rules, c.in-Some.ensures, c.replace.ensures) in
    let now : c.of.result.held ≡ Some k = search (rules, c.of.ensures) in
    let does : Lists h lo hi rows listed status rows_after listed_after k =
    subst (λ (x : Handle). Lists x lo hi rows listed status rows_after listed_after k) c.deref_mut.ensures.value c.scan-status.ensures in
    is_held (λ x y. Lists x lo hi rows listed status rows_after listed_after y) (HasNoPass status listed listed_after × (rows_after ≡ rows))
    c.args.pass.now.held c.of.result.held h k was now does
