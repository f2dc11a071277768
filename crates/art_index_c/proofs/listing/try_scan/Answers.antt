use Rattle.std.proofs.Common.{◌≡◌, Err, Result, rules, subst, sym}
use Rattle.art_handle.specs.ArtScan.declared.faults.ScanFault.{ScanFault}
use Rattle.art_handle.specs.ArtScan.declared.faults.ScanFault.TheVariants.{Value}
use Rattle.art_handle.specs.ArtScan.declared.scans.More.{More}
use Rattle.art_handle.specs.Handles.{pass_of, table_of}
use Rattle.art_index_c.specs.Listing.{ScansBetween}
use Rattle.art_index_c.proofs.Scanned.{few_where_ok, is_refused_hi, is_refused_lo, is_scanned}
use Rattle.art_index_c.proofs.listing.try_scan.Goals as goal

pub returns-in_err-lo-clause-scans : goal.returns-in_err-lo-clause-scans
returns-in_err-lo-clause-scans c =
    let h = c.args.handle.now in let lo = c.args.lo.now in let hi = c.args.hi.now in let f = c.in_err-lo.field-0.0 in
    let found = c.args.found.now.items in
    let is : c.from_residual.result ≡ Err (Value f) = search rules in
    subst (λ (r : Result More ScanFault). ScansBetween h lo hi c.args.limit found r h) (sym is)
    (is_refused_lo h lo hi c.args.limit found f (sym c.in_err-lo.ensures) c.requires)

pub returns-in_err-hi-clause-scans : goal.returns-in_err-hi-clause-scans
returns-in_err-hi-clause-scans c =
    let h = c.args.handle.now in let lo = c.args.lo.now in let hi = c.args.hi.now in let f = c.in_err-hi.field-0.0 in
    let found = c.args.found.now.items in
    let is : c.from_residual-in_err-hi.result ≡ Err (Value f) = search rules in
    subst (λ (r : Result More ScanFault). ScansBetween h lo hi c.args.limit found r h) (sym is)
    (is_refused_hi h lo hi c.args.limit found c.in_ok-lo.lo f (sym c.in_ok-lo.ensures) (sym c.in_err-hi.ensures) c.requires)

pub returns-clause-scans : goal.returns-clause-scans
returns-clause-scans c =
    let done = c.scan.ensures in
    is_scanned c.args.handle.now c.scan.new.self c.args.lo.now c.args.hi.now c.args.limit c.scan.new.out.items c.scan.result c.in_ok-lo.lo c.in_ok-hi.hi
    (sym c.in_ok-lo.ensures) (sym c.in_ok-hi.ensures) done.own done.table done.scans

pub returns-clause-few : goal.returns-clause-few
returns-clause-few c =
    few_where_ok (table_of c.args.handle.now) c.in_ok-lo.lo c.in_ok-hi.hi c.args.limit 1000000 (pass_of c.args.handle.now) (pass_of c.scan.new.self) c.scan.new.out.items
    c.scan.result c.scan.ensures.scans
