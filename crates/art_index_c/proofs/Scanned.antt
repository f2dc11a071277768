-- How a scan comes about with the tuples of columns.
use Rattle.std.proofs.Common.{◌≡◌, ℕ, ◌≤◌, List, length, OnOk, Option, Some, None, Result, Ok, Err, refl, ap, subst}
use Rattle.art_handle.specs.ArtScan.Scans.{Scans, scan_fault}
use Rattle.art_handle.specs.ArtScan.declared.faults.ScanFault.{ScanFault}
use Rattle.art_handle.specs.ArtScan.declared.faults.ScanFault.TheVariants.{Value}
use Rattle.art_handle.specs.ArtScan.declared.scans.More.{More}
use Rattle.art_handle.specs.ArtTable.Tables.{schema_in}
use Rattle.art_handle.specs.ArtTable.declared.passes.Pass.{Pass}
use Rattle.art_handle.specs.ArtTable.declared.tables.Table.{Table}
use Rattle.art_handle.specs.Handles.{IsOfItsTable, pass_of, table_of}
use Rattle.art_handle.specs.declared.handles.Handle.{Handle}
use Rattle.art_index_c.specs.Calls.{turns}
use Rattle.art_index_c.specs.Columns.{tuple_of}
use Rattle.art_index_c.specs.Listing.{ScansBetween}
use Rattle.art_index_c.specs.declared.columns.Column.{Column}
use Rattle.art_index_c.proofs.Results.{ok_or_err, same_err, same_ok}
use Rattle.art_key.specs.declared.faults.ValueFault.{ValueFault}
use Rattle.art_model.specs.Rows.{Tuple}
use Rattle.art_model.specs.declared.rows.Row.{Row}

-- both are tuples, and the scan was made
pub is_scanned : (h k : Handle) (lo hi : List Column) (limit : ℕ) (found : List Row) (r : Result More ScanFault) (a b : Tuple) → tuple_of lo ≡ Ok a → tuple_of hi ≡ Ok b
    → IsOfItsTable k → table_of k ≡ table_of h → Scans (table_of h) a b limit turns (pass_of h) found r (pass_of k)
    → ScansBetween h lo hi limit found r k
is_scanned h k lo hi limit found r a b lo_is hi_is own table scans = record {
  own = own;
  table = table;
  refused_lo = λ f e. absurd (ok_or_err (tuple_of lo) a f lo_is e);
  refused_hi = λ x f e g. absurd (ok_or_err (tuple_of hi) b f hi_is g);
  scanned = λ x y e g.
      subst (λ (v : Tuple). Scans (table_of h) x v limit turns (pass_of h) found r (pass_of k)) (same_ok (tuple_of hi) b y hi_is g)
      (subst (λ (v : Tuple). Scans (table_of h) v b limit turns (pass_of h) found r (pass_of k)) (same_ok (tuple_of lo) a x lo_is e) scans);
}

-- the lower columns are no tuple
pub is_refused_lo : (h : Handle) (lo hi : List Column) (limit : ℕ) (found : List Row) (f : ValueFault) → tuple_of lo ≡ Err f → IsOfItsTable h
    → ScansBetween h lo hi limit found (Err (Value f)) h
is_refused_lo h lo hi limit found f are own = record {
  own = own;
  table = refl;
  refused_lo = λ g e. (ap (λ (x : ValueFault). Err (Value x)) (same_err (tuple_of lo) f g are e), refl);
  refused_hi = λ a g e e'. absurd (ok_or_err (tuple_of lo) a f e are);
  scanned = λ a b e e'. absurd (ok_or_err (tuple_of lo) a f e are);
}

-- the upper columns are none
pub is_refused_hi : (h : Handle) (lo hi : List Column) (limit : ℕ) (found : List Row) (a : Tuple) (f : ValueFault) → tuple_of lo ≡ Ok a → tuple_of hi ≡ Err f
    → IsOfItsTable h → ScansBetween h lo hi limit found (Err (Value f)) h
is_refused_hi h lo hi limit found a f lo_is are own = record {
  own = own;
  table = refl;
  refused_lo = λ g e. absurd (ok_or_err (tuple_of lo) a g lo_is e);
  refused_hi = λ x g e e'. (ap (λ (y : ValueFault). Err (Value y)) (same_err (tuple_of hi) f g are e'), refl);
  scanned = λ x b e e'. absurd (ok_or_err (tuple_of hi) b f e' are);
}

-- a scan lists no more rows than its limit
few_by : (t : Table) (a b : Tuple) (limit n : ℕ) (p q : Pass) (found : List Row) (more : More) (fault : Option ScanFault)
    → scan_fault (schema_in t) a b limit ≡ fault → Scans t a b limit n p found (Ok more) q → length found ≤ limit
few_by t a b limit n p q found more None e scans = (scans.scanned e).ends.owed.few
few_by t a b limit n p q found more (Some f) e scans = absurd (ok_or_err (Ok more) more f refl (scans.fault f e).0)

few_listed : (t : Table) (a b : Tuple) (limit n : ℕ) (p q : Pass) (found : List Row) (more : More) → Scans t a b limit n p found (Ok more) q
    → length found ≤ limit
few_listed t a b limit n p q found more scans = few_by t a b limit n p q found more (scan_fault (schema_in t) a b limit) refl scans

pub few_where_ok : (t : Table) (a b : Tuple) (limit n : ℕ) (p q : Pass) (found : List Row) (r : Result More ScanFault) → Scans t a b limit n p found r q
    → OnOk r (length found ≤ limit)
few_where_ok t a b limit n p q found (Ok more) scans = few_listed t a b limit n p q found more scans
few_where_ok t a b limit n p q found (Err fault) scans = tt
