-- A pass whose command has ended is the same pass, of the same table.
use Rattle.std.proofs.Common.{◌≡◌, ℕ, List, Option, Some, None, Result, refl, sym, subst, ◌∙◌}
use Rattle.art_key.specs.declared.faults.ValueFault.{ValueFault}
use Rattle.art_model.specs.Rows.{Tuple}
use Rattle.art_model.specs.declared.commands.Command.{Command}
use Rattle.art_model.specs.declared.commands.Command.TheVariants.{Insert, Remove, Get, Scan}
use Rattle.art_model.specs.declared.rows.Row.{Row}
use Rattle.art_server.specs.ArtScan.Endings.{CommandEnds}
use Rattle.art_server.specs.ArtScan.Scans.{Scans, scan_fault}
use Rattle.art_server.specs.ArtScan.declared.faults.ScanFault.{ScanFault}
use Rattle.art_server.specs.ArtScan.declared.running.Ending.{Ending}
use Rattle.art_server.specs.ArtScan.declared.running.Ending.TheVariants as ending
use Rattle.art_server.specs.ArtScan.declared.scans.More.{More}
use Rattle.art_server.specs.Sessions.{IsSamePass}
use Rattle.art_server.specs.ArtTable.Calls.{Ends}
use Rattle.art_server.specs.ArtTable.Jobs.{job_fault}
use Rattle.art_server.specs.ArtTable.Tables.{schema_in}
use Rattle.art_server.specs.ArtTable.declared.faults.Fault.{Fault}
use Rattle.art_server.specs.ArtTable.declared.jobs.Job.{Job}
use Rattle.art_server.specs.ArtTable.declared.jobs.Job.TheVariants as job
use Rattle.art_server.specs.ArtTable.declared.jobs.Outcome.{Outcome}
use Rattle.art_server.specs.ArtTable.declared.passes.Pass.{Pass}
use Rattle.art_server.specs.ArtTable.declared.tables.Table.{Table}

pub IsSamePass-refl : (p : Pass) → IsSamePass p p
IsSamePass-refl p = record { number = refl; table = refl; seat = refl; basis = refl; told = refl }

pub IsSamePass-trans : (p m q : Pass) → IsSamePass p m → IsSamePass m q → IsSamePass p q
IsSamePass-trans p m q before after = record {
  number = after.number ∙ before.number;
  table = after.table ∙ before.table;
  seat = after.seat ∙ before.seat;
  basis = after.basis ∙ before.basis;
  told = after.told ∙ before.told;
}

-- one that made no step
unmoved : (p q : Pass) → q ≡ p → IsSamePass p q
unmoved p q same = subst (IsSamePass p) (sym same) (IsSamePass-refl p)

module _ (t : Table) (turns : ℕ) (p : Pass) (rows : List Row) (q : Pass) where
  job_same : (j : Job) (r : Result Outcome Fault) → Ends t j turns p r q → (fault : Option ValueFault) → job_fault (schema_in t) j ≡ fault
      → IsSamePass p q
  job_same j r ends (Some fault) is = unmoved p q (ends.fault fault is).1
  job_same j r ends None is = (ends.called is).same

  scan_same : (lo hi : Tuple) (limit : ℕ) (r : Result More ScanFault) → Scans t lo hi limit turns p rows r q
      → (fault : Option ScanFault) → scan_fault (schema_in t) lo hi limit ≡ fault → IsSamePass p q
  scan_same lo hi limit r scans (Some fault) is = unmoved p q (scans.fault fault is).2
  scan_same lo hi limit r scans None is = (scans.scanned is).tiled.same

  pub same_after : (c : Command) (e : Ending) → CommandEnds t c turns p rows e q → IsSamePass p q
  same_after (Insert tuple value) (ending.Call r) ends = job_same (job.Insert tuple value) r ends _ refl
  same_after (Insert tuple value) (ending.Scan r) ends = absurd ends
  same_after (Remove tuple) (ending.Call r) ends = job_same (job.Remove tuple) r ends _ refl
  same_after (Remove tuple) (ending.Scan r) ends = absurd ends
  same_after (Get tuple) (ending.Call r) ends = job_same (job.Get tuple) r ends _ refl
  same_after (Get tuple) (ending.Scan r) ends = absurd ends
  same_after (Scan lo hi limit) (ending.Call r) ends = absurd ends
  same_after (Scan lo hi limit) (ending.Scan r) ends = scan_same lo hi limit r ends _ refl
