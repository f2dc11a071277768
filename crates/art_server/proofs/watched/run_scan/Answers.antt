use Rattle.art_server.proofs.Printable.{listed_printable}
use Rattle.art_server.proofs.watched.run_scan.Goals as goal

pub returns-in-Ok-Limit-clause-printable : goal.returns-in-Ok-Limit-clause-printable
returns-in-Ok-Limit-clause-printable c = listed_printable _ _ _ _ _ _ _ _ _ c.in-Ok-Limit.ensures.scans

pub returns-in-Ok-End-clause-printable : goal.returns-in-Ok-End-clause-printable
returns-in-Ok-End-clause-printable c = listed_printable _ _ _ _ _ _ _ _ _ c.in-Ok-End.ensures.scans
