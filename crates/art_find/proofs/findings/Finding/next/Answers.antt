use Rattle.art_find.proofs.findings.Finding.next.Goals as goal

pub returns-clause-asks : goal.returns-clause-asks
returns-clause-asks c = c.next.ensures.asks
