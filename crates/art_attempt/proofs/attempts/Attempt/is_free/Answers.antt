use Rattle.std.proofs.Common.{◌∙◌, sym}
use Rattle.art_attempt.proofs.Free.{free_so}
use Rattle.art_attempt.proofs.attempts.Attempt.is_free.Goals as goal

pub returns-clause-free : goal.returns-clause-free
returns-clause-free c is going z u v r fits = free_so z u c.args.self.now r v fits.room.key.short c.args.self.now.stage (sym c.free_at.ensures ∙ is) going fits.stage
