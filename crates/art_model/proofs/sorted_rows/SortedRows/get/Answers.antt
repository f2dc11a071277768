use Rattle.std.proofs.Common.{sym, ap}
use Rattle.art_model.specs.Answers.{get_answer}
use Rattle.art_model.proofs.Places.{there, nowhere}
use Rattle.art_model.proofs.sorted_rows.SortedRows.get.Goals as goal

pub returns-in-Ok : goal.returns-in-Ok
returns-in-Ok c = sym (ap (λ o. (get_answer c.args.self.now.rows o).0) (there c.deref.ensures.value c.self.view_is c.in-Ok.ensures c.index.ensures))

pub returns-in-Err : goal.returns-in-Err
returns-in-Err c = sym (ap (λ o. (get_answer c.args.self.now.rows o).0) (nowhere c.deref.ensures.value c.self.view_is c.in-Err.ensures))
