-- The next word, or all are written.
use Rattle.std.proofs.Common.{arith, ◌<◌, length, get_or}
use Rattle.std.proofs.lemmas.Option.{slice_get-get_or}
use Rattle.art_plan.specs.declared.changes.Put.{Put}
use Rattle.art_plan.proofs.apply.written.Goals as goal

pub returns-then-count-len-clause-fits : goal.returns-then-count-len-clause-fits
returns-then-count-len-clause-fits c u v locking =
    let low : c.args.count < length c.args.change.now.puts.items = let is = c.len.ensures.value in let less = c.if-count-len.true in omega arith in
    let none : Put = record { target = 0; place = 0; value = 0 } in
    ((get_or c.args.change.now.puts.items c.args.count none, slice_get-get_or c.args.change.now.puts.items c.args.count none low), locking)
