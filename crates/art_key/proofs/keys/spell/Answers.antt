use Rattle.std.proofs.Common.{false, get_or, arith}
use Rattle.std.proofs.lemmas.List.{get_or_default}
use Rattle.std.proofs.lemmas.List.Elements.{All-get_or}
use Rattle.std.proofs.lemmas.Result.{err_from_is_err_and}
use Rattle.art_key.specs.declared.columns.Column.{Column}
use Rattle.art_key.specs.declared.columns.Kind.TheVariants.{Bool}
use Rattle.art_key.specs.Columns.{IsColumn}
use Rattle.art_key.proofs.Loops.{IsSpelledTo-start, one_more, stops, room_here, is_spelled}
use Rattle.art_key.proofs.keys.spell.Goals as goal

abbrev no_column : Column
no_column = record { kind = Bool; descends = false }

pub loop-place-init : goal.loop-place-init
loop-place-init c = IsSpelledTo-start c.args.columns.now c.args.values.now c.args.key.now.items c.requires.empty c.requires.narrow

pub append-requires : goal.append-requires
append-requires c = record {
  known = All-get_or IsColumn c.args.columns.now c.loop-place.place no_column c.loop-place-test.true c.requires.known;
  room =
      room_here c.args.columns.now c.args.values.now c.loop-place.key.items c.loop-place.place (get_or c.args.columns.now c.loop-place.place no_column) c.loop-place-test.true
      (get_or_default c.args.columns.now c.loop-place.place no_column _ c.loop-place-test.true) c.loop-place.invariant;
}

pub returns-in_err-append-clause-fault : goal.returns-in_err-append-clause-fault
returns-in_err-append-clause-fault c =
    let stop = stops c.args.columns.now c.args.values.now c.loop-place.key.items c.loop-place.place (get_or c.args.columns.now c.loop-place.place no_column) c.index-values-place.result
    c.in_err-append.field-0.0 c.loop-place-test.true (omega arith)
    (get_or_default c.args.columns.now c.loop-place.place no_column _ c.loop-place-test.true) c.index-values-place.is c.in_err-append.ensures.fault c.loop-place.invariant in
    let p = err_from_is_err_and c.from_residual.result c.from_residual.ensures.1 in
    rw (p.1, p.2) stop

pub loop-place-preserved : goal.loop-place-preserved
loop-place-preserved c =
    let more = one_more c.args.columns.now c.args.values.now c.loop-place.key.items c.loop-place.place (get_or c.args.columns.now c.loop-place.place no_column) c.index-values-place.result
    c.loop-place-test.true (omega arith)
    (get_or_default c.args.columns.now c.loop-place.place no_column _ c.loop-place-test.true) c.index-values-place.is c.in_ok-append.ensures.stands c.loop-place.invariant in
    rw (c.in_ok-append.ensures.bytes) more

pub returns-clause-stands : goal.returns-clause-stands
returns-clause-stands c = (is_spelled c.args.columns.now c.args.values.now c.loop-place.key.items c.loop-place.place (omega arith) c.loop-place.invariant).1

pub returns-clause-bytes : goal.returns-clause-bytes
returns-clause-bytes c = (is_spelled c.args.columns.now c.args.values.now c.loop-place.key.items c.loop-place.place (omega arith) c.loop-place.invariant).0
