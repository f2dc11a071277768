use Rattle.std.proofs.Common.{◌≡◌, ◌≢◌, ◌∷◌, length, Some, sym, arith}
use Rattle.std.proofs.lemmas.Bool.{eqb-false}
use Rattle.json.specs.Json.{after_end_array}
use Rattle.json.specs.Token.{Token}
use Rattle.art_lines.specs.Cursors.{tokens_left}
use Rattle.art_lines.proofs.TokenLaws.{IsFront-more, IsFront-end, begins-array}
use Rattle.art_lines.proofs.tokens.next_tuple.Goals as goal

pub elements-preserved : goal.elements-preserved
elements-preserved c =
    let l = c.elements in
    let going : c.take_end_array.new.self ≡ l.cursor = grind arith in
    let said = c.in_ok-next_value.ensures in
    let begins = rw going at said.1 in
    let more = IsFront-more 125 (tokens_left c.take_begin_array.new.self) (tokens_left l.cursor) (tokens_left c.next_value.new.cursor) l.tuple.items said.0 c.in_ok-next_value.field-0 l.invariant.front begins said.2 in
    let room : length l.tuple.items ≢ 8 = eqb-false _ _ (sym c.if-is_full.ensures.value) in
    record { front = rw c.push.ensures.items more; few = omega (arith, c.push.ensures.len) }

pub returns : goal.returns
returns c =
    let l = c.elements in
    let first : tokens_left c.args.cursor.now ≡ Token.begin_array ∷ tokens_left c.take_begin_array.new.self = grind arith in
    let closed : after_end_array (tokens_left l.cursor) ≡ Some (tokens_left c.take_end_array.new.self) = grind arith in
    let all = IsFront-end 125 (tokens_left c.take_begin_array.new.self) (tokens_left l.cursor) (tokens_left c.take_end_array.new.self) l.tuple.items l.invariant.front l.invariant.few closed in
    (all.0, begins-array 125 _ _ _ _ first all.1, all.2)
