use Rattle.std.proofs.Common.{◌≡◌, ◌∙◌, true, false, List, [], Option, Some, None, refl, sym, ap, arith}
use Rattle.std.specs.Prelude.{is_some, unwrap_or}
use Rattle.art_model.specs.declared.values.Value.{Value}
use Rattle.art_key.specs.Spelling.{tuple_spelled}
use Rattle.art_key.specs.Numbers.{AreBytes-from_each}
use Rattle.art_key.proofs.TupleLaws.{found_from_exact, none_from_exact}
use Rattle.art_key.proofs.keys.decode.Goals as goal

some_read : (o : Option (List Value)) (read : List Value) → is_some o ≡ true → read ≡ unwrap_or o [] → Some read ≡ o
some_read (Some vs) read known same = ap (λ (us : List Value). Some us) same
some_read None read known same = cc

none_read : (o : Option (List Value)) → is_some o ≡ false → None ≡ o
none_read None known = refl
none_read (Some vs) known = cc

pub returns-then-decode_into-clause-found : goal.returns-then-decode_into-clause-found
returns-then-decode_into-clause-found c =
    let read = c.decode_into.ensures in
    found_from_exact c.args.schema.now c.args.bytes.now (Some c.decode_into.new.tuple) (AreBytes-from_each c.args.bytes.now (λ i. omega (arith, c.type_inv.bytes i)))
    (some_read (tuple_spelled c.args.schema.now c.args.bytes.now) c.decode_into.new.tuple.items (sym read.known ∙ c.if-decode_into.true) read.read)

pub returns-else-decode_into-clause-none : goal.returns-else-decode_into-clause-none
returns-else-decode_into-clause-none c =
    none_from_exact c.args.schema.now c.args.bytes.now None
    (none_read (tuple_spelled c.args.schema.now c.args.bytes.now) (sym c.decode_into.ensures.known ∙ c.if-decode_into.false))
