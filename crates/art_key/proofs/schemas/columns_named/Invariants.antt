use Rattle.std.proofs.Common.{◌≡◌, length, drop}
use Rattle.std.specs.List.{All}
use Rattle.art_key.specs.Columns.{IsColumn}
use Rattle.art_key.specs.Schemas.{columns_of, parts}
use Rattle.art_key.proofs.NamedColumns.{before}
use Rattle.art_key.proofs.schemas.columns_named.Given as goal

abbrev pub invariant-loop-name : goal.invariant-loop-name
invariant-loop-name l = record {
  read : length l.columns.items ≡ length l.yielded;
  names : before l.columns.items (columns_of (length l.yielded) (drop (length l.yielded) (parts l.text))) ≡ columns_of 0 (parts l.text);
  known : All IsColumn l.columns.items;
}
