use Rattle.std.proofs.Common.{◌≡◌, ◌^◌, ◌<◌, true, take}
use Rattle.std.specs.Char.{is_ascii_digit}
use Rattle.std.specs.List.{list_all}
use Rattle.art_schedule.specs.Lines.{number_of}
use Rattle.art_schedule.proofs.lines.number_in.Given as goal

abbrev pub invariant-loop-byte : goal.invariant-loop-byte
invariant-loop-byte l = record {
  digits : list_all is_ascii_digit (take l.byte-index l.digits) ≡ true;
  number : l.number ≡ number_of (take l.byte-index l.digits);
  small : l.number < 2 ^ 32;
}
