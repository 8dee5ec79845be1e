use Rattle.std.proofs.Common.{◌≡◌, ◌^◌, ◌<◌, drop}
use Rattle.numerals.specs.Number.{read_from}
use Rattle.numerals.proofs.number.read_digits.Given as goal

abbrev pub invariant-loop-b : goal.invariant-loop-b
invariant-loop-b l = record {
  in_range : l.v < 2 ^ 32;
  read : read_from l.base (drop l.b-index l.text) l.v ≡ read_from l.base l.text 0;
}
