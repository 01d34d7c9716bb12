use Rattle.std.proofs.Common.{◌≡◌, ◌<◌, take, drop}
use Rattle.mx_text.specs.Numbers.{value_from, AreDigits}
use Rattle.mx_text.proofs.read_numbers.value_of.Given as goal

abbrev pub invariant-loop-byte : goal.invariant-loop-byte
invariant-loop-byte l = record {
  small : l.value < 4294967296;
  value : value_from l.base 0 l.digits ≡ value_from l.base l.value (drop l.byte-index l.digits);
  each : AreDigits l.base (take l.byte-index l.digits);
}
