use Rattle.std.proofs.Common.{◌≡◌, ◌++◌, drop}
use Rattle.mx_print_report.specs.Words.{name_bytes}
use Rattle.mx_print_report.proofs.process_words.push_name.Given as goal

abbrev pub invariant-loop-byte : goal.invariant-loop-byte
invariant-loop-byte l = l.out.items ++ name_bytes (drop l.byte-index l.name) ≡ l.fn.out.items ++ name_bytes l.name
