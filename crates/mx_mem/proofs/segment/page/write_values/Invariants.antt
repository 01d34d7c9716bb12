use Rattle.std.proofs.Common.{◌≡◌, ◌+◌, ◌*◌, length}
use Rattle.mx_word.specs.Word.{bytes_in}
use Rattle.mx_mem.specs.Segment.{repeated, with_bytes_at}
use Rattle.mx_mem.proofs.segment.page.write_values.Given as goal

abbrev pub invariant-loop-k : goal.invariant-loop-k
invariant-loop-k l = record {
  bytes : l.bytes ≡ with_bytes_at l.fn.bytes l.at (repeated l._k (bytes_in l.size) l.value);
  place : l.place ≡ l.at + l._k * bytes_in l.size;
  long : length l.bytes ≡ length l.fn.bytes;
}
