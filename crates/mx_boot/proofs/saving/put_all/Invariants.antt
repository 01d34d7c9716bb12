use Rattle.std.proofs.Common.{◌≡◌, length, false}
use Rattle.mx_boot.specs.Taking.{IsTakenBut}
use Rattle.mx_boot.proofs.saving.put_all.Given as goal

abbrev pub decreases-loop-rest : goal.decreases-loop-rest
decreases-loop-rest g l = length l.rest

abbrev pub invariant-loop-rest : goal.invariant-loop-rest
invariant-loop-rest g l = record {
  taken : IsTakenBut (g.S.Sink.taken l.fn.sink) (g.S.Sink.taken l.sink) l.bytes l.rest;
  whole : g.S.Sink.has_failed l.sink ≡ false;
}
