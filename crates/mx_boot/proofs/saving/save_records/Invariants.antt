use Rattle.std.proofs.Common.{◌≡◌, ◌++◌, take, false}
use Rattle.mx_boot.specs.Text.{history_text}
use Rattle.mx_boot.proofs.saving.save_records.Given as goal

abbrev pub invariant-loop-entry : goal.invariant-loop-entry
invariant-loop-entry g l = record {
  taken : g.S.Sink.taken l.sink ≡ g.S.Sink.taken l.fn.sink ++ history_text (take l.entry-index l.records);
  whole : g.S.Sink.has_failed l.sink ≡ false;
}
