use Rattle.std.proofs.Common.{◌≡◌, ◌-◌, ◌^◌, ◌++◌}
use Rattle.mx_walk.specs.Parts.{HasGrown}
use Rattle.mx_app_gdb.proofs.Conversing.{SoFar}
use Rattle.mx_app_gdb.proofs.talking.converse.Given as goal

-- the bytes so far are answered, and none of them ends the talk
abbrev pub invariant-loop : goal.invariant-loop
invariant-loop g l = record {
  talked : SoFar (2 ^ 64 - 1) l.fn.talk l.talk l.counter
      (λ typed. g.L.LineReader.given l.lines ≡ g.L.LineReader.given l.fn.lines ++ typed)
      (g.W.Write.contents l.fn.out) (g.W.Write.contents l.out);
  grown : HasGrown (g.P.Progress.shown l.fn.progress) (g.P.Progress.shown l.progress);
}
