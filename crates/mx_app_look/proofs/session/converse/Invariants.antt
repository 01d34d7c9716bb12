use Rattle.mx_app_look.proofs.SoFar.{SoFar}
use Rattle.mx_app_look.proofs.session.converse.Given as goal

-- the lines so far are answered, and none of them ends the session
abbrev pub invariant-loop : goal.invariant-loop
invariant-loop g l = SoFar l.asks l.initial.sight l.sight l.counter (g.L.LineReader.given l.initial.lines) (g.L.LineReader.given l.lines) (g.P.Progress.shown l.initial.progress) (g.P.Progress.shown l.progress) (g.W.Write.contents l.initial.out) (g.W.Write.contents l.out)
