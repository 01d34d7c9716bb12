use Rattle.std.proofs.Common.{◌∙◌, List, ℕ, ap, drop, take, vec_capacity}
use Rattle.mx_keyboard.specs.Keyboard.{seen_of}
use Rattle.mx_machine.specs.World.{World}
use Rattle.mx_proc.specs.TableState.{TableState}
use Rattle.mx_cpus.proofs.SeatLemmas.{console_seen, rest_by, world_seen}
use Rattle.mx_cpus.proofs.locked.Locked.glance.Goals as goal

pub returns-clause-rest : goal.returns-clause-rest
returns-clause-rest g c =
    rest_by g.M.Naming.boot g.M.Naming.table c.self.inside.kernel c.self.inside.desk c.args.seat c.note.result c.at_rest-at_rest.result c.self.invariant.0 c.self.invariant.2 c.note.ensures.known c.note.ensures.seat
    c.facts.ensures.accepted c.at_rest-at_rest.ensures

pub returns-clause-keyboard : goal.returns-clause-keyboard
returns-clause-keyboard g c =
    let same = world_seen g.M.Naming.boot g.M.Naming.table c.self.inside.kernel c.self.inside.desk c.args.seat c.note.result c.self.invariant.0 c.self.invariant.2 c.note.ensures.seat in
    c.seen_in-seen.ensures ∙ ap (λ (t : TableState). seen_of t c.args.flight) (c.table.ensures ∙ ap (λ (w : World). w.table) same)

pub returns-clause-bytes : goal.returns-clause-bytes
returns-clause-bytes g c =
    let same = console_seen g.M.Naming.boot g.M.Naming.table c.self.inside.kernel c.self.inside.desk c.args.seat c.note.result c.self.invariant.0 c.self.invariant.2 c.note.ensures.seat in
    c.copy_from.ensures.bytes ∙ ap (λ (l : List ℕ). take (vec_capacity c.args.bytes.now) (drop c.args.from l)) (c.self.invariant.3.bytes ∙ same)
