use Rattle.std.proofs.Common.{ℕ, refl, subst}
use Rattle.mx_machine.specs.History.{BootAndHistory, replay}
use Rattle.mx_machine.specs.Machine.{world_of}
use Rattle.mx_app_turns.specs.Turned.{AreSome, IsTurned, coming}
use Rattle.mx_app_turns.proofs.TurnedLemmas.{room_of, shows_at, turned_at}
use Rattle.mx_app_turns.proofs.turning.drive.Goals as goal

pub returns : goal.returns
returns g c = λ vs booted.
    let b = c.args.begun.now in
    let k = c.kernel.result.now in
    let n = c.make_turns_watched-end.new.machine in
    let ticks = c.args.wanted.ticks in
    let end = c.make_turns_watched-end.result in
    let done = c.make_turns_watched-end.ensures in
    let made = done.0 in
    let shown = shows_at b.config vs made made b.config.log c.as_slice.result.now b.events.items ticks (world_of b.machine) (g.P.Progress.shown c.args.progress.now) (g.P.Progress.shown c.make_turns_watched-end.new.progress) (g.P.Progress.shown c.clear.new.self)
    refl refl c.as_slice.ensures.value booted done.4 c.clear.ensures in (
      shown.0,
      shown.1,
      (
        made,
        subst (λ (i : ℕ). AreSome (g.S.StopSign.can_stop c.args.sign.now) i end made) c.from-bound.ensures done.1,
        subst (λ (x : BootAndHistory). IsTurned b.config vs made (coming b.events.items ticks) x end.ending) c.kernel.ensures
            (turned_at b.config vs made made c.as_slice.result.now b.events.items ticks b.machine n k end.ending refl c.as_slice.ensures.value c.kernel.ensures booted c.requires.kernel
            done.2 done.3 c.facts.ensures.accepted c.facts.ensures.written (room_of (replay k) c.facts.ensures.sound)),
        shown.2,
      ),
    )
