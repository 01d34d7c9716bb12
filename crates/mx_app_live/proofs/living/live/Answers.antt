use Rattle.std.proofs.Common.{◌∙◌, ◌∷◌, [], ℕ, List, nat_lt, inl, inr, refl, subst, sym}
use Rattle.std.specs.Io.KnownBytes.{Appends}
use Rattle.std.proofs.lemmas.List.{append-nil}
use Rattle.std.proofs.lemmas.Result.{err_from_is_err_and}
use Rattle.mx_app_start.proofs.Appended.{appends_nothing}
use Rattle.mx_app_step.specs.Kept.{IsUnwritten, text_kept}
use Rattle.mx_app_step.specs.Written.{kept}
use Rattle.mx_machine.specs.Boot.{world_at_boot}
use Rattle.mx_machine.specs.History.{BootAndHistory}
use Rattle.mx_machine.specs.Machine.{world_of}
use Rattle.mx_app_live.specs.Living.{both_kept, kernel_at_boot}
use Rattle.mx_app_live.specs.Session.{first_seat, seat_of}
use Rattle.mx_app_live.proofs.LivingLemmas.{booted_kernel, cut_off, held_at, held_so, kept_at, kernel_of, lived, not_begun, then_written, told_end, unwritten}
use Rattle.mx_app_live.proofs.living.live.Goals as goal

pub returns-in_err-machine : goal.returns-in_err-machine
returns-in_err-machine g c =
    let h = c.in_err-machine.ensures.fault in (
      h.0,
      [],
      [],
      [],
      h.1,
      sym (append-nil _),
      sym (append-nil _),
      sym (append-nil _),
      not_begun c.args.names.config.now c.args.names.log.now (nat_lt 0 c.args.sitting.hertz) h.0 (λ (text : List ℕ). Appends (g.W.Write.contents c.args.channels.now.out) (g.W.Write.contents c.args.channels.now.out) text)
          c.in_err-machine.field-0.0 c.from_residual.result h.2 (appends_nothing _) c.from_residual.ensures.1,
    )

pub returns-in_err-session : goal.returns-in_err-session
returns-in_err-session g c =
    let p = err_from_is_err_and c.from_residual-in_err-session.result c.from_residual-in_err-session.ensures.1 in
    let s = c.in_ok-machine.ensures.begun in
    rw (p.1, p.2) (s.0, [], [], [], s.3, sym (append-nil _), sym (append-nil _), sym (append-nil _), inl (refl, refl, appends_nothing _, inl (refl, inr (s.1, s.2, s.4.0, inr (search)))))

pub returns-in_err-write_history : goal.returns-in_err-write_history
returns-in_err-write_history g c =
    let s = c.in_ok-machine.ensures.begun in
    let log = c.args.names.log.now in
    let same = c.kernel.ensures ∙ booted_kernel s.1 s.2 c.in_ok-machine.machine s.5 c.in_ok-machine.ensures.kernel in
    let h = c.in_err-write_history.ensures.unwritten in (
      s.0,
      h.0,
      [],
      [],
      s.3,
      h.1,
      sym (append-nil _),
      sym (append-nil _),
      unwritten c.args.names.config.now log (nat_lt 0 c.args.sitting.hertz) s.0 (λ (text : List ℕ). Appends (g.W.Write.contents c.args.channels.now.out) (g.W.Write.contents c.args.channels.now.out) text) s.1 s.2 s.4
          h.0 c.in_err-write_history.field-0.0 c.from_residual-in_err-write_history.result
          (subst (λ (k : BootAndHistory). IsUnwritten log (text_kept k) h.0 c.in_err-write_history.field-0.0) same h.2) (appends_nothing _) c.from_residual-in_err-write_history.ensures.1,
    )

pub returns-in_err-write_history-2 : goal.returns-in_err-write_history-2
returns-in_err-write_history-2 g c =
    let s = c.in_ok-machine.ensures.begun in
    let config = c.args.names.config.now in
    let log = c.args.names.log.now in
    let clock = nat_lt 0 c.args.sitting.hertz in
    let m = c.in_ok-machine.machine in
    let n = c.hold_session-held.new.machine in
    let same = c.kernel.ensures ∙ booted_kernel s.1 s.2 m s.5 c.in_ok-machine.ensures.kernel in
    let first = kept_at log c.kernel.result.now (g.F.FileWriter.written c.args.channels.now.files) (g.F.FileWriter.written c.write_history.new.files) (kernel_at_boot s.1 s.2) same c.in_ok-write_history.ensures.written in
    let held = c.hold_session-held.ensures.held in
    let p = held.1 in
    let h = c.in_err-write_history-2.ensures.unwritten in
    let Prints = λ (text : List ℕ). Appends (g.W.Write.contents c.args.channels.now.out) (g.W.Write.contents c.hold_session-held.new.screen) text in
    let so = held_at clock (seat_of (world_of m) c.in_ok-session.session) (world_of m) (world_at_boot s.1 s.2) (seat_of (world_of n) c.hold_session-held.new.session) held.0 p Prints c.hold_session-held.result c.in_ok-session.ensures.seat s.5 held.5 in (
      s.0,
      kept log (text_kept (kernel_at_boot s.1 s.2)) ∷ h.0,
      held.0,
      p.told,
      s.3,
      then_written (g.F.FileWriter.written c.args.channels.now.files) (kept log (text_kept (kernel_at_boot s.1 s.2))) (g.F.FileWriter.written c.write_history.new.files) (g.F.FileWriter.written c.write_history-2.new.files) h.0 first h.1,
      held.2,
      held.3,
      cut_off config log clock s.0 Prints s.1 s.2 s.4 held.0 p n.kernel (kernel_of s.1 s.2 p m n s.5 c.in_ok-machine.ensures.kernel held.4) (kept log (text_kept (kernel_at_boot s.1 s.2)) ∷ h.0)
          c.in_err-write_history-2.field-0.0 c.from_residual-in_err-write_history-2.result
          (inr (h.0, refl, subst (λ (k : BootAndHistory). IsUnwritten log (text_kept k) h.0 c.in_err-write_history-2.field-0.0) c.kernel-2.ensures h.2, held_so clock (first_seat (world_at_boot s.1 s.2)) (world_at_boot s.1 s.2) (seat_of (world_of n) c.hold_session-held.new.session) held.0 p Prints c.hold_session-held.result so))
          c.from_residual-in_err-write_history-2.ensures.1,
    )

pub returns-in_err-ending : goal.returns-in_err-ending
returns-in_err-ending g c =
    let s = c.in_ok-machine.ensures.begun in
    let config = c.args.names.config.now in
    let log = c.args.names.log.now in
    let clock = nat_lt 0 c.args.sitting.hertz in
    let m = c.in_ok-machine.machine in
    let n = c.hold_session-held.new.machine in
    let same = c.kernel.ensures ∙ booted_kernel s.1 s.2 m s.5 c.in_ok-machine.ensures.kernel in
    let old = g.F.FileWriter.written c.args.channels.now.files in
    let middle = g.F.FileWriter.written c.write_history.new.files in
    let last = g.F.FileWriter.written c.write_history-2.new.files in
    let first = kept_at log c.kernel.result.now old middle (kernel_at_boot s.1 s.2) same c.in_ok-write_history.ensures.written in
    let second = kept_at log c.kernel-2.result.now middle last n.kernel c.kernel-2.ensures c.in_ok-write_history-2.ensures.written in
    let held = c.hold_session-held.ensures.held in
    let p = held.1 in
    let f = c.in_err-ending.field-0.0 in
    let Prints = λ (text : List ℕ). Appends (g.W.Write.contents c.args.channels.now.out) (g.W.Write.contents c.hold_session-held.new.screen) text in
    let so = held_at clock (seat_of (world_of m) c.in_ok-session.session) (world_of m) (world_at_boot s.1 s.2) (seat_of (world_of n) c.hold_session-held.new.session) held.0 p Prints c.hold_session-held.result c.in_ok-session.ensures.seat s.5 held.5 in
    let why = rw c.in_err-ending.was at so in (
      s.0,
      both_kept log s.1 s.2 n.kernel,
      held.0,
      p.told,
      s.3,
      then_written old (kept log (text_kept (kernel_at_boot s.1 s.2))) middle last (kept log (text_kept n.kernel) ∷ []) first second,
      held.2,
      held.3,
      cut_off config log clock s.0 Prints s.1 s.2 s.4 held.0 p n.kernel (kernel_of s.1 s.2 p m n s.5 c.in_ok-machine.ensures.kernel held.4) (both_kept log s.1 s.2 n.kernel) f c.from_residual-in_err-ending.result
          (inl (refl, why.0, why.1, why.2)) c.from_residual-in_err-ending.ensures.1,
    )

pub returns : goal.returns
returns g c =
    let s = c.in_ok-machine.ensures.begun in
    let config = c.args.names.config.now in
    let log = c.args.names.log.now in
    let clock = nat_lt 0 c.args.sitting.hertz in
    let m = c.in_ok-machine.machine in
    let n = c.hold_session-held.new.machine in
    let same = c.kernel.ensures ∙ booted_kernel s.1 s.2 m s.5 c.in_ok-machine.ensures.kernel in
    let old = g.F.FileWriter.written c.args.channels.now.files in
    let middle = g.F.FileWriter.written c.write_history.new.files in
    let last = g.F.FileWriter.written c.write_history-2.new.files in
    let first = kept_at log c.kernel.result.now old middle (kernel_at_boot s.1 s.2) same c.in_ok-write_history.ensures.written in
    let second = kept_at log c.kernel-2.result.now middle last n.kernel c.kernel-2.ensures c.in_ok-write_history-2.ensures.written in
    let held = c.hold_session-held.ensures.held in
    let p = held.1 in
    let e = c.in_ok-ending.ending in
    let x = seat_of (world_of n) c.hold_session-held.new.session in
    let Prints = λ (text : List ℕ). Appends (g.W.Write.contents c.args.channels.now.out) (g.W.Write.contents c.hold_session-held.new.screen) text in
    let so = held_at clock (seat_of (world_of m) c.in_ok-session.session) (world_of m) (world_at_boot s.1 s.2) x held.0 p Prints c.hold_session-held.result c.in_ok-session.ensures.seat s.5 held.5 in
    let is = rw c.in_ok-ending.was at so in (
      s.0,
      both_kept log s.1 s.2 n.kernel,
      held.0,
      _,
      s.3,
      then_written old (kept log (text_kept (kernel_at_boot s.1 s.2))) middle last (kept log (text_kept n.kernel) ∷ []) first second,
      c.tell.ensures.heard ∙ held.2,
      told_end e p x c.records_of-records.result c.waiting.result (g.O.Outside.told c.args.outside.now) (g.O.Outside.told c.hold_session-held.new.outside) (g.O.Outside.told c.tell.new.self) is.1 c.records_of-records.ensures c.waiting.ensures held.3
          c.tell.ensures.told,
      lived config log clock s.0 Prints s.1 s.2 s.4 held.0 p n.kernel (kernel_of s.1 s.2 p m n s.5 c.in_ok-machine.ensures.kernel held.4) e is.0 is.2,
    )
