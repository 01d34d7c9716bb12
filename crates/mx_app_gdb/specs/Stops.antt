-- What gdb is told of a halt ("Debugging with GDB", "Stop Reply Packets").
use Rattle.std.specs.Prelude.{ℕ, ◌==◌, ◌||◌, if◌then◌else◌, Option, Some, None}
use Rattle.mx_exec.specs.declared.image.Image.{Image}
use Rattle.mx_exec.specs.Image.{register_of}
use Rattle.mx_machine.specs.World.{World}
use Rattle.mx_print_answers.specs.Slots.{image_in}
use Rattle.mx_rsp.specs.declared.replies.Stop.{Stop}
use Rattle.mx_rsp.specs.declared.replies.StopReason.{StopReason}
use Rattle.mx_rsp.specs.declared.replies.StopReason.TheVariants as reason
use Rattle.mx_word.specs.declared.names.Register.TheVariants.{Ebp, Esp}
use Rattle.mx_app_gdb.specs.declared.halts.Halted.{Halted}
use Rattle.mx_app_gdb.specs.declared.halts.Halted.TheVariants.{There, AtBreak, Changed, Fault, AtBegin, AtEnd}
use Rattle.mx_app_gdb.specs.declared.threads.Threads.{Threads}
use Rattle.mx_app_gdb.specs.Addresses.{shown_address}
use Rattle.mx_app_gdb.specs.Threads.{thread_of}

-- SIGFPE of a division or an overflow, SIGILL of an opcode, SIGSEGV of the stack or of memory; else SIGTRAP
abbrev pub signal_of_fault : ℕ → ℕ
signal_of_fault v =
    if (v == 0) || (v == 4) then 8 else if v == 6 then 4 else if (v == 12) || (v == 13) then 11 else 5

abbrev pub signal_of : Halted → ℕ
signal_of (Fault s v) = signal_of_fault v
signal_of _ = 5

abbrev pub reason_of : Halted → StopReason
reason_of (There s) = reason.Plain
reason_of (AtBreak s) = reason.Plain
reason_of (Fault s v) = reason.Plain
reason_of (Changed x) = reason.Watched x.address
reason_of (AtBegin s) = reason.AtBegin
reason_of (AtEnd s) = reason.AtEnd

-- at whose process it is
abbrev pub slot_halted : Halted → ℕ
slot_halted (There s) = s
slot_halted (AtBreak s) = s
slot_halted (Changed x) = x.slot
slot_halted (Fault s v) = s
slot_halted (AtBegin s) = s
slot_halted (AtEnd s) = s

abbrev pub stop_by : Threads → Halted → Option Image → Stop
stop_by t h None = record {
  signal = signal_of h;
  reason = reason_of h;
  thread = thread_of t (slot_halted h);
  esp = 0;
  ebp = 0;
  eip = shown_address 0;
}
stop_by t h (Some m) = record {
  signal = signal_of h;
  reason = reason_of h;
  thread = thread_of t (slot_halted h);
  esp = register_of m Esp;
  ebp = register_of m Ebp;
  eip = shown_address m.eip;
}

-- A STOP, with the registers that gdb asks for first
abbrev pub stop_at : World → Threads → Halted → Stop
stop_at w t h = stop_by t h (image_in w (slot_halted h))
