-- What queues and messages don't change.
use Rattle.std.specs.Prelude.{ℕ, map, List, Option, Some, None, if◌then◌else◌, slice_set}
use Rattle.mx_exec.specs.declared.image.Code.{Code}
use Rattle.mx_exec.specs.Lasting.{lasting}
use Rattle.mx_proc.specs.declared.process.Process.{Process}
use Rattle.mx_proc.specs.declared.process.Terms.{Terms}
use Rattle.mx_proc.specs.declared.devices.Devices.{Devices}
use Rattle.mx_proc.specs.States.{is_out}
use Rattle.mx_proc.specs.TableState.{TableState}

-- Of a process.
pub record FixedOfProcess : Type 0 where
  pub generation : ℕ
  pub restarts_used : ℕ
  pub steps : ℕ
  pub terms : Terms
  -- what no step changes of its image
  pub lasting : Code × ℕ

-- Of a table.
pub record Frame : Type 0 where
  pub fixed : List FixedOfProcess
  -- which slots are on processors, and with how many ticks
  pub loans : List (Option ℕ)
  pub uptime : ℕ
  pub devices : Devices

abbrev pub fixed_of : Process → FixedOfProcess
fixed_of p =
    record {
      generation = p.generation;
      restarts_used = p.restarts_used;
      steps = p.steps;
      terms = p.schedule.terms;
      lasting = lasting p.image;
    }

abbrev pub loan_of : Process → Option ℕ
loan_of p = if is_out p.state then Some p.schedule.ticks else None

unfoldable pub frame : TableState → Frame
frame w = record { fixed = map fixed_of w.slots; loans = map loan_of w.slots; uptime = w.uptime; devices = w.devices }

-- of one slot all is this process's, of the others what it was
abbrev pub frame_with_process : Frame → ℕ → Process → Frame
frame_with_process f s p =
    record f { fixed = slice_set f.fixed s (fixed_of p); loans = slice_set f.loans s (loan_of p) }
