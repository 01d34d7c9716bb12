-- What a kernel call may know of the table, for its refusals, its reply and what it does: no byte of a memory, and no
-- delivery that is recorded (our choice).
use Rattle.std.specs.Prelude.{ℕ, ◌==◌, not, ◌&&◌, Bool, List, length, Option, None, slice_index_or}
use Rattle.mx_respawn.specs.Proc.declared.windows.Access.{Access}
use Rattle.mx_respawn.specs.Proc.declared.windows.Rules.{Rules}
use Rattle.mx_respawn.specs.Proc.declared.windows.Window.{Window}
use Rattle.mx_respawn.specs.Proc.EndpointNumbers.{slot_of}
use Rattle.mx_respawn.specs.Proc.Endpoints.{names_slot, is_alive}
use Rattle.mx_respawn.specs.Proc.States.{is_down, is_out}
use Rattle.mx_respawn.specs.Proc.TableState.{TableState, process_at, endpoint_of, memory_at, window_of}
use Rattle.mx_kcall.specs.declared.request.VirtualAddress.{VirtualAddress}
use Rattle.mx_kcall.specs.Windows.{is_open, is_strict}

-- who owns a line
abbrev pub owner_of : TableState → ℕ → Option ℕ
owner_of w line = slice_index_or w.devices.owners line None

-- the process of an endpoint's slot is on a processor
abbrev pub is_away : TableState → ℕ → Bool
is_away w e = is_out (process_at w (slot_of e)).state

pub record Known : Type 0 where
  pub rules : Rules
  pub uptime : ℕ
  -- how many slots are used
  pub used : ℕ
  -- the caller's steps, and its alarm
  pub steps : ℕ
  pub alarm : Option ℕ
  -- the owner of a line; the registers
  pub owner : ℕ → Option ℕ
  pub registers : List ℕ
  -- of an endpoint: whether it names a slot, is that of a process that is alive, or on a processor
  pub named : ℕ → Bool
  pub alive : ℕ → Bool
  pub away : ℕ → Bool
  -- of a slot: whether its process is down, its endpoint, how long its memory is, and its window for the caller
  pub down : ℕ → Bool
  pub endpoint : ℕ → ℕ
  pub limit : ℕ → ℕ
  pub window : ℕ → Option Window

-- WHAT A CALL OF s MAY KNOW
abbrev pub known : TableState → ℕ → Known
known w s = record {
  rules = w.rules;
  uptime = w.uptime;
  used = length w.slots;
  steps = (process_at w s).steps;
  alarm = (process_at w s).alarm;
  owner = owner_of w;
  registers = w.devices.registers;
  named = names_slot w;
  alive = is_alive w;
  away = is_away w;
  down = λ t. is_down (process_at w t).state;
  endpoint = endpoint_of w;
  limit = λ t. length (memory_at w t);
  window = λ t. window_of w t s;
}

-- under the strict rules another's memory is barred to s but for an open window
abbrev pub is_barred : Known → (Access → Bool) → ℕ → VirtualAddress → ℕ → Bool
is_barred k allows s at count =
    is_strict k.rules && not (slot_of at.endpoint == s)
    && not (is_open allows (k.window (slot_of at.endpoint)) at.offset count)
