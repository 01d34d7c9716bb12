-- Death (our choice: MINIX 3.1 has no such thing in its kernel).
use Rattle.std.specs.Prelude.{ℕ, ◌+◌, ◌==◌, ◌&&◌, ◌++◌, Bool, false, not, List, [], ◌∷◌, map, filter, if◌then◌else◌}
use Rattle.mx_ipc.specs.Proc.declared.process.Process.{Process}
use Rattle.mx_ipc.specs.Proc.declared.process.DeathCause.{DeathCause}
use Rattle.mx_ipc.specs.Proc.declared.process.State.{State}
use Rattle.mx_ipc.specs.Proc.declared.process.State.TheVariants.{Receiving, Awaiting}
use Rattle.mx_ipc.specs.Proc.declared.process.Partner.TheVariants.{Only}
use Rattle.mx_ipc.specs.Proc.declared.process.Source.TheVariants.{Slot}
use Rattle.mx_ipc.specs.Proc.declared.errors.Errno.TheVariants.{Dead}
use Rattle.mx_ipc.specs.Proc.Errors.{errno_bits}
use Rattle.mx_ipc.specs.Proc.States.{is_ready, is_sending}
use Rattle.mx_ipc.specs.Proc.TableState.{TableState, process_at, table_after_dequeue, table_after_unblock}
use Rattle.mx_ipc.specs.Proc.Serving.{table_after_forgetting, table_after_burial}
use Rattle.mx_ipc.specs.Calls.{goes_on}

-- the slots that send to a slot, in order of blocking
abbrev pub callers : ℕ → List (ℕ × ℕ) → List ℕ
callers s pairs = map (λ (p : ℕ × ℕ). p.0) (filter (λ (p : ℕ × ℕ). p.1 == s) pairs)

-- whether a process receives only from this slot
abbrev pub receives_from_alone : State → ℕ → Bool
receives_from_alone (Receiving (Only (Slot f))) s = f == s
receives_from_alone (Awaiting f) s = f == s
receives_from_alone _ s = false

-- the slots other than s, counted from n, that receive only from s
abbrev pub receivers : ℕ → ℕ → List Process → List ℕ
receivers s n [] = []
receivers s n (p ∷ ps) =
    if not (n == s) && receives_from_alone p.state s then n ∷ receivers s (n + 1) ps else receivers s (n + 1) ps

-- a process leaves its ready list or its blocked send, if it is in one
unfoldable pub table_after_taking_out : TableState → ℕ → TableState
table_after_taking_out w s =
    let st = (process_at w s).state in if is_ready st then table_after_dequeue w s
    else if is_sending st then table_after_unblock w s else w

-- a process that waits goes on with EDEADDST
abbrev pub table_after_freeing : TableState → ℕ → TableState
table_after_freeing w p = goes_on (table_after_taking_out w p) p (errno_bits Dead)

abbrev pub table_after_freeing_all : TableState → List ℕ → TableState
table_after_freeing_all w [] = w
table_after_freeing_all w (p ∷ ps) = table_after_freeing_all (table_after_freeing w p) ps

-- who waits for a slot: those that send to it, in order of blocking, then those that receive only from it, in
-- slot order
abbrev pub waiting_for : TableState → ℕ → List ℕ
waiting_for w s = callers s w.waits ++ receivers s 0 w.slots

-- a process dies: it leaves its queue; who waits for it goes on; its bits, its alarm, its lines, its windows and those
-- for it are cleared; it is down
unfoldable pub table_after_death : TableState → ℕ → DeathCause → TableState
table_after_death w s cause =
    let left = table_after_taking_out w s in
    table_after_burial (table_after_forgetting (table_after_freeing_all left (waiting_for left s)) s) s cause
