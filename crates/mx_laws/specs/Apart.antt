-- An event that is apart from the process in slot q: nothing of its image is used.
use Rattle.std.specs.Prelude.{◌≡◌, ◌⊎◌, ℕ, Bool, true, false, List, [], ◌∷◌, Option, Some, None}
use Rattle.mx_image.specs.declared.runs.Stop.{Stop}
use Rattle.mx_image.specs.declared.runs.Stop.TheVariants.{Spent, Trap, Fault}
use Rattle.mx_proc.specs.declared.errors.Errno.{Errno}
use Rattle.mx_proc.specs.EndpointNumbers.{slot_of}
use Rattle.mx_proc.specs.TableState.{TableState, process_at, window_of}
use Rattle.mx_kcall.specs.declared.request.CopyRange.{CopyRange}
use Rattle.mx_kcall.specs.declared.request.KernelCall.{KernelCall}
use Rattle.mx_kcall.specs.Effects.{Effect}
use Rattle.mx_kcall.specs.Effects.Effect.{Copies}
use Rattle.mx_kcall.specs.Known.{known}
use Rattle.mx_kcall.specs.Serving.{effect_of}
use Rattle.mx_kcall.specs.Requests.{kernel_call_under, message_words_at}
use Rattle.mx_kcall.specs.Refusals.{kernel_call_refusal}
use Rattle.mx_kcall.specs.Windows.{allows_reading, is_open, is_strict}
use Rattle.mx_kcall.specs.TrapAnswer.{TrapAnswer}
use Rattle.mx_kcall.specs.TrapAnswer.TheVariants as trap_ends
use Rattle.mx_ipc.specs.Checks.{call_of}
use Rattle.mx_kcall.specs.Calls.{trap_answer}
use Rattle.mx_machine.specs.declared.events.Event.{Event}
use Rattle.mx_machine.specs.declared.events.Event.TheVariants.{Step, Back}
use Rattle.mx_machine.specs.Move.{table_after_coming_home, is_doomed, move}
use Rattle.mx_machine.specs.World.{World, HeldProcess, held_by}
use Rattle.mx_laws.specs.Senders.{IsNot, sender_of_trap}

-- whose message a trap takes
abbrev pub sender_at_trap : TableState → ℕ → Option ℕ
sender_at_trap t s = let regs = (process_at t s).image.regs in sender_of_trap t s (call_of regs.ecx) regs.eax

-- the kernel call is refused
abbrev pub IsRefused : Option Errno → Type 0
IsRefused None = ⊥
IsRefused (Some x) = Unit {0}

-- under the strict rules q has no window open in which s may read what a copy takes
abbrev pub IsClosedToReading : ℕ → TableState → ℕ → CopyRange → Type 0
IsClosedToReading q t s c =
    (is_strict t.rules ≡ true) × (is_open allows_reading (window_of t q s) c.source.offset c.count ≡ false)

-- what a kernel call of s does copies nothing from q: it isn't a copy from q, or it is refused, or q is closed to its
-- reading
abbrev pub EffectIsApart : ℕ → TableState → ℕ → Effect → Option Errno → Type 0
EffectIsApart q t s (Copies c) refusal = slot_of c.source.endpoint ≡ q → IsRefused refusal ⊎ IsClosedToReading q t s c
EffectIsApart q t s _ refusal = Unit {0}

abbrev pub CopyIsApart : ℕ → TableState → ℕ → Option KernelCall → Option Errno → Type 0
CopyIsApart q t s None refusal = Unit {0}
CopyIsApart q t s (Some r) refusal = EffectIsApart q t s (effect_of (known t s) s r) refusal

-- a trap that takes no message of q, or a kernel call that can't copy from it
abbrev pub TrapIsApart : ℕ → TableState → ℕ → TrapAnswer → Type 0
TrapIsApart q t s trap_ends.Done = IsNot q (sender_at_trap t s)
TrapIsApart q t s trap_ends.Kernel =
    CopyIsApart q t s (kernel_call_under t.rules (message_words_at t s)) (kernel_call_refusal t s)

-- a turn of s that ends so: only a trap that is acted uses anything of another
abbrev pub ReturnIsApart : ℕ → TableState → ℕ → Bool → Stop → Type 0
ReturnIsApart q t s true stop = Unit {0}
ReturnIsApart q t s false Spent = Unit {0}
ReturnIsApart q t s false Trap = TrapIsApart q t s (trap_answer t s)
ReturnIsApart q t s false (Fault v) = Unit {0}

-- a step, of another process
abbrev pub StepIsApart : ℕ → Option HeldProcess → Type 0
StepIsApart q None = Unit {0}
StepIsApart q (Some l) = IsNot q (Some l.slot)

-- a return, of another process
abbrev pub BackIsApart : ℕ → TableState → Option HeldProcess → Type 0
BackIsApart q t None = Unit {0}
BackIsApart q t (Some l) =
    IsNot q (Some l.slot)
    × ReturnIsApart q (table_after_coming_home t l) l.slot (is_doomed (process_at t l.slot).state) l.out.stop

-- APART: no step and no return of q, no message of q is taken, and nothing can be copied from it
abbrev pub IsApart : ℕ → World → ℕ → Event → Type 0
IsApart q w a Step = StepIsApart q (held_by w a)
IsApart q w a Back = BackIsApart q w.table (held_by w a)
IsApart q w a _ = Unit {0}

-- so is each event of a list, at the machine that the ones before it lead to
abbrev pub AreApart : ℕ → World → List (ℕ × Event) → Type 0
AreApart q w [] = Unit {0}
AreApart q w (x ∷ xs) = IsApart q w x.0 x.1 × AreApart q (move w x.0 x.1).1 xs
