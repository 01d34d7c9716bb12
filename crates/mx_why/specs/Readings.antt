-- WHETHER THE RESULT OF A REFUSED CALL IS EVER READ (our own): by the first instruction of its process after the call that
-- reads or overwrites it, as long as this process lives. A trap's result is EAX; a kernel call's is the type of the
-- reply, which is the second dword of the message.
use Rattle.std.specs.Prelude.{ℕ, zero, suc, ◌+◌, ◌==◌, ◌&&◌, ◌||◌, not, Bool, true, false, if◌then◌else◌, List, [], codes, map, min, drop, Option, Some, None, Result, Ok, Err, slice_get}
use Rattle.mx_decode.specs.Decode.{front}
use Rattle.mx_decode.specs.declared.DecodeFault.{DecodeFault}
use Rattle.mx_exec.specs.declared.image.Image.{Image}
use Rattle.mx_exec.specs.Image.{code_bytes, dword_sum, register_of}
use Rattle.mx_exec.specs.Step.{one_step}
use Rattle.mx_insn.specs.declared.insn.Insn.{Insn}
use Rattle.mx_look.specs.Calls.{kernel_call}
use Rattle.mx_look.specs.Going.{acting, gone_on}
use Rattle.mx_look.specs.Transition.{slot_in}
use Rattle.mx_look.specs.declared.slot_glances.SlotGlance.{SlotGlance}
use Rattle.mx_print_report.specs.declared.doing.Doing.{Doing}
use Rattle.mx_print_report.specs.declared.doing.Doing.TheVariants.{Sending}
use Rattle.mx_proc.specs.Errors.{errno_bits}
use Rattle.mx_proc.specs.declared.errors.Errno.TheVariants.{Dead, NotReady}
use Rattle.mx_look.specs.declared.glance.CpuGlance.{CpuGlance}
use Rattle.mx_look.specs.declared.transition.Transition.{Transition}
use Rattle.mx_machine.specs.Proc.TableState.{process_at}
use Rattle.mx_machine.specs.Service.{Service}
use Rattle.mx_machine.specs.World.{HeldProcess, World, held_by}
use Rattle.mx_machine.specs.declared.history.Recorded.{Recorded}
use Rattle.mx_machine.specs.declared.history.Recorded.TheVariants.{Back, Respawn}
use Rattle.mx_word.specs.declared.names.Register.TheVariants.{Ebx}
use Rattle.mx_why.specs.declared.failed_calls.FailedCall.{FailedCall}
use Rattle.mx_why.specs.declared.readings.Cell.{Cell}
use Rattle.mx_why.specs.declared.readings.Cell.TheVariants as cells
use Rattle.mx_why.specs.declared.readings.Reading.{Reading}
use Rattle.mx_why.specs.declared.uses.Use.{Use}
use Rattle.mx_why.specs.declared.uses.Use.TheVariants.{Reads, Overwrites, Neither}
use Rattle.mx_why.specs.Cells.{use_of_cell}
use Rattle.mx_why.specs.Uses.{use_of_eax}

-- ---- what instructions do with it

abbrev pub use_of : Cell → Insn → Image → Use
use_of cells.Eax i m = use_of_eax i
use_of (cells.Word at) i m = use_of_cell at i m

abbrev pub use_of_front : Cell → Image → Result (Insn × ℕ) DecodeFault → Use
use_of_front c m (Ok p) = use_of c p.0 m
use_of_front c m (Err e) = Neither

-- the instruction at EIP
unfoldable pub use_at : Cell → Image → Use
use_at c m = use_of_front c m (front (drop m.eip (code_bytes m)))

abbrev pub or_later : Use → Use → Use
or_later Neither u = u
or_later u v = u

-- the first of n steps that does something with it
abbrev pub use_in : Cell → ℕ → Image → Use
use_in c zero m = Neither
use_in c (suc n) m = or_later (use_at c m) (use_in c n (one_step m).1)

-- ---- what is known of the results of calls that are alike

-- a result is there, and not known to be used
abbrev pub opened : Reading → Cell → Reading
opened g c = record g { cell = c; is_open = true }

abbrev pub closed : Reading → Reading
closed g = record g { is_open = false }

abbrev pub used : Reading → Use → Reading
used g Neither = g
used g Reads = record g { is_open = false; is_read = true }
used g Overwrites = record g { is_open = false; is_lost = true }

abbrev pub read_on : ℕ → Image → Reading → Reading
read_on n m g = if g.is_open then used g (use_in g.cell n m) else g

-- the process of a slot makes n steps, which are no more than it may
abbrev pub followed_by : ℕ → Option HeldProcess → FailedCall → FailedCall
followed_by n None c = c
followed_by n (Some l) c =
    if c.slot == l.slot then record c { reading = read_on (min n l.out.budget) l.out.image c.reading } else c

-- a slot has a new process
abbrev pub forgotten : ℕ → FailedCall → FailedCall
forgotten s c = if c.slot == s then record c { reading = closed c.reading } else c

abbrev pub followed_call : World → ℕ → Recorded → FailedCall → FailedCall
followed_call w a (Back n) c = followed_by n (held_by w a) c
followed_call w a (Respawn s) c = forgotten s c
followed_call w a _ c = c

-- WHAT IS KNOWN THEN, of a record of an actor that is made in a world
unfoldable pub followed : World → ℕ → Recorded → List FailedCall → List FailedCall
followed w a e cs = map (followed_call w a e) cs

-- ---- where a result is

abbrev pub cell_by : World → ℕ → Option CpuGlance → Option Service → Cell
cell_by w s (Some h) (Some v) =
    if h.slot == s then cells.Word (dword_sum (register_of (process_at w.table s).image Ebx) 4) else cells.Eax
cell_by w s _ _ = cells.Eax

-- after a record that answers a call of a slot
unfoldable pub cell_of : World → Transition → ℕ → Cell
cell_of w x s = cell_by w s (kernel_call x) (slice_get w.services s)

-- EDEADDST and ENOTREADY
abbrev pub is_absent : ℕ → Bool
is_absent r = (r == errno_bits Dead) || (r == errno_bits NotReady)

abbrev pub is_sending : Doing → Bool
is_sending (Sending n) = true
is_sending _ = false

-- by SEND or NOTIFY, the calls 1 and 4
abbrev pub sends_by : ℕ → SlotGlance → Option CpuGlance → Bool
sends_by s v None = is_sending v.doing
sends_by s v (Some h) = if h.slot == s then (h.image.ecx == 1) || (h.image.ecx == 4) else is_sending v.doing

abbrev pub is_excused_by : Transition → ℕ → Option ℕ → Option SlotGlance → Bool
is_excused_by x s (Some r) (Some v) = is_absent r && sends_by s v (acting x)
is_excused_by x s _ _ = false

-- who sends to one that isn't there, or not ready, needn't care for it
unfoldable pub is_excused : Transition → ℕ → Bool
is_excused x s = is_excused_by x s (gone_on x s) (slot_in x.before s)

-- what is known of a first result
abbrev pub reading_of : World → Transition → ℕ → Reading
reading_of w x s = record {
  cell = cell_of w x s;
  is_open = true;
  is_read = false;
  is_lost = false;
  is_excused = is_excused x s;
}

-- ---- in words

abbrev pub is_unread : Reading → Bool
is_unread g = g.is_lost && not g.is_read

-- one that its process had to read
abbrev pub is_careless : FailedCall → Bool
is_careless c = is_unread c.reading && not c.reading.is_excused

abbrev pub where_text : Cell → List ℕ
where_text cells.Eax = codes "; the result in EAX is never read"
where_text (cells.Word at) = codes "; the result, the type of the reply, is never read"

-- one of them was overwritten unread, and none was read
abbrev pub unread_text : Reading → List ℕ
unread_text g = if is_unread g then where_text g.cell else []
