-- What may be in a diary: whose doing each item is.
use Rattle.std.specs.Prelude.{◌≡◌, ◌≢◌, ◌<◌, ◌≤◌, ◌⊎◌, ◌+◌, ℕ, Bool, true, false, List, [], ◌∷◌, length, Option, Some, None, slice_index_or}
use Rattle.std.specs.Option.{option_map}
use Rattle.mx_exec.specs.declared.image.Image.{Image}
use Rattle.mx_mem.specs.Segment.{part}
use Rattle.mx_image.specs.declared.runs.Stop.{Stop}
use Rattle.mx_image.specs.declared.runs.Stop.TheVariants.{Trap}
use Rattle.mx_proc.specs.declared.errors.Errno.{Errno}
use Rattle.mx_proc.specs.EndpointNumbers.{slot_of}
use Rattle.mx_proc.specs.declared.process.State.{State}
use Rattle.mx_proc.specs.declared.process.State.TheVariants.{Receiving, Awaiting}
use Rattle.mx_proc.specs.States.{is_blocked}
use Rattle.mx_proc.specs.declared.windows.Window.{Window}
use Rattle.mx_proc.specs.TableState.{TableState, memory_at, process_at, window_of}
use Rattle.mx_kcall.specs.declared.request.KernelCall.{KernelCall}
use Rattle.mx_kcall.specs.declared.request.CopyRange.{CopyRange}
use Rattle.mx_kcall.specs.Effects.{Effect}
use Rattle.mx_kcall.specs.Effects.Effect.{Copies}
use Rattle.mx_kcall.specs.Known.{known}
use Rattle.mx_kcall.specs.Serving.{effect_of}
use Rattle.mx_kcall.specs.Calls.{trap_answer}
use Rattle.mx_kcall.specs.Refusals.{kernel_call_refusal}
use Rattle.mx_kcall.specs.Requests.{kernel_call_under, message_words_at}
use Rattle.mx_kcall.specs.TrapAnswer.{TrapAnswer}
use Rattle.mx_kcall.specs.Windows.{allows_reading, allows_writing, is_open}
use Rattle.mx_kcall.specs.TrapAnswer.TheVariants as trap_ends
use Rattle.mx_machine.specs.declared.events.Event.{Event}
use Rattle.mx_machine.specs.declared.events.Event.TheVariants.{Step, Back, Respawn}
use Rattle.mx_machine.specs.Move.{is_doomed, table_after_coming_home}
use Rattle.mx_machine.specs.World.{World, HeldProcess, held_by}
use Rattle.mx_laws.specs.Diaries.{image_now}
use Rattle.mx_laws.specs.Diary.{Item}
use Rattle.mx_laws.specs.Diary.Item.{Ran, Result, Message, Copy}

-- ---- whose turn, and which copy

-- the slot whose process is on a processor
abbrev pub slot_on : World → ℕ → Option ℕ
slot_on w a = option_map (λ (l : HeldProcess). l.slot) (held_by w a)

-- the slot whose turn an event ends: only that process can have made a call
abbrev pub caller_in : World → ℕ → Event → Option ℕ
caller_in w a Back = slot_on w a
caller_in w a _ = None

-- What a call copies: from an address in the memory of a slot to a place in that of a slot, how many bytes, and which.
pub record CopyMade : Type 0 where
  pub from : ℕ
  pub address : ℕ
  pub to : ℕ
  pub place : ℕ
  pub count : ℕ
  -- what the source has there as the call finds it
  pub bytes : List ℕ

abbrev pub copy_made : TableState → CopyRange → CopyMade
copy_made t c =
    let from = slot_of c.source.endpoint in
    record {
      from = from;
      address = c.source.offset;
      to = slot_of c.target.endpoint;
      place = c.target.offset;
      count = c.count;
      bytes = part (memory_at t from) c.source.offset c.count;
    }

-- by what a kernel call does
abbrev pub copy_of_effect : TableState → Effect → Option CopyMade
copy_of_effect t (Copies c) = Some (copy_made t c)
copy_of_effect t _ = None

-- by a kernel call of s, if it isn't refused
abbrev pub copy_by : TableState → ℕ → Option KernelCall → Option Errno → Option CopyMade
copy_by t s (Some r) None = copy_of_effect t (effect_of (known t s) s r)
copy_by t s _ _ = None

-- by the trap of s
abbrev pub copy_at_trap : TableState → ℕ → TrapAnswer → Option CopyMade
copy_at_trap t s trap_ends.Done = None
copy_at_trap t s trap_ends.Kernel =
    copy_by t s (kernel_call_under t.rules (message_words_at t s)) (kernel_call_refusal t s)

-- by the end of its turn
abbrev pub copy_at_end : TableState → ℕ → Bool → Stop → Option CopyMade
copy_at_end t s false Trap = copy_at_trap t s (trap_answer t s)
copy_at_end t s _ _ = None

abbrev pub copy_at_back : TableState → Option HeldProcess → Option CopyMade
copy_at_back t None = None
copy_at_back t (Some l) =
    copy_at_end (table_after_coming_home t l) l.slot (is_doomed (process_at t l.slot).state) l.out.stop

-- THE COPY that an event makes
abbrev pub copy_in : World → ℕ → Event → Option CopyMade
copy_in w a Back = copy_at_back w.table (held_by w a)
copy_in w a _ = None

-- ---- entries

-- in a RECEIVE, or in the second half of a SENDREC
abbrev pub is_receiving : State → Bool
is_receiving (Receiving p) = true
is_receiving (Awaiting d) = true
is_receiving _ = false

-- who gets a result: the caller, or who waited in a call
abbrev pub MayGetResult : World → ℕ → Event → ℕ → Type 0
MayGetResult w a e s = (caller_in w a e ≡ Some s) ⊎ (is_blocked (process_at w.table s).state ≡ true)

-- who gets a message: the caller, or who waited for one
abbrev pub MayGetMessage : World → ℕ → Event → ℕ → Type 0
MayGetMessage w a e s = (caller_in w a e ≡ Some s) ⊎ (is_receiving (process_at w.table s).state ≡ true)

-- Bytes that come to a place in slot s are those of a copy.
pub record IsOfCopy (made : Option CopyMade) (s at : ℕ) (bytes : List ℕ) : Type 0 where
  pub copy : CopyMade
  pub is_made : made ≡ Some copy
  pub slot : copy.to ≡ s
  pub place : copy.place ≡ at
  pub same : copy.bytes ≡ bytes

-- AN ENTRY: a step is the process's own; a result or the 36 bytes of a message come to the caller or to who
-- waited; and bytes are copied where the caller's call isn't refused, those of its copy
abbrev pub IsEntry : World → ℕ → Event → ℕ → Item → Type 0
IsEntry w a e s Ran = (e ≡ Step) × (slot_on w a ≡ Some s)
IsEntry w a e s (Result r) = MayGetResult w a e s
IsEntry w a e s (Message bytes) = (length bytes ≡ 36) × MayGetMessage w a e s
IsEntry w a e s (Copy place bytes) = IsOfCopy (copy_in w a e) s place bytes

abbrev pub AreEntries : World → ℕ → Event → ℕ → List Item → Type 0
AreEntries w a e s [] = Unit {0}
AreEntries w a e s (x ∷ xs) = IsEntry w a e s x × AreEntries w a e s xs

-- ---- others

-- an event that is no step and no return of the process in slot s, and no respawn of the slot
abbrev pub IsOfOthers : World → ℕ → Event → ℕ → Type 0
IsOfOthers w a Step s = slot_on w a ≢ Some s
IsOfOthers w a Back s = slot_on w a ≢ Some s
IsOfOthers w a (Respawn t) s = t ≢ s
IsOfOthers w a _ s = Unit {0}

-- no copy into slot s
abbrev pub MissesSlot : ℕ → Option CopyMade → Type 0
MissesSlot s None = Unit {0}
MissesSlot s (Some copy) = copy.to ≢ s

-- byte k of an image's memory
abbrev pub byte_of : Image → ℕ → ℕ
byte_of m k = slice_index_or m.memory k 0

-- a byte inside of this many from a place on
abbrev pub IsInside : ℕ → ℕ → ℕ → Type 0
IsInside place count k = (place ≤ k) × (k < place + count)

-- a byte in the buffer of a process that waits in a call
abbrev pub IsInBuffer : World → ℕ → ℕ → Type 0
IsInBuffer w s k = (is_blocked (process_at w.table s).state ≡ true) × IsInside (image_now w s).regs.ebx 36 k

-- a byte of slot s in what is copied into it
abbrev pub IsInCopy : ℕ → Option CopyMade → ℕ → Type 0
IsInCopy s None k = ⊥
IsInCopy s (Some copy) k = (copy.to ≡ s) × IsInside copy.place copy.count k

-- ---- windows

-- A copy by the process in slot s goes through windows: of another's memory it reads a range that the other has open to
-- s for reading, and it writes one that is open to s for writing.
pub record IsThroughWindows (t : TableState) (s : ℕ) (copy : CopyMade) : Type 0 where
  pub read : copy.from ≢ s → is_open allows_reading (window_of t copy.from s) copy.address copy.count ≡ true
  pub written : copy.to ≢ s → is_open allows_writing (window_of t copy.to s) copy.place copy.count ≡ true

-- a byte of slot s in a window that it has open for writing, to some slot
abbrev pub IsOpenToWriting : TableState → ℕ → ℕ → Type 0
IsOpenToWriting t s k =
    (u : ℕ) × (x : Window) × (window_of t s u ≡ Some x) × (allows_writing x.access ≡ true) × IsInside x.place x.count k

-- all of an image but its memory and EAX, where results come
abbrev pub registers_and_code : Image → Image
registers_and_code m = record m { memory = []; regs = record m.regs { eax = 0 } }
