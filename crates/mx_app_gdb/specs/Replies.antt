-- Replies to what gdb asks of a position ("Debugging with GDB", "Packets" and "General Query Packets").
use Rattle.std.specs.Prelude.{ℕ, nat_lt, Bool, true, false, if◌then◌else◌, List, [], ◌∷◌, ◌++◌, codes}
use Rattle.std.specs.Prelude.{filter, map, replicate, slice_index, Option, Some, None, slice_get}
use Rattle.std.specs.List.{range_with_len}
use Rattle.hex.specs.Hex.{encode_lower}
use Rattle.mx_exec.specs.declared.image.Image.{Image}
use Rattle.mx_machine.specs.Service.{Service}
use Rattle.mx_machine.specs.World.{World}
use Rattle.mx_print_report.specs.declared.doing.Naming.TheVariants.{Endpoints}
use Rattle.mx_print_report.specs.Report.{process_words}
use Rattle.mx_rsp.specs.declared.fields.Which.{Which}
use Rattle.mx_rsp.specs.Replies.{part_text, register_text as one_register, registers_text as all_registers, thread_text, threads_after}
use Rattle.mx_app_gdb.specs.declared.threads.Threads.{Threads}
use Rattle.mx_app_gdb.specs.Addresses.{bytes_for, registers_of}
use Rattle.mx_app_gdb.specs.Threads.{is_seen, named_slot, read_by, thread_of}

-- it is done, or it can't be
abbrev pub done_text : Bool → List ℕ
done_text true = codes "OK"
done_text false = codes "E01"

-- ---- registers and memory of a process

abbrev pub registers_text : Option Image → List ℕ
registers_text None = done_text false
registers_text (Some m) = all_registers (registers_of m)

abbrev pub register_by : ℕ → Option Image → List ℕ
register_by n None = done_text false
register_by n (Some m) = one_register (slice_index (registers_of m) n)

-- of a register that isn't there, an x for each digit
abbrev pub register_text : Option Image → ℕ → List ℕ
register_text o n = if nat_lt n 10 then register_by n o else replicate 8 120

abbrev pub some_text : List ℕ → List ℕ
some_text [] = done_text false
some_text (b ∷ bs) = encode_lower (b ∷ bs)

abbrev pub memory_text : Option Image → ℕ → ℕ → List ℕ
memory_text None a n = done_text false
memory_text (Some m) a n = some_text (bytes_for m a n)

-- ---- threads

abbrev pub threads_text : Threads → List ℕ
threads_text t = threads_after (codes "m") (map (thread_of t) (filter (is_seen t) (range_with_len 0 t.count)))

abbrev pub current_text : Threads → List ℕ
current_text t = codes "QC" ++ thread_text (thread_of t t.reads)

abbrev pub state_by : World → ℕ → Option Service → List ℕ
state_by w s None = done_text false
state_by w s (Some v) = encode_lower (process_words Endpoints w.table s v.name.bytes)

-- the name, endpoint and state of a slot's process, as a report has them
abbrev pub state_of : World → Option ℕ → List ℕ
state_of w None = done_text false
state_of w (Some s) = state_by w s (slice_get w.services s)

abbrev pub state_text : World → Threads → Which → List ℕ
state_text w t p = state_of w (read_by t p)

-- ---- files

abbrev pub file_at : Option (List ℕ) → ℕ → ℕ → List ℕ
file_at None o n = done_text false
file_at (Some name) o n = part_text name o n

abbrev pub file_by : List (List ℕ) → Option ℕ → ℕ → ℕ → List ℕ
file_by files None o n = done_text false
file_by files (Some s) o n = file_at (slice_get files s) o n

abbrev pub slot_of_file : Threads → Option ℕ → Option ℕ
slot_of_file t None = Some t.reads
slot_of_file t (Some p) = named_slot t p

-- THE FILE of a process, or of the one that is read: a part of its name
abbrev pub file_text : List (List ℕ) → Threads → Option ℕ → ℕ → ℕ → List ℕ
file_text files t p o n = file_by files (slot_of_file t p) o n
