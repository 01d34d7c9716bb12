-- A slot's process, wherever it is, and addresses in its memory (our own).
use Rattle.std.specs.Prelude.{ℕ, ◌+◌, ◌==◌, List, [], ◌∷◌, ◌++◌, codes, length, Option, Some, None, Result, Ok, Err, if◌then◌else◌, nat_lt, slice_get}
use Rattle.std.specs.List.{range_with_len}
use Rattle.std.specs.Option.{option_or}
use Rattle.mx_aout.specs.declared.program.Symbol.{Symbol}
use Rattle.mx_boot.specs.declared.address_word.AddressWord.{AddressWord}
use Rattle.mx_boot.specs.declared.address_word.AddressWord.TheVariants.{Number, Symbol as AtSymbol}
use Rattle.mx_debug.specs.Finding.{first_named}
use Rattle.mx_debug.specs.declared.error.DebugError.TheVariants.{NoSymbol, NotHere}
use Rattle.mx_exec.specs.declared.image.Image.{Image}
use Rattle.mx_machine.specs.declared.events.Refusal.TheVariants.{NoService}
use Rattle.mx_machine.specs.Service.{Service}
use Rattle.mx_machine.specs.World.{HeldProcess, World, held_by}
use Rattle.mx_proc.specs.TableState.{process_at}
use Rattle.mx_print_answers.specs.declared.refused.Refused.{Refused as Kind}
use Rattle.mx_print_answers.specs.declared.refused.Refused.TheVariants.{ByDebugger, ByMachine}
use Rattle.mx_print_answers.specs.Answers.{refused_line}
use Rattle.mx_print_answers.specs.Processes.{memory_text, registers_text}

-- ---- the process

abbrev pub image_of_held : Option HeldProcess → ℕ → Option Image
image_of_held None s = None
image_of_held (Some l) s = if l.slot == s then Some l.out.image else None

-- what the first of these processors has
abbrev pub image_on : World → ℕ → List ℕ → Option Image
image_on w s [] = None
image_on w s (a ∷ more) = option_or (image_of_held (held_by w a) s) (image_on w s more)

abbrev pub image_at_home : World → ℕ → Option Image
image_at_home w s = if nat_lt s (length w.table.slots) then Some (process_at w.table s).image else None

-- THE PROCESS OF A SLOT, as the processor that has it has left it; else as it is in the kernel's table
unfoldable pub image_in : World → ℕ → Option Image
image_in w s = option_or (image_on w s (range_with_len 0 8)) (image_at_home w s)

-- ---- THE SLOT, if it has a service

abbrev pub slot_named : World → ℕ → Result ℕ Kind
slot_named w s = if nat_lt s (length w.services) then Ok s else Err (ByMachine NoService)

-- ---- THE ADDRESS that is named: a number, or so many bytes after the first symbol of a name

-- the symbols of a service's program
abbrev pub symbols_by : Option Service → List Symbol
symbols_by None = []
symbols_by (Some v) = v.program.symbols

abbrev pub address_after : Option ℕ → ℕ → Result ℕ Kind
address_after None n = Err (ByDebugger NoSymbol)
address_after (Some v) n = if nat_lt (v + n) 4294967296 then Ok (v + n) else Err (ByDebugger NotHere)

abbrev pub value_named : List Symbol → Option (List ℕ) → Option ℕ
value_named symbols None = None
value_named symbols (Some name) = first_named symbols name

abbrev pub address_in : List Symbol → AddressWord → Result ℕ Kind
address_in symbols (Number at) = Ok at
address_in symbols (AtSymbol name n) = address_after (value_named symbols name) n

-- in the program of a slot's service
abbrev pub address_asked : World → ℕ → AddressWord → Result ℕ Kind
address_asked w s a = address_in (symbols_by (slice_get w.services s)) a

-- ---- WHAT IS SHOWN of a slot's process, or why nothing is

abbrev pub refused_text : Kind → List ℕ
refused_text r = refused_line r ++ codes "\n"

abbrev pub registers_of : World → Result ℕ Kind → List ℕ
registers_of w (Ok s) = registers_text (image_in w s)
registers_of w (Err r) = refused_text r

-- so many bytes from an address on
abbrev pub memory_at : Option Image → ℕ → Result ℕ Kind → List ℕ
memory_at m n (Ok from) = memory_text m from n
memory_at m n (Err r) = refused_text r

abbrev pub memory_of : World → AddressWord → ℕ → Result ℕ Kind → List ℕ
memory_of w a n (Ok s) = memory_at (image_in w s) n (address_asked w s a)
memory_of w a n (Err r) = refused_text r
