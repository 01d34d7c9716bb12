-- What is shown of a slot's process (our own).
use Rattle.std.specs.Prelude.{ℕ, List, Option, Some, None, Result, Ok, Err, codes, slice_get}
use Rattle.mx_aout.specs.declared.program.Symbol.{Symbol}
use Rattle.mx_exec.specs.declared.image.Image.{Image}
use Rattle.mx_look.specs.Lines.{code_lines}
use Rattle.mx_look.specs.Stack.{stack_text}
use Rattle.mx_look.specs.Variables.{variable_line, variable_named, variable_value}
use Rattle.mx_boot.specs.declared.address_word.AddressWord.{AddressWord}
use Rattle.mx_app_look.specs.declared.query.Query.{Query}
use Rattle.mx_app_look.specs.declared.query.Query.TheVariants.{Code, Memory, Registers, Stack, Variable}
use Rattle.mx_machine.specs.World.{World}
use Rattle.mx_print_answers.specs.DebugError.TheVariants.{NoSymbol}
use Rattle.mx_print_answers.specs.Processes.{not_here, registers_text}
use Rattle.mx_print_answers.specs.Slots.{address_asked, image_in, memory_of, refused_text, symbols_by}
use Rattle.mx_print_answers.specs.declared.refused.Refused.{Refused as Kind}
use Rattle.mx_print_answers.specs.declared.refused.Refused.TheVariants.{ByDebugger}
use Rattle.mx_walk.specs.Walks.{Walk, world_here}
use Rattle.mx_app_look.specs.Slots.{slot_asked}

abbrev pub symbols_in : World → ℕ → List Symbol
symbols_in w s = symbols_by (slice_get w.services s)

-- ---- why nothing is shown of a slot

-- no slot is named, and no process is on the processor whose record is next
abbrev pub no_slot : List ℕ
no_slot = codes "refused 61 NotHere: no process is next here: name a SLOT\n"

abbrev pub slot_refused : Option ℕ → Kind → List ℕ
slot_refused None r = no_slot
slot_refused (Some s) r = refused_text r

-- ---- regs

abbrev pub registers_by : World → Option ℕ → Result ℕ Kind → List ℕ
registers_by w asked (Ok s) = registers_text (image_in w s)
registers_by w asked (Err r) = slot_refused asked r

-- ---- list: eight instructions, from an address or from the next one on

abbrev pub code_at : List Symbol → Option Image → ℕ → List ℕ
code_at symbols None at = not_here
code_at symbols (Some m) at = code_lines 8 symbols m at

abbrev pub code_next : List Symbol → Option Image → List ℕ
code_next symbols None = not_here
code_next symbols (Some m) = code_lines 8 symbols m m.eip

abbrev pub code_from : World → ℕ → Result ℕ Kind → List ℕ
code_from w s (Ok at) = code_at (symbols_in w s) (image_in w s) at
code_from w s (Err r) = refused_text r

abbrev pub code_of : World → ℕ → Option AddressWord → List ℕ
code_of w s None = code_next (symbols_in w s) (image_in w s)
code_of w s (Some a) = code_from w s (address_asked w s a)

abbrev pub code_by : World → Option ℕ → Option AddressWord → Result ℕ Kind → List ℕ
code_by w asked a (Ok s) = code_of w s a
code_by w asked a (Err r) = slot_refused asked r

-- ---- stack

abbrev pub stack_of : ℕ → List Symbol → Option Image → List ℕ
stack_of n symbols None = not_here
stack_of n symbols (Some m) = stack_text n symbols m

abbrev pub stack_by : World → Option ℕ → ℕ → Result ℕ Kind → List ℕ
stack_by w asked n (Ok s) = stack_of n (symbols_in w s) (image_in w s)
stack_by w asked n (Err r) = slot_refused asked r

-- ---- print: the dword of a variable

abbrev pub dword_line : Symbol → Option ℕ → List ℕ
dword_line s (Some v) = variable_line s v
dword_line s None = not_here

abbrev pub value_text : Symbol → Option Image → List ℕ
value_text s None = not_here
value_text s (Some m) = dword_line s (variable_value m s)

abbrev pub symbol_of_name : List Symbol → Option (List ℕ) → Option Symbol
symbol_of_name symbols None = None
symbol_of_name symbols (Some name) = variable_named name symbols

abbrev pub variable_text : Option Image → Option Symbol → List ℕ
variable_text m None = refused_text (ByDebugger NoSymbol)
variable_text m (Some s) = value_text s m

abbrev pub variable_by : World → Option (List ℕ) → Result ℕ Kind → List ℕ
variable_by w name (Ok s) = variable_text (image_in w s) (symbol_of_name (symbols_in w s) name)
variable_by w name (Err r) = refused_text r

-- ---- WHAT IS SHOWN of a slot's process

abbrev pub query_text : Walk → Query → List ℕ
query_text k (Registers s) = registers_by (world_here k) s (slot_asked k s)
query_text k (Memory s a n) = memory_of (world_here k) a n (slot_asked k (Some s))
query_text k (Code s a) = code_by (world_here k) s a (slot_asked k s)
query_text k (Stack s n) = stack_by (world_here k) s n (slot_asked k s)
query_text k (Variable s name) = variable_by (world_here k) name (slot_asked k (Some s))
