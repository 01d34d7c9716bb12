-- Looks: the lines of a debugger's script that change nothing; how each is written, and what it shows (our own).
use Rattle.std.specs.Prelude.{ℕ, List, [], ◌∷◌, ◌++◌, codes, if◌then◌else◌, Option, Some, None}
use Rattle.std.specs.Option.{option_map}
use Rattle.std.specs.Str.{bytes_eq}
use Rattle.mx_text.specs.Fields.{pair, ◌>>=◌}
use Rattle.mx_boot.specs.declared.address_word.AddressWord.{AddressWord}
use Rattle.mx_boot.specs.Addresses.{address_of_word}
use Rattle.mx_boot.specs.Script.{actor_field, count_field, only_actor, only_count}
use Rattle.mx_exec.specs.declared.image.Image.{Image}
use Rattle.mx_machine.specs.World.{World, HeldProcess, held_by}
use Rattle.mx_print_answers.specs.Messages.{delivery_lines}
use Rattle.mx_print_answers.specs.Processes.{not_here, registers_text}
use Rattle.mx_print_answers.specs.Slots.{address_asked, memory_at, memory_of, registers_of, slot_named}
use Rattle.mx_app_db.specs.LastMessages.{last_lines}
use Rattle.mx_app_db.specs.declared.looks.Look.{Look}
use Rattle.mx_app_db.specs.declared.looks.Look.TheVariants.{Registers, RegistersOf, Memory, MemoryOf, Messages, LastMessages}

-- the lines of a script, as a failure says what was wanted
abbrev pub script_lines : List ℕ
script_lines =
    codes "an event, or break S PLACE, clear S PLACE, go C K, regs C, regs of S, mem C M N, mem of S M N, "
    ++ codes "messages or messages N"

-- ---- how they are written: the fields after the first word

-- of a processor, or after `of` of a slot
unfoldable pub registers_asked : List (List ℕ) → Option Look
registers_asked [] = None
registers_asked (f ∷ fs) = if bytes_eq f (codes "of") then (do
  s ← only_count fs
  Some (RegistersOf s)) else (do
    c ← only_actor (f ∷ fs)
    Some (Registers c))

abbrev pub address_and_count : List (List ℕ) → Option (AddressWord × ℕ)
address_and_count fs = do
  p ← pair fs
  m ← address_of_word p.0
  n ← count_field p.1
  Some (m, n)

abbrev pub memory_of_slot : List (List ℕ) → Option Look
memory_of_slot [] = None
memory_of_slot (f ∷ fs) = do
  s ← count_field f
  p ← address_and_count fs
  Some (MemoryOf s p.0 p.1)

-- of a processor, or after `of` of a slot
unfoldable pub memory_asked : List (List ℕ) → Option Look
memory_asked [] = None
memory_asked (f ∷ fs) = if bytes_eq f (codes "of") then memory_of_slot fs else (do
  c ← actor_field f
  p ← address_and_count fs
  Some (Memory c p.0 p.1))

-- all deliveries, or the last of them
unfoldable pub messages_asked : List (List ℕ) → Option Look
messages_asked [] = Some Messages
messages_asked (f ∷ fs) = do
  n ← only_count (f ∷ fs)
  Some (LastMessages n)

-- ---- by the first word

-- THE LOOK of a line that begins with a word and goes on with these fields
unfoldable pub look_of : List ℕ → List (List ℕ) → Option Look
look_of word fs =
    if bytes_eq word (codes "regs") then registers_asked fs else
    if bytes_eq word (codes "mem") then memory_asked fs else
    if bytes_eq word (codes "messages") then messages_asked fs else
    None

-- these words
abbrev pub look_words : List (List ℕ)
look_words = codes "regs" ∷ codes "mem" ∷ codes "messages" ∷ []

-- ---- what they show

-- from what a processor holds
abbrev pub image_held : Option HeldProcess → Option Image
image_held held = option_map (λ (l : HeldProcess). l.out.image) held

-- bytes from an address on that is named in its program
abbrev pub memory_held : World → Option HeldProcess → AddressWord → ℕ → List ℕ
memory_held w None a n = not_here
memory_held w (Some l) a n = memory_at (Some l.out.image) n (address_asked w l.slot a)

-- WHAT A LOOK SHOWS of a world
abbrev pub look_text : World → Look → List ℕ
look_text w (Registers c) = registers_text (image_held (held_by w c))
look_text w (RegistersOf s) = registers_of w (slot_named w s)
look_text w (Memory c a n) = memory_held w (held_by w c) a n
look_text w (MemoryOf s a n) = memory_of w a n (slot_named w s)
look_text w Messages = delivery_lines w.table.deliveries
look_text w (LastMessages n) = last_lines w n
