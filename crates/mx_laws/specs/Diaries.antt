-- The image of a slot, at home or on a processor, and its diary over one event.
use Rattle.std.specs.Prelude.{◌≢◌, ℕ, ◌==◌, ◌++◌, List, [], ◌∷◌, Option, Some, None, slice_index_or, if◌then◌else◌}
use Rattle.std.specs.Option.{unwrap_or}
use Rattle.mx_exec.specs.declared.image.Image.{Image}
use Rattle.mx_exec.specs.Image.{blank}
use Rattle.mx_proc.specs.declared.process.Source.TheVariants.{Hardware, Clock}
use Rattle.mx_proc.specs.EndpointNumbers.{slot_of}
use Rattle.mx_proc.specs.States.{is_out}
use Rattle.mx_proc.specs.Serving.{with_line, with_alarm, with_tick}
use Rattle.mx_proc.specs.TableState.{TableState, process_at}
use Rattle.mx_kcall.specs.Clock.{due_slots, table_after_ring}
use Rattle.mx_kcall.specs.Refusals.{owner_of}
use Rattle.mx_machine.specs.declared.events.Event.{Event}
use Rattle.mx_machine.specs.declared.events.Event.TheVariants.{Step, Back, Line, Tick, Kill, Respawn}
use Rattle.mx_machine.specs.Move.{table_after_coming_home, is_doomed}
use Rattle.mx_machine.specs.World.{World, HeldProcess, held_by}
use Rattle.mx_laws.specs.Diary.{Item, items_for, images}
use Rattle.mx_laws.specs.Items.{items_of_notifying, items_of_death, items_of_end_of_turn}
use Rattle.mx_laws.specs.Diary.Item.{Ran}

-- ---- where an image is

-- the image of slot s on the first processor that holds its process, if one does
abbrev pub image_held_in : ℕ → List (Option HeldProcess) → Option Image
image_held_in s [] = None
image_held_in s (None ∷ xs) = image_held_in s xs
image_held_in s (Some l ∷ xs) = if l.slot == s then Some l.out.image else image_held_in s xs

-- THE IMAGE of a slot: on a processor, or else at home
abbrev pub image_now : World → ℕ → Image
image_now w s = unwrap_or (image_held_in s w.cpus) (slice_index_or (images w.table) s blank)

-- ---- what an event writes down

-- alarms ring one after another
abbrev pub items_of_rings : List ℕ → TableState → List (ℕ × Item)
items_of_rings [] w = []
items_of_rings (s ∷ ps) w = items_of_notifying (with_alarm w s None) Clock s ++ items_of_rings ps (table_after_ring w s)

-- a line notifies its owner
abbrev pub items_of_line : TableState → ℕ → Option ℕ → List (ℕ × Item)
items_of_line t l None = []
items_of_line t l (Some s) = items_of_notifying (with_line t s l) Hardware s

-- a kill: nothing for who is on a processor, since that dies when it comes back
abbrev pub items_of_kill : TableState → ℕ → List (ℕ × Item)
items_of_kill t s = if is_out (process_at t s).state then [] else items_of_death t s

-- what an event without a processor writes for each slot
abbrev pub items_of_event : World → Event → List (ℕ × Item)
items_of_event w (Line l) = items_of_line w.table l (owner_of w.table l)
items_of_event w Tick = let later = with_tick w.table in items_of_rings (due_slots later.uptime 0 later.slots) later
items_of_event w (Kill e) = items_of_kill w.table (slot_of e)
items_of_event w _ = []

-- nothing for who is on a processor
abbrev pub unless_held : Option Image → List Item → List Item
unless_held None items = items
unless_held (Some m) items = []

-- a step is its own process's
abbrev pub diary_of_step : ℕ → Option HeldProcess → List Item
diary_of_step s None = []
diary_of_step s (Some l) = if l.slot == s then Ran ∷ [] else []

-- a return writes for its own process, and for those at home
abbrev pub diary_of_back : World → ℕ → Option HeldProcess → List Item
diary_of_back w s None = []
diary_of_back w s (Some l) =
    let items = items_for s
    (items_of_end_of_turn (table_after_coming_home w.table l) l.slot
    (is_doomed (process_at w.table l.slot).state) l.out.stop) in
    if l.slot == s then items else unless_held (image_held_in s w.cpus) items

-- THE DIARY of a slot over one event
abbrev pub diary : World → ℕ → Event → ℕ → List Item
diary w a Step s = diary_of_step s (held_by w a)
diary w a Back s = diary_of_back w s (held_by w a)
diary w a e s = unless_held (image_held_in s w.cpus) (items_for s (items_of_event w e))

-- an event that puts no new process into slot s
abbrev pub IsNoRespawnOf : ℕ → Event → Type 0
IsNoRespawnOf s (Respawn t) = t ≢ s
IsNoRespawnOf s _ = Unit {0}
