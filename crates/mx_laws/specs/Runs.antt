-- Diaries over runs.
use Rattle.std.specs.Prelude.{◌≡◌, slice_get, ◌++◌, ◌==◌, ℕ, List, [], ◌∷◌, Option, Some, None, if◌then◌else◌}
use Rattle.mx_exec.specs.declared.image.Image.{Image}
use Rattle.mx_kcall.specs.Load.{image_of_program}
use Rattle.mx_kcall.specs.Service.{Service}
use Rattle.mx_machine.specs.declared.events.Event.{Event}
use Rattle.mx_machine.specs.declared.events.Event.TheVariants.{Respawn}
use Rattle.mx_machine.specs.declared.events.Refusal.{Refusal}
use Rattle.mx_machine.specs.History.{BootAndHistory, events_of_history}
use Rattle.mx_machine.specs.Move.{event_refusal, move, moves}
use Rattle.mx_machine.specs.World.{World}
use Rattle.mx_machine.specs.Machine.{AreSound}
use Rattle.mx_laws.specs.Diary.{Item, play}
use Rattle.mx_laws.specs.Diaries.{diary, image_now, IsNoRespawnOf}

-- no event of a run puts a new process into slot s
abbrev pub AreNoRespawnsOf : ℕ → List (ℕ × Event) → Type 0
AreNoRespawnsOf s [] = Unit {0}
AreNoRespawnsOf s (x ∷ xs) = IsNoRespawnOf s x.1 × AreNoRespawnsOf s xs

-- a refused event writes nothing down
abbrev pub written_down : World → ℕ → Event → ℕ → Option Refusal → List Item
written_down w a e s None = diary w a e s
written_down w a e s (Some r) = []

-- THE DIARY of a slot over a run without a new process
abbrev pub diary_along : World → List (ℕ × Event) → ℕ → List Item
diary_along w [] s = []
diary_along w (x ∷ xs) s = written_down w x.0 x.1 s (event_refusal w x.0 x.1) ++ diary_along (move w x.0 x.1).1 xs s

-- ---- generations

-- a new process in slot s begins a new diary; each other event adds to the one of before
abbrev pub diary_with : ℕ → Event → List Item → List Item → List Item
diary_with s (Respawn t) before items = if t == s then [] else before ++ items
diary_with s _ before items = before ++ items

-- the diary of slot s after an event, with the one of before; a refused event leaves it
abbrev pub diary_after : World → ℕ → Event → ℕ → Option Refusal → List Item → List Item
diary_after w a e s None before = diary_with s e before (diary w a e s)
diary_after w a e s (Some r) before = before

-- THE DIARY OF A GENERATION: of the process that slot s has after a run
abbrev pub generation_diary : World → List (ℕ × Event) → ℕ → List Item → List Item
generation_diary w [] s before = before
generation_diary w (x ∷ xs) s before =
    generation_diary (move w x.0 x.1).1 xs s (diary_after w x.0 x.1 s (event_refusal w x.0 x.1) before)

-- ---- lives

-- A slot of a machine, the service that its process is made from, what its diary has, and the events that come.
pub record Life : Type 0 where
  pub world : World
  pub slot : ℕ
  pub service : Service
  pub before : List Item
  pub events : List (ℕ × Event)

-- the diary at its end, of the generation that the slot has then
abbrev pub diary_of_life : Life → List Item
diary_of_life x = generation_diary x.world x.events x.slot x.before

abbrev pub image_of_life : Life → Image
image_of_life x = image_now (moves x.world x.events).1 x.slot

-- IT BEGINS as the diary of before says: at boot and after a respawn with none; and its machine stays sound.
pub record IsLife (x : Life) : Type 0 where
  pub service : slice_get x.world.services x.slot ≡ Some x.service
  pub begins : image_now x.world x.slot ≡ play x.before (image_of_program x.service.program)
  pub sound : AreSound x.world x.events

-- the life of a slot of a kernel, from the boot on through all of its history
abbrev pub life_of : BootAndHistory → ℕ → Service → Life
life_of k s v = record { world = k.boot; slot = s; service = v; before = []; events = events_of_history k.history }
