-- The laws of diaries, as statements.
use Rattle.std.specs.Prelude.{◌≡◌, ◌≢◌, ◌⊎◌, ◌<◌, ℕ, [], List, true, false, Some, None, length, slice_get}
use Rattle.mx_proc.specs.States.{is_blocked}
use Rattle.mx_proc.specs.TableState.{process_at}
use Rattle.mx_kcall.specs.Load.{image_of_program}
use Rattle.mx_kcall.specs.Service.{Service}
use Rattle.mx_kcall.specs.Windows.{is_strict}
use Rattle.mx_machine.specs.declared.config.Config.{Config}
use Rattle.mx_machine.specs.declared.events.Event.{Event}
use Rattle.mx_machine.specs.declared.events.Event.TheVariants.{Step, Respawn}
use Rattle.mx_machine.specs.Boot.{world_at_boot}
use Rattle.mx_machine.specs.History.{BootAndHistory, replay}
use Rattle.mx_machine.specs.Move.{event_refusal, moves, world_after_event}
use Rattle.mx_machine.specs.Sound.{IsSound}
use Rattle.mx_machine.specs.World.{World}
use Rattle.mx_machine.specs.Machine.{AreSound}
use Rattle.mx_laws.specs.Diary.{play}
use Rattle.mx_laws.specs.Diaries.{diary, image_now, IsNoRespawnOf}
use Rattle.mx_laws.specs.Entries.{AreEntries, byte_of, caller_in, copy_in, CopyMade, IsInBuffer, IsInCopy, IsOpenToWriting, IsThroughWindows, IsOfOthers, MissesSlot, registers_and_code}
use Rattle.mx_laws.specs.Runs.{AreNoRespawnsOf, diary_along, IsLife, Life, diary_of_life, image_of_life, life_of}

-- A slot of a sound machine, which has a service.
pub record IsSlot (w : World) (s : ℕ) : Type 0 where
  pub sound : IsSound w
  pub served : s < length w.services

-- ---- one event

-- an accepted event that puts no new process into slot s does to its image what its diary says
abbrev pub IsWritten : World → ℕ → Event → ℕ → Type 0
IsWritten w a e s =
    event_refusal w a e ≡ None → IsNoRespawnOf s e
    → image_now (world_after_event w a e) s ≡ play (diary w a e s) (image_now w s)

-- after an accepted respawn of slot s its image is the program of its service, loaded
abbrev pub RespawnLoads : World → ℕ → ℕ → Service → Type 0
RespawnLoads w a s v =
    event_refusal w a (Respawn s) ≡ None → slice_get w.services s ≡ Some v
    → image_now (world_after_event w a (Respawn s)) s ≡ image_of_program v.program

-- at boot each image is the program of its service, loaded
abbrev pub BootLoads : Config → List Service → ℕ → Service → Type 0
BootLoads config services s v =
    slice_get services s ≡ Some v → image_now (world_at_boot config services) s ≡ image_of_program v.program

-- ---- runs

-- a run without a new process in slot s does to its image what its diary says
abbrev pub RunIsWritten : World → List (ℕ × Event) → ℕ → Type 0
RunIsWritten w xs s =
    AreSound w xs → AreNoRespawnsOf s xs → s < length w.services
    → image_now (moves w xs).1 s ≡ play (diary_along w xs s) (image_now w s)

-- the image at the end of a life is the program with the diary played on it
abbrev pub LifeIsWritten : Life → Type 0
LifeIsWritten x = IsLife x → image_of_life x ≡ play (diary_of_life x) (image_of_program x.service.program)

-- A life begins at boot, with nothing in its diary,
abbrev pub LifeBeginsAtBoot : Config → List Service → ℕ → Service → List (ℕ × Event) → Type 0
LifeBeginsAtBoot config services s v xs =
    let w = world_at_boot config services in
    slice_get services s ≡ Some v → AreSound w xs
    → IsLife (record { world = w; slot = s; service = v; before = []; events = xs })

-- and after an accepted respawn of its slot, with nothing in it again
abbrev pub LifeBeginsAgain : World → ℕ → ℕ → Service → List (ℕ × Event) → Type 0
LifeBeginsAgain w a s v xs =
    let u = world_after_event w a (Respawn s) in
    event_refusal w a (Respawn s) ≡ None → slice_get w.services s ≡ Some v → AreSound u xs
    → IsLife (record { world = u; slot = s; service = v; before = []; events = xs })

-- two lives, on any machines and in any slots, that agree on program and diary end with equal images
abbrev pub LivesAgree : Life → Life → Type 0
LivesAgree x y =
    x.service.program ≡ y.service.program → diary_of_life x ≡ diary_of_life y → image_of_life x ≡ image_of_life y

-- ---- kernels: each history of one is such a run

-- the image of a kernel's slot is the program of its service with the diary of its generation played on it
abbrev pub KernelTellsImage : BootAndHistory → ℕ → Service → Type 0
KernelTellsImage k s v =
    slice_get k.boot.services s ≡ Some v
    → image_now (replay k) s ≡ play (diary_of_life (life_of k s v)) (image_of_program v.program)

-- two slots, of any two kernels, that agree on program and diary have equal images
abbrev pub KernelsAgree : BootAndHistory → BootAndHistory → ℕ → ℕ → Service → Service → Type 0
KernelsAgree k n s t v u =
    slice_get k.boot.services s ≡ Some v → slice_get n.boot.services t ≡ Some u → v.program ≡ u.program
    → diary_of_life (life_of k s v) ≡ diary_of_life (life_of n t u) → image_now (replay k) s ≡ image_now (replay n) t

-- ---- what a diary holds

abbrev pub HasEntries : World → ℕ → Event → ℕ → Type 0
HasEntries w a e s = AreEntries w a e s (diary w a e s)

-- a copy that an event makes brings all of its bytes: as many as it counts
abbrev pub CopyIsWhole : World → ℕ → Event → CopyMade → Type 0
CopyIsWhole w a e copy = copy_in w a e ≡ Some copy → length copy.bytes ≡ copy.count

-- ---- windows

-- under the strict rules the copy that an event makes goes through windows
abbrev pub CopyIsThroughWindows : World → ℕ → Event → ℕ → CopyMade → Type 0
CopyIsThroughWindows w a e s copy =
    is_strict w.table.rules ≡ true → caller_in w a e ≡ Some s → copy_in w a e ≡ Some copy
    → IsThroughWindows w.table s copy

-- ---- what others can't do

-- A byte of a slot's image that an event changes is in the buffer of a process that waits in a call, or in what is
-- copied into the slot, and then, under the strict rules, in a window that the process has open for writing. The
-- limit stays, and all registers but EAX, which changes only if the process waits in a call. A step changes nothing;
-- nor does any event if the process doesn't wait in a call and nothing is copied into it.
pub record LeavesImage (w : World) (a : ℕ) (e : Event) (s : ℕ) : Type 0 where
  pub bytes : (k : ℕ) → byte_of (image_now (world_after_event w a e) s) k ≢ byte_of (image_now w s) k
      → IsInBuffer w s k ⊎ IsInCopy s (copy_in w a e) k
  pub windows : is_strict w.table.rules ≡ true → (k : ℕ) → IsInCopy s (copy_in w a e) k → IsOpenToWriting w.table s k
  pub limit : length (image_now (world_after_event w a e) s).memory ≡ length (image_now w s).memory
  pub rest : registers_and_code (image_now (world_after_event w a e) s) ≡ registers_and_code (image_now w s)
  pub result : is_blocked (process_at w.table s).state ≡ false
      → (image_now (world_after_event w a e) s).regs.eax ≡ (image_now w s).regs.eax
  pub step : e ≡ Step → image_now (world_after_event w a e) s ≡ image_now w s
  pub whole : is_blocked (process_at w.table s).state ≡ false → MissesSlot s (copy_in w a e)
      → image_now (world_after_event w a e) s ≡ image_now w s

-- so does each accepted event of others
abbrev pub OthersLeaveImage : World → ℕ → Event → ℕ → Type 0
OthersLeaveImage w a e s = event_refusal w a e ≡ None → IsOfOthers w a e s → LeavesImage w a e s
