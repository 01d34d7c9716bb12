-- What events leave of what processors hold.
use Rattle.std.proofs.Common.{◌≡◌, ◌≢◌, ℕ, List, Option, Some, None, true, slice_get, get_or, refl, sym, ap}
use Rattle.std.proofs.lemmas.List.{get_or-set_other}
use Rattle.mx_kcall.specs.Proc.Queues.{first_ready}
use Rattle.mx_kcall.specs.Service.{Service}
use Rattle.mx_kcall.specs.Refusals.{owner_of}
use Rattle.mx_machine.specs.declared.events.Event.{Event}
use Rattle.mx_machine.specs.declared.events.Event.TheVariants.{Step, Take, Back, Line, Tick, Kill, Respawn}
use Rattle.mx_machine.specs.Held.{out_after_step}
use Rattle.mx_machine.specs.Move.{world_after_back, world_after_event, world_after_line, world_after_respawn, world_after_step, world_after_take, is_for_all, held_at_take}
use Rattle.mx_machine.specs.World.{World, HeldProcess, held_by}

-- ---- an event of any actor

line_cpus : (w : World) (l : ℕ) (owner : Option ℕ) → (world_after_line w l owner).cpus ≡ w.cpus
line_cpus w l None = refl
line_cpus w l (Some s) = refl

respawn_cpus : (w : World) (s : ℕ) (v : Option Service) → (world_after_respawn w s v).cpus ≡ w.cpus
respawn_cpus w s None = refl
respawn_cpus w s (Some v) = refl

pub cpus_after : (w : World) (a : ℕ) (x : Event) → is_for_all x ≡ true → (world_after_event w a x).cpus ≡ w.cpus
unfolding world_after_event
cpus_after w a Step i = cc
cpus_after w a Take i = cc
cpus_after w a Back i = cc
cpus_after w a (Line l) i = line_cpus w l (owner_of w.table l)
cpus_after w a Tick i = refl
cpus_after w a (Kill e) i = refl
cpus_after w a (Respawn s) i = respawn_cpus w s (slice_get w.services s)

pub held_by_any : (w : World) (a c : ℕ) (x : Event) → is_for_all x ≡ true → held_by (world_after_event w a x) c ≡ held_by w c
held_by_any w a c x i = ap (λ cs. get_or cs c None) (cpus_after w a x i)

-- ---- an event of another actor

by_step : (w : World) (a c : ℕ) (held : Option HeldProcess) → a ≢ c → held_by (world_after_step w a held) c ≡ held_by w c
by_step w a c None n = refl
by_step w a c (Some l) n = get_or-set_other w.cpus a c (Some (record l { out = out_after_step l.out })) None (λ e. n (sym e))

by_take : (w : World) (a c : ℕ) (first : Option ℕ) → a ≢ c → held_by (world_after_take w a first) c ≡ held_by w c
by_take w a c None n = refl
by_take w a c (Some s) n = get_or-set_other w.cpus a c (Some (held_at_take w.table s)) None (λ e. n (sym e))

by_back : (w : World) (a c : ℕ) (held : Option HeldProcess) → a ≢ c → held_by (world_after_back w a held) c ≡ held_by w c
by_back w a c None n = refl
by_back w a c (Some l) n = get_or-set_other w.cpus a c None None (λ e. n (sym e))

pub held_after : (w : World) (a c : ℕ) (x : Event) → a ≢ c → held_by (world_after_event w a x) c ≡ held_by w c
unfolding world_after_event
held_after w a c Step n = by_step w a c (held_by w a) n
held_after w a c Take n = by_take w a c (first_ready w.table.ready) n
held_after w a c Back n = by_back w a c (held_by w a) n
held_after w a c (Line l) n = held_by_any w a c (Line l) refl
held_after w a c Tick n = held_by_any w a c Tick refl
held_after w a c (Kill e) n = held_by_any w a c (Kill e) refl
held_after w a c (Respawn s) n = held_by_any w a c (Respawn s) refl
