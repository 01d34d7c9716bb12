-- What a session makes writes to the console: its turns far less than the console keeps, and else nothing.
use Rattle.std.proofs.Common.{◌≡◌, ℕ, zero, suc, ◌+◌, ◌*◌, ◌++◌, ◌≤◌, nat_lt, Bool, true, false, cond, List, [], ◌∷◌, length, map, Option, Some, None, refl, arith}
use Rattle.std.specs.List.{flat_map, range_with_len}
use Rattle.std.proofs.lemmas.List.FromFn.{length-range_with_len}
use Rattle.mx_machine.specs.declared.events.Event.{Event}
use Rattle.mx_machine.specs.declared.events.Event.TheVariants.{Take, Back, Line, Tick, Kill, Respawn}
use Rattle.mx_machine.specs.declared.events.Refusal.{Refusal}
use Rattle.mx_machine.specs.declared.events.Refusal.TheVariants.{LogFull}
use Rattle.mx_machine.specs.Move.{event_refusal, world_after_event}
use Rattle.mx_machine.specs.Steps.{steps_of}
use Rattle.mx_machine.specs.World.{World}
use Rattle.mx_turns.specs.declared.turns.Ending.TheVariants.{Rest}
use Rattle.mx_turns.specs.Turns.{Course, Offered, is_over, most_steps, offered, offered_first, respawns, run_of, runs, takes, then_offered, then_turns, turn, turns, world_after}
use Rattle.mx_turns.proofs.TurnLemmas.{cpus_stay}
use Rattle.mx_typist.specs.declared.keys.Wanted.{Wanted}
use Rattle.mx_typist.specs.declared.keys.Wanted.TheVariants as wanted
use Rattle.mx_typist.specs.declared.typist.Raise.{Raise}
use Rattle.mx_typist.specs.Keys.{pending_after, wanted_of}
use Rattle.mx_typist.specs.Typing.{raise_of}
use Rattle.mx_keyboard.specs.Keyboard.{byte_lines, endpoint_in, raise_events, seen_of}
use Rattle.mx_spool.specs.Written.{console_of}
use Rattle.mx_spool.proofs.ConsoleLemmas.{backs_of}
use Rattle.mx_spool.proofs.WrittenLemmas.{backs, backs_append, then_none}
use Rattle.mx_app_live.specs.declared.outside.Heard.{Heard}
use Rattle.mx_app_live.specs.declared.outside.Heard.TheVariants as heard
use Rattle.mx_app_live.specs.Session.{Seat, doing, going_on, hearing, is_full, killed_at, raised_at, round_length, round_turns, seat_after_turns, turns_at}

-- ---- offers

first_backs : (r : Option Refusal) (x : ℕ × Event) (xs : List (ℕ × Event)) (refused accepted : Offered) → backs refused.made ≤ backs xs → backs accepted.made ≤ backs xs
    → backs (offered_first x r refused accepted).made ≤ backs (x ∷ xs)
first_backs None x xs refused accepted a b = omega (arith, b)
first_backs (Some LogFull) x xs refused accepted a b = omega arith
first_backs (Some r) x xs refused accepted a b = omega (arith, a)

pub offered_backs : (xs : List (ℕ × Event)) (w : World) → backs (offered w xs).made ≤ backs xs
offered_backs [] w = omega arith
offered_backs (x ∷ xs) w =
    let after = world_after_event w x.0 x.1 in
    first_backs (event_refusal w x.0 x.1) x xs (offered w xs) (offered after xs) (offered_backs xs w) (offered_backs xs after)

then_backs : (w : World) (first : Offered) (xs : List (ℕ × Event)) → backs (then_offered w first xs).made ≤ backs first.made + backs xs
then_backs w first xs =
    let next = offered (world_after w first) xs in
    let e : backs (first.made ++ next.made) ≡ backs first.made + backs next.made = backs_append first.made next.made in
    let few = offered_backs xs (world_after w first) in
    omega (arith, e, few)

takes_backs : (cs : List ℕ) → backs (map (λ c. let x : ℕ × Event = (c, Take) in x) cs) ≡ 0
takes_backs [] = refl
takes_backs (c ∷ cs) = let e = takes_backs cs in omega (arith, e)

respawns_backs : (a : ℕ) (ss : List ℕ) → backs (map (λ s. let x : ℕ × Event = (a, Respawn s) in x) ss) ≡ 0
respawns_backs a [] = refl
respawns_backs a (s ∷ ss) = let e = respawns_backs a ss in omega (arith, e)

lines_backs : (a : ℕ) (ls : List ℕ) → backs (map (λ l. let x : ℕ × Event = (a, Line l) in x) ls) ≡ 0
lines_backs a [] = refl
lines_backs a (l ∷ ls) = let e = lines_backs a ls in omega (arith, e)

steps_backs : (c n : ℕ) → backs (steps_of c n) ≡ 0
steps_backs c zero = refl
steps_backs c (suc n) = let e = steps_backs c n in omega (arith, e)

run_backs : (c : ℕ) → backs (run_of c) ≡ 1
run_backs c =
    let e : backs (steps_of c most_steps ++ (c, Back) ∷ []) ≡ backs (steps_of c most_steps) + 1 = backs_append (steps_of c most_steps) ((c, Back) ∷ []) in
    let none = steps_backs c most_steps in
    omega (arith, e, none)

runs_backs : (cs : List ℕ) → backs (flat_map run_of cs) ≡ length cs
runs_backs [] = refl
runs_backs (c ∷ cs) =
    let e : backs (run_of c ++ flat_map run_of cs) ≡ backs (run_of c) + backs (flat_map run_of cs) = backs_append (run_of c) (flat_map run_of cs) in
    let one = run_backs c in
    let more = runs_backs cs in
    omega (arith, e, one, more)

-- ---- turns

turn_by : (b : Bool) (w : World) (ran : Offered) (others : List (ℕ × Event)) (n : ℕ) → backs ran.made ≤ n → backs others ≡ 0
    → backs (let r : Offered = cond b (record ran { full = true }) (then_offered w ran others) in r).made ≤ n
turn_by true w ran others n few none = few
turn_by false w ran others n few none = let h = then_backs w ran others in omega (arith, h, few, none)

-- in a turn each processor returns once at most
turn_backs : (w : World) → backs (turn w None).made ≤ length w.cpus
turn_backs w =
    let cpus = length w.cpus in
    let taken = offered w (takes cpus) in
    let ran = then_offered w taken (runs cpus) in
    let a = offered_backs (takes cpus) w in
    let b : backs (takes cpus) ≡ 0 = takes_backs (range_with_len 0 cpus) in
    let c = then_backs w taken (runs cpus) in
    let d : backs (runs cpus) ≡ length (range_with_len 0 cpus) = runs_backs (range_with_len 0 cpus) in
    let e = length-range_with_len 0 cpus in
    turn_by taken.full w ran (respawns cpus (length w.services)) cpus (omega (arith, a, b, c, d, e)) (respawns_backs cpus (range_with_len 0 (length w.services)))

turns_by : (full over : Bool) (t : Offered) (later : Course) (n : ℕ) → t.full ≡ full → backs t.made ≤ 8 → backs later.made ≤ 8 * n
    → backs (let c : Course = cond over (record { made = []; ending = Rest }) (then_turns t later) in c).made ≤ 8 * suc n
turns_by full true t later n is few more = omega arith
turns_by true false t later n is few more = rw is (omega (arith, few))
turns_by false false t later n is few more =
    let e : backs (t.made ++ later.made) ≡ backs t.made + backs later.made = backs_append t.made later.made in
    rw is (omega (arith, e, few, more))

turns_backs : (n : ℕ) (w : World) → length w.cpus ≤ 8 → backs (turns n w []).made ≤ 8 * n
turns_backs zero w few = omega arith
turns_backs (suc n) w few =
    let t = turn w None in
    let after = world_after w t in
    let one = turn_backs w in
    let same : length after.cpus ≡ length w.cpus = cpus_stay w t.made in
    turns_by t.full (is_over w []) t (turns n after []) n refl (omega (arith, one, few)) (turns_backs n after (omega (arith, same, few)))

round_by : (b : Bool) → cond b 1 16 ≤ 16
round_by true = omega arith
round_by false = omega arith

-- the turns of a round write far less than a console keeps
pub round_backs : (n : ℕ) (w : World) → length w.cpus ≤ 8 → backs (round_turns n w).made ≤ 4096
round_backs n w few =
    let a = turns_backs (round_length n) w few in
    let b : round_length n ≤ 16 = round_by (nat_lt 0 n) in
    omega (arith, a, b)

-- ---- what else a session makes writes nothing

raise_backs : (a : ℕ) (r : Option Raise) → backs (raise_events a r) ≡ 0
raise_backs a None = refl
raise_backs a (Some r) = lines_backs a (byte_lines r.byte)

pub raised_backs : (x : Seat) → backs (raised_at x).made ≤ 0
raised_backs x =
    let xs = raise_events (length x.world.cpus) (raise_of (seen_of x.world.table x.typing.flight) x.typing) in
    let a = offered_backs xs x.world in
    let b = raise_backs (length x.world.cpus) (raise_of (seen_of x.world.table x.typing.flight) x.typing) in
    omega (arith, a, b)

-- what a machine that goes on writes, its turns write
pub going_written : (k : Bool) (x : Seat) (b : Bool) → is_full (turns_at x).ending ≡ b → console_of x.world (going_on k x).made ≡ console_of x.world (turns_at x).made
going_written k x true is = rw is refl
going_written k x false is = rw is (then_none (turns_at x).made (raised_at (seat_after_turns x)).made x.world (raised_backs (seat_after_turns x)))

outside_backs : (w : World) (e : Event) → backs_of e ≡ 0 → backs (offered w ((length w.cpus, e) ∷ [])).made ≤ 0
outside_backs w e none = let a = offered_backs ((length w.cpus, e) ∷ []) w in omega (arith, a, none)

killed_backs : (w : World) (e : Option ℕ) → backs (killed_at w e).made ≤ 0
killed_backs w None = omega arith
killed_backs w (Some e) = outside_backs w (Kill e) refl

doing_backs : (x : Seat) (w : Wanted) → backs (doing x w).made ≤ 0
doing_backs x wanted.More = omega arith
doing_backs x (wanted.Key b) = omega arith
doing_backs x (wanted.Kill s) = killed_backs x.world (endpoint_in x.world.table (Some s))
doing_backs x wanted.Tick = outside_backs x.world Tick refl
doing_backs x wanted.Help = omega arith
doing_backs x wanted.End = omega arith
doing_backs x wanted.Unknown = omega arith

pub hearing_backs : (x : Seat) (h : Heard) → backs (hearing x h).made ≤ 0
hearing_backs x heard.Nothing = omega arith
hearing_backs x (heard.Key k) = doing_backs (let y : Seat = record x { pending = pending_after x.pending k } in y) (wanted_of x.pending k)
hearing_backs x heard.Tick = outside_backs x.world Tick refl
hearing_backs x heard.NoMoreKeys = omega arith
hearing_backs x heard.Stop = omega arith
