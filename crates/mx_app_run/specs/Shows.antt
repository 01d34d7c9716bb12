-- What the gate of a run shows, and when it ends a loop (our own).
use Rattle.std.specs.Prelude.{◌≡◌, ◌-◌, ◌&&◌, ◌||◌, ℕ, Bool, true, false, nat_lt, if◌then◌else◌}
use Rattle.mx_cpus.specs.Gates.{GateCall, asked_call, seen_call, stops_call}
use Rattle.mx_cpus.specs.declared.locked.HowFar.{HowFar}
use Rattle.mx_walk.specs.declared.progress.Part.{Part}

-- a history of so many records has no room for the two records of a turn
abbrev pub is_full_at : ℕ → ℕ → Bool
is_full_at log records = nat_lt (log - records) 2

-- WHEN A LOOP MAY END: the machine is at rest and the actor's own work is done, or the history is full
abbrev pub may_end : ℕ → ℕ → Bool → Bool → Bool
may_end log records at_rest is_done = (at_rest && is_done) || is_full_at log records

-- when it ends: at rest only if an earlier question came after all ticks and calls, at a full history only if an
-- earlier one came with it. There the outsider's wait ends too
abbrev pub is_settled : ℕ → ℕ → ℕ → HowFar → Bool → Bool → Bool → Bool
is_settled respawner log actor far is_done was_past_all has_seen_full =
    if is_full_at log far.records then has_seen_full && (is_done || nat_lt respawner actor)
    else far.at_rest && is_done && was_past_all

-- a loop sleeps a millisecond at most
abbrev pub nap_after : ℕ → Bool → ℕ
nap_after questions is_respawner = if is_respawner || nat_lt 16 questions then 1 else 0

-- A CALL OF THE GATE showed how many records the history has, of so many that it may have, if an actor saw it then; and
-- a loop that it ended may end. If there is a file that stops the run, each may at any question
abbrev pub shows : (Part → Type 0) → ℕ → Bool → GateCall → Type 0
shows WasShown log stops (seen_call actor records) = WasShown (record { done = records; all = log })
shows WasShown log stops (asked_call actor records at_rest is_done goes_on) =
    goes_on ≡ false → (stops || may_end log records at_rest is_done) ≡ true
shows WasShown log stops (stops_call cpu stopped) = stopped ≡ true → stops ≡ true
shows WasShown log stops _ = Unit {0}
