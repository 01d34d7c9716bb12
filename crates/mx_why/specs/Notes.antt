-- WHAT THE NOTES of a history tell (our own).
use Rattle.std.specs.Prelude.{ℕ, ◌==◌, ◌&&◌, Bool, true, false, List, [], ◌∷◌, filter}
use Rattle.std.specs.List.{list_any}
use Rattle.mx_why.specs.declared.notes.Deed.{Deed}
use Rattle.mx_why.specs.declared.notes.Deed.TheVariants.{Taken, Changed, Killed, Faulted, Respawned, Called, Received, Missed}
use Rattle.mx_why.specs.declared.notes.Note.{Note}

abbrev pub is_taken : Deed → Bool
is_taken Taken = true
is_taken _ = false

-- it does something else
abbrev pub is_changed : Deed → Bool
is_changed Changed = true
is_changed Killed = true
is_changed Faulted = true
is_changed Respawned = true
is_changed _ = false

abbrev pub is_died : Deed → Bool
is_died Killed = true
is_died Faulted = true
is_died _ = false

-- a call
abbrev pub is_call : Deed → Bool
is_call Called = true
is_call Received = true
is_call Missed = true
is_call _ = false

abbrev pub is_respawned : Deed → Bool
is_respawned Respawned = true
is_respawned _ = false

-- the process of a slot does something else
abbrev pub is_change_of : ℕ → Note → Bool
is_change_of s n = (n.slot == s) && is_changed n.deed

-- a processor takes it
abbrev pub is_take_of : ℕ → Note → Bool
is_take_of s n = (n.slot == s) && is_taken n.deed

-- it has a new process
abbrev pub is_respawn_of : ℕ → Note → Bool
is_respawn_of s n = (n.slot == s) && is_respawned n.deed

abbrev pub last_from : ℕ → List Note → ℕ
last_from k [] = k
last_from k (n ∷ ns) = last_from n.number ns

-- the number of the last note, or 0
abbrev pub last_number : List Note → ℕ
last_number ns = last_from 0 ns

-- SINCE WHICH RECORD the process of a slot does what it does: that of its last change; 0, if there is none
unfoldable pub since : List Note → ℕ → ℕ
since ns s = last_number (filter (is_change_of s) ns)

-- IT HAS RUN
abbrev pub has_run : List Note → ℕ → Bool
has_run ns s = list_any (is_take_of s) ns
