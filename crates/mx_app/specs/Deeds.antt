-- What a command did with what it works with (our own).
use Rattle.std.specs.Prelude.{◌≡◌, ◌++◌, ℕ, List, [], Option}
use Rattle.std.specs.Io.KnownBytes.{Appends}
use Rattle.mx_app_db.specs.Asked.{Asked}
use Rattle.mx_app_db.specs.Written.{Written}
use Rattle.mx_walk.specs.declared.progress.Part.{Part}
use Rattle.mx_app_start.specs.declared.channels.Channels.{Channels}
use Rattle.mx_app_live.specs.declared.outside.Heard.{Heard}
use Rattle.mx_app_live.specs.declared.outside.Note.{Note}
use Rattle.mx_app.specs.declared.command_io.CommandIo.{CommandIo}

-- What a command did, each in order: the files that it asked for and wrote, the lines that were typed, what it heard of
-- who sits at its machine and told there, and the progress that it showed.
pub record Deeds : Type 0 where
  pub asked : List Asked
  pub written : List Written
  pub typed : List (Option (List ℕ))
  pub heard : List Heard
  pub told : List Note
  pub shown : List Part

-- a command that did nothing
abbrev pub nothing_done : Deeds
nothing_done = record { asked = []; written = []; typed = []; heard = []; told = []; shown = [] }

-- THESE LOGS HAVE GROWN by what a command did: of files asked for and written, of typed lines, of what was heard and told,
-- and of progress. Of what it did and of the texts that it may have printed this holds
abbrev pub Does : {R F W L O P : Type 0} → CommandIo R F W L O P → CommandIo R F W L O P → (R → List Asked)
    → (F → List Written) → (W → Option (List ℕ))
    → (L → List (Option (List ℕ))) → (O → List Heard) → (O → List Note) → (P → List Part)
    → (Deeds → (List ℕ → Type 0) → Type 0) → Type 0
Does old new asked written contents typed heard told shown Holds =
    (d : Deeds)
    × (asked new.channels.reader ≡ asked old.channels.reader ++ d.asked)
    × (written new.channels.files ≡ written old.channels.files ++ d.written)
    × (typed new.lines ≡ typed old.lines ++ d.typed)
    × (heard new.seat ≡ heard old.seat ++ d.heard)
    × (told new.seat ≡ told old.seat ++ d.told)
    × (shown new.progress ≡ shown old.progress ++ d.shown)
    × Holds d (λ text. Appends (contents old.channels.out) (contents new.channels.out) text)

-- nobody was listened to, and nobody told anything
abbrev pub IsAlone : Deeds → Type 0
IsAlone did = (did.heard ≡ []) × (did.told ≡ [])

-- nothing was written, typed, heard, told, shown or printed
abbrev pub IsIdle : Deeds → (List ℕ → Type 0) → Type 0
IsIdle did Prints = (did.written ≡ []) × (did.typed ≡ []) × IsAlone did × (did.shown ≡ []) × Prints []

-- THE SAME of a command that takes no lines and shows no progress, by the files that it asked for and wrote
abbrev pub DoesUntyped : {R F W : Type 0} → Channels R F W → Channels R F W → (R → List Asked) → (F → List Written)
    → (W → Option (List ℕ))
    → (List Asked → List Written → (List ℕ → Type 0) → Type 0) → Type 0
DoesUntyped old new asked written contents Holds =
    (qs : List Asked) × (ws : List Written) × (asked new.reader ≡ asked old.reader ++ qs)
    × (written new.files ≡ written old.files ++ ws)
    × Holds qs ws (λ text. Appends (contents old.out) (contents new.out) text)
