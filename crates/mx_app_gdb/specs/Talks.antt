-- The talk: bytes that come, and bytes that are written (our own).
use Rattle.std.specs.Prelude.{◌≡◌, ◌⊎◌, ℕ, suc, ◌^◌, ◌-◌, Bool, true, false, if◌then◌else◌}
use Rattle.std.specs.Prelude.{List, [], ◌∷◌, ◌++◌, codes, length, map, min, nat_lt, Option, Some, None, Result, Ok, Err}
use Rattle.mx_rsp.specs.declared.hearing.Heard.{Heard}
use Rattle.mx_rsp.specs.declared.hearing.Heard.TheVariants.{Again, Nothing, Packet, TooLong, Wrong}
use Rattle.mx_rsp.specs.Hearing.{heard_of, reading_after}
use Rattle.mx_rsp.specs.Packets.{packet}
use Rattle.mx_rsp.specs.Requests.{request_of}
use Rattle.mx_app_failure.specs.Failure.{IsUntyped, IsWanting, PrintsFront}
use Rattle.mx_app_failure.specs.declared.failure.Failure.{Failure}
use Rattle.mx_app_look.specs.Sessions.{HasFailed, IsBegun, sight_at}
use Rattle.mx_app_step.specs.Asked.{Asked}
use Rattle.mx_app_step.specs.Config.{Config}
use Rattle.mx_app_step.specs.Course.{IsSaved}
use Rattle.mx_app_step.specs.Service.{Service}
use Rattle.mx_app_step.specs.Setup.{IsStart}
use Rattle.mx_machine.specs.Boot.{world_at_boot}
use Rattle.mx_machine.specs.declared.config.ServiceLine.{ServiceLine}
use Rattle.mx_machine.specs.declared.history.Record.{Record}
use Rattle.mx_walk.specs.declared.progress.Part.{Part}
use Rattle.mx_walk.specs.Parts.{HasGrown, walk_shown}
use Rattle.mx_walk.specs.Walks.{Walk}
use Rattle.mx_app_gdb.specs.declared.replying.After.{After}
use Rattle.mx_app_gdb.specs.declared.replying.After.TheVariants.{More, NoAcks, Over}
use Rattle.mx_app_gdb.specs.declared.stub.Stub.{Stub}
use Rattle.mx_app_gdb.specs.declared.talking.Talk.{Talk}
use Rattle.mx_app_gdb.specs.declared.talking.TalkEnding.{TalkEnding}
use Rattle.mx_app_gdb.specs.declared.talking.TalkEnding.TheVariants.{NoService, Over as Ended}
use Rattle.mx_app_gdb.specs.Replied.{IsReplied, files_of}
use Rattle.mx_app_gdb.specs.SymbolFiles.{symbol_file}
use Rattle.mx_app_gdb.specs.Threads.{threads_at}

-- ---- one packet

-- while packets are acknowledged
abbrev pub if_acks : Bool → List ℕ → List ℕ
if_acks true text = text
if_acks false text = []

abbrev pub reply_text : Option (List ℕ) → List ℕ
reply_text None = []
reply_text (Some text) = packet text

-- the last packet that was written
abbrev pub last_of : List ℕ → Option (List ℕ) → List ℕ
last_of last None = last
last_of last (Some text) = packet text

-- what is in hand after a reply; nothing if the talk is over
abbrev pub IsLeft : Talk → Stub → Option (List ℕ) → After → Option Talk → Type 0
IsLeft t s reply Over o = o ≡ None
IsLeft t s reply More o =
    (u : Talk) × (o ≡ Some u) × (u.stub ≡ s) × (u.reader ≡ t.reader) × (u.acks ≡ t.acks)
    × (u.last.items ≡ last_of t.last.items reply)
IsLeft t s reply NoAcks o =
    (u : Talk) × (o ≡ Some u) × (u.stub ≡ s) × (u.reader ≡ t.reader) × (u.acks ≡ false)
    × (u.last.items ≡ last_of t.last.items reply)

-- A PACKET with this payload: it is acknowledged, what it asks for is done, and the reply is written
abbrev pub IsAnswered : Talk → List ℕ → Option Talk → List ℕ → Type 0
IsAnswered t payload o text =
    (s : Stub) × (reply : Option (List ℕ)) × (next : After)
    × IsReplied t.stub (request_of payload) s reply next × IsLeft t s reply next o
    × (text ≡ if_acks t.acks (codes "+") ++ reply_text reply)

-- ---- one byte

abbrev pub read_to : Talk → ℕ → Talk
read_to t b = record t { reader = reading_after t.reader b }

-- what it says; a packet that is too long asks for nothing that is known
abbrev pub IsHeardAs : Talk → Heard → Option Talk → List ℕ → Type 0
IsHeardAs t Nothing o text = (o ≡ Some t) × (text ≡ [])
IsHeardAs t Again o text = (o ≡ Some t) × (text ≡ if_acks t.acks t.last.items)
IsHeardAs t Wrong o text = (o ≡ Some t) × (text ≡ if_acks t.acks (codes "-"))
IsHeardAs t TooLong o text = IsAnswered t [] o text
IsHeardAs t (Packet p) o text = IsAnswered t p o text

abbrev pub IsByteHeard : Talk → ℕ → Option Talk → List ℕ → Type 0
IsByteHeard t b o text = IsHeardAs (read_to t b) (heard_of t.reader b) o text

-- ---- THE TALK, over the bytes that come, each as a line of its own: up to its end, to that of the input, or to so
-- many bytes. Each is answered before the next one is read

abbrev pub IsTalkOf : ℕ → Option Talk → List (Option (List ℕ)) → List ℕ → Type 0
IsTalkOf n None typed text = (typed ≡ []) × (text ≡ [])
IsTalkOf n (Some t) [] text = (n ≡ 0) × (text ≡ [])
IsTalkOf n (Some t) (None ∷ xs) text = (xs ≡ []) × (text ≡ [])
IsTalkOf n (Some t) (Some l ∷ xs) text =
    (m : ℕ) × (b : ℕ) × (o : Option Talk) × (now : List ℕ) × (rest : List ℕ)
    × (n ≡ suc m) × (l ≡ b ∷ []) × IsByteHeard t b o now × IsTalkOf m o xs rest × (text ≡ now ++ rest)

-- at most as many as a number of 64 bits counts
abbrev pub IsTalk : Talk → List (Option (List ℕ)) → List ℕ → Type 0
IsTalk t typed text = IsTalkOf (2 ^ 64 - 1) (Some t) typed text

-- ---- what is written where the output takes no more, or memory is out: a front

-- of the acknowledgement; or of all, where the reply is known
abbrev pub IsAnswerBegun : Talk → List ℕ → (List ℕ → Type 0) → Type 0
IsAnswerBegun t payload Prints =
    PrintsFront Prints (if_acks t.acks (codes "+"))
    ⊎ ((s : Stub) × (reply : Option (List ℕ)) × (next : After)
    × IsReplied t.stub (request_of payload) s reply next
    × PrintsFront Prints (if_acks t.acks (codes "+") ++ reply_text reply))

abbrev pub IsHeardBegun : Talk → Heard → (List ℕ → Type 0) → Type 0
IsHeardBegun t Nothing Prints = Prints []
IsHeardBegun t Again Prints = PrintsFront Prints (if_acks t.acks t.last.items)
IsHeardBegun t Wrong Prints = PrintsFront Prints (if_acks t.acks (codes "-"))
IsHeardBegun t TooLong Prints = IsAnswerBegun t [] Prints
IsHeardBegun t (Packet p) Prints = IsAnswerBegun t p Prints

abbrev pub IsByteBegun : Talk → ℕ → (List ℕ → Type 0) → Type 0
IsByteBegun t b Prints = IsHeardBegun (read_to t b) (heard_of t.reader b) Prints

-- THE TALK fails for this: no byte can be read, after all answers to those before; or the last one can't be answered
-- whole. The bytes before it went on
abbrev pub IsCutOf : ℕ → Talk → List (Option (List ℕ)) → (List ℕ → Type 0) → Failure → Type 0
IsCutOf n t [] Prints f = (m : ℕ) × (n ≡ suc m) × IsUntyped f × Prints []
IsCutOf n t (None ∷ xs) Prints f = ⊥
IsCutOf n t (Some l ∷ xs) Prints f =
    (m : ℕ) × (b : ℕ) × (n ≡ suc m) × (l ≡ b ∷ [])
    × (((xs ≡ []) × IsWanting f × IsByteBegun t b Prints)
    ⊎ ((u : Talk) × (now : List ℕ) × IsByteHeard t b (Some u) now
    × IsCutOf m u xs (λ rest. Prints (now ++ rest)) f))

abbrev pub IsTalkCut : Talk → List (Option (List ℕ)) → (List ℕ → Type 0) → Failure → Type 0
IsTalkCut t typed Prints f = IsCutOf (2 ^ 64 - 1) t typed Prints f

-- ---- where it begins

abbrev pub file_names : List ServiceLine → List (List ℕ)
file_names lines = map (λ (l : ServiceLine). symbol_file l.file) lines

abbrev pub slot_count : Config → ℕ
slot_count c = min (length c.lines) 32

-- the slot that gdb wants alone, if it has a service; else its number
abbrev pub only_by : ℕ → Option ℕ → Result (Option ℕ) ℕ
only_by n None = Ok None
only_by n (Some s) = if nat_lt s n then Ok (Some s) else Err s

-- nothing is set, no byte has come, and packets are acknowledged
pub record IsTalkBegun (c : Config) (k : Walk) (only : Option ℕ) (t : Talk) : Type 0 where
  pub sight : t.stub.sight ≡ sight_at k
  pub files : files_of t.stub ≡ file_names c.lines
  pub threads : t.stub.threads ≡ threads_at (slot_count c) only
  pub reader : t.reader ≡ []
  pub acks : t.acks ≡ true
  pub last : t.last.items ≡ []

-- ---- A TALK FROM FILES: what is read, what comes, the progress that is shown, and what is written, as it ends

-- the machine of a saved history is started, and the history walked
pub record IsOpened (config log : List ℕ) (qs : List Asked) (ps : List Part) (c : Config) (k : Walk) : Type 0 where
  pub services : List Service
  pub records : List Record
  pub started : IsStart IsSaved config log qs c services records
  pub begun : IsBegun (world_at_boot c services) records k
  pub shown : HasGrown (walk_shown k.records k.last) ps

abbrev pub IsTalked : List ℕ → List ℕ → Option ℕ → List Asked → List (Option (List ℕ)) → List Part
    → (List ℕ → Type 0) → TalkEnding → Type 0
IsTalked config log slot qs typed ps Prints Ended =
    (c : Config) × (k : Walk) × (only : Option ℕ) × (t : Talk) × (text : List ℕ) × IsOpened config log qs ps c k
    × (only_by (slot_count c) slot ≡ Ok only) × IsTalkBegun c k only t × IsTalk t typed text × Prints text
IsTalked config log slot qs typed ps Prints (NoService s) =
    (c : Config) × (k : Walk) × IsOpened config log qs ps c k
    × (only_by (slot_count c) slot ≡ Err s) × (typed ≡ []) × Prints []

-- no history is opened: nothing is taken of the input, and nothing written; or a talk fails
abbrev pub HasTalkFailed : List ℕ → List ℕ → Option ℕ → List Asked → List (Option (List ℕ)) → List Part
    → (List ℕ → Type 0) → Failure → Type 0
HasTalkFailed config log slot qs typed ps Prints f =
    ((typed ≡ []) × Prints [] × HasFailed config log qs ps f)
    ⊎ ((c : Config) × (k : Walk) × (only : Option ℕ) × (t : Talk) × IsOpened config log qs ps c k
    × (only_by (slot_count c) slot ≡ Ok only) × IsTalkBegun c k only t × IsTalkCut t typed Prints f)
