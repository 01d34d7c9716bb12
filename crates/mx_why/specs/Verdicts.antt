-- WHAT IS SAID OF A SLOT whose process waits: whether it can ever go on (our own). One that never does
-- goes on by no events, unless a process is killed, from outside or by a kernel call: a law says it (`Never`).
use Rattle.std.specs.Prelude.{ℕ, ◌-◌, ◌==◌, ◌&&◌, not, nat_le, if◌then◌else◌, Bool, true, false, List, [], ◌∷◌, length, map, Option, Some, None, is_none, slice_get}
use Rattle.std.specs.List.{range_with_len, list_any, list_all}
use Rattle.mx_print_report.specs.declared.doing.Awaited.{Awaited}
use Rattle.mx_print_report.specs.declared.doing.Awaited.TheVariants as awaited
use Rattle.mx_print_report.specs.declared.doing.Doing.{Doing}
use Rattle.mx_print_report.specs.declared.doing.Doing.TheVariants.{Receiving}
use Rattle.mx_why.specs.declared.seats.End.{End}
use Rattle.mx_why.specs.declared.verdicts.Verdict.{Verdict}
use Rattle.mx_why.specs.declared.verdicts.Verdict.TheVariants.{Itself, Ring, ForRing, NoLine, NoAlarm, FromSystem, NoSender, NothingComes, AwaitsLine, AwaitsAlarm, MayComeBy}
use Rattle.mx_why.specs.Seats.{doing_in, is_slot}
use Rattle.mx_why.specs.Waiting.{chain, is_among, may_send, partner_of, reached, waking_alarm, waking_line}

abbrev pub is_never : Verdict → Bool
is_never AwaitsLine = false
is_never (AwaitsAlarm due) = false
is_never (MayComeBy last) = false
is_never _ = true

-- ---- a chain that closes

abbrev pub is_in : List ℕ → ℕ → Bool
is_in chain s = list_any (λ p. p == s) chain

-- the first slot that comes again
abbrev pub ring_in : List ℕ → Option ℕ
ring_in [] = None
ring_in (p ∷ ps) = if is_in ps p then Some p else ring_in ps

abbrev pub by_ring : Option ℕ → Option Verdict
by_ring None = None
by_ring (Some p) = Some (ForRing p)

-- one that comes first in its chain waits for itself
abbrev pub in_ring : List ℕ → ℕ → Verdict
in_ring chain s = if is_slot s (slice_get chain 0) then Itself else Ring

-- a slot that is in its own chain is in a ring, of which the lowest slot tells
unfoldable pub closed : List ℕ → ℕ → Option Verdict
closed chain s =
    if is_in chain s then (if list_all (λ p. nat_le s p) chain then Some (in_ring chain s) else None)
    else by_ring (ring_in chain)

-- ---- one that waits for no process

unfoldable pub has_sender : End → ℕ → Bool
has_sender e s = list_any (λ p. not (p == s) && may_send e p s) (range_with_len 0 32)

abbrev pub has_no_sender : End → ℕ → Bool
has_no_sender e s = not (has_sender e s)

abbrev pub from_own_alarm : End → ℕ → Option Verdict
from_own_alarm e due = if e.at_rest then Some (AwaitsAlarm due) else None

abbrev pub from_nobody : End → ℕ → Option Verdict
from_nobody e s = if is_none (waking_line e s) && has_no_sender e s then Some NoSender else None

abbrev pub from_any_by : End → ℕ → Option ℕ → Option Verdict
from_any_by e s None = from_nobody e s
from_any_by e s (Some due) = from_own_alarm e due

unfoldable pub from_any : End → ℕ → Option Verdict
from_any e s = from_any_by e s (waking_alarm e s)

abbrev pub by_line : Option ℕ → Verdict
by_line None = NoLine
by_line (Some l) = AwaitsLine

abbrev pub by_alarm : Option ℕ → Verdict
by_alarm None = NoAlarm
by_alarm (Some due) = AwaitsAlarm due

abbrev pub alone_by : End → ℕ → Awaited → Option Verdict
alone_by e s awaited.Any = from_any e s
alone_by e s awaited.System = Some FromSystem
alone_by e s awaited.Hardware = Some (by_line (waking_line e s))
alone_by e s awaited.Clock = Some (by_alarm (waking_alarm e s))
alone_by e s (awaited.Process p) = None

unfoldable pub alone : End → ℕ → Doing → Option Verdict
alone e s (Receiving p) = alone_by e s p
alone e s _ = None

-- ---- one whose chain ends with another: at rest

unfoldable pub behind : End → ℕ → Option Verdict
behind e last =
    if e.at_rest then
    Some (if is_among (reached e) last then MayComeBy last else NothingComes last)
    else None

abbrev pub behind_if : End → Option ℕ → Option Verdict
behind_if e None = None
behind_if e (Some last) = behind e last

-- ---- THE VERDICT

abbrev pub by_chain : End → ℕ → List ℕ → Option Verdict
by_chain e s chain = if nat_le 32 (length chain) then closed chain s
    else behind_if e (slice_get chain (length chain - 1))

abbrev pub by_partner : End → ℕ → Doing → Option ℕ → Option Verdict
by_partner e s d None = alone e s d
by_partner e s d (Some p) = by_chain e s (chain e s)

abbrev pub verdict_on : End → ℕ → Option Doing → Option Verdict
verdict_on e s None = None
verdict_on e s (Some d) = by_partner e s d (partner_of d)

unfoldable pub verdict : End → ℕ → Option Verdict
verdict e s = verdict_on e s (doing_in e s)

unfoldable pub verdicts : End → List (Option Verdict)
verdicts e = map (verdict e) (range_with_len 0 32)
