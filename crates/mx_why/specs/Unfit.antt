-- WHAT CAN'T WORK BY A CONFIGURATION ALONE: bits of masks that mean nothing; masks that want a trap which another mask
-- doesn't allow; and questions that nobody may answer (our own). What the services' programs do isn't asked, but
-- whether they have an instruction at all.
use Rattle.std.specs.Prelude.{ℕ, ◌==◌, ◌&&◌, ◌||◌, not, nat_lt, if◌then◌else◌, Bool, List, [], ◌∷◌, ◌++◌, bit_and, length, Option, Some, None, slice_get}
use Rattle.std.specs.List.{flat_map, range_with_len, list_any}
use Rattle.mx_word.specs.Bits.{has_bit}
use Rattle.mx_machine.specs.declared.config.Config.{Config}
use Rattle.mx_machine.specs.declared.config.ServiceLine.{ServiceLine}
use Rattle.mx_proc.specs.declared.process.Masks.{Masks}
use Rattle.mx_proc.specs.declared.windows.Rules.{Rules}
use Rattle.mx_proc.specs.declared.windows.Rules.TheVariants.{Lenient, Strict}
use Rattle.mx_why.specs.declared.seats.Seat.{Seat}
use Rattle.mx_why.specs.declared.seats.End.{End}
use Rattle.mx_why.specs.declared.unfit.Lack.{Lack}
use Rattle.mx_why.specs.declared.unfit.Lack.TheVariants.{StrayTraps, StrayCalls, CallsAlone, SendsAlone, NoCode, Towards}
use Rattle.mx_why.specs.declared.unfit.Pair.TheVariants.{Unnamed, Unanswered, Unheard}
use Rattle.mx_why.specs.declared.unfit.Unfit.{Unfit}
use Rattle.mx_why.specs.Seats.{seat_in}

-- ---- masks

-- SEND, RECEIVE, SENDREC and NOTIFY are the bits 1 to 4 of a mask of traps
abbrev pub allows : Masks → ℕ → Bool
allows m trap = has_bit m.traps trap

abbrev pub names : Masks → ℕ → Bool
names m s = nat_lt s 32 && has_bit m.sends s

-- the bits of traps that there aren't
abbrev pub stray_traps : Masks → ℕ
stray_traps m = bit_and m.traps 4294967265

-- the bits of calls that there are: by the lenient rules 8, by the strict rules 9
abbrev pub calls_of : Rules → ℕ
calls_of Lenient = 255
calls_of Strict = 511

abbrev pub stray_bits_of : Rules → ℕ
stray_bits_of Lenient = 4294967040
stray_bits_of Strict = 4294966784

abbrev pub stray_calls : Rules → Masks → ℕ
stray_calls rules m = bit_and m.calls (stray_bits_of rules)

abbrev pub has_call : Rules → Masks → Bool
has_call rules m = not (bit_and m.calls (calls_of rules) == 0)

-- by SEND, SENDREC or NOTIFY
abbrev pub may_send : Masks → Bool
may_send m = allows m 1 || allows m 3 || allows m 4

-- it can only ask, and has to be answered
abbrev pub only_asks : Masks → Bool
only_asks m = allows m 3 && not (allows m 1) && not (allows m 4)

-- what answers a SENDREC
abbrev pub may_answer : Masks → Bool
may_answer m = allows m 1 || allows m 3

abbrev pub may_receive : Masks → Bool
may_receive m = allows m 2 || allows m 3

-- ---- one service

abbrev pub if_so : Bool → ℕ → Lack → List Unfit
if_so b s lack = if b then record { slot = s; lack = lack } ∷ [] else []

unfoldable pub stray_in : Rules → ℕ → Masks → List Unfit
stray_in rules s m =
    if_so (not (stray_traps m == 0)) s (StrayTraps (stray_traps m))
    ++ if_so (not (stray_calls rules m == 0)) s (StrayCalls (stray_calls rules m))

-- it may send to another one that there is
abbrev pub names_other : ℕ → ℕ → Masks → ℕ → Bool
names_other count s m t = names m t && (nat_lt t count && not (t == s))

unfoldable pub names_some : ℕ → ℕ → Masks → Bool
names_some count s m = list_any (names_other count s m) (range_with_len 0 32)

unfoldable pub lacking_in : Rules → ℕ → ℕ → Masks → List Unfit
lacking_in rules count s m =
    if_so (has_call rules m && not (allows m 3)) s CallsAlone
    ++ if_so (names_some count s m && not (may_send m)) s SendsAlone

-- ---- one, and another that it may send to

-- no answer can come
abbrev pub silent_in : ℕ → Masks → ℕ → Masks → List Unfit
silent_in s m t o =
    if only_asks m then
    if_so (not (names o s)) s (Towards t Unnamed)
    ++ if_so (names o s && not (may_answer o)) s (Towards t Unanswered)
    else []

unfoldable pub towards : ℕ → Masks → ℕ → Masks → List Unfit
towards s m t o = silent_in s m t o ++ if_so (not (may_receive o)) s (Towards t Unheard)

abbrev pub towards_line : ℕ → Masks → ℕ → Option ServiceLine → List Unfit
towards_line s m t None = []
towards_line s m t (Some l) = towards s m t l.terms.masks

unfoldable pub towards_at : List ServiceLine → ℕ → Masks → ℕ → List Unfit
towards_at ls s m t =
    if names_other (length ls) s m t then towards_line s m t (slice_get ls t) else []

unfoldable pub towards_all : List ServiceLine → ℕ → Masks → List Unfit
towards_all ls s m = flat_map (towards_at ls s m) (range_with_len 0 32)

-- ---- the configuration

unfoldable pub unfit_of : Rules → List ServiceLine → ℕ → Masks → List Unfit
unfit_of rules ls s m = stray_in rules s m ++ lacking_in rules (length ls) s m ++ towards_all ls s m

abbrev pub unfit_line : Rules → List ServiceLine → ℕ → Option ServiceLine → List Unfit
unfit_line rules ls s None = []
unfit_line rules ls s (Some l) = unfit_of rules ls s l.terms.masks

abbrev pub unfit_at : Rules → List ServiceLine → ℕ → List Unfit
unfit_at rules ls s = unfit_line rules ls s (slice_get ls s)

-- THE MASKS of a configuration that can't work, in slot order
unfoldable pub unfit_masks : Config → List Unfit
unfit_masks c = flat_map (unfit_at c.rules c.lines) (range_with_len 0 32)

-- ---- the programs

abbrev pub bare_by : ℕ → Option Seat → List Unfit
bare_by s None = []
bare_by s (Some g) = if_so g.is_bare s NoCode

-- a slot whose program has no instruction
abbrev pub bare_at : End → ℕ → List Unfit
bare_at e s = bare_by s (seat_in e s)

unfoldable pub bare : End → List Unfit
bare e = flat_map (bare_at e) (range_with_len 0 32)

-- WHAT CAN'T WORK
unfoldable pub unfit : Config → End → List Unfit
unfit c e = unfit_masks c ++ bare e
