-- THE LINES of what can't work by a configuration alone (our own).
use Rattle.std.specs.Prelude.{ℕ, List, [], ◌++◌, codes, length, take, Option, Some, None, slice_get}
use Rattle.std.specs.Fmt.{decimal}
use Rattle.std.specs.List.{flat_map}
use Rattle.mx_insn_words.specs.Numbers.{hexadecimal}
use Rattle.mx_machine.specs.declared.config.Config.{Config}
use Rattle.mx_machine.specs.declared.config.ServiceLine.{ServiceLine}
use Rattle.mx_print_report.specs.Words.{name_bytes}
use Rattle.mx_why.specs.declared.unfit.Lack.{Lack}
use Rattle.mx_why.specs.declared.unfit.Lack.TheVariants.{StrayTraps, StrayCalls, CallsAlone, SendsAlone, NoCode, Towards}
use Rattle.mx_why.specs.declared.unfit.Pair.{Pair}
use Rattle.mx_why.specs.declared.unfit.Pair.TheVariants.{Unnamed, Unanswered, Unheard}
use Rattle.mx_why.specs.declared.unfit.Unfit.{Unfit}
use Rattle.mx_why.specs.Lines.{left_out_text}
use Rattle.mx_why.specs.Reasons.{bit_text}

-- ---- of one

abbrev pub name_of : ServiceLine → List ℕ
name_of l = name_bytes l.name.bytes

unfoldable pub stray_text : ServiceLine → List ℕ → ℕ → ℕ → List ℕ
stray_text l field mask bits =
    name_of l ++ field ++ hexadecimal mask ++ codes " has a bit that means nothing: " ++ hexadecimal bits

unfoldable pub alone_text : ServiceLine → List ℕ → ℕ → List ℕ → List ℕ
alone_text l field mask lacking = name_of l ++ field ++ hexadecimal mask ++ lacking

unfoldable pub no_code_text : ServiceLine → List ℕ
no_code_text l = name_of l ++ codes ": its program " ++ l.file ++ codes " has no instruction"

-- ---- of one and another

unfoldable pub asks_text : ServiceLine → ServiceLine → List ℕ
asks_text l o = name_of l ++ codes ": may only ask " ++ name_of o ++ codes " by SENDREC, and " ++ name_of o

unfoldable pub unnamed_text : ServiceLine → ℕ → ServiceLine → List ℕ
unnamed_text l s o =
    asks_text l o ++ codes "'s send " ++ hexadecimal o.terms.masks.sends ++ codes " has no bit for slot "
    ++ decimal s ++ bit_text s ++ codes ": no answer can come"

unfoldable pub unanswered_text : ServiceLine → ServiceLine → List ℕ
unanswered_text l o =
    asks_text l o ++ codes "'s traps " ++ hexadecimal o.terms.masks.traps ++ codes " have no SEND: no answer can come"

unfoldable pub unheard_text : ServiceLine → ServiceLine → List ℕ
unheard_text l o =
    name_of l ++ codes ": may send to " ++ name_of o ++ codes ", whose traps "
    ++ hexadecimal o.terms.masks.traps ++ codes " have no RECEIVE"

-- ---- the lines

abbrev pub pair_text : ℕ → ServiceLine → ServiceLine → Pair → List ℕ
pair_text s l o Unnamed = unnamed_text l s o
pair_text s l o Unanswered = unanswered_text l o
pair_text s l o Unheard = unheard_text l o

abbrev pub towards_text : ℕ → ServiceLine → Pair → Option ServiceLine → List ℕ
towards_text s l pair None = []
towards_text s l pair (Some o) = pair_text s l o pair

unfoldable pub lack_text : List ServiceLine → ℕ → ServiceLine → Lack → List ℕ
lack_text ls s l (StrayTraps bits) = stray_text l (codes ": traps ") l.terms.masks.traps bits
lack_text ls s l (StrayCalls bits) = stray_text l (codes ": calls ") l.terms.masks.calls bits
lack_text ls s l CallsAlone =
    alone_text l (codes ": calls ") l.terms.masks.calls
    (codes ", but its traps have no SENDREC (8): it can make no kernel call")
lack_text ls s l SendsAlone =
    alone_text l (codes ": send ") l.terms.masks.sends (codes ", but its traps have no SEND, SENDREC or NOTIFY")
lack_text ls s l NoCode = no_code_text l
lack_text ls s l (Towards t pair) = towards_text s l pair (slice_get ls t)

abbrev pub unfit_by : List ServiceLine → Unfit → Option ServiceLine → List ℕ
unfit_by ls u None = []
unfit_by ls u (Some l) = lack_text ls u.slot l u.lack

abbrev pub unfit_text : List ServiceLine → Unfit → List ℕ
unfit_text ls u = unfit_by ls u (slice_get ls u.slot)

unfoldable pub unfit_line : List ServiceLine → Unfit → List ℕ
unfit_line ls u = codes "CONFIG: " ++ unfit_text ls u ++ codes "\n"

-- of the first 8, and how many more there are
unfoldable pub unfit_lines : Config → List Unfit → List ℕ
unfit_lines c us = flat_map (unfit_line c.lines) (take 8 us) ++ left_out_text (codes "CONFIG: ") (length us)
