-- The table of kernel calls (our choice). The call of row n has the type 600 hex plus n, and bit n of the mask.
use Rattle.std.specs.Prelude.{ℕ, ◌-◌, ◌==◌, nat_lt, not, ◌||◌, Bool, List, take, position, Option, Some, None}
use Rattle.std.specs.Prelude.{slice_get, if◌then◌else◌}
use Rattle.mx_respawn.specs.Proc.declared.windows.Rules.{Rules}
use Rattle.mx_kcall.specs.Windows.{is_strict}
use Rattle.mx_kcall.specs.declared.rows.CallRow.{CallRow}
use Rattle.mx_kcall.specs.declared.rows.ReplyCount.{ReplyCount}
use Rattle.mx_kcall.specs.declared.rows.ReplyCount.TheVariants.{Always, AfterRead}
use Rattle.mx_kcall.specs.declared.rows.TheConstants.{CALLS, FIRST_CALL}

-- the rows that the code goes by: `call_row` promises that they are those of the table in `Requests`
abbrev pub calls : List CallRow
calls = CALLS

abbrev pub first_call : ℕ
first_call = FIRST_CALL

-- THE ROW of a type
abbrev pub row_of : ℕ → Option CallRow
row_of kind = if nat_lt kind first_call then None else slice_get calls (kind - first_call)

-- the strict rules have each call, the lenient ones those that are theirs
abbrev pub is_there : Rules → CallRow → Bool
is_there rules row = is_strict rules || not (is_strict row.rules)

abbrev pub if_there : Rules → Option CallRow → Option CallRow
if_there rules None = None
if_there rules (Some row) = if is_there rules row then Some row else None

-- THE ROW of a type, if these rules have its call
abbrev pub row_under : Rules → ℕ → Option CallRow
row_under rules kind = if_there rules (row_of kind)

-- ---- texts

abbrev pub is_space : ℕ → Bool
is_space b = b == 32

abbrev pub front_to : Option ℕ → List ℕ → List ℕ
front_to None text = text
front_to (Some n) text = take n text

-- the name of a call, up to the first space
abbrev pub name_of : CallRow → List ℕ
name_of row = front_to (position is_space row.text) row.text

-- how many words the reply has to a request with this first word, if its result is 0
abbrev pub reply_count : ReplyCount → ℕ → ℕ
reply_count (Always n) first = n
reply_count (AfterRead n) first = if first == 0 then n else 0
