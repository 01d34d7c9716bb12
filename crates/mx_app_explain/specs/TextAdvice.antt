-- What is wanted in place of a word of a text for the assembler (our own words). A line is seen by its words; where
-- none of them is at fault by itself, nothing is said of a word.
use Rattle.std.specs.Prelude.{◌==◌, ◌||◌, ◌&&◌, ◌-◌, not, ℕ, Bool, true, false, if◌then◌else◌, List, [], ◌∷◌, codes, length, slice_index, Option, Some, None, is_none, is_some, option_map, slice_get, unwrap_or}
use Rattle.std.specs.List.{list_any}
use Rattle.std.specs.Str.{bytes_eq}
use Rattle.mx_text.specs.Fields.{◌>>=◌}
use Rattle.mx_text.specs.Lines.{lines}
use Rattle.mx_asm.specs.declared.fault.Problem.{Problem}
use Rattle.mx_asm.specs.declared.fault.Problem.TheVariants as problems
use Rattle.mx_app_explain.specs.declared.text_advice.Sought.{Sought}
use Rattle.mx_app_explain.specs.declared.text_advice.Sought.TheVariants as sought
use Rattle.mx_app_explain.specs.TextWords.{bad_escape, begins_comment, begins_with_digit, is_bad_number, is_beyond_ascii, is_capital, is_close, is_constant, is_equals, is_free_word, is_jump, is_long_name, is_operator, is_other_size, is_prepared, is_punctuation_word, is_odd_byte, is_open, is_quote, is_reserved, is_size, is_unpushed, words_in}
use Rattle.mx_app_explain.specs.Details.{word_detail}
use Rattle.mx_app_explain.specs.Wanted.{problem_wanted}

-- ---- the parts of a line

-- a word before a colon is a label
abbrev pub after_label : List (List ℕ) → List (List ℕ)
after_label (l ∷ c ∷ ws) = if bytes_eq c (codes ":") then ws else l ∷ c ∷ ws
after_label ws = ws

-- a label that is no name
abbrev pub bad_label : List (List ℕ) → Option (List ℕ)
bad_label (l ∷ c ∷ ws) = if bytes_eq c (codes ":") && not (is_free_word l) then Some l else None
bad_label ws = None

abbrev pub after_first : List (List ℕ) → List (List ℕ)
after_first [] = []
after_first (w ∷ ws) = ws

abbrev pub first_of : List (List ℕ) → Option (List ℕ)
first_of [] = None
first_of (w ∷ ws) = Some w

-- what a word may be that is sought
abbrev pub is_sought : Sought → List ℕ → Bool
is_sought sought.Odd w = list_any is_odd_byte w
is_sought sought.Quoted w = list_any is_quote w
is_sought sought.Beyond w = list_any is_beyond_ascii w
is_sought sought.Comment w = begins_comment w || is_prepared w
is_sought sought.BadNumber w = is_bad_number w
is_sought sought.LongName w = is_long_name w
is_sought sought.Open w = is_open w
is_sought sought.Close w = is_close w
is_sought sought.Size w = is_size w
is_sought sought.FreeWord w = is_free_word w
is_sought sought.Number w = begins_with_digit w
is_sought sought.Operator w = is_operator w
is_sought sought.Unpushed w = is_unpushed w
is_sought sought.Constant w = is_constant w

-- the first word that is so, and the words after it
abbrev pub next_sought : Sought → List (List ℕ) → Option (List ℕ × List (List ℕ))
next_sought s [] = None
next_sought s (w ∷ ws) = if is_sought s w then Some (w, ws) else next_sought s ws

abbrev pub find_word : Sought → List (List ℕ) → Option (List ℕ)
find_word s ws = option_map (λ p. p.0) (next_sought s ws)

-- the word after the second bracket that opens
abbrev pub second_address : List (List ℕ) → Option (List ℕ)
second_address ws = do
  first ← next_sought sought.Open ws
  second ← next_sought sought.Open first.1
  first_of second.1

-- the word that may be a name, if there is one and no other
abbrev pub only_free_word : List (List ℕ) → Option (List ℕ)
only_free_word ws = do
  first ← next_sought sought.FreeWord ws
  if is_none (find_word sought.FreeWord first.1) then Some first.0 else None

-- a word, or another one
abbrev pub name_or : Option (List ℕ) → Option (List ℕ) → Option (List ℕ)
name_or (Some name) other = Some name
name_or None other = other

-- the first escape of these words that no text has
abbrev pub escape_in : List (List ℕ) → Option (List ℕ)
escape_in [] = None
escape_in (w ∷ ws) = name_or (bad_escape w) (escape_in ws)

-- the last word that is no mark; what is found before these words
abbrev pub last_word : Option (List ℕ) → List (List ℕ) → Option (List ℕ)
last_word found [] = found
last_word found (w ∷ ws) = last_word (if is_punctuation_word w then found else Some w) ws

-- ---- operands

-- a bracket alone
abbrev pub bracket_wanted : List (List ℕ) → Option (List ℕ)
bracket_wanted ws =
    if is_some (find_word sought.Open ws)
    then (if is_some (find_word sought.Close ws) then None
    else Some (codes "] after the address, whose bracket is open"))
    else (if is_some (find_word sought.Close ws) then Some (codes "[ before the address, which ends with ]")
    else None)

abbrev pub is_star : List ℕ → Bool
is_star w = bytes_eq w (codes "*")

abbrev pub is_sign : List ℕ → Bool
is_sign w = bytes_eq w (codes "+") || bytes_eq w (codes "-")

-- the first mark outside of brackets that no value has: a star, or a sign after a number; before these words a bracket
-- may be open, and a number be the last
abbrev pub value_mark : Bool → Bool → List (List ℕ) → Option (List ℕ)
value_mark inside number [] = None
value_mark inside number (w ∷ ws) =
    if not inside && (is_star w || (number && is_sign w)) then Some w
    else value_mark ((inside || is_open w) && not (is_close w)) (begins_with_digit w) ws

-- the first name that a sign joins to a name; before these words a name may be the last, or a sign after one
abbrev pub joined_name : Bool → Bool → List (List ℕ) → Option (List ℕ)
joined_name named signed [] = None
joined_name named signed (w ∷ ws) =
    if signed && is_free_word w then Some w else joined_name (is_free_word w) (named && is_sign w) ws

abbrev pub begins_open : List (List ℕ) → Bool
begins_open [] = false
begins_open (w ∷ ws) = is_open w

-- the first name right before a bracket that opens
abbrev pub indexed_name : List (List ℕ) → Option (List ℕ)
indexed_name [] = None
indexed_name (w ∷ ws) = if is_free_word w && begins_open ws then Some w else indexed_name ws

-- whether there is a name or a number that isn't a scale, after this word of an operand too; a star may be before it
abbrev pub has_value : Bool → Bool → List ℕ → Bool
has_value valued starred w =
    if is_punctuation_word w then valued && (is_star w || is_sign w) else valued || not (starred || is_reserved w)

-- the first register after a name or a number of the same operand
abbrev pub late_register : Bool → Bool → List (List ℕ) → Option (List ℕ)
late_register valued starred [] = None
late_register valued starred (w ∷ ws) =
    if valued && is_reserved w then Some w else late_register (has_value valued starred w) (is_star w) ws

-- an operand may end with a word: no mark but the closing bracket, and no word that something has to follow
abbrev pub may_end : List ℕ → Bool
may_end w = is_close w || not (is_punctuation_word w || (is_size w || bytes_eq w (codes "short")))

-- the first word that follows the end of an operand without a comma; an operand may have ended before these words
abbrev pub extra_word : Bool → List (List ℕ) → Option (List ℕ)
extra_word ended [] = None
extra_word ended (w ∷ ws) = if ended && not (is_punctuation_word w) then Some w else extra_word (may_end w) ws

-- outside of brackets are only numbers and marks, so that no register has a size; a bracket may be open before these
-- words
abbrev pub lacks_register : Bool → List (List ℕ) → Bool
lacks_register inside [] = true
lacks_register inside (w ∷ ws) =
    (inside || (is_punctuation_word w || begins_with_digit w))
    && lacks_register ((inside || is_open w) && not (is_close w)) ws

-- an address whose size nothing says
abbrev pub lacks_size : List (List ℕ) → Bool
lacks_size ws = is_some (find_word sought.Open ws) && (is_none (find_word sought.Size ws) && lacks_register false ws)

-- ---- the names of other assemblers

-- of the names that the manual has for one condition, or one operation, this assembler takes one
abbrev pub equal_name : List ℕ → Option (List ℕ)
equal_name w =
    if bytes_eq w (codes "je") then Some (codes "jz") else
    if bytes_eq w (codes "jne") then Some (codes "jnz") else
    if bytes_eq w (codes "jc") || bytes_eq w (codes "jnae") then Some (codes "jb") else
    if bytes_eq w (codes "jae") || bytes_eq w (codes "jnc") then Some (codes "jnb") else
    None

abbrev pub order_name : List ℕ → Option (List ℕ)
order_name w =
    if bytes_eq w (codes "ja") then Some (codes "jnbe") else
    if bytes_eq w (codes "jna") then Some (codes "jbe") else
    if bytes_eq w (codes "jge") then Some (codes "jnl") else
    if bytes_eq w (codes "jnge") then Some (codes "jl") else
    if bytes_eq w (codes "jg") then Some (codes "jnle") else
    if bytes_eq w (codes "jng") then Some (codes "jle") else
    None

abbrev pub single_name : List ℕ → Option (List ℕ)
single_name w =
    if bytes_eq w (codes "sal") then Some (codes "shl") else
    if bytes_eq w (codes "jcxz") then Some (codes "jecxz") else
    if bytes_eq w (codes "repz") then Some (codes "repe") else
    if bytes_eq w (codes "repnz") then Some (codes "repne") else
    None

abbrev pub stack_name : List ℕ → Option (List ℕ)
stack_name w =
    if bytes_eq w (codes "pusha") then Some (codes "pushad") else
    if bytes_eq w (codes "popa") then Some (codes "popad") else
    if bytes_eq w (codes "pushf") then Some (codes "pushfd") else
    if bytes_eq w (codes "popf") then Some (codes "popfd") else
    None

abbrev pub data_name : List ℕ → Option (List ℕ)
data_name w =
    if bytes_eq w (codes "db") then Some (codes ".data1, or .ascii for a text") else
    if bytes_eq w (codes "dw") then Some (codes ".data2") else
    if bytes_eq w (codes "dd") then Some (codes ".data4") else
    None

abbrev pub section_name : List ℕ → Option (List ℕ)
section_name w =
    if bytes_eq w (codes "resb") then Some (codes ".space") else
    if bytes_eq w (codes "section") || bytes_eq w (codes "segment") then Some (codes ".text, .data or .bss alone") else
    None

abbrev pub own_name : List ℕ → Option (List ℕ)
own_name w =
    name_or (equal_name w) (name_or (order_name w) (name_or (single_name w) (name_or (stack_name w)
    (name_or (data_name w) (section_name w)))))

-- instructions of the 80386 that this machine hasn't
abbrev pub is_decimal_word : List ℕ → Bool
is_decimal_word w =
    list_any (bytes_eq w) (codes "rcl" ∷ codes "rcr" ∷ codes "aaa" ∷ codes "aad" ∷ codes "aam" ∷ codes "aas"
    ∷ codes "daa" ∷ codes "das" ∷ codes "xlat" ∷ codes "xlatb" ∷ [])

abbrev pub is_segment_word : List ℕ → Bool
is_segment_word w =
    list_any (bytes_eq w) (codes "les" ∷ codes "lds" ∷ codes "lfs" ∷ codes "lgs" ∷ codes "lss" ∷ codes "arpl"
    ∷ codes "lar" ∷ codes "lsl" ∷ codes "verr" ∷ codes "verw" ∷ [])

abbrev pub is_port_word : List ℕ → Bool
is_port_word w =
    list_any (bytes_eq w) (codes "ins" ∷ codes "insb" ∷ codes "insw" ∷ codes "insd" ∷ codes "outs" ∷ codes "outsb"
    ∷ codes "outsw" ∷ codes "outsd" ∷ [])

abbrev pub is_other_word : List ℕ → Bool
is_other_word w =
    list_any (bytes_eq w) (codes "lock" ∷ codes "enter" ∷ codes "bound" ∷ codes "iret" ∷ codes "iretd" ∷ codes "retf"
    ∷ codes "wait" ∷ [])

abbrev pub is_of_386 : List ℕ → Bool
is_of_386 w = is_decimal_word w || (is_segment_word w || (is_port_word w || is_other_word w))

-- ---- advice

-- what is wanted, and the word in whose place
abbrev pub Advised : Type 0
Advised = List ℕ × Option (List ℕ)

-- about no word
abbrev pub plain : Problem → Advised
plain p = (problem_wanted p, None)

abbrev pub about : (List ℕ → List ℕ) → Problem → Option (List ℕ) → Advised
about wanted p None = plain p
about wanted p (Some w) = (wanted w, Some w)

-- about a word, if it is there
abbrev pub said_of : List ℕ → Option (List ℕ) → Option Advised
said_of wanted None = None
said_of wanted (Some w) = Some (wanted, Some w)

abbrev pub advice_or : Option Advised → Advised → Advised
advice_or None other = other
advice_or (Some advice) other = advice

-- a name in place of a number: there are none for numbers
abbrev pub constant_wanted : List ℕ
constant_wanted = codes "the number itself in each place, since there are no constants"

-- a line for a preprocessor, a comment, a character, a constant, or another word that is no token
abbrev pub token_wanted : List ℕ → List ℕ
token_wanted w =
    if is_constant w then constant_wanted else
    if is_prepared w then codes "the lines themselves, since there is no preprocessor" else
    if begins_comment w then codes "; before a comment" else
    if list_any is_beyond_ascii w
    then codes "characters of ASCII: a -, a \" or a blank beyond them looks alike and is another one" else
    if slice_index w 0 == 39 then codes "the character's number, as 97 for a" else
    if (slice_index w 0 == 37) || (slice_index w 0 == 36)
    then codes "Intel's order: the target first, registers without %, numbers without $" else
    if list_any is_equals w then constant_wanted else
    codes "a word, a number, a text in \" or one of [ ] + - * , :"

-- an escape that is none; or a comment, or what includes other lines, beside a text: a text may have any bytes, so
-- nothing is said of another word in a line with one
abbrev pub text_advice : List (List ℕ) → Advised
text_advice ws =
    advice_or (said_of (codes "an escape that a text has, \\n, \\0, \\\" or \\\\") (escape_in ws))
    (about token_wanted problems.BadByte (find_word sought.Comment ws))

abbrev pub byte_advice : List (List ℕ) → Advised
byte_advice ws =
    if is_some (find_word sought.Quoted ws) then text_advice ws
    else about token_wanted problems.BadByte (find_word sought.Odd ws)

-- a number with an h at its end, or another word that is no number
abbrev pub number_wanted : List ℕ → List ℕ
number_wanted w =
    if slice_index w (length w - 1) == 104 then codes "hexadecimal after 0x and without h, as 0x21"
    else problem_wanted problems.BadNumber

-- what includes other lines, a word with a capital letter, an unknown directive, an instruction that this machine hasn't, or another word
abbrev pub plain_word_wanted : List ℕ → List ℕ
plain_word_wanted w =
    if is_prepared w then codes "the lines themselves, since there is no preprocessor" else
    if list_any is_capital w then codes "lower case" else
    if slice_index w 0 == 46
    then codes ".text .data .bss .data1 .data2 .data4 .ascii .space .sep .entry or .stack" else
    if is_of_386 w then codes "an instruction of this machine, which hasn't all of the 80386's" else
    codes "an instruction or a directive, or : after a label"

-- a name of another assembler, or one of these
abbrev pub word_wanted : List ℕ → List ℕ
word_wanted w = unwrap_or (own_name w) (plain_word_wanted w)

abbrev pub number_advice : List (List ℕ) → Advised
number_advice ws = about number_wanted problems.BadNumber (find_word sought.BadNumber ws)

abbrev pub label_advice : Option (List ℕ) → Option Advised
label_advice label =
    said_of (codes "a label of a letter or _, and then letters, digits and _, and no register or size") label

-- a label that is no name, a constant, or the statement's first word
abbrev pub word_advice : List (List ℕ) → Advised
word_advice ws =
    advice_or (label_advice (bad_label ws))
    (advice_or (said_of constant_wanted (find_word sought.Constant ws))
    (about word_wanted problems.UnknownWord (first_of (after_label ws))))

-- ---- what the operands of a statement are, by its first word

abbrev pub is_shift : List ℕ → Bool
is_shift w =
    list_any (bytes_eq w) (codes "shl" ∷ codes "shr" ∷ codes "sar" ∷ codes "rol" ∷ codes "ror" ∷ [])

abbrev pub takes_one : List ℕ → Bool
takes_one w =
    list_any (bytes_eq w) (codes "inc" ∷ codes "dec" ∷ codes "not" ∷ codes "neg" ∷ codes "mul" ∷ codes "div"
    ∷ codes "idiv" ∷ [])

abbrev pub is_data : List ℕ → Bool
is_data w = list_any (bytes_eq w) (codes ".data1" ∷ codes ".data2" ∷ codes ".data4" ∷ [])

abbrev pub is_prefix : List ℕ → Bool
is_prefix w = list_any (bytes_eq w) (codes "rep" ∷ codes "repe" ∷ codes "repne" ∷ [])

-- of those that take other operands than any two of one size
abbrev pub form_wanted : List ℕ → Option (List ℕ)
form_wanted w =
    if is_shift w then Some (codes "a register or memory, and then a number or cl") else
    if takes_one w then Some (codes "one operand: a register, or memory with its size before the bracket") else
    if bytes_eq w (codes "imul")
    then Some (codes "registers or memory, and a number only as the third operand, as imul eax, eax, 10") else
    if bytes_eq w (codes "lea")
    then Some (codes "a register of 16 or 32 bits, and then a bracket without a size before it") else
    if bytes_eq w (codes "xchg") then Some (codes "a register or memory, and then a register") else
    if bytes_eq w (codes "movzx") || bytes_eq w (codes "movsx")
    then Some (codes "a register, and then a smaller one, or byte or word before a bracket") else
    None

abbrev pub other_form_wanted : List ℕ → Option (List ℕ)
other_form_wanted w =
    if is_jump w then Some (codes "a label") else
    if bytes_eq w (codes "jmp") || bytes_eq w (codes "call")
    then Some (codes "a label, a register of 32 bits, or dword before a bracket") else
    if is_prefix w
    then Some (codes "movs, stos or lods after rep, and cmps or scas after repe and repne, as rep movsb") else
    if is_data w then Some (codes "numbers or names, with commas between them") else
    if bytes_eq w (codes ".ascii")
    then Some (codes "one text in quotes, and nothing after it, as .ascii \"one\\0\"") else
    if bytes_eq w (codes ".space") || bytes_eq w (codes ".stack") then Some (codes "a number alone") else
    None

-- of those that take two of one size
abbrev pub takes_two : List ℕ → Bool
takes_two w =
    list_any (bytes_eq w) (codes "mov" ∷ codes "add" ∷ codes "or" ∷ codes "adc" ∷ codes "sbb" ∷ codes "and"
    ∷ codes "sub" ∷ codes "xor" ∷ codes "cmp" ∷ codes "test" ∷ [])

-- the word at fault: a size in LEA, or the last word
abbrev pub fault_word : List ℕ → List (List ℕ) → Option (List ℕ)
fault_word first ws =
    name_or (if bytes_eq first (codes "lea") then find_word sought.Size ws else None) (last_word None ws)

-- ---- advice on operands

abbrev pub form_advice : Option (List ℕ) → List ℕ → List (List ℕ) → Option Advised
form_advice None first ws = None
form_advice (Some form) first ws = said_of form (fault_word first ws)

-- two operands of which no word is at fault by itself
abbrev pub together_advice : List (List ℕ) → Advised
together_advice ws =
    advice_or (said_of (codes "two operands of one size, with a comma between them, and one bracket at most")
    (last_word None ws)) (plain problems.BadOperands)

abbrev pub pair_advice : List ℕ → List (List ℕ) → Advised
pair_advice first ws = if takes_two first then together_advice ws else plain problems.BadOperands

-- a name in place of another operand; or a number, which may be too large; or one of these
abbrev pub operand_word_advice : List ℕ → List (List ℕ) → Advised
operand_word_advice first ws =
    advice_or (said_of (codes "a register, an address in brackets or a number of the operand's size")
    (find_word sought.FreeWord ws))
    (advice_or (said_of (codes "a number that fits, or another operand that the statement takes")
    (find_word sought.Number ws)) (pair_advice first ws))

-- operands that the statement doesn't take; or one of these
abbrev pub statement_form_advice : List ℕ → List (List ℕ) → Advised
statement_form_advice first ws =
    advice_or (form_advice (name_or (form_wanted first) (other_form_wanted first)) first ws)
    (operand_word_advice first ws)

-- an address without a size; or one of these
abbrev pub size_advice : List ℕ → List (List ℕ) → Advised
size_advice first ws =
    if lacks_size ws
    then (codes "byte, word or dword before the bracket, since no register says the size", Some (codes "["))
    else statement_form_advice first ws

-- a mark that no value has, a second name, or a register after a name; or one of these
abbrev pub value_advice : List ℕ → List (List ℕ) → Advised
value_advice first ws =
    advice_or (said_of (codes "a value: n, -n, name, name+n or name-n") (value_mark false false ws))
    (advice_or (said_of (codes "a value of one name at most: n, -n, name, name+n or name-n")
    (joined_name false false ws))
    (advice_or (said_of (codes "registers before a name or a number in a bracket, as [ebx+ecx*4+name]")
    (late_register false false ws)) (size_advice first ws)))

-- a word too many; or one of these
abbrev pub extra_advice : List ℕ → List (List ℕ) → Advised
extra_advice first ws =
    advice_or (said_of (codes "a comma, the end of the line, or ; before a comment") (extra_word false ws))
    (value_advice first ws)

-- a text where none is taken, or with something after it; or one of these
abbrev pub quoted_advice : Option (List ℕ) → List ℕ → List (List ℕ) → Advised
quoted_advice None first ws = extra_advice first ws
quoted_advice (Some w) first ws =
    if bytes_eq first (codes ".ascii") then statement_form_advice first ws
    else (codes "a number here, as 97 for a: only .ascii has a text", Some w)

-- two addresses; or one of these
abbrev pub address_advice : List ℕ → List (List ℕ) → Advised
address_advice first ws =
    advice_or (said_of (codes "a register or a number in place of the second bracket, since no instruction has two")
    (second_address ws)) (quoted_advice (find_word sought.Quoted ws) first ws)

-- a name before its bracket, or a size of another assembler
abbrev pub indexed_wanted : List ℕ → List ℕ
indexed_wanted w =
    if is_other_size w then codes "byte, word or dword before a bracket, in lower case and without PTR"
    else codes "the name inside its bracket, after the registers, as [ebx+ecx*4+name]"

-- after a prefix is an instruction, and no name
abbrev pub indexed_in : List ℕ → List (List ℕ) → Option (List ℕ)
indexed_in first ws = if is_prefix first then None else indexed_name ws

-- that; or one of these
abbrev pub indexed_advice : Option (List ℕ) → List ℕ → List (List ℕ) → Advised
indexed_advice (Some w) first ws = (indexed_wanted w, Some w)
indexed_advice None first ws = address_advice first ws

-- a bracket alone; or one of these
abbrev pub bracket_advice : Option (List ℕ) → List ℕ → List (List ℕ) → Advised
bracket_advice (Some wanted) first ws = (wanted, None)
bracket_advice None first ws = indexed_advice (indexed_in first ws) first ws

abbrev pub operand_advice : List ℕ → List (List ℕ) → Advised
operand_advice first ws = bracket_advice (bracket_wanted ws) first ws

-- only a register of 32 bits is popped, and 32 bits are pushed
abbrev pub pop_advice : List (List ℕ) → Advised
pop_advice ws = (codes "a register of 32 bits", first_of ws)

abbrev pub push_advice : List (List ℕ) → Advised
push_advice ws =
    advice_or (said_of (codes "32 bits: a register, a number, or dword before a bracket") (find_word sought.Unpushed ws))
    (operand_advice (codes "push") ws)

abbrev pub operator_wanted : List ℕ → List ℕ
operator_wanted w =
    if bytes_eq w (codes "ptr") then codes "the size alone before the bracket, without \"ptr\""
    else codes "the name alone, which is its address, without \"offset\""

-- by the statement's first word
abbrev pub first_advice : Option (List ℕ) → List (List ℕ) → Advised
first_advice None ws = operand_advice [] ws
first_advice (Some w) ws =
    if bytes_eq w (codes "pop") then pop_advice ws else
    if bytes_eq w (codes "push") then push_advice ws else
    operand_advice w ws

abbrev pub operator_advice : Option (List ℕ) → Option (List ℕ) → List (List ℕ) → Advised
operator_advice (Some w) first ws = (operator_wanted w, None)
operator_advice None first ws = first_advice first ws

-- an operator of another assembler; or by the first word
abbrev pub statement_advice : Option (List ℕ) → List (List ℕ) → Advised
statement_advice first ws = operator_advice (find_word sought.Operator ws) first ws

-- a statement that stands in a section of others
abbrev pub section_wanted : List ℕ → List ℕ
section_wanted w =
    if slice_index w 0 == 46 then codes "a label or .space in .bss, which begins as zeros"
    else codes ".text above an instruction"

abbrev pub section_advice : List (List ℕ) → Advised
section_advice ws = about section_wanted problems.WrongSection (first_of (after_label ws))

-- a label that is no name, or operands
abbrev pub labelled_advice : List (List ℕ) → Advised
labelled_advice ws =
    advice_or (label_advice (bad_label ws))
    (statement_advice (first_of (after_label ws)) (after_first (after_label ws)))

-- THE ADVICE on a line that has these words, by what is wrong with it
abbrev pub advised : Problem → List (List ℕ) → Advised
advised problems.BadByte ws = byte_advice ws
advised problems.BadNumber ws = number_advice ws
advised problems.UnknownWord ws = word_advice ws
advised problems.BadOperands ws = labelled_advice ws
advised problems.WrongSection ws = section_advice ws
advised problems.LongName ws = (problem_wanted problems.LongName, find_word sought.LongName ws)
advised problems.Undefined ws = (problem_wanted problems.Undefined, only_free_word (after_first (after_label ws)))
advised p ws = plain p

-- the words of a text's line that has this number, counted from 1
abbrev pub words_of_line : Option (List ℕ) → List (List ℕ)
words_of_line None = []
words_of_line (Some line) = words_in line

abbrev pub words_at : List ℕ → ℕ → List (List ℕ)
words_at text number = words_of_line (slice_get (lines text) (number - 1))

-- THE DETAIL of a line of a text for the assembler
abbrev pub advice_told : Advised → List ℕ
advice_told a = word_detail a.0 a.1
