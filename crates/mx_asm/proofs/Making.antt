-- Lines without a fault have their program.
use Rattle.std.proofs.Common.{◌≡◌, ℕ, ◌+◌, ◌*◌, ◌<◌, ◌≤◌, ◌^◌, Bool, true, false, List, [], ◌∷◌, length, map, replicate, refl, sym, ◌∙◌, ap, subst, arith, lit<, Option, Some, None, cond}
use Rattle.std.specs.Prelude.{ℤ, pos, negsuc, ◌||◌, not, nat_lt, is_some, unwrap_or}
use Rattle.std.specs.List.{list_any, flat_map}
use Rattle.std.proofs.lemmas.Bool.{not-false, ltb-true, ltb-false}
use Rattle.std.proofs.lemmas.List.{length-map}
use Rattle.mx_word.specs.Word.{modulo, bytes_of, bytes_in}
use Rattle.mx_insn.specs.declared.insn.Insn.{Insn}
use Rattle.mx_encode.specs.Numbers.{is_short}
use Rattle.mx_encode.specs.Forms.{has_form}
use Rattle.mx_encode.specs.Chosen.{Chosen}
use Rattle.mx_encode.specs.Filled.{with_immediate, with_displacement}
use Rattle.mx_encode.specs.Given.{Fits}
use Rattle.mx_text.specs.Lines.{lines}
use Rattle.mx_asm_statement.specs.declared.statement.Section.{Section}
use Rattle.mx_asm_statement.specs.declared.statement.Section.TheVariants.{Text, Data, Bss}
use Rattle.mx_asm_statement.specs.declared.statement.Statement.{Statement}
use Rattle.mx_asm_statement.specs.declared.statement.Statement.TheVariants as says
use Rattle.mx_asm_statement.specs.declared.instruction.Instruction.{Instruction}
use Rattle.mx_asm_statement.specs.declared.branch.Branch.{Branch}
use Rattle.mx_asm_statement.specs.declared.branch.Branch.TheVariants as branches
use Rattle.mx_asm_statement.specs.declared.value.Value.{Value}
use Rattle.mx_asm_statement.specs.declared.line.Line.{Line}
use Rattle.mx_asm_statement.specs.Instructions.{marks}
use Rattle.mx_asm_statement.specs.Lines.{IsLine}
use Rattle.mx_aout.specs.Limits.{rounded_to_pages, used_of, IsWithin}
use Rattle.mx_aout.specs.declared.program.Program.{Program}
use Rattle.mx_asm.specs.declared.sizes.SectionSizes.{SectionSizes}
use Rattle.mx_asm.specs.declared.fault.Problem.TheVariants.{TooFar, TooLarge}
use Rattle.mx_asm.specs.declared.fault.Fault.{Fault}
use Rattle.mx_asm.specs.Branches.{branch_by, branch_marks, branch_length, distance, is_too_far}
use Rattle.mx_asm.specs.Lengths.{statement_length}
use Rattle.mx_asm.specs.Layout.{LinesAbove, Seen, no_lines_above, unseen, seen_with, statement_said, left_by, laid_by, address_of_offset, section_offset_of, sizes_after, value_under, value_base, counted_from}
use Rattle.mx_asm.specs.Bytes.{put_in, put_under, then_put, named_under, BytesOf, StandsIn, AllStand, contents}
use Rattle.mx_asm.specs.Faults.{is_undefined, is_undefined_if, undefined_where, undefined_or, problem_at, fault_or, first_problem, total_of, at_least, is_program_too_large, number_of_last_line, too_large_in, first_of, fault_after}
use Rattle.mx_asm.specs.Faults as faults
use Rattle.mx_asm.specs.Assembled.{AreAssembled, symbol_under, entry_under}
use Rattle.mx_asm.specs.Text.{AreLinesTaken, IsAssembled}
use Rattle.mx_encode.proofs.Formed.{formed_chosen, valued_fits, displaced_fits, immediate_keeps_form, displacement_keeps_form}
use Rattle.mx_asm_statement.proofs.LineWidths.{line_fits}
use Rattle.mx_asm.proofs.Branching.{branch_bytes_length}
use Rattle.mx_asm.proofs.Lengths.{stands_length}
use Rattle.mx_asm.proofs.Standing.{neither}
use Rattle.mx_asm.proofs.Emitting.{lengths_same}
use Rattle.mx_asm.proofs.Entering.{entry_there}
use Rattle.mx_asm.proofs.Fitting.{contents_size}

-- ---- values

dword_below : (z : ℤ) → modulo 32 z < 2 ^ 32
dword_below (pos n) = omega arith
dword_below (negsuc n) = omega arith

-- there is a value, of 32 bits
abbrev HasValue : Option ℕ → Type 0
HasValue o = (n : ℕ) × (o ≡ Some n) × (n < 2 ^ 32)

counted : (v : Value) (o : Option ℕ) → not (is_some (counted_from v o)) ≡ false → HasValue (counted_from v o)
counted v None h = cc
counted v (Some base) h = (_, refl, dword_below _)

has_value : (a : LinesAbove) (v : Value) → is_undefined a v ≡ false → HasValue (value_under a v)
has_value a v h = counted v (value_base a v.name) h

or_left : (b c : Bool) → (b || c) ≡ false → b ≡ false
or_left true c h = cc
or_left false c h = refl

or_right : (b c : Bool) → (b || c) ≡ false → c ≡ false
or_right true c h = cc
or_right false c h = h

all_values : (a : LinesAbove) (vs : List Value) → list_any (is_undefined a) vs ≡ false → (ns : List ℕ) × (map (value_under a) vs ≡ map Some ns)
all_values a [] h = ([], refl)
all_values a (v ∷ vs) h =
    let (n, e, lt) = has_value a v (or_left (is_undefined a v) (list_any (is_undefined a) vs) h) in
    let (ns, f) = all_values a vs (or_right (is_undefined a v) (list_any (is_undefined a) vs) h) in
    (n ∷ ns, ap (λ x. x ∷ map (value_under a) vs) e ∙ ap (λ xs. Some n ∷ xs) f)

defined : (b : Bool) → undefined_where b ≡ None → b ≡ false
defined true h = cc
defined false h = refl

-- ---- instructions

abbrev Sound : Insn → Type 0
Sound i = Fits i × (has_form i ≡ true)

abbrev SoundIf : Option Insn → Type 0
SoundIf o = (i : Insn) × (o ≡ Some i) × Sound i

sound_put : (a : LinesAbove) (put : Insn → ℕ → Insn) (v : Option Value) (i : Insn) → is_undefined_if a v ≡ false → Sound i → ((n : ℕ) → n < 2 ^ 32 → Sound (put i n))
    → SoundIf (put_under a put v i)
sound_put a put None i h s k = (i, refl, s)
sound_put a put (Some v) i h s k =
    let (n, e, lt) = has_value a v h in
    (put i n, ap (put_in put i) e, k n lt)

then_sound : (a : LinesAbove) (v : Option Value) (o : Option Insn) → is_undefined_if a v ≡ false → SoundIf o → SoundIf (then_put a with_displacement v o)
then_sound a v o h (i, e, s) =
    let (x, f, g) = sound_put a with_displacement v i h s (λ n lt. (displaced_fits i n lt s.0, displacement_keeps_form i n ∙ s.1)) in
    (x, ap (then_put a with_displacement v) e ∙ f, g)

named_sound : (a : LinesAbove) (i : Instruction) → Fits i.insn → is_undefined_if a i.immediate ≡ false → is_undefined_if a i.displacement ≡ false → SoundIf (named_under a i)
named_sound a i fits h k =
    then_sound a i.displacement (put_under a with_immediate i.immediate i.insn) k
    (sound_put a with_immediate i.immediate i.insn h (fits, i.spelled) (λ n lt. (valued_fits i.insn n lt fits, immediate_keeps_form i.insn n ∙ i.spelled)))

-- ---- jumps

branch_fits : (k : Branch) (d : ℕ) → d < 2 ^ 32 → Fits (branch_by k d)
branch_fits (branches.Jump length) d lt = lt
branch_fits (branches.JumpIf c length) d lt = lt
branch_fits branches.Call d lt = lt
branch_fits (branches.Loop o) d lt = lt

branch_form : (k : Branch) (d : ℕ) → is_too_far k d ≡ false → has_form (branch_by k d) ≡ true
branch_form (branches.Jump length) d h = refl
branch_form (branches.JumpIf c length) d h = refl
branch_form branches.Call d h = refl
branch_form (branches.Loop o) d h = not-false (is_short 32 d) h

reached : (o : Option ℕ) (far : ℕ → Bool) → undefined_or o far ≡ None → (x : ℕ) × (o ≡ Some x) × (far x ≡ false)
reached None far h = cc
reached (Some x) far h = (x, refl, by_case (far x) h)
  where
    by_case : (b : Bool) → cond b (Some TooFar) None ≡ None → b ≡ false
    by_case true h = cc
    by_case false h = refl

branch_some : (a : LinesAbove) (at : ℕ) (k : Branch) (target : Value) → problem_at a at (says.Branch k target) ≡ None → (b : List ℕ) × BytesOf a at (says.Branch k target) b
branch_some a at k target h =
    let (x, e, near) = reached (value_under a target) (λ x. is_too_far k (distance (at + branch_length k) x)) h in
    let d = distance (at + branch_length k) x in
    let (b, chosen) = formed_chosen (branch_by k d) (branch_marks k) (branch_fits k d (omega arith)) (branch_form k d near) in
    let long : length b ≡ branch_length k = branch_bytes_length k d b near chosen in
    (b, (x, e, subst (λ (n : ℕ). Chosen (branch_by k (distance (at + n) x)) (branch_marks k) b) (sym long) chosen, long))

-- ---- statements

abbrev pub Fitting : Statement → Type 0
Fitting (says.Instruction i) = Fits i.insn
Fitting _ = Unit {0}

bytes_some : (a : LinesAbove) (at : ℕ) (t : Statement) → Fitting t → problem_at a at t ≡ None → (b : List ℕ) × BytesOf a at t b
bytes_some a at says.Nothing fits h = ([], refl)
bytes_some a at (says.Enter section) fits h = ([], refl)
bytes_some a at (says.Data size values) fits h =
    let (ns, e) = all_values a values (defined (list_any (is_undefined a) values) h) in (flat_map (bytes_of (bytes_in size)) ns, (ns, e, refl))
bytes_some a at (says.Ascii bytes) fits h = (bytes, refl)
bytes_some a at (says.Space n) fits h = (replicate n 0, refl)
bytes_some a at says.Separate fits h = ([], refl)
bytes_some a at (says.Entry name) fits h = ([], refl)
bytes_some a at (says.Stack n) fits h = ([], refl)
bytes_some a at (says.Instruction i) fits h =
    let clean = defined (is_undefined_if a i.immediate || is_undefined_if a i.displacement) h in
    let (insn, e, s) = named_sound a i fits (or_left (is_undefined_if a i.immediate) (is_undefined_if a i.displacement) clean) (or_right (is_undefined_if a i.immediate) (is_undefined_if a i.displacement) clean) in
    let (b, chosen) = formed_chosen insn (marks i) s.0 s.1 in
    (b, (insn, e, chosen))
bytes_some a at (says.Branch k target) fits h = branch_some a at k target h

stands_some : (section : Section) (a : LinesAbove) (at : ℕ) (t : Statement) → Fitting t → problem_at a at t ≡ None → (b : List ℕ) × StandsIn section a at t b
stands_some Text a at t fits h = bytes_some a at t fits h
stands_some Data a at t fits h = bytes_some a at t fits h
stands_some Bss a at t fits h = (replicate (statement_length t) 0, refl)

-- ---- all lines

abbrev pub AllFitting : List Line → Type 0
AllFitting [] = Unit {0}
AllFitting (l ∷ ls) = Fitting (statement_said l) × AllFitting ls

all_some : (a : LinesAbove) (s : SectionSizes) (n : ℕ) (ls : List Line) → AllFitting ls → first_problem a s n ls ≡ None → (bs : List (List ℕ)) × AllStand a s ls bs
all_some a s n [] fits h = ([], tt)
all_some a s n (l ∷ ls) (fits, more) h =
    let at = address_of_offset a (section_offset_of s) in
    let rest = first_problem a (sizes_after s (statement_said l) (statement_length (statement_said l))) (n + 1) ls in
    let clean = neither (problem_at a at (statement_said l)) n rest h in
    let (b, right) = stands_some s.section a at (statement_said l) fits clean.0 in
    let long : length b ≡ statement_length (statement_said l) = stands_length s.section a at (statement_said l) b right in
    let (bs, stand) = all_some a (sizes_after s (statement_said l) (statement_length (statement_said l))) (n + 1) ls more clean.1 in
    (b ∷ bs, (right, subst (λ (k : ℕ). AllStand a (sizes_after s (statement_said l) k) ls bs) (sym long) stand))

said_fits : (t : List ℕ) (l : Line) → IsLine t l → Fitting (statement_said l)
said_fits t l line = by_case l.statement (λ i. line_fits t l i line)
  where
    by_case : (o : Option Statement) → ((i : Instruction) → o ≡ Some (says.Instruction i) → Fits i.insn) → Fitting (unwrap_or o says.Nothing)
    by_case None k = tt
    by_case (Some (says.Instruction i)) k = k i refl
    by_case (Some says.Nothing) k = tt
    by_case (Some (says.Enter section)) k = tt
    by_case (Some (says.Data size values)) k = tt
    by_case (Some (says.Ascii bytes)) k = tt
    by_case (Some (says.Space n)) k = tt
    by_case (Some says.Separate) k = tt
    by_case (Some (says.Entry name)) k = tt
    by_case (Some (says.Stack n)) k = tt
    by_case (Some (says.Branch b target)) k = tt

taken_fit : (s : Seen) (ts : List (List ℕ)) (ls : List Line) → AreLinesTaken s ts ls → AllFitting ls
taken_fit s [] [] h = tt
taken_fit s [] (l ∷ ls) h = absurd h
taken_fit s (t ∷ ts) [] h = absurd h
taken_fit s (t ∷ ts) (l ∷ ls) ((line, clean), more) = (said_fits t l line, taken_fit (seen_with s l) ts ls more)

-- ---- sizes

small_total : (n : ℕ) → nat_lt 4194304 (at_least 4096 (rounded_to_pages n)) ≡ false
    → (0 < at_least 4096 (rounded_to_pages n)) × (rounded_to_pages (at_least 4096 (rounded_to_pages n)) ≤ 4194304) × (n ≤ rounded_to_pages (at_least 4096 (rounded_to_pages n)))
small_total n h = by_case (nat_lt (rounded_to_pages n) 4096) refl h
  where
    by_case : (b : Bool) → nat_lt (rounded_to_pages n) 4096 ≡ b → nat_lt 4194304 (cond b 4096 (rounded_to_pages n)) ≡ false
        → (0 < cond b 4096 (rounded_to_pages n)) × (rounded_to_pages (cond b 4096 (rounded_to_pages n)) ≤ 4194304) × (n ≤ rounded_to_pages (cond b 4096 (rounded_to_pages n)))
    by_case true e h = let less : rounded_to_pages n < 4096 = ltb-true (rounded_to_pages n) 4096 e in (lit< tt, omega arith, omega (arith, less))
    by_case false e h =
        let least : 4096 ≤ rounded_to_pages n = ltb-false (rounded_to_pages n) 4096 e in
        let most : rounded_to_pages n ≤ 4194304 = ltb-false 4194304 (rounded_to_pages n) h in
        (omega (arith, least), omega (arith, most), omega (arith, least))

used_same : (sep : Bool) (text init bss : ℕ) → used_of sep text init bss ≡ (cond sep 0 text) + init + bss
used_same true text init bss = omega arith
used_same false text init bss = refl

within : (a : LinesAbove) → is_program_too_large a ≡ false → IsWithin a.sep (total_of a) a.sizes.text a.sizes.init a.sizes.bss (length a.labels)
within a h =
    let texts = or_left (nat_lt 1048576 a.sizes.text || nat_lt 262144 (length a.labels * 16)) (nat_lt 4194304 (total_of a)) h in
    let total = or_right (nat_lt 1048576 a.sizes.text || nat_lt 262144 (length a.labels * 16)) (nat_lt 4194304 (total_of a)) h in
    let text = or_left (nat_lt 1048576 a.sizes.text) (nat_lt 262144 (length a.labels * 16)) texts in
    let labels = or_right (nat_lt 1048576 a.sizes.text) (nat_lt 262144 (length a.labels * 16)) texts in
    let stack = unwrap_or a.stack 2048 in
    let sized = small_total (faults.bytes_used a + stack) total in
    let used = used_same a.sep a.sizes.text a.sizes.init a.sizes.bss in
    (sized.0, ltb-false 1048576 a.sizes.text text, ltb-false 262144 (length a.labels * 16) labels, sized.1, omega (arith, used, sized.2))

not_too_large : (b : Bool) (f : Fault) → cond b (Some f) None ≡ None → b ≡ false
not_too_large true f h = cc
not_too_large false f h = refl

no_first : (f g : Option Fault) → first_of f g ≡ None → (f ≡ None) × (g ≡ None)
no_first None g h = (refl, h)
no_first (Some f) g h = cc

-- ---- the program

-- the program of these bytes
built : (ls : List Line) (bs : List (List ℕ)) → first_problem (laid_by no_lines_above ls) no_lines_above.sizes 1 ls ≡ None → is_program_too_large (laid_by no_lines_above ls) ≡ false → AllStand (laid_by no_lines_above ls) no_lines_above.sizes ls bs
    → (p : Program) × AreAssembled ls p
built ls bs clean small stand =
    let a = laid_by no_lines_above ls in
    let left : left_by no_lines_above ls (map length bs) ≡ a = lengths_same a no_lines_above no_lines_above.sizes ls bs stand in
    let back : a ≡ left_by no_lines_above ls (map length bs) = sym left in
    let size = contents_size Text (λ b. refl) a no_lines_above ls bs stand in
    let other = contents_size Data (λ b. refl) a no_lines_above ls bs stand in
    let text : a.sizes.text ≡ length (contents Text no_lines_above.sizes ls bs) = omega (arith, size, ap (λ (x : LinesAbove). x.sizes.text) back) in
    let init : a.sizes.init ≡ length (contents Data no_lines_above.sizes ls bs) = omega (arith, other, ap (λ (x : LinesAbove). x.sizes.init) back) in
    let symbols : length a.labels ≡ length (map (symbol_under a) a.labels) = sym (length-map a.labels (symbol_under a)) in
    let fit = subst (λ (n : ℕ). IsWithin a.sep (total_of a) (length (contents Text no_lines_above.sizes ls bs)) (length (contents Data no_lines_above.sizes ls bs)) a.sizes.bss n) symbols
    (subst (λ (n : ℕ). IsWithin a.sep (total_of a) (length (contents Text no_lines_above.sizes ls bs)) n a.sizes.bss (length a.labels)) init
    (subst (λ (n : ℕ). IsWithin a.sep (total_of a) n a.sizes.init a.sizes.bss (length a.labels)) text (within a small))) in
    let (n, entry) = entry_there ls clean in
    let p : Program = record {
      sep = a.sep;
      entry = n;
      total = total_of a;
      text = contents Text no_lines_above.sizes ls bs;
      init = contents Data no_lines_above.sizes ls bs;
      bss = a.sizes.bss;
      symbols = map (symbol_under a) a.labels;
      within = fit;
    } in (
      p,
      record {
        bytes = bs;
        stand = subst (λ (x : LinesAbove). AllStand x no_lines_above.sizes ls bs) back stand;
        text = refl;
        init = refl;
        bss = ap (λ (x : LinesAbove). x.sizes.bss) back;
        sep = ap (λ (x : LinesAbove). x.sep) back;
        entry = subst (λ (x : LinesAbove). entry_under x x.entry ≡ Some n) back entry;
        total = ap total_of back;
        symbols = ap (λ (x : LinesAbove). map (symbol_under x) x.labels) back;
      },
    )

made : (ls : List Line) → AllFitting ls → fault_after ls ≡ None → (p : Program) × AreAssembled ls p
made ls fits clean =
    let a = laid_by no_lines_above ls in
    let both = no_first (first_problem a no_lines_above.sizes 1 ls) (too_large_in a ls) clean in
    let small = not_too_large (is_program_too_large a) (record { problem = TooLarge; line = number_of_last_line ls }) both.1 in
    let (bs, stand) = all_some a no_lines_above.sizes 1 ls fits both.0 in
    built ls bs both.0 small stand

pub lines_have_program : (t : List ℕ) (ls : List Line) → AreLinesTaken unseen (lines t) ls → fault_after ls ≡ None → (p : Program) × IsAssembled t p
lines_have_program t ls taken clean =
    let (p, assembled) = made ls (taken_fit unseen (lines t) ls taken) clean in (p, (ls, taken, assembled))
