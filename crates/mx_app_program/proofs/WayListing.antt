-- Each instruction is listed at its address, until a directive puts bytes into the text.
use Rattle.std.proofs.Common.{◌≡◌, ℕ, ◌+◌, ◌<◌, ◌^◌, List, [], ◌∷◌, ◌++◌, length, refl, sym, ◌∙◌, ap, subst, arith, append_assoc, length-append}
use Rattle.mx_insn.specs.declared.insn.Insn.{Insn}
use Rattle.mx_insn.specs.Spelling.{Spells}
use Rattle.mx_encode.specs.declared.Wide.{Wide}
use Rattle.mx_encode.specs.Chosen.{Chosen}
use Rattle.mx_asm_statement.specs.declared.statement.Section.{Section}
use Rattle.mx_asm_statement.specs.declared.statement.Section.TheVariants.{Text, Data, Bss}
use Rattle.mx_asm_statement.specs.declared.statement.Statement.{Statement}
use Rattle.mx_asm_statement.specs.declared.statement.Statement.TheVariants as says
use Rattle.mx_asm_statement.specs.declared.line.Line.{Line}
use Rattle.mx_asm_statement.specs.Instructions.{marks}
use Rattle.mx_aout.specs.declared.program.Program.{Program}
use Rattle.mx_asm.specs.declared.sizes.SectionSizes.{SectionSizes}
use Rattle.mx_asm.specs.Branches.{branch_by, branch_marks, distance}
use Rattle.mx_asm.specs.Layout.{LinesAbove, no_lines_above, sizes_after, size_in, section_offset_of, address_of_offset, statement_said}
use Rattle.mx_asm.specs.Bytes.{AllStand, StandsIn, contents, put_into}
use Rattle.mx_asm.specs.Assembled.{AreAssembled}
use Rattle.mx_dis.specs.declared.part.Part.{Part}
use Rattle.mx_dis.specs.declared.part.Part.TheVariants.{Instruction}
use Rattle.mx_dis.specs.Parting.{IsParting, BeginsWith, total_size}
use Rattle.mx_app_program.specs.Around.{ListedIfText, AllListed, PartsKeep, put_by_directive, layout_of}
use Rattle.mx_app_program.proofs.Placing.{text_after, address_here}

abbrev pub ChosenSpells : Type 0
ChosenSpells = (i : Insn) (wide : Wide) (b : List ℕ) → Chosen i wide b → Spells b i

abbrev pub Spelled : Type 0
Spelled = (b rest : List ℕ) (i : Insn) (parts : List Part) → Spells b i → IsParting (b ++ rest) parts → BeginsWith i (length b) rest parts

total_append : (x y : List Part) → total_size (x ++ y) ≡ total_size x + total_size y
total_append [] y = omega arith
total_append (p ∷ x) y = omega (arith, total_append x y)

-- after some more bytes of a text come parts, of which the first have that many bytes, and the others part the rest
abbrev GoesOn : List Part → ℕ → List ℕ → Type 0
GoesOn parts at rest = (front back : List Part) × (parts ≡ front ++ back) × (total_size front ≡ at) × IsParting rest back

-- an instruction, and what is after it
abbrev Meets : Section → LinesAbove → ℕ → ℕ → Statement → List ℕ → List Part → List ℕ → Type 0
Meets section a at n t b parts after =
    ListedIfText section a at t b parts × (put_by_directive section t b ≡ [] → GoesOn parts (n + length (put_into Text section b)) after)

instruction_met : Spelled → (parts : List Part) (n : ℕ) (b after : List ℕ) (i : Insn) → Spells b i → GoesOn parts n (b ++ after)
    → ((front back : List Part) × (parts ≡ front ++ Instruction i (length b) ∷ back) × (total_size front ≡ n)) × GoesOn parts (n + length b) after
instruction_met spelled parts n b after i x (front, back, e, size, parting) =
    let found = spelled b after i back x parting in
    let here : parts ≡ front ++ Instruction i (length b) ∷ found.0 = e ∙ ap (λ (w : List Part). front ++ w) found.1 in
    let one = Instruction i (length b) ∷ [] in
    let longer : total_size (front ++ one) ≡ n + length b = omega (arith, total_append front one, size) in
    ((front, found.0, here, size), (front ++ one, found.0, here ∙ sym (append_assoc front one found.0), longer, found.2))

-- a directive that puts nothing into the text
nothing_put : (parts : List Part) (n : ℕ) (put after : List ℕ) → put ≡ [] → GoesOn parts n (put ++ after) → GoesOn parts (n + length put) after
nothing_put parts n put after e (front, back, f, size, parting) =
    (front, back, f, omega (arith, size, ap length e), subst (λ (w : List ℕ). IsParting (w ++ after) back) e parting)

text_met : ChosenSpells → Spelled → (a : LinesAbove) (n : ℕ) (t : Statement) (b : List ℕ) (parts : List Part) (after : List ℕ)
    → StandsIn Text a n t b → GoesOn parts n (b ++ after) → Meets Text a n n t b parts after
text_met chosen spelled a n (says.Instruction i) b parts after (insn, e, x) on =
    let spells = chosen insn (marks i) b x in
    let met = instruction_met spelled parts n b after insn spells on in
    ((insn, e, (spells, met.0)), λ none. met.1)
text_met chosen spelled a n (says.Branch k target) b parts after (x, e, c, size) on =
    let i = branch_by k (distance (n + length b) x) in
    let spells = chosen i (branch_marks k) b c in
    let met = instruction_met spelled parts n b after i spells on in
    ((x, e, (spells, met.0)), λ none. met.1)
text_met chosen spelled a n says.Nothing b parts after h on = (tt, λ none. nothing_put parts n b after none on)
text_met chosen spelled a n (says.Enter into) b parts after h on = (tt, λ none. nothing_put parts n b after none on)
text_met chosen spelled a n (says.Data size values) b parts after h on = (tt, λ none. nothing_put parts n b after none on)
text_met chosen spelled a n (says.Ascii bytes) b parts after h on = (tt, λ none. nothing_put parts n b after none on)
text_met chosen spelled a n (says.Space k) b parts after h on = (tt, λ none. nothing_put parts n b after none on)
text_met chosen spelled a n says.Separate b parts after h on = (tt, λ none. nothing_put parts n b after none on)
text_met chosen spelled a n (says.Entry name) b parts after h on = (tt, λ none. nothing_put parts n b after none on)
text_met chosen spelled a n (says.Stack k) b parts after h on = (tt, λ none. nothing_put parts n b after none on)

met : ChosenSpells → Spelled → (section : Section) (a : LinesAbove) (s : SectionSizes) (t : Statement) (b : List ℕ) (parts : List Part) (after : List ℕ) → s.text < 2 ^ 32
    → StandsIn section a (address_of_offset a (record { section = section; offset = size_in s section })) t b → GoesOn parts s.text (put_into Text section b ++ after)
    → Meets section a (address_of_offset a (record { section = section; offset = size_in s section })) s.text t b parts after
met chosen spelled Text a s t b parts after lt h on =
    let at = address_here a s.text lt in
    subst (λ (n : ℕ). Meets Text a n s.text t b parts after) (sym at)
    (text_met chosen spelled a s.text t b parts after (subst (λ (n : ℕ). StandsIn Text a n t b) at h) on)
met chosen spelled Data a s t b parts after lt h on = (tt, λ none. nothing_put parts s.text [] after refl on)
met chosen spelled Bss a s t b parts after lt h on = (tt, λ none. nothing_put parts s.text [] after refl on)

all_listed : ChosenSpells → Spelled → (a : LinesAbove) (s : SectionSizes) (ls : List Line) (bs : List (List ℕ)) (parts : List Part) → AllStand a s ls bs
    → s.text + length (contents Text s ls bs) < 2 ^ 32 → GoesOn parts s.text (contents Text s ls bs) → AllListed parts a s ls bs
all_listed chosen spelled a s [] bs parts h lt on = tt
all_listed chosen spelled a s (l ∷ ls) [] parts h lt on = tt
all_listed chosen spelled a s (l ∷ ls) (b ∷ bs) parts (right, more) lt on =
    let s' = sizes_after s (statement_said l) (length b) in
    let put = put_into Text s.section b in
    let after = contents Text s' ls bs in
    let n = text_after s a (address_of_offset a (section_offset_of s)) (statement_said l) b right in
    let here = met chosen spelled s.section a s (statement_said l) b parts after (omega (arith, lt)) right on in
    let lt' : s'.text + length after < 2 ^ 32 = omega (arith, length-append put after, lt, n) in
    (here.0, λ none. all_listed chosen spelled a s' ls bs parts more lt' (subst (λ (k : ℕ). GoesOn parts k after) (sym n) (here.1 none)))

pub parts_keep : ChosenSpells → Spelled → (lines : List Line) (p : Program) (made : AreAssembled lines p) (parts : List Part) → length p.text < 2 ^ 32 → IsParting p.text parts → PartsKeep lines p made parts
parts_keep chosen spelled lines p made parts lt parting =
    let text = subst (λ (w : List ℕ). IsParting w parts) made.text parting in
    let short : length (contents Text no_lines_above.sizes lines made.bytes) < 2 ^ 32 = subst (λ (w : List ℕ). length w < 2 ^ 32) made.text lt in
    all_listed chosen spelled (layout_of made) no_lines_above.sizes lines made.bytes parts made.stand (omega (arith, short))
    ([], parts, refl, refl, text)
