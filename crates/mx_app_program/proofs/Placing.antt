-- Each statement's bytes are at its address.
use Rattle.std.proofs.Common.{◌≡◌, ℕ, ◌+◌, ◌<◌, ◌^◌, Bool, true, false, List, [], ◌∷◌, ◌++◌, length, refl, sym, ◌∙◌, ap, subst, arith, append_assoc, append-nil, length-append}
use Rattle.mx_asm_statement.specs.declared.statement.Section.{Section}
use Rattle.mx_asm_statement.specs.declared.statement.Section.TheVariants.{Text, Data, Bss}
use Rattle.mx_asm_statement.specs.declared.statement.Statement.{Statement}
use Rattle.mx_asm_statement.specs.declared.statement.Statement.TheVariants as says
use Rattle.mx_asm_statement.specs.declared.line.Line.{Line}
use Rattle.mx_aout.specs.declared.program.Program.{Program}
use Rattle.mx_aout.specs.Limits.{rounded_to_pages}
use Rattle.mx_exec.specs.Image.{code_bytes, code_in}
use Rattle.mx_load.specs.Load.{image_of_program, code_of_text, contents_of, filled_to}
use Rattle.mx_asm.specs.declared.sizes.SectionSizes.{SectionSizes}
use Rattle.mx_asm.specs.Layout.{LinesAbove, no_lines_above, sizes_after, grown_in, size_in, section_offset_of, address_of_offset, statement_said}
use Rattle.mx_asm.specs.Bytes.{AllStand, StandsIn, contents, put_into}
use Rattle.mx_asm.specs.Assembled.{AreAssembled}
use Rattle.mx_app_program.specs.Around.{StandIfText, AllAtAddress, CodeKeeps, layout_of}

grown_text : (s : SectionSizes) (section : Section) (b : List ℕ) → (grown_in s section (length b)).text ≡ s.text + length (put_into Text section b)
grown_text s Text b = refl
grown_text s Data b = omega arith
grown_text s Bss b = omega arith

entering_puts_none : (section into : Section) (a : LinesAbove) (at : ℕ) (b : List ℕ) → StandsIn section a at (says.Enter into) b → length (put_into Text section b) ≡ 0
entering_puts_none Text into a at b h = ap length h
entering_puts_none Data into a at b h = refl
entering_puts_none Bss into a at b h = refl

-- the text grows by what is put there
pub text_after : (s : SectionSizes) (a : LinesAbove) (at : ℕ) (t : Statement) (b : List ℕ) → StandsIn s.section a at t b → (sizes_after s t (length b)).text ≡ s.text + length (put_into Text s.section b)
text_after s a at (says.Enter into) b h = let none : length (put_into Text s.section b) ≡ 0 = entering_puts_none s.section into a at b h in omega (arith, none)
text_after s a at says.Nothing b h = grown_text s s.section b
text_after s a at (says.Data size values) b h = grown_text s s.section b
text_after s a at (says.Ascii bytes) b h = grown_text s s.section b
text_after s a at (says.Space k) b h = grown_text s s.section b
text_after s a at says.Separate b h = grown_text s s.section b
text_after s a at (says.Entry name) b h = grown_text s s.section b
text_after s a at (says.Stack k) b h = grown_text s s.section b
text_after s a at (says.Instruction i) b h = grown_text s s.section b
text_after s a at (says.Branch k target) b h = grown_text s s.section b

-- in a text that isn't too long an address is the place in the text
pub address_here : (a : LinesAbove) (offset : ℕ) → offset < 2 ^ 32 → address_of_offset a (record { section = Text; offset = offset }) ≡ offset
address_here a offset lt = omega arith

stand_here : (section : Section) (a : LinesAbove) (s : SectionSizes) (before b after tail : List ℕ) → length before ≡ s.text → s.text < 2 ^ 32
    → StandIfText section (before ++ ((put_into Text section b ++ after) ++ tail)) (address_of_offset a (record { section = section; offset = size_in s section })) b
stand_here Text a s before b after tail e lt =
    (before, after ++ tail, ap (λ (w : List ℕ). before ++ w) (append_assoc b after tail), e ∙ sym (address_here a s.text lt))
stand_here Data a s before b after tail e lt = tt
stand_here Bss a s before b after tail e lt = tt

pub all_at_address : (a : LinesAbove) (s : SectionSizes) (ls : List Line) (bs : List (List ℕ)) (before tail : List ℕ) → AllStand a s ls bs → length before ≡ s.text
    → length before + length (contents Text s ls bs) < 2 ^ 32
    → AllAtAddress (before ++ (contents Text s ls bs ++ tail)) a s ls bs
all_at_address a s [] bs before tail h e lt = tt
all_at_address a s (l ∷ ls) [] before tail h e lt = tt
all_at_address a s (l ∷ ls) (b ∷ bs) before tail (right, more) e lt =
    let s' = sizes_after s (statement_said l) (length b) in
    let put = put_into Text s.section b in
    let after = contents Text s' ls bs in
    let n = text_after s a (address_of_offset a (section_offset_of s)) (statement_said l) b right in
    let joined = length-append put after in
    let e' : length (before ++ put) ≡ s'.text = omega (arith, length-append before put, n) in
    let rest = all_at_address a s' ls bs (before ++ put) tail more e' (omega (arith, length-append before put, joined, lt)) in
    let same : (before ++ put) ++ (after ++ tail) ≡ before ++ ((put ++ after) ++ tail) =
    append_assoc before put (after ++ tail) ∙ ap (λ (w : List ℕ). before ++ w) (sym (append_assoc put after tail)) in
    (stand_here s.section a s before b after tail e (omega (arith, lt)), subst (λ (w : List ℕ). AllAtAddress w a s' ls bs) same rest)

-- the code of an image begins with its program's text
by_kind : (sep : Bool) (text init : List ℕ) (limit : ℕ) → (tail : List ℕ) × (code_in (code_of_text sep text) (filled_to limit (contents_of sep text init)) ≡ text ++ tail)
by_kind true text init limit = ([], sym (append-nil text))
by_kind false text init limit = (_, append_assoc text init _)

pub code_keeps : (lines : List Line) (p : Program) (made : AreAssembled lines p) → length p.text < 2 ^ 32 → CodeKeeps lines p made (code_bytes (image_of_program p))
code_keeps lines p made lt =
    let code = by_kind p.sep p.text p.init (rounded_to_pages p.total) in
    let short : length (contents Text no_lines_above.sizes lines made.bytes) < 2 ^ 32 = subst (λ (w : List ℕ). length w < 2 ^ 32) made.text lt in
    let all = all_at_address (layout_of made) no_lines_above.sizes lines made.bytes [] code.0 made.stand refl (omega (arith, short)) in
    let same : contents Text no_lines_above.sizes lines made.bytes ++ code.0 ≡ code_bytes (image_of_program p) = ap (λ (w : List ℕ). w ++ code.0) (sym made.text) ∙ sym code.1 in
    subst (λ (w : List ℕ). AllAtAddress w (layout_of made) no_lines_above.sizes lines made.bytes) same all
