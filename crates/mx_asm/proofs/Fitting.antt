-- The sizes of what is put out.
use Rattle.std.proofs.Common.{◌≡◌, ℕ, ◌+◌, List, [], ◌∷◌, length, map, refl, sym, ◌∙◌, ap, arith, length-append}
use Rattle.mx_asm_statement.specs.declared.statement.Section.{Section}
use Rattle.mx_asm_statement.specs.declared.statement.Section.TheVariants.{Text, Data, Bss}
use Rattle.mx_asm_statement.specs.declared.statement.Statement.{Statement}
use Rattle.mx_asm_statement.specs.declared.statement.Statement.TheVariants as says
use Rattle.mx_asm_statement.specs.declared.line.Line.{Line}
use Rattle.mx_asm.specs.declared.sizes.SectionSizes.{SectionSizes}
use Rattle.mx_asm.specs.Lengths.{statement_length}
use Rattle.mx_asm.specs.Layout.{LinesAbove, size_in, grown_in, sizes_after, left_by, above_with, statement_said, address_of_offset, section_offset_of}
use Rattle.mx_asm.specs.Bytes.{AllStand, contents, put_into}
use Rattle.mx_asm.proofs.Lengths.{stands_length}

-- what is put into the text or the data is what that section grows by
grown_size : (which : Section) (s : SectionSizes) (section : Section) (b : List ℕ) → put_into which which b ≡ b → size_in (grown_in s section (length b)) which ≡ size_in s which + length (put_into which section b)
grown_size Text s Text b h = refl
grown_size Text s Data b h = omega arith
grown_size Text s Bss b h = omega arith
grown_size Data s Text b h = omega arith
grown_size Data s Data b h = refl
grown_size Data s Bss b h = omega arith
grown_size Bss s Text b h = omega arith
grown_size Bss s Data b h = omega arith
grown_size Bss s Bss b h = let none : length b ≡ 0 = ap length (sym h) in omega (arith, none)

none_put : (which section : Section) (b : List ℕ) → length b ≡ 0 → length (put_into which section b) ≡ 0
none_put Text Text b h = h
none_put Data Data b h = h
none_put Text Data b h = refl
none_put Text Bss b h = refl
none_put Data Text b h = refl
none_put Data Bss b h = refl
none_put Bss section b h = refl

entered : (which : Section) (s : SectionSizes) (section : Section) → size_in (record s { section = section }) which ≡ size_in s which
entered Text s section = refl
entered Data s section = refl
entered Bss s section = refl

size_after : (which : Section) (s : SectionSizes) (t : Statement) (b : List ℕ) → put_into which which b ≡ b → length b ≡ statement_length t
    → size_in (sizes_after s t (length b)) which ≡ size_in s which + length (put_into which s.section b)
size_after which s (says.Enter section) b h n = let z : length (put_into which s.section b) ≡ 0 = none_put which s.section b n in entered which s section ∙ omega (arith, z)
size_after which s says.Nothing b h n = grown_size which s s.section b h
size_after which s (says.Data size values) b h n = grown_size which s s.section b h
size_after which s (says.Ascii bytes) b h n = grown_size which s s.section b h
size_after which s (says.Space k) b h n = grown_size which s s.section b h
size_after which s says.Separate b h n = grown_size which s s.section b h
size_after which s (says.Entry name) b h n = grown_size which s s.section b h
size_after which s (says.Stack k) b h n = grown_size which s s.section b h
size_after which s (says.Instruction i) b h n = grown_size which s s.section b h
size_after which s (says.Branch k target) b h n = grown_size which s s.section b h

-- after all lines the text and the data are as long as their contents
pub contents_size : (which : Section) → ((b : List ℕ) → put_into which which b ≡ b) → (a c : LinesAbove) (ls : List Line) (bs : List (List ℕ)) → AllStand a c.sizes ls bs
    → size_in (left_by c ls (map length bs)).sizes which ≡ size_in c.sizes which + length (contents which c.sizes ls bs)
contents_size which own a c [] [] h = omega arith
contents_size which own a c [] (b ∷ bs) h = absurd h
contents_size which own a c (l ∷ ls) [] h = absurd h
contents_size which own a c (l ∷ ls) (b ∷ bs) (right, more) =
    let n : length b ≡ statement_length (statement_said l) = stands_length c.sizes.section a (address_of_offset a (section_offset_of c.sizes)) (statement_said l) b right in
    let put = put_into which c.sizes.section b in
    let after = contents which (sizes_after c.sizes (statement_said l) (length b)) ls bs in
    let here : size_in (sizes_after c.sizes (statement_said l) (length b)) which ≡ size_in c.sizes which + length put = size_after which c.sizes (statement_said l) b (own b) n in
    let rest : size_in (left_by (above_with c l (length b)) ls (map length bs)).sizes which ≡ size_in (sizes_after c.sizes (statement_said l) (length b)) which + length after = contents_size which own a (above_with c l (length b)) ls bs more in
    rest ∙ omega (arith, here, length-append put after)
