-- How long the bytes of statements are.
use Rattle.std.proofs.Common.{◌≡◌, ℕ, zero, suc, ◌+◌, ◌*◌, List, [], ◌∷◌, ◌++◌, length, refl, sym, ◌∙◌, ap, Option, Some, None, IsTrue, arith}
use Rattle.std.specs.Prelude.{is_some}
use Rattle.std.specs.List.{flat_map}
use Rattle.std.proofs.lemmas.List.{length-append, length-replicate, length-map}
use Rattle.mx_word.specs.Word.{bytes_of, bytes_in}
use Rattle.mx_encode.specs.Filled.{with_immediate, with_displacement}
use Rattle.mx_asm_statement.specs.declared.statement.Section.{Section}
use Rattle.mx_asm_statement.specs.declared.statement.Section.TheVariants.{Text, Data, Bss}
use Rattle.mx_asm_statement.specs.declared.statement.Statement.{Statement}
use Rattle.mx_asm_statement.specs.declared.statement.Statement.TheVariants as says
use Rattle.mx_asm_statement.specs.declared.instruction.Instruction.{Instruction}
use Rattle.mx_asm_statement.specs.declared.value.Value.{Value}
use Rattle.mx_asm_statement.specs.Instructions.{marks}
use Rattle.mx_asm.specs.Lengths.{statement_length}
use Rattle.mx_asm.specs.Layout.{LinesAbove, value_under}
use Rattle.mx_asm.specs.Bytes.{BytesOf, StandsIn, named_under, put_under, put_in, then_put}
use Rattle.mx_insn.specs.declared.insn.Insn.{Insn}
use Rattle.mx_encode.specs.declared.Wide.{Wide}
use Rattle.mx_encode.specs.Chosen.{Chosen}
use Rattle.mx_encode.specs.Lengths.{spelled_length, chosen_length}
use Rattle.mx_encode.proofs.Lengths.{immediate_keeps_count, displacement_keeps_count}

length-chosen : (i : Insn) (wide : Wide) (b : List ℕ) → Chosen i wide b → length b ≡ chosen_length i wide
length-chosen i wide b x = ap length x.spells.bytes_are ∙ sym (ap (λ c. spelled_length c wide.displacement) x.is_chosen)

-- ---- values

bytes_of_length : (k n : ℕ) → length (bytes_of k n) ≡ k
bytes_of_length zero n = refl
bytes_of_length (suc k) n = ap suc (bytes_of_length k _)

flat_length : (k : ℕ) (ns : List ℕ) → length (flat_map (bytes_of k) ns) ≡ k * length ns
flat_length k [] = omega arith
flat_length k (n ∷ ns) =
    let here : length (bytes_of k n) ≡ k = bytes_of_length k n in
    let rest : length (flat_map (bytes_of k) ns) ≡ k * length ns = flat_length k ns in
    let whole : length (bytes_of k n ++ flat_map (bytes_of k) ns) ≡ length (bytes_of k n) + length (flat_map (bytes_of k) ns) = length-append (bytes_of k n) (flat_map (bytes_of k) ns) in
    omega arith

-- ---- instructions

-- a number that is put in keeps whatever putting one in keeps
put_keeps : (put : Insn → ℕ → Insn) (f : Insn → ℕ) (a : LinesAbove) (v : Option Value) (i insn : Insn) → ((n : ℕ) → IsTrue (is_some v) → f (put i n) ≡ f i)
    → put_under a put v i ≡ Some insn → f insn ≡ f i
put_keeps put f a None i insn keeps e = let same : insn ≡ i = cc in ap f same
put_keeps put f a (Some v) i insn keeps e = by_case (value_under a v) e
  where
    by_case : (o : Option ℕ) → put_in put i o ≡ Some insn → f insn ≡ f i
    by_case None e = cc
    by_case (Some n) e = let same : insn ≡ put i n = cc in ap f same ∙ keeps n refl

then_keeps : (put : Insn → ℕ → Insn) (f : Insn → ℕ) (a : LinesAbove) (v : Option Value) (o : Option Insn) (insn : Insn) (k : ℕ)
    → ((i : Insn) (n : ℕ) → IsTrue (is_some v) → f (put i n) ≡ f i) → ((i : Insn) → o ≡ Some i → f i ≡ k)
    → then_put a put v o ≡ Some insn → f insn ≡ k
then_keeps put f a v None insn k keeps before e = cc
then_keeps put f a v (Some i) insn k keeps before e = put_keeps put f a v i insn (keeps i) e ∙ before i refl

named_length : (a : LinesAbove) (i : Instruction) (insn : Insn) → named_under a i ≡ Some insn → chosen_length insn (marks i) ≡ chosen_length i.insn (marks i)
named_length a i insn e =
    then_keeps with_displacement (λ x. chosen_length x (marks i)) a i.displacement (put_under a with_immediate i.immediate i.insn) insn (chosen_length i.insn (marks i))
    (λ x n h. displacement_keeps_count x (marks i) n h)
    (λ x e'. put_keeps with_immediate (λ y. chosen_length y (marks i)) a i.immediate i.insn x (λ n h. immediate_keeps_count i.insn (marks i) n h) e')
    e

-- ---- statements

-- a statement's bytes have its length, wherever its names are
bytes_length : (a : LinesAbove) (at : ℕ) (t : Statement) (b : List ℕ) → BytesOf a at t b → length b ≡ statement_length t
bytes_length a at says.Nothing b h = ap length h
bytes_length a at (says.Enter section) b h = ap length h
bytes_length a at (says.Data size values) b (numbers, e, h) =
    let same : length values ≡ length numbers = sym (length-map values (value_under a)) ∙ ap length e ∙ length-map numbers Some in
    ap length h ∙ flat_length (bytes_in size) numbers ∙ ap (λ n. bytes_in size * n) (sym same)
bytes_length a at (says.Ascii bytes) b h = ap length h
bytes_length a at (says.Space n) b h = ap length h ∙ length-replicate n 0
bytes_length a at says.Separate b h = ap length h
bytes_length a at (says.Entry name) b h = ap length h
bytes_length a at (says.Stack n) b h = ap length h
bytes_length a at (says.Instruction i) b (insn, e, x) = length-chosen insn (marks i) b x ∙ named_length a i insn e
bytes_length a at (says.Branch k target) b (x, e, chosen, n) = n

pub stands_length : (section : Section) (a : LinesAbove) (at : ℕ) (t : Statement) (b : List ℕ) → StandsIn section a at t b → length b ≡ statement_length t
stands_length Text a at t b h = bytes_length a at t b h
stands_length Data a at t b h = bytes_length a at t b h
stands_length Bss a at t b h = ap length h ∙ length-replicate (statement_length t) 0
