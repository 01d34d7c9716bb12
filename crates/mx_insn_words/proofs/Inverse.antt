-- Each that has a word is found again by it among the rows, so no two have one word.
use Rattle.std.proofs.Common.{◌≡◌, ◌≢◌, ℕ, Bool, true, false, ◌&&◌, cond, List, [], ◌∷◌, Option, Some, None, MatchOption, refl, sym, ap, ◌∙◌, subst}
use Rattle.std.specs.Prelude.{nat_eq, is_none}
use Rattle.std.specs.Cmp.Lexicographic.{pointwise, bytes_decides}
use Rattle.std.proofs.lemmas.Bool.{and_parts}
use Rattle.mx_word.specs.declared.size.Size.{Size}
use Rattle.mx_word.specs.declared.size.Size.TheVariants as size
use Rattle.mx_word.specs.declared.names.Register.{Register}
use Rattle.mx_word.specs.declared.names.Register.TheVariants as register
use Rattle.mx_word.specs.declared.names.Arithmetic.TheVariants as arithmetic
use Rattle.mx_word.specs.declared.names.Unary.TheVariants as unary
use Rattle.mx_word.specs.declared.names.Shift.TheVariants as shift
use Rattle.mx_word.specs.declared.names.BitTest.TheVariants as bit_test
use Rattle.mx_word.specs.declared.names.BitScan.TheVariants as bit_scan
use Rattle.mx_word.specs.declared.names.DoubleShift.TheVariants as double_shift
use Rattle.mx_word.specs.declared.names.Condition.TheVariants as condition
use Rattle.mx_insn.specs.declared.insn.Loop.TheVariants as loop
use Rattle.mx_insn.specs.declared.insn.Product.TheVariants as product
use Rattle.mx_insn.specs.declared.insn.Plain.TheVariants as plain
use Rattle.mx_insn.specs.declared.insn.Transfer.TheVariants as transfer
use Rattle.mx_insn.specs.declared.insn.Comparison.TheVariants as comparison
use Rattle.mx_insn_words.specs.declared.mnemonic.Single.TheVariants as single
use Rattle.mx_insn_words.specs.declared.mnemonic.Mnemonic.{Mnemonic}
use Rattle.mx_insn_words.specs.declared.mnemonic.Mnemonic.TheVariants as mnemonics
use Rattle.mx_insn_words.specs.declared.mnemonic.TheConstants.{OPERATION_STARTS}
use Rattle.mx_insn_words.specs.declared.start.Prefix.{Prefix}
use Rattle.mx_insn_words.specs.declared.start.Prefix.TheVariants as prefix
use Rattle.mx_insn_words.specs.declared.start.Directive.{Directive}
use Rattle.mx_insn_words.specs.declared.start.Directive.TheVariants as directive
use Rattle.mx_insn_words.specs.declared.start.WordStart.{WordStart}
use Rattle.mx_insn_words.specs.declared.start.WordStart.TheVariants as starts
use Rattle.mx_insn_words.specs.declared.start.TheConstants.{OTHER_STARTS}
use Rattle.mx_insn_words.specs.Words.{word_of, prefix_word, directive_word, is_operation, start_word}
use Rattle.mx_insn_words.specs.Registers.{register_word, size_word}

-- the first whose word it is
abbrev pub first_named : {T : Type 0} → (T → List ℕ) → List T → List ℕ → Option T
first_named word [] w = None
first_named word (x ∷ xs) w = cond (pointwise nat_eq (word x) w) (Some x) (first_named word xs w)

named : {T : Type 0} (word : T → List ℕ) (xs : List T) (w : List ℕ) (x : T) → first_named word xs w ≡ Some x → w ≡ word x
named word [] w x f = absurd cc
named {T} word (y ∷ xs) w x f = go (pointwise nat_eq (word y) w) refl f (named word xs w x)
  where
    go : (b : Bool) → pointwise nat_eq (word y) w ≡ b → cond b (Some y) (first_named word xs w) ≡ Some x → (first_named word xs w ≡ Some x → w ≡ word x) → w ≡ word x
    go true g f more = let value : y ≡ x = cc in sym ((bytes_decides (word y) w).0 g) ∙ ap word value
    go false g f more = more f

-- ---- what begins a statement

-- the rows that the code has
abbrev pub operations : List WordStart
operations = OPERATION_STARTS.now

abbrev pub others : List WordStart
others = OTHER_STARTS.now

-- each is found again by its word: a line for one operation of a family, and one for its others
operation_again : (x : WordStart) → is_operation x ≡ true → first_named start_word operations (start_word x) ≡ Some x
operation_again (starts.Mnemonic (mnemonics.Arithmetic arithmetic.Add)) h = refl
operation_again (starts.Mnemonic (mnemonics.Arithmetic _)) h = refl
operation_again (starts.Mnemonic (mnemonics.Unary unary.Inc)) h = refl
operation_again (starts.Mnemonic (mnemonics.Unary _)) h = refl
operation_again (starts.Mnemonic (mnemonics.Product product.Mul)) h = refl
operation_again (starts.Mnemonic (mnemonics.Product _)) h = refl
operation_again (starts.Mnemonic (mnemonics.Shift shift.Rol)) h = refl
operation_again (starts.Mnemonic (mnemonics.Shift _)) h = refl
operation_again (starts.Mnemonic (mnemonics.DoubleShift double_shift.Shld)) h = refl
operation_again (starts.Mnemonic (mnemonics.DoubleShift _)) h = refl
operation_again (starts.Mnemonic (mnemonics.BitTest bit_test.Bt)) h = refl
operation_again (starts.Mnemonic (mnemonics.BitTest _)) h = refl
operation_again (starts.Mnemonic (mnemonics.BitScan bit_scan.Bsf)) h = refl
operation_again (starts.Mnemonic (mnemonics.BitScan _)) h = refl
operation_again (starts.Mnemonic (mnemonics.Loop loop.Loopne)) h = refl
operation_again (starts.Mnemonic (mnemonics.Loop _)) h = refl
operation_again (starts.Mnemonic (mnemonics.Plain plain.Pushad)) h = refl
operation_again (starts.Mnemonic (mnemonics.Plain _)) h = refl
operation_again (starts.Mnemonic (mnemonics.Single single.Mov)) h = refl
operation_again (starts.Mnemonic (mnemonics.Single _)) h = refl
operation_again (starts.Mnemonic (mnemonics.JumpIf c)) h = absurd cc
operation_again (starts.Mnemonic (mnemonics.SetCondition c)) h = absurd cc
operation_again (starts.Mnemonic (mnemonics.Transfer o s)) h = absurd cc
operation_again (starts.Mnemonic (mnemonics.Compare o s)) h = absurd cc
operation_again (starts.Repeat x) h = absurd cc
operation_again (starts.Directive x) h = absurd cc

other_again : (x : WordStart) → is_operation x ≡ false → first_named start_word others (start_word x) ≡ Some x
other_again (starts.Mnemonic (mnemonics.JumpIf condition.Overflow)) h = refl
other_again (starts.Mnemonic (mnemonics.JumpIf _)) h = refl
other_again (starts.Mnemonic (mnemonics.SetCondition condition.Overflow)) h = refl
other_again (starts.Mnemonic (mnemonics.SetCondition _)) h = refl
other_again (starts.Mnemonic (mnemonics.Transfer transfer.Movs size.Byte)) h = refl
other_again (starts.Mnemonic (mnemonics.Transfer transfer.Movs size.Word)) h = refl
other_again (starts.Mnemonic (mnemonics.Transfer transfer.Movs size.Dword)) h = refl
other_again (starts.Mnemonic (mnemonics.Transfer transfer.Stos size.Byte)) h = refl
other_again (starts.Mnemonic (mnemonics.Transfer transfer.Stos size.Word)) h = refl
other_again (starts.Mnemonic (mnemonics.Transfer transfer.Stos size.Dword)) h = refl
other_again (starts.Mnemonic (mnemonics.Transfer transfer.Lods size.Byte)) h = refl
other_again (starts.Mnemonic (mnemonics.Transfer transfer.Lods size.Word)) h = refl
other_again (starts.Mnemonic (mnemonics.Transfer transfer.Lods size.Dword)) h = refl
other_again (starts.Mnemonic (mnemonics.Compare comparison.Cmps size.Byte)) h = refl
other_again (starts.Mnemonic (mnemonics.Compare comparison.Cmps size.Word)) h = refl
other_again (starts.Mnemonic (mnemonics.Compare comparison.Cmps size.Dword)) h = refl
other_again (starts.Mnemonic (mnemonics.Compare comparison.Scas size.Byte)) h = refl
other_again (starts.Mnemonic (mnemonics.Compare comparison.Scas size.Word)) h = refl
other_again (starts.Mnemonic (mnemonics.Compare comparison.Scas size.Dword)) h = refl
other_again (starts.Mnemonic (mnemonics.Arithmetic x)) h = absurd cc
other_again (starts.Mnemonic (mnemonics.Unary x)) h = absurd cc
other_again (starts.Mnemonic (mnemonics.Product x)) h = absurd cc
other_again (starts.Mnemonic (mnemonics.Shift x)) h = absurd cc
other_again (starts.Mnemonic (mnemonics.DoubleShift x)) h = absurd cc
other_again (starts.Mnemonic (mnemonics.BitTest x)) h = absurd cc
other_again (starts.Mnemonic (mnemonics.BitScan x)) h = absurd cc
other_again (starts.Mnemonic (mnemonics.Loop x)) h = absurd cc
other_again (starts.Mnemonic (mnemonics.Plain x)) h = absurd cc
other_again (starts.Mnemonic (mnemonics.Single x)) h = absurd cc
other_again (starts.Repeat prefix.Rep) h = refl
other_again (starts.Repeat _) h = refl
other_again (starts.Directive directive.Text) h = refl
other_again (starts.Directive _) h = refl

pub operation_found : (w : List ℕ) (r : Option WordStart) → r ≡ first_named start_word operations w → MatchOption r ((x : WordStart) → is_operation x ≡ true → w ≢ start_word x) (λ x. w ≡ start_word x)
operation_found w (Some x) e = named start_word operations w x (sym e)
operation_found w None e = λ x h g. let f : first_named start_word operations w ≡ Some x = ap (first_named start_word operations) g ∙ operation_again x h in absurd cc

pub other_found : (w : List ℕ) (r : Option WordStart) → r ≡ first_named start_word others w → MatchOption r ((x : WordStart) → is_operation x ≡ false → w ≢ start_word x) (λ x. w ≡ start_word x)
other_found w (Some x) e = named start_word others w x (sym e)
other_found w None e = λ x h g. let f : first_named start_word others w ≡ Some x = ap (first_named start_word others) g ∙ other_again x h in absurd cc

pub neither : (w : List ℕ) → ((x : WordStart) → is_operation x ≡ true → w ≢ start_word x) → ((x : WordStart) → is_operation x ≡ false → w ≢ start_word x) → (x : WordStart) → w ≢ start_word x
neither w f g x = go (is_operation x) refl
  where
    go : (b : Bool) → is_operation x ≡ b → w ≢ start_word x
    go true e = f x e
    go false e = g x e

-- no word is of both
abbrev are_apart : List WordStart → List WordStart → Bool
are_apart [] ys = true
are_apart (x ∷ xs) ys = is_none (first_named start_word ys (start_word x)) && are_apart xs ys

nothing : (o : Option WordStart) → is_none o ≡ true → o ≡ None
nothing None e = refl
nothing (Some x) e = absurd cc

apart : (xs ys : List WordStart) (w : List ℕ) (x : WordStart) → are_apart xs ys ≡ true → first_named start_word xs w ≡ Some x → first_named start_word ys w ≡ None
apart [] ys w x a f = absurd cc
apart (y ∷ xs) ys w x a f = go (pointwise nat_eq (start_word y) w) refl f (apart xs ys w x (and_parts _ _ a).1)
  where
    go : (b : Bool) → pointwise nat_eq (start_word y) w ≡ b → cond b (Some y) (first_named start_word xs w) ≡ Some x → (first_named start_word xs w ≡ Some x → first_named start_word ys w ≡ None) → first_named start_word ys w ≡ None
    go true g f more = subst (λ (z : List ℕ). first_named start_word ys z ≡ None) ((bytes_decides (start_word y) w).0 g) (nothing (first_named start_word ys (start_word y)) (and_parts _ _ a).0)
    go false g f more = more f

not_both : (a b : WordStart) → is_operation a ≡ true → is_operation b ≡ false → start_word a ≢ start_word b
not_both a b p q e =
    let none : first_named start_word others (start_word a) ≡ None = apart operations others (start_word a) a refl (operation_again a p) in
    let some : first_named start_word others (start_word a) ≡ Some b = ap (first_named start_word others) e ∙ other_again b q in
    absurd cc

pub one_start : (a b : WordStart) → start_word a ≡ start_word b → a ≡ b
one_start a b e = go (is_operation a) (is_operation b) refl refl
  where
    go : (p q : Bool) → is_operation a ≡ p → is_operation b ≡ q → a ≡ b
    go true true f g = let same : Some a ≡ Some b = sym (operation_again a f) ∙ (ap (first_named start_word operations) e ∙ operation_again b g) in cc
    go false false f g = let same : Some a ≡ Some b = sym (other_again a f) ∙ (ap (first_named start_word others) e ∙ other_again b g) in cc
    go true false f g = absurd (not_both a b f g e)
    go false true f g = absurd (not_both b a g f (sym e))

pub no_start : (w : List ℕ) → ((x : WordStart) → w ≢ start_word x) → (m : Mnemonic) → w ≢ word_of m
no_start w f m = f (starts.Mnemonic m)

pub no_repeat : (w : List ℕ) (x : Prefix) (m : Mnemonic) → w ≡ prefix_word x → w ≢ word_of m
no_repeat w x m e f = let g : starts.Repeat x ≡ starts.Mnemonic m = one_start (starts.Repeat x) (starts.Mnemonic m) (sym e ∙ f) in absurd cc

pub no_directive : (w : List ℕ) (x : Directive) (m : Mnemonic) → w ≡ directive_word x → w ≢ word_of m
no_directive w x m e f = let g : starts.Directive x ≡ starts.Mnemonic m = one_start (starts.Directive x) (starts.Mnemonic m) (sym e ∙ f) in absurd cc

-- ---- registers and size words

abbrev pub two_words : Size × Register → List ℕ
two_words p = register_word p.0 p.1

unfoldable pub all_registers : List (Size × Register)
all_registers =
    (size.Byte, register.Esp) ∷ (size.Byte, register.Eax) ∷ (size.Word, register.Eax) ∷ (size.Byte, register.Edi) ∷ (size.Byte, register.Ebx) ∷ (size.Word, register.Ebp) ∷ (size.Word, register.Ebx) ∷ (size.Byte, register.Ebp) ∷ (size.Byte, register.Ecx) ∷ (size.Word, register.Ecx) ∷ (size.Byte, register.Esi) ∷ (size.Word, register.Edi) ∷ (size.Byte, register.Edx) ∷ (size.Word, register.Edx) ∷ (size.Dword, register.Eax) ∷ (size.Dword, register.Ebp) ∷ (size.Dword, register.Ebx) ∷ (size.Dword, register.Ecx) ∷ (size.Dword, register.Edi) ∷ (size.Dword, register.Edx) ∷ (size.Dword, register.Esi) ∷ (size.Dword, register.Esp) ∷ (size.Word, register.Esi) ∷ (size.Word, register.Esp) ∷ []

register_again : (s : Size) (r : Register) → first_named two_words all_registers (register_word s r) ≡ Some (s, r)
unfolding all_registers
register_again size.Byte register.Eax = refl
register_again size.Byte _ = refl
register_again size.Word register.Eax = refl
register_again size.Word _ = refl
register_again size.Dword register.Eax = refl
register_again size.Dword _ = refl

pub register_found : (w : List ℕ) (r : Option (Size × Register)) → r ≡ first_named two_words all_registers w → MatchOption r ((s : Size) (q : Register) → w ≢ register_word s q) (λ p. w ≡ register_word p.0 p.1)
register_found w (Some x) e = named two_words all_registers w x (sym e)
register_found w None e = λ s q g. let h : first_named two_words all_registers w ≡ Some (s, q) = ap (first_named two_words all_registers) g ∙ register_again s q in absurd cc

size_in : Option (Size × Register) → Size
size_in None = size.Byte
size_in (Some p) = p.0

register_in : Option (Size × Register) → Register
register_in None = register.Eax
register_in (Some p) = p.1

pub one_register : (s z : Size) (r q : Register) → register_word s r ≡ register_word z q → (s ≡ z) × (r ≡ q)
unfolding size_in register_in
one_register s z r q e =
    let same : Some (s, r) ≡ Some (z, q) = sym (register_again s r) ∙ (ap (first_named two_words all_registers) e ∙ register_again z q) in
    (ap size_in same, ap register_in same)

unfoldable pub all_sizes : List Size
all_sizes = size.Byte ∷ size.Dword ∷ size.Word ∷ []

size_again : (s : Size) → first_named size_word all_sizes (size_word s) ≡ Some s
unfolding all_sizes
size_again size.Byte = refl
size_again _ = refl

pub size_found : (w : List ℕ) (r : Option Size) → r ≡ first_named size_word all_sizes w → MatchOption r ((s : Size) → w ≢ size_word s) (λ s. w ≡ size_word s)
size_found w (Some x) e = named size_word all_sizes w x (sym e)
size_found w None e = λ s g. let h : first_named size_word all_sizes w ≡ Some s = ap (first_named size_word all_sizes) g ∙ size_again s in absurd cc

pub one_size : (s z : Size) → size_word s ≡ size_word z → s ≡ z
one_size s z e = let f : first_named size_word all_sizes (size_word s) ≡ first_named size_word all_sizes (size_word z) = ap (first_named size_word all_sizes) e in cc (size_again s, size_again z)

register_is_not : (s : Size) (r : Register) → first_named size_word all_sizes (register_word s r) ≡ None
unfolding all_sizes
register_is_not size.Byte register.Eax = refl
register_is_not size.Byte _ = refl
register_is_not size.Word register.Eax = refl
register_is_not size.Word _ = refl
register_is_not size.Dword register.Eax = refl
register_is_not size.Dword _ = refl

pub register_or_size : (s z : Size) (r : Register) → register_word s r ≡ size_word z → ⊥
register_or_size s z r e = let f : first_named size_word all_sizes (register_word s r) ≡ first_named size_word all_sizes (size_word z) = ap (first_named size_word all_sizes) e in absurd (cc (register_is_not s r, size_again z))
