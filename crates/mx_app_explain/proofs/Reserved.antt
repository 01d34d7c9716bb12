-- Registers and sizes are the words that are reserved.
use Rattle.std.proofs.Common.{◌≡◌, ◌≢◌, ◌∙◌, ℕ, Bool, true, false, List, [], ◌∷◌, Option, Some, None, is_some, refl, ap, sym}
use Rattle.std.specs.Prelude.{◌||◌, MatchOption}
use Rattle.std.specs.List.{AllByRecursion, list_any}
use Rattle.std.specs.Str.{bytes_eq}
use Rattle.std.proofs.lemmas.Slice.Eq.{bytes_eq-Decides}
use Rattle.mx_word.specs.declared.size.Size.{Size}
use Rattle.mx_word.specs.declared.size.Size.TheVariants.{Byte, Word, Dword}
use Rattle.mx_word.specs.declared.names.Register.{Register}
use Rattle.mx_word.specs.declared.names.Register.TheVariants.{Eax, Ecx, Edx, Ebx, Esp, Ebp, Esi, Edi}
use Rattle.mx_insn_words.specs.Registers.{register_word, size_word}
use Rattle.mx_app_explain.specs.TextWords.{is_reserved, reserved_words}

pub register_reserved : (w : List ℕ) (s : Size) (r : Register) → w ≡ register_word s r → is_reserved w ≡ true
register_reserved w s r e = ap is_reserved e ∙ at s r
  where
    at : (s : Size) (r : Register) → is_reserved (register_word s r) ≡ true
    at Byte Eax = refl
    at Byte Ecx = refl
    at Byte Edx = refl
    at Byte Ebx = refl
    at Byte Esp = refl
    at Byte Ebp = refl
    at Byte Esi = refl
    at Byte Edi = refl
    at Word Eax = refl
    at Word Ecx = refl
    at Word Edx = refl
    at Word Ebx = refl
    at Word Esp = refl
    at Word Ebp = refl
    at Word Esi = refl
    at Word Edi = refl
    at Dword Eax = refl
    at Dword Ecx = refl
    at Dword Edx = refl
    at Dword Ebx = refl
    at Dword Esp = refl
    at Dword Ebp = refl
    at Dword Esi = refl
    at Dword Edi = refl

pub size_reserved : (w : List ℕ) (s : Size) → w ≡ size_word s → is_reserved w ≡ true
size_reserved w s e = ap is_reserved e ∙ at s
  where
    at : (s : Size) → is_reserved (size_word s) ≡ true
    at Byte = refl
    at Word = refl
    at Dword = refl

-- a word that is none of a list's
none_of : (w : List ℕ) (xs : List (List ℕ)) → AllByRecursion (λ x. w ≡ x → ⊥) xs → list_any (bytes_eq w) xs ≡ false
none_of w [] h = refl
none_of w (x ∷ xs) h = by (bytes_eq w x) refl (none_of w xs h.1)
  where
    by : (b : Bool) → bytes_eq w x ≡ b → list_any (bytes_eq w) xs ≡ false → list_any (bytes_eq w) (x ∷ xs) ≡ false
    by true e rest = absurd (h.0 ((bytes_eq-Decides w x).0 e))
    by false e rest = ap (λ (b : Bool). b || list_any (bytes_eq w) xs) e ∙ rest

pub not_reserved : (w : List ℕ) → ((s : Size) (r : Register) → w ≡ register_word s r → ⊥) → ((s : Size) → w ≡ size_word s → ⊥) → is_reserved w ≡ false
not_reserved w no_register no_size = none_of w reserved_words
    (no_register Byte Eax, (no_register Byte Ecx, (no_register Byte Edx, (no_register Byte Ebx, (no_register Byte Esp, (no_register Byte Ebp, (no_register Byte Esi, (no_register Byte Edi, (no_register Word Eax, (no_register Word Ecx, (no_register Word Edx, (no_register Word Ebx, (no_register Word Esp, (no_register Word Ebp, (no_register Word Esi, (no_register Word Edi, (no_register Dword Eax, (no_register Dword Ecx, (no_register Dword Edx, (no_register Dword Ebx, (no_register Dword Esp, (no_register Dword Ebp, (no_register Dword Esi, (no_register Dword Edi, (no_size Byte, (no_size Word, (no_size Dword, tt)))))))))))))))))))))))))))

-- by what the tables of registers and sizes have
pub reserved_by : (w : List ℕ) (r : Option (Size × Register)) (s : Option Size) → MatchOption r ((z : Size) (n : Register) → w ≢ register_word z n) (λ p. w ≡ register_word p.0 p.1)
    → MatchOption s ((z : Size) → w ≢ size_word z) (λ z. w ≡ size_word z) → (is_some r || is_some s) ≡ is_reserved w
reserved_by w (Some p) s h k = sym (register_reserved w p.0 p.1 h)
reserved_by w None (Some z) h k = sym (size_reserved w z k)
reserved_by w None None h k = sym (not_reserved w h k)
