-- The bytes that are written of a program are a file of it.
use Rattle.std.proofs.Common.{◌≡◌, ◌<◌, ◌≤◌, ◌+◌, ◌*◌, ◌/◌, ◌%◌, ℕ, Bool, true, false, not, ◌||◌, ◌==◌, List, [], ◌∷◌, ◌++◌, length, length-append, take, drop, ap, sym, ◌∙◌, refl, arith, append_assoc, None}
use Rattle.std.specs.Prelude.{bit_and, nat_lt}
use Rattle.std.specs.List.{AllByRecursion, flat_map}
use Rattle.std.proofs.lemmas.Bool.{le-ltb, ne_eqb}
use Rattle.std.proofs.lemmas.List.{take_at, drop_at}
use Rattle.mx_aout.specs.Limits.{IsWithin, rounded_to_pages, used_of}
use Rattle.mx_aout.specs.declared.file.Header.{Header}
use Rattle.mx_aout.specs.declared.program.Program.{Program}
use Rattle.mx_aout.specs.declared.program.FileError.{FileError}
use Rattle.mx_aout.specs.declared.program.FileError.TheVariants.{Truncated, BadMagic, BadCpu, BadFlags, BadHeader, NoTotal, TooLarge, BadSymbols}
use Rattle.mx_aout.specs.File.{FileIs, first_file_error, header_of, init_at, reasons_of_sizes, refusal_of, size_reasons, symbols_at, symbols_from}
use Rattle.mx_aout.specs.Written.{flags_of, short_file, short_header, symbol_bytes}
use Rattle.mx_aout.proofs.WrittenSymbols.{IsKept, symbols_again, symbols_length}

-- the four bytes of a number have it
dword_again : (n : ℕ) → n < 4294967296 → n % 256 + 256 * (n / 256 % 256 + 256 * (n / 256 / 256 % 256 + 256 * (n / 256 / 256 / 256 % 256 + 256 * 0))) ≡ n
dword_again n lt = omega arith

sep_again : (sep : Bool) → (flags_of sep / 32 % 2 == 1) ≡ sep
sep_again true = refl
sep_again false = refl

flags_pass : (sep : Bool) → not (bit_and (flags_of sep) 0xCB == 0) ≡ false
flags_pass true = refl
flags_pass false = refl

-- what the header says
abbrev fields : Bool → ℕ → ℕ → ℕ → ℕ → ℕ → ℕ → Header
fields sep text init bss entry total symbols = record {
  length = 32;
  sep = sep;
  text = text;
  init = init;
  bss = bss;
  entry = entry;
  total = total;
  symbols = symbols;
  text_relocations = 0;
  init_relocations = 0;
}

abbrev fields_of : Program → Header
fields_of p = fields p.sep (length p.text) (length p.init) p.bss p.entry p.total (length p.symbols * 16)

same_fields : (a b : Bool) (t u i j s r e f n m k l : ℕ) → a ≡ b → t ≡ u → i ≡ j → s ≡ r → e ≡ f → n ≡ m → k ≡ l
    → fields a t i s e n k ≡ fields b u j r f m l
same_fields a b t u i j s r e f n m k l x1 x2 x3 x4 x5 x6 x7 = cc

passes : (a b : Bool) (rest : List (Bool × FileError)) → a ≡ false → b ≡ false → first_file_error rest ≡ None
    → first_file_error ((a, Truncated) ∷ (false, BadMagic) ∷ (false, BadCpu) ∷ (b, BadFlags) ∷ (false, BadHeader) ∷ (false, Truncated) ∷ rest) ≡ None
passes true b rest e f g = cc
passes false true rest e f g = cc
passes false false rest e f g = g

four_pass : (a b c d : Bool) → a ≡ false → b ≡ false → c ≡ false → d ≡ false
    → first_file_error ((a, NoTotal) ∷ (b, TooLarge) ∷ (c, BadSymbols) ∷ (d, Truncated) ∷ []) ≡ None
four_pass true b c d e f g h = cc
four_pass false true c d e f g h = cc
four_pass false false true d e f g h = cc
four_pass false false false true e f g h = cc
four_pass false false false false e f g h = refl

none_of_four : (a b c d : Bool) → a ≡ false → b ≡ false → c ≡ false → d ≡ false → (a || b || c || d) ≡ false
none_of_four true b c d e f g h = cc
none_of_four false true c d e f g h = cc
none_of_four false false true d e f g h = cc
none_of_four false false false true e f g h = cc
none_of_four false false false false e f g h = refl

is_not : (b : Bool) → b ≡ true → not b ≡ false
is_not true e = refl
is_not false e = cc

used : (sep : Bool) (t i b n : ℕ) → used_of sep t i b ≤ n → (i ≤ n) × (b ≤ n)
used true t i b n le = (omega arith, omega arith)
used false t i b n le = (omega arith, omega arith)

module _ (p : Program) (within : IsWithin p.sep p.total (length p.text) (length p.init) p.bss (length p.symbols)) (entry : p.entry < 4294967296) (kept : AllByRecursion IsKept p.symbols) where
  abbrev b : List ℕ
  b = short_file p

  abbrev behind : List ℕ
  behind = flat_map symbol_bytes p.symbols

  header_again : header_of b ≡ fields_of p
  header_again =
      let parts = used p.sep (length p.text) (length p.init) p.bss (rounded_to_pages p.total) within.4 in
      same_fields _ _ _ _ _ _ _ _ _ _ _ _ _ _
      (sep_again p.sep)
      (dword_again (length p.text) (omega arith))
      (dword_again (length p.init) (omega (arith, parts.0)))
      (dword_again p.bss (omega (arith, parts.1)))
      (dword_again p.entry entry)
      (dword_again p.total (omega arith))
      (dword_again (length p.symbols * 16) (omega arith))

  long : length b ≡ 32 + length p.text + length p.init + length p.symbols * 16
  long = omega (arith, length-append (p.text ++ p.init) behind, length-append p.text p.init, symbols_length p.symbols kept)

  fits : first_file_error (reasons_of_sizes (fields_of p) (length b)) ≡ None
  fits =
      four_pass _ _ _ _
      (ne_eqb p.total 0 (λ e. omega arith))
      (none_of_four _ _ _ _
      (le-ltb 1048576 (length p.text) (omega arith))
      (le-ltb 262144 (length p.symbols * 16) (omega arith))
      (le-ltb 4194304 (rounded_to_pages p.total) within.3)
      (le-ltb (rounded_to_pages p.total) (used_of p.sep (length p.text) (length p.init) p.bss) within.4))
      (is_not _ (let e : length p.symbols * 16 % 16 ≡ 0 = omega arith in rw e refl))
      (le-ltb (length b) (symbols_at (fields_of p) + length p.symbols * 16) (omega (arith, long)))

  sizes : first_file_error (size_reasons b) ≡ None
  sizes = ap (λ (h : Header). first_file_error (reasons_of_sizes h (length b))) header_again ∙ fits

  accepted : refusal_of b ≡ None
  accepted = passes (nat_lt (length b) 32) (not (bit_and (flags_of p.sep) 0xCB == 0)) (size_reasons b) (le-ltb (length b) 32 (omega (arith, long))) (flags_pass p.sep) sizes

  text_there : take (length p.text) (drop 32 b) ≡ p.text
  text_there = ap (take (length p.text)) (append_assoc p.text p.init behind) ∙ take_at p.text (p.init ++ behind) (length p.text) refl

  init_there : take (length p.init) (drop (32 + length p.text) b) ≡ p.init
  init_there =
      let front : List ℕ = short_header p ++ p.text in
      let front_long : length front ≡ 32 + length p.text = omega arith in
      ap (λ (x : List ℕ). take (length p.init) (drop (32 + length p.text) x)) (append_assoc front p.init behind)
      ∙ ap (take (length p.init)) (drop_at front (p.init ++ behind) (32 + length p.text) front_long)
      ∙ take_at p.init behind (length p.init) refl

  symbols_there : symbols_from b (symbols_at (fields_of p)) (length p.symbols * 16 / 16) ≡ p.symbols
  symbols_there =
      let front : List ℕ = short_header p ++ p.text ++ p.init in
      let place : symbols_at (fields_of p) ≡ length front = omega (arith, length-append p.text p.init) in
      let count : length p.symbols * 16 / 16 ≡ length p.symbols = omega arith in
      ap (symbols_from b (symbols_at (fields_of p))) count ∙ symbols_again p.symbols front (symbols_at (fields_of p)) place kept

  pub file_of_written : FileIs b p
  file_of_written = record {
    accepted = accepted;
    sep = sym (ap (λ (h : Header). h.sep) header_again);
    entry = sym (ap (λ (h : Header). h.entry) header_again);
    total = sym (ap (λ (h : Header). h.total) header_again);
    text = sym (ap (λ (h : Header). take h.text (drop h.length b)) header_again ∙ text_there);
    init = sym (ap (λ (h : Header). take h.init (drop (init_at h) b)) header_again ∙ init_there);
    bss = sym (ap (λ (h : Header). h.bss) header_again);
    symbols = sym (ap (λ (h : Header). symbols_from b (symbols_at h) (h.symbols / 16)) header_again ∙ symbols_there);
  }
