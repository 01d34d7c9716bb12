-- A line that says nothing has a fault.
use Rattle.std.proofs.Common.{◌≡◌, ◌≢◌, ℕ, ◌⊎◌, inl, inr, true, false, List, [], ◌∷◌, Option, Some, None, refl}
use Rattle.std.specs.Prelude.{◌==◌, slice_index}
use Rattle.std.proofs.lemmas.Bool.Decides.{eqb_tells}
use Rattle.mx_word.specs.declared.size.Size.{Size}
use Rattle.mx_word.specs.declared.names.Register.{Register}
use Rattle.mx_text.specs.declared.names.Name.{Name}
use Rattle.mx_text.specs.Names.{name_of}
use Rattle.mx_lex.specs.declared.kinds.TokenKind.{TokenKind}
use Rattle.mx_lex.specs.declared.kinds.TokenKind.TheVariants as kinds
use Rattle.mx_lex.specs.declared.kinds.Token.{Token}
use Rattle.mx_lex.specs.declared.kinds.LexError.{LexError}
use Rattle.mx_lex.specs.Tokens.{IsReadAs, IsLexFault}
use Rattle.mx_insn_words.specs.Words.{word_of, start_word}
use Rattle.mx_insn_words.specs.Registers.{register_word, size_word}
use Rattle.mx_insn_words.specs.declared.mnemonic.Mnemonic.{Mnemonic}
use Rattle.mx_insn_words.specs.declared.start.WordStart.{WordStart}
use Rattle.mx_asm_statement.specs.declared.item.Item.{Item}
use Rattle.mx_asm_statement.specs.declared.item.Item.TheVariants as items
use Rattle.mx_asm_statement.specs.declared.line.Line.{Line}
use Rattle.mx_asm_statement.specs.declared.opening.LineStart.{LineStart}
use Rattle.mx_asm_statement.specs.declared.opening.LineStart.TheVariants as begun
use Rattle.mx_asm_statement.specs.Sorting.{token_bytes, IsOrdinary, IsWordItem, IsKindItem, AreItems}
use Rattle.mx_asm_statement.specs.Opening.{IsWord, IsLabelItem, Begins, NamesMnemonic, label_of, after_label, after_first}
use Rattle.mx_asm_statement.specs.LineStatements.{text_alone}
use Rattle.mx_asm_statement.specs.Lines.{line_of_items, SaysLine, IsLine}

-- where anything that is shown absurd may rest on a case and its contrary
by_cases : (A : Type 0) → ((A ⊎ (A → ⊥)) → ⊥) → ⊥
by_cases A k = k (inr (λ a. k (inl a)))

-- ---- a token is some item

ordinary_item : (w : List ℕ) → IsOrdinary w → ((x : Item) → IsWordItem w x → ⊥) → ⊥
ordinary_item w plain k = by_dot (eqb_tells (slice_index w 0) 46)
  where
    by_name : (o : Option Name) → name_of w ≡ o → slice_index w 0 ≢ 46 → ⊥
    by_name None e dot = k items.Long (plain, dot, e)
    by_name (Some n) e dot = k (items.Name n) (plain, dot, e)

    by_dot : (((slice_index w 0 == 46) ≡ true) × (slice_index w 0 ≡ 46)) ⊎ (((slice_index w 0 == 46) ≡ false) × (slice_index w 0 ≢ 46)) → ⊥
    by_dot (inl p) = k items.Other (plain, p.1)
    by_dot (inr p) = by_name (name_of w) refl p.1

word_item : (w : List ℕ) → ((x : Item) → IsWordItem w x → ⊥) → ⊥
word_item w k = by_cases ((s : Size) × (r : Register) × (w ≡ register_word s r)) by_register
  where
    by_size : ((s : Size) (r : Register) → w ≢ register_word s r) → (((s : Size) × (w ≡ size_word s)) ⊎ (((s : Size) × (w ≡ size_word s)) → ⊥)) → ⊥
    by_size registers (inl (s, e)) = k (items.Size s) e
    by_size registers (inr never) = ordinary_item w (registers, λ s e. never (s, e)) k

    by_register : (((s : Size) × (r : Register) × (w ≡ register_word s r)) ⊎ (((s : Size) × (r : Register) × (w ≡ register_word s r)) → ⊥)) → ⊥
    by_register (inl (s, r, e)) = k (items.Register s r) e
    by_register (inr never) = by_cases ((s : Size) × (w ≡ size_word s)) (by_size (λ s r e. never (s, r, e)))

kind_item : (w : List ℕ) (kind : TokenKind) → ((x : Item) → IsKindItem w kind x → ⊥) → ⊥
kind_item w (kinds.Punctuation m) k = k (items.Punctuation m) refl
kind_item w (kinds.Number n) k = k (items.Number n) refl
kind_item w kinds.Word k = word_item w k
kind_item w kinds.Text k = k items.Other refl
kind_item w kinds.LineFeed k = k items.Other refl

some_items : (t : List ℕ) (ks : List Token) → ((xs : List Item) → AreItems t ks xs → ⊥) → ⊥
some_items t [] k = k [] tt
some_items t (j ∷ js) k = kind_item (token_bytes t j) j.kind (λ x h. some_items t js (λ xs hs. k (x ∷ xs) (h, hs)))

some_label : (t : List ℕ) (o : Option Token) → ((x : Option Item) → IsLabelItem t o x → ⊥) → ⊥
some_label t None k = k None tt
some_label t (Some j) k = kind_item (token_bytes t j) j.kind (λ x h. k (Some x) h)

-- ---- the first words

some_start : (t : List ℕ) (ks : List Token) → ((b : LineStart) → Begins t ks b → ⊥) → ⊥
some_start t [] k = k begun.Nothing refl
some_start t (j ∷ js) k = by_cases ((s : WordStart) × IsWord t j (start_word s)) by_word
  where
    by_word : (((s : WordStart) × IsWord t j (start_word s)) ⊎ (((s : WordStart) × IsWord t j (start_word s)) → ⊥)) → ⊥
    by_word (inl (s, h)) = k (begun.Known s) h
    by_word (inr never) = k begun.Unknown (λ s h. never (s, h))

some_mnemonic : (t : List ℕ) (ks : List Token) → ((m : Option Mnemonic) → NamesMnemonic t ks m → ⊥) → ⊥
some_mnemonic t [] k = k None refl
some_mnemonic t (j ∷ js) k = by_cases ((m : Mnemonic) × IsWord t j (word_of m)) by_word
  where
    by_word : (((m : Mnemonic) × IsWord t j (word_of m)) ⊎ (((m : Mnemonic) × IsWord t j (word_of m)) → ⊥)) → ⊥
    by_word (inl (m, h)) = k (Some m) h
    by_word (inr never) = k None (λ m h. never (m, h))

-- ---- the line

abbrev pub NeverNeither : Type 0
NeverNeither = (t : List ℕ) → ((ks : List Token) → IsReadAs t ks → ⊥) → ((e : LexError) → IsLexFault t e → ⊥) → ⊥

says_something : (t : List ℕ) (ks : List Token) → ((l : Line) → SaysLine t ks l → ⊥) → ⊥
says_something t ks k =
    let rest = after_label t ks in
    some_label t (label_of t ks) (λ label is_label.
    some_start t rest (λ start begins.
    some_mnemonic t (after_first rest) (λ second names.
    some_items t (after_first rest) (λ xs are_items.
    k (line_of_items label start second (text_alone t (after_first rest)) xs) (record {
      label_item = label;
      is_label = is_label;
      start = start;
      begins = begins;
      second = second;
      names = names;
      rest = xs;
      are_items = are_items;
      is_line = refl;
    })))))

pub neither : NeverNeither → (t : List ℕ) → ((l : Line) → IsLine t l → ⊥) → ((e : LexError) → IsLexFault t e → ⊥) → ⊥
neither law t no_line no_fault = law t (λ ks reading. says_something t ks (λ l says. no_line l (ks, reading, says))) no_fault

abbrev pub NeverBoth : Type 0
NeverBoth = (t : List ℕ) (ks : List Token) (e : LexError) → IsReadAs t ks → IsLexFault t e → ⊥

pub not_both : NeverBoth → (t : List ℕ) (l : Line) (e : LexError) → IsLine t l → IsLexFault t e → ⊥
not_both law t l e (ks, reading, says) fault = law t ks e reading fault
