-- A line says one thing.
use Rattle.std.proofs.Common.{◌≡◌, ℕ, List, [], ◌∷◌, Option, Some, None, refl, sym, ap, ◌∙◌, subst}
use Rattle.mx_word.specs.declared.size.Size.{Size}
use Rattle.mx_word.specs.declared.names.Register.{Register}
use Rattle.mx_text.specs.declared.names.Name.{Name}
use Rattle.mx_text.specs.Names.{name_of}
use Rattle.mx_lex.specs.declared.kinds.TokenKind.{TokenKind}
use Rattle.mx_lex.specs.declared.kinds.TokenKind.TheVariants as kinds
use Rattle.mx_lex.specs.declared.kinds.Token.{Token}
use Rattle.mx_lex.specs.Tokens.{IsReadAs}
use Rattle.mx_insn_words.specs.Words.{word_of, start_word}
use Rattle.mx_insn_words.specs.Registers.{register_word, size_word}
use Rattle.mx_insn_words.specs.declared.mnemonic.Mnemonic.{Mnemonic}
use Rattle.mx_insn_words.specs.declared.start.WordStart.{WordStart}
use Rattle.mx_insn_words.specs.declared.start.WordStart.TheVariants as starts
use Rattle.mx_asm_statement.specs.declared.item.Item.{Item}
use Rattle.mx_asm_statement.specs.declared.item.Item.TheVariants as items
use Rattle.mx_asm_statement.specs.declared.line.Line.{Line}
use Rattle.mx_asm_statement.specs.declared.opening.LineStart.{LineStart}
use Rattle.mx_asm_statement.specs.declared.opening.LineStart.TheVariants as begun
use Rattle.mx_asm_statement.specs.Sorting.{token_bytes, IsWordItem, IsKindItem, IsItem, AreItems}
use Rattle.mx_asm_statement.specs.Opening.{IsLabelItem, Begins, NamesMnemonic, label_of, after_label, after_first}
use Rattle.mx_asm_statement.specs.LineStatements.{text_alone}
use Rattle.mx_asm_statement.specs.Lines.{line_of_items, SaysLine, IsLine}

-- what is known of the table of words
pub record Table : Type 0 where
  pub start : (a b : WordStart) → start_word a ≡ start_word b → a ≡ b
  pub register : (s z : Size) (r q : Register) → register_word s r ≡ register_word z q → (s ≡ z) × (r ≡ q)
  pub size : (s z : Size) → size_word s ≡ size_word z → s ≡ z
  pub not_both : (s z : Size) (r : Register) → register_word s r ≡ size_word z → ⊥

same_name : (o : Option Name) (n m : Name) → o ≡ Some n → o ≡ Some m → items.Name n ≡ items.Name m
same_name o n m e f = ap items.Name (some_is n m (sym e ∙ f))
  where
    some_is : (n m : Name) → Some n ≡ Some m → n ≡ m
    some_is n m e = cc

not_some : (o : Option Name) (n : Name) → o ≡ Some n → o ≡ None → ⊥
not_some o n e f = none_is n (sym e ∙ f)
  where
    none_is : (n : Name) → Some n ≡ None → ⊥
    none_is n e = cc

one_word_item : Table → (w : List ℕ) (x y : Item) → IsWordItem w x → IsWordItem w y → x ≡ y
one_word_item table w (items.Register s r) (items.Register z q) e f =
    let same = table.register s z r q (sym e ∙ f) in ap (λ a. items.Register a r) same.0 ∙ ap (λ a. items.Register z a) same.1
one_word_item table w (items.Register s r) (items.Size z) e f = absurd (table.not_both s z r (sym e ∙ f))
one_word_item table w (items.Register s r) (items.Name m) e f = absurd (f.0.0 s r e)
one_word_item table w (items.Register s r) items.Long e f = absurd (f.0.0 s r e)
one_word_item table w (items.Register s r) items.Other e f = absurd (f.0.0 s r e)
one_word_item table w (items.Size s) (items.Register z q) e f = absurd (table.not_both z s q (sym f ∙ e))
one_word_item table w (items.Size s) (items.Size z) e f = ap items.Size (table.size s z (sym e ∙ f))
one_word_item table w (items.Size s) (items.Name m) e f = absurd (f.0.1 s e)
one_word_item table w (items.Size s) items.Long e f = absurd (f.0.1 s e)
one_word_item table w (items.Size s) items.Other e f = absurd (f.0.1 s e)
one_word_item table w (items.Name n) (items.Register z q) e f = absurd (e.0.0 z q f)
one_word_item table w (items.Name n) (items.Size z) e f = absurd (e.0.1 z f)
one_word_item table w (items.Name n) (items.Name m) e f = same_name (name_of w) n m e.2 f.2
one_word_item table w (items.Name n) items.Long e f = absurd (not_some (name_of w) n e.2 f.2)
one_word_item table w (items.Name n) items.Other e f = absurd (e.1 f.1)
one_word_item table w items.Long (items.Register z q) e f = absurd (e.0.0 z q f)
one_word_item table w items.Long (items.Size z) e f = absurd (e.0.1 z f)
one_word_item table w items.Long (items.Name m) e f = absurd (not_some (name_of w) m f.2 e.2)
one_word_item table w items.Long items.Long e f = refl
one_word_item table w items.Long items.Other e f = absurd (e.1 f.1)
one_word_item table w items.Other (items.Register z q) e f = absurd (e.0.0 z q f)
one_word_item table w items.Other (items.Size z) e f = absurd (e.0.1 z f)
one_word_item table w items.Other (items.Name m) e f = absurd (f.1 e.1)
one_word_item table w items.Other items.Long e f = absurd (f.1 e.1)
one_word_item table w items.Other items.Other e f = refl
one_word_item table w (items.Punctuation m) y e f = absurd e
one_word_item table w (items.Number n) y e f = absurd e
one_word_item table w x (items.Punctuation m) e f = absurd f
one_word_item table w x (items.Number n) e f = absurd f

one_kind_item : Table → (w : List ℕ) (kind : TokenKind) (x y : Item) → IsKindItem w kind x → IsKindItem w kind y → x ≡ y
one_kind_item table w (kinds.Punctuation m) x y e f = e ∙ sym f
one_kind_item table w (kinds.Number n) x y e f = e ∙ sym f
one_kind_item table w kinds.Word x y e f = one_word_item table w x y e f
one_kind_item table w kinds.Text x y e f = e ∙ sym f
one_kind_item table w kinds.LineFeed x y e f = e ∙ sym f

one_item : Table → (t : List ℕ) (k : Token) (x y : Item) → IsItem t k x → IsItem t k y → x ≡ y
one_item table t k x y e f = one_kind_item table (token_bytes t k) k.kind x y e f

one_list : Table → (t : List ℕ) (ks : List Token) (xs ys : List Item) → AreItems t ks xs → AreItems t ks ys → xs ≡ ys
one_list table t [] [] [] e f = refl
one_list table t [] [] (y ∷ ys) e f = absurd f
one_list table t [] (x ∷ xs) ys e f = absurd e
one_list table t (k ∷ ks) [] ys e f = absurd e
one_list table t (k ∷ ks) (x ∷ xs) [] e f = absurd f
one_list table t (k ∷ ks) (x ∷ xs) (y ∷ ys) e f =
    ap (λ z. z ∷ xs) (one_item table t k x y e.0 f.0) ∙ ap (λ zs. y ∷ zs) (one_list table t ks xs ys e.1 f.1)

one_label : Table → (t : List ℕ) (o : Option Token) (a b : Option Item) → IsLabelItem t o a → IsLabelItem t o b → a ≡ b
one_label table t None None None e f = refl
one_label table t None None (Some y) e f = absurd f
one_label table t None (Some x) b e f = absurd e
one_label table t (Some k) None b e f = absurd e
one_label table t (Some k) (Some x) None e f = absurd f
one_label table t (Some k) (Some x) (Some y) e f = ap Some (one_item table t k x y e f)

one_begun : Table → (t : List ℕ) (ks : List Token) (a b : LineStart) → Begins t ks a → Begins t ks b → a ≡ b
one_begun table t [] a b e f = e ∙ sym f
one_begun table t (k ∷ ks) begun.Nothing b e f = absurd e
one_begun table t (k ∷ ks) begun.Unknown begun.Nothing e f = absurd f
one_begun table t (k ∷ ks) begun.Unknown begun.Unknown e f = refl
one_begun table t (k ∷ ks) begun.Unknown (begun.Known z) e f = absurd (e z f)
one_begun table t (k ∷ ks) (begun.Known s) begun.Nothing e f = absurd f
one_begun table t (k ∷ ks) (begun.Known s) begun.Unknown e f = absurd (f s e)
one_begun table t (k ∷ ks) (begun.Known s) (begun.Known z) e f = ap begun.Known (table.start s z (sym e.1 ∙ f.1))

one_mnemonic : Table → (m n : Mnemonic) → word_of m ≡ word_of n → m ≡ n
one_mnemonic table m n e = same m n (table.start (starts.Mnemonic m) (starts.Mnemonic n) e)
  where
    same : (m n : Mnemonic) → starts.Mnemonic m ≡ starts.Mnemonic n → m ≡ n
    same m n e = cc

one_second : Table → (t : List ℕ) (ks : List Token) (a b : Option Mnemonic) → NamesMnemonic t ks a → NamesMnemonic t ks b → a ≡ b
one_second table t [] a b e f = e ∙ sym f
one_second table t (k ∷ ks) None None e f = refl
one_second table t (k ∷ ks) None (Some n) e f = absurd (e n f)
one_second table t (k ∷ ks) (Some m) None e f = absurd (f m e)
one_second table t (k ∷ ks) (Some m) (Some n) e f = ap Some (one_mnemonic table m n (sym e.1 ∙ f.1))

one_said : Table → (t : List ℕ) (ks : List Token) (a b : Line) → SaysLine t ks a → SaysLine t ks b → a ≡ b
one_said table t ks a b x y =
    let text = text_alone t (after_first (after_label t ks)) in
    x.is_line
    ∙ (ap (λ l. line_of_items l x.start x.second text x.rest) (one_label table t (label_of t ks) x.label_item y.label_item x.is_label y.is_label)
    ∙ (ap (λ s. line_of_items y.label_item s x.second text x.rest) (one_begun table t (after_label t ks) x.start y.start x.begins y.begins)
    ∙ (ap (λ m. line_of_items y.label_item y.start m text x.rest) (one_second table t (after_first (after_label t ks)) x.second y.second x.names y.names)
    ∙ (ap (λ r. line_of_items y.label_item y.start y.second text r) (one_list table t (after_first (after_label t ks)) x.rest y.rest x.are_items y.are_items)
    ∙ sym y.is_line))))

pub one_line : Table → ((t : List ℕ) (ks js : List Token) → IsReadAs t ks → IsReadAs t js → ks ≡ js) → (t : List ℕ) (a b : Line) → IsLine t a → IsLine t b → a ≡ b
one_line table reading t a b (ks, r, x) (js, q, y) =
    one_said table t js a b (subst (λ zs. SaysLine t zs a) (reading t ks js r q) x) y
