-- Lines that are read, one more at a time.
use Rattle.std.proofs.Common.{◌≡◌, ◌≢◌, ◌∙◌, ◌⊎◌, ◌<◌, ℕ, zero, false, nat_le, All, leb-false, length-append, suc, ◌+◌, inl, inr, List, [], ◌∷◌, ◌++◌, length, take, get_or, refl, sym, subst, ap, arith}
use Rattle.std.proofs.lemmas.List.{take_more}
use Rattle.std.proofs.lemmas.List.Elements.{All-append}
use Rattle.mx_text.specs.Lines.{lines, last_line}
use Rattle.mx_text.specs.declared.error.BootError.{BootError}
use Rattle.mx_text.specs.declared.error.BootError.TheVariants.{BadLine, NoMemory}
use Rattle.mx_machine.specs.declared.config.ServiceLine.{ServiceLine}
use Rattle.mx_boot.specs.declared.service.ServiceWords.{ServiceWords}
use Rattle.mx_boot.specs.declared.item.ConfigItem.{ConfigItem}
use Rattle.mx_boot.specs.declared.item.ConfigItem.TheVariants.{Service}
use Rattle.mx_boot.specs.Above.{ItemsAbove, IsAbove, nothing_above}
use Rattle.mx_boot.specs.Items.{IsItemWithin, IsServiceWithin}
use Rattle.mx_boot.specs.Lines.{is_service_too_many, AreLinesOf, IsLineOf, IsItemTaken, IsItemWrong, AreItemsTaken, IsFirstItemWrong, TellsConfigFault}

-- what is made of the lines that are left is made of all
abbrev pub TakesOn : ItemsAbove → ℕ → List (List ℕ) → List (List ℕ) → Type 0
TakesOn a n left all = (c : ItemsAbove) → AreItemsTaken a n left c → AreItemsTaken nothing_above 1 all c

abbrev pub WrongsOn : ItemsAbove → ℕ → List (List ℕ) → List (List ℕ) → Type 0
WrongsOn a n left all = (e : BootError) → IsFirstItemWrong a n left e → IsFirstItemWrong nothing_above 1 all e

pub takes_more : (a b : ItemsAbove) (n m : ℕ) (line : List ℕ) (left more all : List (List ℕ)) → TakesOn a n left all → left ≡ line ∷ more → IsItemTaken a n line b → m ≡ n + 1
    → TakesOn b m more all
takes_more a b n m line left more all before next taken e = λ c rest.
    before c (subst (λ (x : List (List ℕ)). AreItemsTaken a n x c) (sym next) (b, taken, subst (λ (k : ℕ). AreItemsTaken b k more c) e rest))

pub wrongs_more : (a b : ItemsAbove) (n m : ℕ) (line : List ℕ) (left more all : List (List ℕ)) → WrongsOn a n left all → left ≡ line ∷ more → IsItemTaken a n line b → m ≡ n + 1
    → WrongsOn b m more all
wrongs_more a b n m line left more all before next taken e = λ f rest.
    before f (subst (λ (x : List (List ℕ)). IsFirstItemWrong a n x f) (sym next) (inr (b, taken, subst (λ (k : ℕ). IsFirstItemWrong b k more f) e rest)))

pub wrong_here : (a : ItemsAbove) (n : ℕ) (line : List ℕ) (left more all : List (List ℕ)) (e : BootError) → WrongsOn a n left all → left ≡ line ∷ more → IsItemWrong a n line e
    → IsFirstItemWrong nothing_above 1 all e
wrong_here a n line left more all e before next wrong = before e (subst (λ (x : List (List ℕ)). IsFirstItemWrong a n x e) (sym next) (inl wrong))

pub count_more : (line : List ℕ) (left more : List (List ℕ)) (n : ℕ) (total : ℕ) → left ≡ line ∷ more → total ≡ n + length left → total ≡ (n + 1) + length more
count_more line left more n total next e =
    let longer : length left ≡ suc (length more) = ap length next in
    omega (arith, longer, e)

-- ---- the error

pub told_last : (text : List ℕ) (a : ItemsAbove) (n : ℕ) (e : BootError) → AreItemsTaken nothing_above 1 (lines text) a → n ≡ last_line (lines text)
    → ((a.services ≡ []) × (e ≡ BadLine n)) ⊎ ((a.services ≢ []) × (e ≡ NoMemory)) → TellsConfigFault text e
told_last text a n e taken last (inl told) = inl (inr (a, taken, told.0, told.1 ∙ ap BadLine last))
told_last text a n e taken last (inr told) = inr (a, (taken, told.0), told.1)

-- ---- lines that are made

pub lines_more : (ws : List ServiceWords) (ls : List ServiceLine) (w : ServiceWords) (l : ServiceLine) → AreLinesOf ws ls → IsLineOf w l → AreLinesOf (ws ++ w ∷ []) (ls ++ l ∷ [])
lines_more [] [] w l h is = (is, tt)
lines_more [] (m ∷ ls) w l h is = absurd h
lines_more (v ∷ ws) [] w l h is = absurd h
lines_more (v ∷ ws) (m ∷ ls) w l h is = (h.0, lines_more ws ls w l h.1 is)

pub lines_next : (ws : List ServiceWords) (i : ℕ) (d : ServiceWords) (ls more : List ServiceLine) (l : ServiceLine)
    → i < length ws → more ≡ ls ++ l ∷ [] → AreLinesOf (take i ws) ls → IsLineOf (get_or ws i d) l → AreLinesOf (take (i + 1) ws) more
lines_next ws i d ls more l b e h of =
    subst (λ (xs : List ServiceLine). AreLinesOf (take (i + 1) ws) xs) (sym e)
    (subst (λ (xs : List ServiceWords). AreLinesOf xs (ls ++ l ∷ [])) (sym (take_more ws i d b)) (lines_more (take i ws) ls (get_or ws i d) l h of))

-- ---- services that are taken in

one_within : (w : ServiceWords) → IsServiceWithin w → All IsServiceWithin (w ∷ [])
one_within w is zero d below = is
one_within w is (suc k) d below = absurd (omega (arith, below))

pub services_more : (a : ItemsAbove) (new : List ServiceWords) (item : ConfigItem) (w : ServiceWords) → item ≡ Service w → is_service_too_many a item ≡ false → IsItemWithin item → IsAbove a
    → new ≡ a.services ++ w ∷ [] → IsAbove (record a { services = new })
services_more a new item w is room within above e =
    let left : nat_le 32 (length a.services) ≡ false = subst (λ (x : ConfigItem). is_service_too_many a x ≡ false) is room in
    let within_w : IsServiceWithin w = subst IsItemWithin is within in
    let longer : length new ≡ length a.services + 1 = ap length e ∙ length-append a.services (w ∷ []) in record {
      cpus = above.cpus;
      log = above.log;
      others = above.others;
      services = let few : length a.services < 32 = leb-false 32 (length a.services) left in omega (arith, longer, few);
      within = subst (All IsServiceWithin) (sym e) (All-append IsServiceWithin a.services (w ∷ []) above.within (one_within w within_w));
    }

-- ---- the last line's number

pub none_last : (ls : List (List ℕ)) → length ls ≡ 0 → 1 ≡ last_line ls
none_last [] e = refl
none_last (l ∷ ls) e = absurd (omega (arith, e))

pub some_last : (ls : List (List ℕ)) (n : ℕ) → length ls ≡ n → n ≢ 0 → n ≡ last_line ls
some_last [] n e other = absurd (other (sym e))
some_last (l ∷ ls) n e other = sym e
