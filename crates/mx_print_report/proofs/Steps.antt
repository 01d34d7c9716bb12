-- One byte of the console, and one line of the report, more.
use Rattle.std.proofs.Common.{◌≡◌, ℕ, zero, suc, ◌+◌, ◌<◌, ◌≤◌, List, [], ◌∷◌, ◌++◌, length, get_or, drop, Some, None, refl, sym, ap, ◌∙◌, arith}
use Rattle.std.specs.Prelude.{slice_get}
use Rattle.std.proofs.Math.Seq.{drop-cons}
use Rattle.std.proofs.lemmas.List.{drop_all}
use Rattle.mx_proc.specs.TableState.{TableState}
use Rattle.mx_respawn.specs.declared.service.Service.{Service}
use Rattle.mx_print_report.specs.Report.{slot_line, slot_lines}

pub kept_more : (kept : List ℕ) (i b : ℕ) → slice_get kept i ≡ Some b → drop i kept ≡ b ∷ drop (i + 1) kept
kept_more [] i b h = absurd cc
kept_more (x ∷ xs) zero b h = ap (λ (y : ℕ). y ∷ xs) (some_is x b h)
  where
    some_is : (x b : ℕ) → Some x ≡ Some b → x ≡ b
    some_is x b h = cc
kept_more (x ∷ xs) (suc i) b h =
    let next : suc (i + 1) ≡ suc i + 1 = omega arith in
    kept_more xs i b h ∙ ap (λ (n : ℕ). b ∷ drop n (x ∷ xs)) next

past : (kept : List ℕ) (i : ℕ) → slice_get kept i ≡ None → length kept ≤ i
past [] i h = omega arith
past (x ∷ xs) zero h = absurd cc
past (x ∷ xs) (suc i) h = let further = past xs i h in omega (arith, further)

pub kept_none : (kept : List ℕ) (i : ℕ) → slice_get kept i ≡ None → drop i kept ≡ []
kept_none kept i h = drop_all i kept (past kept i h)

pub nil_after : (xs : List ℕ) → xs ++ [] ≡ xs
nil_after [] = refl
nil_after (x ∷ xs) = ap (λ (ys : List ℕ). x ∷ ys) (nil_after xs)

pub slot_lines_more : (w : TableState) (services : List Service) (i : ℕ) (v : Service) → i < length services → v ≡ get_or services i v
    → slot_lines w i (drop i services) ≡ slot_line w i v.name.bytes ++ slot_lines w (i + 1) (drop (i + 1) services)
slot_lines_more w services i v h is =
    let next : suc i ≡ i + 1 = omega arith in
    ap (slot_lines w i) (drop-cons services i v h)
    ∙ ap (λ (u : Service). slot_line w i u.name.bytes ++ slot_lines w (i + 1) (drop (suc i) services)) (sym is)
    ∙ ap (λ (n : ℕ). slot_line w i v.name.bytes ++ slot_lines w (i + 1) (drop n services)) next
