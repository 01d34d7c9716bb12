-- Bytes are a file of one program at most, so what is read of a program's file is that program.
use Rattle.std.proofs.Common.{◌≡◌, ℕ, Bool, List, length, Option, Some, None, Result, Ok, Err, ap, sym, subst, ◌∙◌}
use Rattle.std.specs.Prelude.{MatchResult}
use Rattle.std.proofs.Math.Bridge.{le_prop}
use Rattle.mx_aout.specs.Limits.{IsWithin}
use Rattle.mx_aout.specs.declared.program.Symbol.{Symbol}
use Rattle.mx_aout.specs.declared.program.Program.{Program}
use Rattle.mx_aout.specs.declared.program.FileError.{FileError}
use Rattle.mx_aout.specs.declared.program.FileError.TheVariants.{NoMemory}
use Rattle.mx_aout.specs.File.{FileIs, ReadsFile}
use Rattle.mx_aout.specs.Alike.{AreAlike}

-- a program's parts but for the fact on its sizes, of which there is one proof at most
abbrev Parts : Type 0
Parts = Bool × ℕ × ℕ × List ℕ × List ℕ × ℕ × List Symbol

abbrev parts_of : Program → Parts
parts_of p = (p.sep, p.entry, p.total, p.text, p.init, p.bss, p.symbols)

abbrev AreWithin : Parts → Type 0
AreWithin x = IsWithin x.0 x.2 (length x.3) (length x.4) x.5 (length x.6)

abbrev program_of : (x : Parts) → AreWithin x → Program
program_of x w = record { sep = x.0; entry = x.1; total = x.2; text = x.3; init = x.4; bss = x.5; symbols = x.6; within = w }

one_proof : (x : Parts) → IsProp (AreWithin x)
one_proof x = hlevel le_prop

same_program : (x y : Parts) → x ≡ y → (w : AreWithin x) (v : AreWithin y) → program_of x w ≡ program_of y v
same_program x y e w = subst (λ (z : Parts). (v : AreWithin z) → program_of x w ≡ program_of z v) e (λ v. ap (program_of x) (one_proof x w v))

same_parts : (a b : Bool) (e f t u : ℕ) (x y i j : List ℕ) (s r : ℕ) (k l : List Symbol) → a ≡ b → e ≡ f → t ≡ u → x ≡ y → i ≡ j → s ≡ r → k ≡ l
    → (let p : Parts = (a, e, t, x, i, s, k) in p) ≡ (b, f, u, y, j, r, l)
same_parts a b e f t u x y i j s r k l h1 h2 h3 h4 h5 h6 h7 = cc

-- two programs are equal if all that a file has of them is equal
pub alike_same : (p q : Program) → AreAlike p q → p ≡ q
alike_same p q h =
    same_program (parts_of p) (parts_of q)
    (same_parts p.sep q.sep p.entry q.entry p.total q.total p.text q.text p.init q.init p.bss q.bss p.symbols q.symbols
    h.sep h.entry h.total h.text h.init h.bss h.symbols)
    p.within
    q.within

pub one_of_file : (b : List ℕ) (p q : Program) → FileIs b p → FileIs b q → p ≡ q
one_of_file b p q f g = alike_same p q (record {
  sep = f.sep ∙ sym g.sep;
  entry = f.entry ∙ sym g.entry;
  total = f.total ∙ sym g.total;
  text = f.text ∙ sym g.text;
  init = f.init ∙ sym g.init;
  bss = f.bss ∙ sym g.bss;
  symbols = f.symbols ∙ sym g.symbols;
})

pub read_again : (o : Option FileError) (b : List ℕ) (p : Program) (r : Result Program FileError) → o ≡ None → FileIs b p → ReadsFile o b r
    → MatchResult r (λ again. again ≡ p) (λ e. e ≡ NoMemory)
read_again (Some d) b p r none f h = absurd cc
read_again None b p (Ok q) none f h = one_of_file b q p h f
read_again None b p (Err e) none f h = h
