-- What spells an instruction, whole, is decoded as it.
use Rattle.std.proofs.Common.{◌≡◌, ℕ, List, length, Result, Ok, Err, sym, subst, ap, ◌∙◌, arith}
use Rattle.std.proofs.Math.Seq.{take-length}
use Rattle.mx_insn.specs.declared.insn.Insn.{Insn}
use Rattle.mx_insn.specs.Spelling.{Spells}
use Rattle.mx_encode.specs.declared.Wide.{Wide}
use Rattle.mx_encode.specs.Chosen.{Chosen, fields_of}
use Rattle.mx_decode.specs.declared.DecodeFault.{DecodeFault}
use Rattle.mx_decode.specs.Decode.{SpellsFirst}

spells_whole : (bytes : List ℕ) (i : Insn) → Spells bytes i → SpellsFirst bytes (length bytes) i
spells_whole bytes i s = (omega arith, subst (λ (z : List ℕ). Spells z i) (sym (take-length bytes)) s)

pub chosen_first : (i : Insn) (wide : Wide) (bytes read : List ℕ) → Chosen i wide bytes → read ≡ bytes → SpellsFirst read (length bytes) i
chosen_first i wide bytes read x e =
    subst (λ (z : List ℕ). SpellsFirst z (length bytes) i) (sym e) (spells_whole bytes i (x.chosen.row, fields_of x.chosen wide.displacement, x.spells))

abbrev pair : Insn → ℕ → Insn × ℕ
pair i k = (i, k)

abbrev decoded : Insn → ℕ → Result (Insn × ℕ) DecodeFault
decoded i k = Ok (i, k)

pub same_insn : (r : Result (Insn × ℕ) DecodeFault) (a b : Insn) (m n : ℕ) → r ≡ Ok (a, m) → r ≡ Ok (b, n) → a ≡ b
same_insn r a b m n e f =
    let g : decoded a m ≡ decoded b n = sym e ∙ f in
    let p : pair a m ≡ pair b n = cc in
    ap (λ (x : Insn × ℕ). x.0) p

pub not_err : (r : Result (Insn × ℕ) DecodeFault) (d : DecodeFault) (b : Insn) (n : ℕ) → r ≡ Err d → r ≡ Ok (b, n) → ⊥
not_err r d b n e f = cc
