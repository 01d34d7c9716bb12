use Rattle.std.proofs.Common.{◌≡◌, ℕ, Result, Ok, Err, subst, sym, arith}
use Rattle.std.specs.Prelude.{◌↔◌}
use Rattle.mx_insn.specs.declared.insn.Insn.{Insn}
use Rattle.mx_insn.specs.Spelling.{IsOpen}
use Rattle.mx_decode.specs.declared.DecodeFault.{DecodeFault}
use Rattle.mx_decode.specs.declared.DecodeFault.TheVariants.{NotInTable, Short}
use Rattle.mx_decode.specs.Decode.{SpellsFirst, NoneFirst}
use Rattle.mx_decode.proofs.Stages.{are_bytes}
use Rattle.mx_decode.proofs.Front.{front_ok, front_not_in_table, front_short}
use Rattle.mx_decode.proofs.single.decode.Goals as goal

pub returns-clause-ok : goal.returns-clause-ok
returns-clause-ok c = λ i k. subst (λ (r : Result (Insn × ℕ) DecodeFault). (r ≡ Ok (i, k)) ↔ SpellsFirst c.args.bytes.now k i) (sym c.read_counted.ensures) (front_ok c.args.bytes.now i k (are_bytes c.args.bytes.now (λ n. omega (arith, c.type_inv.bytes n))))

pub returns-clause-not_in_table : goal.returns-clause-not_in_table
returns-clause-not_in_table c = subst (λ (r : Result (Insn × ℕ) DecodeFault). (r ≡ Err NotInTable) ↔ (NoneFirst c.args.bytes.now × (IsOpen c.args.bytes.now → ⊥))) (sym c.read_counted.ensures) (front_not_in_table c.args.bytes.now (are_bytes c.args.bytes.now (λ n. omega (arith, c.type_inv.bytes n))))

pub returns-clause-short : goal.returns-clause-short
returns-clause-short c = subst (λ (r : Result (Insn × ℕ) DecodeFault). (r ≡ Err Short) ↔ (NoneFirst c.args.bytes.now × IsOpen c.args.bytes.now)) (sym c.read_counted.ensures) (front_short c.args.bytes.now (are_bytes c.args.bytes.now (λ n. omega (arith, c.type_inv.bytes n))))

pub returns-clause-value : goal.returns-clause-value
returns-clause-value c = c.read_counted.ensures
