-- When a step agrees with a case.
use Rattle.std.specs.Prelude.{◌≡◌, ℕ, ◌+◌, ◌-◌, ◌^◌, Bool, min, if◌then◌else◌, length, Result, Ok, Err}
use Rattle.mx_insn.specs.declared.insn.Insn.{Insn}
use Rattle.mx_decode.specs.declared.DecodeFault.{DecodeFault}
use Rattle.mx_decode.specs.Decode.{front}
use Rattle.mx_exec.specs.Step.{one_step}
use Rattle.mx_vectors_compare.specs.declared.case.Case.{Case}
use Rattle.mx_vectors_compare.specs.Ends.{EndsAs, image_of_case}
use Rattle.mx_vectors_compare.specs.declared.case_lines.Tally.{Tally}

-- how many bytes the instruction at the front takes, or 0 if there is none
abbrev pub decoded_length : Result (Insn × ℕ) DecodeFault → ℕ
decoded_length (Ok p) = p.1
decoded_length (Err e) = 0

-- the step of the case's image is as the case wants
abbrev pub StepAgrees : Case → Type 0
StepAgrees c = EndsAs c (one_step (image_of_case c)).0 (one_step (image_of_case c)).1

-- the case's bytes, whole, spell an instruction, and the step of its image is as the case wants
pub record DoesAgree (c : Case) : Type 0 where
  pub spelled : (i : Insn) × (front c.bytes ≡ Ok (i, length c.bytes))
  pub step : StepAgrees c

-- ---- counting

-- one more, up to the largest number of 64 bits
abbrev pub one_more : ℕ → ℕ
one_more n = min (n + 1) (2 ^ 64 - 1)

-- one case more; one that doesn't agree went wrong
abbrev pub with_case : Tally → Bool → Tally
with_case t same = record { cases = one_more t.cases; wrong = if same then t.wrong else one_more t.wrong }
