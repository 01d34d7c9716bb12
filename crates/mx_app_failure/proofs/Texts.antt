-- Failures that have the text of their file; and the bytes that are looked at, to see whether a file is a text.
use Rattle.std.proofs.Common.{◌≡◌, ◌≢◌, ◌≤◌, ℕ, List, Some, length, refl, sym, subst, take, take_all}
use Rattle.std.specs.Prelude.{Vec}
use Rattle.std.specs.declared.alloc.Global.{Global}
use Rattle.mx_asm.specs.declared.fault.AsmError.{AsmError}
use Rattle.mx_asm.specs.declared.fault.AsmError.TheVariants as asm_errors
use Rattle.mx_asm.specs.declared.fault.Fault.{Fault}
use Rattle.mx_text.specs.declared.error.BootError.{BootError}
use Rattle.mx_text.specs.declared.error.BootError.TheVariants as lines
use Rattle.mx_app_failure.specs.declared.failure.About.{About}
use Rattle.mx_app_failure.specs.declared.failure.About.TheVariants.{Source}
use Rattle.mx_app_failure.specs.declared.failure.FileProblem.TheVariants.{Faulty, Misstated}
use Rattle.mx_app_failure.specs.declared.failure.Failure.TheVariants.{Of}
use Rattle.mx_app_failure.specs.Failure.{IsFaulty, IsMisstated}

pub faulty_told : (error : AsmError) (fault : Fault) (v : Vec ℕ Global) → error ≡ asm_errors.At fault
    → IsFaulty error v.items (Of (record { problem = Faulty fault; about = Source; text = Some v }))
faulty_told error fault v is =
    subst (λ (e : AsmError). IsFaulty e v.items (Of (record { problem = Faulty fault; about = Source; text = Some v }))) (sym is) (v, refl, refl)

pub misstated_told : (error : BootError) (about : About) (text : List ℕ) (v : Vec ℕ Global) → v.items ≡ text → error ≢ lines.NoMemory
    → IsMisstated error about text (Of (record { problem = Misstated error; about = about; text = Some v }))
misstated_told (lines.BadLine n) about text v same other = (v, refl, same)
misstated_told (lines.TwiceNamed n) about text v same other = (v, refl, same)
misstated_told (lines.TooMany n) about text v same other = (v, refl, same)
misstated_told (lines.BadRecord n) about text v same other = (v, refl, same)
misstated_told lines.NoMemory about text v same other = absurd (other refl)

-- a short file is looked at to its end
pub all_taken : (n : ℕ) (b : List ℕ) → length b ≤ n → b ≡ take n b
all_taken n b short = sym (take_all n b short)
