-- The error of a file, from what is answered of it.
use Rattle.std.proofs.Common.{◌≡◌, ℕ, List, Option, Some, None, Result, Ok, Err, IfErr, OnOk, inl, inr, ap, sym, subst, refl}
use Rattle.std.specs.Io.KnownBytes.{Appends}
use Rattle.std.specs.Str.{IsUtf8}
use Rattle.mx_asm.specs.declared.fault.AsmError.{AsmError}
use Rattle.mx_asm.specs.declared.fault.AsmError.TheVariants.{At, NoMemory}
use Rattle.mx_asm.specs.Text.{HasTextFault, TellsTextFault}
use Rattle.mx_exec.specs.declared.image.Image.{Image}
use Rattle.mx_image.specs.declared.runs.Stop.{Stop}
use Rattle.mx_image.specs.Run.{RunEnd}
use Rattle.mx_aout.specs.declared.program.FileError.{FileError}
use Rattle.mx_app_failure.specs.declared.failure.Failure.{Failure as Kind}
use Rattle.mx_app_program.specs.Assembling.{TellsText}
use Rattle.mx_app_program.specs.One.{Answers, IsPrinted, one_text}
use Rattle.mx_app_failure.specs.declared.failure.About.TheVariants.{Program}
use Rattle.mx_app_failure.specs.Failure.{IsFaulty, IsWanting, Tells, failure_if, problem_of_refusal}

-- a refusal, or lack of memory
pub tells_refusal : (o : Option FileError) (b : List ℕ) (n : ℕ) (e : FileError) → Answers o b n (Err e) → Tells b o {A = Unit {0}} (Err (failure_if (problem_of_refusal b e) Program))
tells_refusal (Some d) b n e h = let s : e ≡ d = cc in ap (λ (x : FileError). Err (failure_if (problem_of_refusal b x) Program)) s
tells_refusal None b n e h = subst (λ (x : FileError). IsWanting (failure_if (problem_of_refusal b x) Program)) (sym h) (inr refl)

-- what is wanting where it is printed
pub tells_printed : (o : Option FileError) (b : List ℕ) (n : ℕ) (p : ℕ × Stop × Image) (r : Result (Unit {0}) Kind) → Answers o b n (Ok p) → IfErr r IsWanting → Tells b o r
tells_printed (Some d) b n p r h w = absurd cc
tells_printed None b n p r h w = w

-- what is printed where it is
pub printed_on : (o : Option FileError) (b : List ℕ) (n : ℕ) (p : ℕ × Stop × Image) (x y : Option (List ℕ)) (r : Result (Unit {0}) Kind) → Answers o b n (Ok p)
    → OnOk r (Appends x y (one_text p.0 p.1 p.2)) → OnOk r ((text : List ℕ) × IsPrinted b n text × Appends x y text)
printed_on (Some d) b n p x y r h w = absurd cc
printed_on None b n p x y (Ok u) h w = (one_text p.0 p.1 p.2, (h.0, h.1, ap (λ (m : RunEnd). one_text m.count m.stop m.image) (sym h.2)), w)
printed_on None b n p x y (Err e) h w = tt

-- the error of a text that is UTF-8
pub tells_text : (text slice : List ℕ) (e : AsmError) (f : Kind) → slice ≡ text → IsUtf8 text → TellsTextFault slice e → IsFaulty e text f → TellsText text f
tells_text text slice NoMemory f of utf8 h m = inr (inr (utf8, m))
tells_text text slice (At x) f of utf8 h m = inr (inl (x, subst (λ (t : List ℕ). HasTextFault t x) of h, m))
