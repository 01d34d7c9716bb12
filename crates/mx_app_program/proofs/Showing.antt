-- What is reported and written of a file's program, from what is shown of it.
use Rattle.std.proofs.Common.{◌≡◌, ℕ, List, Option, Some, None, Result, Ok, Err, IfErr, OnOk, inr, ap, sym, subst, refl, ◌∙◌}
use Rattle.std.specs.Io.KnownBytes.{Appends, Keeps}
use Rattle.mx_aout.specs.declared.program.Program.{Program}
use Rattle.mx_aout.specs.declared.program.FileError.{FileError}
use Rattle.mx_aout.specs.declared.program.FileError.TheVariants.{NoMemory}
use Rattle.mx_aout.specs.File.{ReadsFile}
use Rattle.mx_app_failure.specs.declared.failure.Failure.{Failure as Kind}
use Rattle.mx_app_failure.specs.declared.failure.About.TheVariants.{Program as #Program}
use Rattle.mx_app_failure.specs.Failure.{IsWanting, Tells, failure_if, problem_of_refusal}
use Rattle.mx_app_program.specs.Shown.{IsShown, Shows}

module _ {S : Type 0} (bytes_of : S → List ℕ) (Has : Program → List ℕ → Type 0) where
  pub shows_error : (o : Option FileError) (b : List ℕ) (e : FileError) → ReadsFile o b (Err e) → Shows {S = S} bytes_of Has o b (Err e)
  shows_error (Some d) b e h = let s : e ≡ d = cc in ap (λ (x : FileError). Err x) s
  shows_error None b e h = h

  pub shows_no_memory : (o : Option FileError) (b : List ℕ) (p : Program) → ReadsFile o b (Ok p) → Shows {S = S} bytes_of Has o b (Err NoMemory)
  shows_no_memory (Some d) b p h = absurd cc
  shows_no_memory None b p h = refl

  pub shows_text : (o : Option FileError) (b : List ℕ) (p : Program) (text : S) → ReadsFile o b (Ok p) → Has p (bytes_of text) → Shows {S = S} bytes_of Has o b (Ok text)
  shows_text (Some d) b p text h g = absurd cc
  shows_text None b p text h g = (p, h, g)

  pub tells_refused : (o : Option FileError) (b : List ℕ) (e : FileError) → Shows {S = S} bytes_of Has o b (Err e) → Tells b o {A = Unit {0}} (Err (failure_if (problem_of_refusal b e) #Program))
  tells_refused (Some d) b e h = let s : e ≡ d = cc in ap (λ (x : FileError). Err (failure_if (problem_of_refusal b x) #Program)) s
  tells_refused None b e h = subst (λ (x : FileError). IsWanting (failure_if (problem_of_refusal b x) #Program)) (sym h) (inr refl)

  pub tells_written : (o : Option FileError) (b : List ℕ) (text : S) (r : Result (Unit {0}) Kind) → Shows {S = S} bytes_of Has o b (Ok text) → IfErr r IsWanting → Tells b o r
  tells_written (Some d) b text r h w = absurd cc
  tells_written None b text r h w = w

  pub text_shown : (o : Option FileError) (b : List ℕ) (text : S) → Shows {S = S} bytes_of Has o b (Ok text) → IsShown Has b (bytes_of text)
  text_shown (Some d) b text h = absurd cc
  text_shown None b text h = h

-- known bytes that grew and then stayed
pub appends_kept : (x y z : Option (List ℕ)) (t : List ℕ) → Appends x y t → Keeps y z → Appends x z t
appends_kept None y z t a k = tt
appends_kept (Some xs) None z t a k = absurd a
appends_kept (Some xs) (Some ys) None t a k = absurd k
appends_kept (Some xs) (Some ys) (Some zs) t a k = k ∙ a

pub shown_on : (Has : Program → List ℕ → Type 0) (b : List ℕ) (x y : Option (List ℕ)) (t : List ℕ) (r : Result (Unit {0}) Kind) → IsShown Has b t → OnOk r (Appends x y t)
    → OnOk r ((text : List ℕ) × IsShown Has b text × Appends x y text)
shown_on Has b x y t (Ok u) s a = (t, s, a)
shown_on Has b x y t (Err e) s a = tt
