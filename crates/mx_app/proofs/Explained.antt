-- What is reported of words that ask for nothing.
use Rattle.std.proofs.Common.{◌≡◌, ◌≢◌, ℕ, List, [], Result, Err, refl}
use Rattle.clap.specs.declared.error.Error.{Error}
use Rattle.clap.specs.declared.error.kind.ErrorKind.{ErrorKind}
use Rattle.clap.specs.declared.error.kind.ErrorKind.TheVariants as words
use Rattle.mx_app_failure.specs.declared.failure.Failure.TheVariants.{NoMemory}
use Rattle.mx_app.specs.Words.{ExplainsKind, IsHelp}
use Rattle.mx_app.specs.declared.complaint.Complaint.{Complaint}
use Rattle.mx_app.specs.declared.summing.LineFailure.TheVariants.{Request}
use Rattle.mx_app.specs.declared.performing.Done.{Done}
use Rattle.mx_app.specs.declared.complaint.Complaint.TheVariants.{Mistaken, Failed}

pub wanting : (k : ErrorKind) (e : Error) (Prints : List ℕ → Type 0) → Prints [] → k ≡ words.OutOfMemory → ExplainsKind k e Prints (Err (Failed (Request NoMemory)))
wanting words.OutOfMemory e Prints none h = (none, refl)
wanting k e Prints none h = cc

pub mistaken : (k : ErrorKind) (e : Error) (Prints : List ℕ → Type 0) → Prints [] → k ≢ words.OutOfMemory → k ≢ words.DisplayHelp → k ≢ words.DisplayVersion → ExplainsKind k e Prints (Err (Mistaken e))
mistaken words.OutOfMemory e Prints none n h v = absurd (n refl)
mistaken words.DisplayHelp e Prints none n h v = absurd (h refl)
mistaken words.DisplayVersion e Prints none n h v = absurd (v refl)
mistaken k e Prints none n h v = (none, refl)

pub helped : (k : ErrorKind) (e : Error) (Prints : List ℕ → Type 0) (r : Result Done Complaint) → k ≢ words.OutOfMemory → ((k ≢ words.DisplayHelp) × (k ≢ words.DisplayVersion) → ⊥) → IsHelp r → ExplainsKind k e Prints r
helped words.OutOfMemory e Prints r n other is = absurd (n refl)
helped words.DisplayHelp e Prints r n other is = is
helped words.DisplayVersion e Prints r n other is = is
helped k e Prints r n other is = absurd (other ((λ h. cc), (λ v. cc)))
