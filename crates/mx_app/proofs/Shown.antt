-- What comes of a program's file, or of a text, that is read.
use Rattle.std.proofs.Common.{◌≡◌, ◌∙◌, ◌++◌, ◌∷◌, [], ℕ, List, Result, Ok, Err, OnOk, inl, inr, ap, refl, subst, sym}
use Rattle.std.specs.Prelude.{IsErrAnd}
use Rattle.std.specs.declared.io.ErrorKind.{ErrorKind}
use Rattle.mx_aout.specs.File.{refusal_of}
use Rattle.mx_app_failure.specs.declared.failure.About.TheVariants.{Program}
use Rattle.mx_app_failure.specs.declared.failure.Failure.{Failure as Kind}
use Rattle.mx_app_failure.specs.Failure.{Tells, failure_if, problem_of_reading}
use Rattle.mx_app_program.specs.Assembling.{IsAssembledFile}
use Rattle.mx_app_db.specs.Asked.{Asked, file_given, file_missed}
use Rattle.mx_app.specs.Named.{ShowsFile}

-- a failure that is passed on
pub passed : (f : Kind) (r : Result (Unit {0}) Kind) → IsErrAnd r (λ y. y ≡ f) → r ≡ Err f
passed f (Ok u) h = absurd h
passed f (Err y) h = ap Err h

-- a program's file that is missed
pub missing : (Has : List ℕ → List ℕ → Type 0) (name : List ℕ) (Prints : List ℕ → Type 0) (r : Result (Unit {0}) Kind) (asked now : List Asked) (f : Kind)
    → (kind : ErrorKind) × (now ≡ asked ++ file_missed name kind ∷ []) × (f ≡ failure_if (problem_of_reading kind) Program) → IsErrAnd r (λ y. y ≡ f)
    → (q : Asked) × (now ≡ asked ++ q ∷ []) × ShowsFile Has name q Prints r
missing Has name Prints r asked now f h e = (file_missed name h.0, h.1, inl (h.0, refl, passed f r e ∙ ap Err h.2))

-- the bytes as they were given are those that are shown
pub shown : (Has : List ℕ → List ℕ → Type 0) (name bytes slice : List ℕ) (Prints : List ℕ → Type 0) (r : Result (Unit {0}) Kind) → slice ≡ bytes
    → Tells slice (refusal_of slice) r → OnOk r ((text : List ℕ) × Has slice text × Prints text) → ShowsFile Has name (file_given name bytes) Prints r
shown Has name bytes slice Prints r same tells text = inr (
  bytes,
  refl,
  subst (λ (b : List ℕ). Tells b (refusal_of b) r) same tells,
  subst (λ (b : List ℕ). OnOk r ((text : List ℕ) × Has b text × Prints text)) same text,
)

-- the text and the program, as they were given and as they are written
pub file_assembled : (bytes slice program written : List ℕ) → slice ≡ bytes → written ≡ program → IsAssembledFile slice program → IsAssembledFile bytes written
file_assembled bytes slice program written same as_made is =
    subst (λ (t : List ℕ). IsAssembledFile t written) same (subst (λ (b : List ℕ). IsAssembledFile slice b) (sym as_made) is)
