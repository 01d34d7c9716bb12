-- What is answered of a file, from what the reader answers.
use Rattle.std.proofs.Common.{◌≡◌, ℕ, List, Option, Some, None, Ok, Err, refl}
use Rattle.mx_exec.specs.declared.image.Image.{Image}
use Rattle.mx_image.specs.declared.runs.Stop.{Stop}
use Rattle.mx_image.specs.Run.{run_of}
use Rattle.mx_aout.specs.declared.program.Program.{Program}
use Rattle.mx_aout.specs.declared.program.FileError.{FileError}
use Rattle.mx_aout.specs.declared.program.FileError.TheVariants.{NoMemory}
use Rattle.mx_aout.specs.File.{ReadsFile}
use Rattle.mx_load.specs.Load.{image_of_program}
use Rattle.mx_app_program.specs.One.{Answers}

-- a file that isn't read
pub answers_error : (o : Option FileError) (b : List ℕ) (n : ℕ) (e : FileError) → ReadsFile o b (Err e) → Answers o b n (Err e)
answers_error (Some d) b n e h = let s : e ≡ d = cc in cc
answers_error None b n e h = h

-- no memory for the image of one that is
pub answers_no_memory : (o : Option FileError) (b : List ℕ) (n : ℕ) (p : Program) → ReadsFile o b (Ok p) → Answers o b n (Err NoMemory)
answers_no_memory (Some d) b n p h = absurd cc
answers_no_memory None b n p h = refl

-- and its steps
pub answers_run : (o : Option FileError) (b : List ℕ) (n : ℕ) (p : Program) (count : ℕ) (stop : Stop) (m : Image)
    → ReadsFile o b (Ok p) → run_of n (image_of_program p) ≡ record { count = count; stop = stop; image = m } → Answers o b n (Ok (count, stop, m))
answers_run (Some d) b n p count stop m h e = absurd cc
answers_run None b n p count stop m h e = (p, h, e)
