-- The image of a file, and its steps.
use Rattle.std.specs.Prelude.{◌≡◌, ◌++◌, ℕ, List, codes, Option, Some, None, Result, Ok, Err}
use Rattle.std.specs.Fmt.{decimal}
use Rattle.mx_exec.specs.declared.image.Image.{Image}
use Rattle.mx_image.specs.declared.runs.Stop.{Stop}
use Rattle.mx_image.specs.Run.{run_of}
use Rattle.mx_aout.specs.declared.program.Program.{Program}
use Rattle.mx_aout.specs.declared.program.FileError.{FileError}
use Rattle.mx_aout.specs.declared.program.FileError.TheVariants.{NoMemory}
use Rattle.mx_aout.specs.File.{FileIs}
use Rattle.mx_load.specs.Load.{image_of_program}
use Rattle.mx_print_answers.specs.Registers.{register_lines}
use Rattle.mx_print_answers.specs.Stops.{stop_text}

-- the lines that are printed of an image after n steps that ended so
abbrev pub one_text : ℕ → Stop → Image → List ℕ
one_text count stop image =
    register_lines image ++ codes "stop " ++ stop_text stop ++ codes " after " ++ decimal count ++ codes "\n"

-- the first refusal that applies; or the count, the stop and the image after at most n steps from the image of the
-- program that the bytes are a file of, unless memory runs out
abbrev pub Answers : Option FileError → List ℕ → ℕ → Result (ℕ × Stop × Image) FileError → Type 0
Answers (Some e) b n r = r ≡ Err e
Answers None b n (Ok r) =
    (p : Program) × FileIs b p × (run_of n (image_of_program p) ≡ record { count = r.0; stop = r.1; image = r.2 })
Answers None b n (Err e) = e ≡ NoMemory

-- the text is what is printed of at most n steps of the program that the bytes are a file of
abbrev pub IsPrinted : List ℕ → ℕ → List ℕ → Type 0
IsPrinted b n text =
    (p : Program) × FileIs b p
    × (let r = run_of n (image_of_program p) in text ≡ one_text r.count r.stop r.image)
