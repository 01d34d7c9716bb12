-- The image that a program begins with (Tanenbaum and Woodhull, 4.7.4).
use Rattle.std.specs.Prelude.{◌≡◌, ℕ, ◌-◌, Bool, List, ◌++◌, length, replicate, if◌then◌else◌}
use Rattle.mx_flags.specs.Flags.{values_of}
use Rattle.mx_regs.specs.Regs.{no_words}
use Rattle.mx_exec.specs.declared.image.Code.{Code}
use Rattle.mx_exec.specs.declared.image.Code.TheVariants.{Separate, Shared}
use Rattle.mx_exec.specs.declared.image.Image.{Image}
use Rattle.mx_exec.specs.Lasting.{lasting}
use Rattle.mx_aout.specs.Limits.{rounded_to_pages}
use Rattle.mx_aout.specs.declared.program.Program.{Program}

-- the first bytes of the data segment: the text, if it isn't separate, and the data
abbrev pub contents_of : Bool → List ℕ → List ℕ → List ℕ
contents_of sep text init = if sep then init else text ++ init

-- bytes, and zeros up to a limit
abbrev pub filled_to : ℕ → List ℕ → List ℕ
filled_to limit bytes = bytes ++ replicate (limit - length bytes) 0

abbrev pub code_of_text : Bool → List ℕ → Code
code_of_text sep text = if sep then Separate text else Shared

-- the data segment ends at the rounded total, and ESP is there; EIP is the entry, all else is 0
abbrev pub image_of_program : Program → Image
image_of_program p = record {
  regs = record no_words { esp = rounded_to_pages p.total };
  eip = p.entry;
  flags = values_of 0;
  memory = filled_to (rounded_to_pages p.total) (contents_of p.sep p.text p.init);
  code = code_of_text p.sep p.text;
}

-- the image was loaded from the program, whatever it did since: what no step changes is that of the program
abbrev pub IsLoadedFrom : Image → Program → Type 0
IsLoadedFrom m p = lasting m ≡ (code_of_text p.sep p.text, rounded_to_pages p.total)
