-- What is shown of a file's program.
use Rattle.std.specs.Prelude.{◌≡◌, ℕ, List, Option, Some, None, Result, Ok, Err}
use Rattle.mx_aout.specs.declared.program.Program.{Program}
use Rattle.mx_aout.specs.declared.program.FileError.{FileError}
use Rattle.mx_aout.specs.declared.program.FileError.TheVariants.{NoMemory}
use Rattle.mx_aout.specs.File.{FileIs}
use Rattle.mx_app_command.specs.declared.command_line.Listing.{Listing}
use Rattle.mx_app_command.specs.declared.command_line.Listing.TheVariants.{Instructions, Symbols}
use Rattle.mx_dis.specs.Listing.{IsListing}
use Rattle.mx_dis.specs.Names.{name_lines}

-- the text is this listing of the program
abbrev pub IsListingOf : Listing → Program → List ℕ → Type 0
IsListingOf Instructions p text = IsListing 0 p.text text
IsListingOf Symbols p text = text ≡ name_lines p.symbols

-- the text is had by a program that the bytes are a file of
abbrev pub IsShown : (Program → List ℕ → Type 0) → List ℕ → List ℕ → Type 0
IsShown Has b text = (p : Program) × FileIs b p × Has p text

-- the first refusal that applies, or a text of the program that the bytes are a file of, unless memory runs out
abbrev pub Shows : {S : Type 0} → (S → List ℕ) → (Program → List ℕ → Type 0) → Option FileError → List ℕ
    → Result S FileError → Type 0
Shows bytes_of Has (Some e) b r = r ≡ Err e
Shows bytes_of Has None b (Ok text) = IsShown Has b (bytes_of text)
Shows bytes_of Has None b (Err e) = e ≡ NoMemory
