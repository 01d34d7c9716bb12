-- What is wrong with a file of sums, or with a machine by it: the two lines that are printed, and the status (our own).
use Rattle.std.specs.Prelude.{ℕ, if◌then◌else◌, List, [], ◌++◌, codes}
use Rattle.std.specs.Str.{is_utf8}
use Rattle.std.specs.declared.io.ErrorKind.{ErrorKind}
use Rattle.std.specs.declared.io.ErrorKind.TheVariants as kinds
use Rattle.mx_app_command.specs.declared.files.FileKind.TheVariants.{Sums}
use Rattle.mx_app_explain.specs.Sums.{part_word}
use Rattle.mx_app_explain.specs.Wanted.{kind_said, kind_wanted}
use Rattle.mx_app_explain.specs.declared.sums_fault.SumsFault.{SumsFault}
use Rattle.mx_app_explain.specs.declared.sums_fault.SumsFault.TheVariants.{NameTaken, Unread, Unwritten, OtherKind, NoMemory, OtherMachine}
use Rattle.mx_app_explain.specs.declared.sums.MachinePart.{MachinePart}

-- of an error of input and output: when the file was read, and when it was written
abbrev pub unread_of : ErrorKind → SumsFault
unread_of kinds.OutOfMemory = NoMemory
unread_of k = Unread

abbrev pub unwritten_of : ErrorKind → SumsFault
unwritten_of kinds.OutOfMemory = NoMemory
unwritten_of k = Unwritten

abbrev pub fault_status : SumsFault → ℕ
fault_status NameTaken = 3
fault_status Unread = 3
fault_status Unwritten = 3
fault_status OtherKind = 3
fault_status NoMemory = 4
fault_status (OtherMachine part) = 1

-- a part's name. A configuration has no service whose name isn't text
abbrev pub text_or_service : List ℕ → List ℕ
text_or_service word = if is_utf8 word then word else codes "a service"

abbrev pub part_told : MachinePart → List ℕ
part_told part = text_or_service (part_word part)

-- THE LINE of a fault, without its line feed
abbrev pub fault_line : SumsFault → List ℕ
fault_line NameTaken = codes "mx: 80 File"
fault_line Unread = codes "mx: 80 File"
fault_line Unwritten = codes "mx: 80 File"
fault_line OtherKind = codes "mx: 80 File"
fault_line NoMemory = codes "mx: 90 NoMemory"
fault_line (OtherMachine part) = codes "mx: 64 OtherMachine " ++ part_told part

-- ---- the line that explains it

abbrev pub fault_wanted : SumsFault → List ℕ
fault_wanted NameTaken = codes "a file that no other word names"
fault_wanted Unread = codes "a file that can be read"
fault_wanted Unwritten = codes "a file that can be written"
fault_wanted OtherKind = kind_wanted Sums
fault_wanted NoMemory = codes "more memory"
fault_wanted (OtherMachine part) = codes "the configuration and programs whose sums it has, or --no-sums"

-- of a file that would be written over it is said first that it is there
abbrev pub fault_label : SumsFault → List ℕ
fault_label OtherKind = kind_said Sums ++ codes "; "
fault_label f = []

-- THE LINE THAT EXPLAINS a fault with the file of this name, without its end
abbrev pub fault_explained : List ℕ → SumsFault → List ℕ
fault_explained name f = codes "mx: SUMS " ++ name ++ codes ": " ++ fault_label f ++ codes "wanted " ++ fault_wanted f
