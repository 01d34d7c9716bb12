-- Complaints, by what was asked for.
use Rattle.std.proofs.Common.{◌≡◌, Bool, false, inl, inr, refl, true}
use Rattle.std.specs.Prelude.{String, string_bytes}
use Rattle.std.specs.declared.alloc.Global.{Global}
use Rattle.mx_app_command.specs.declared.command_line.CommandLine.{CommandLine}
use Rattle.mx_app.specs.Words.{IsComplaintOf, explained_line, explains}
use Rattle.mx_app.specs.declared.summing.LineFailure.{LineFailure}
use Rattle.mx_app.specs.declared.complaint.Complaint.TheVariants.{Explained, Failed, Unexplained}

pub complaint_explained : (line : CommandLine) (shows : Bool) (f : LineFailure) (s : String Global) → explains line shows ≡ true
    → string_bytes s ≡ explained_line line f → IsComplaintOf line shows f (Explained f s)
complaint_explained line shows f s asked text = inr (inr (s, asked, refl, text))

pub complaint_plain : (line : CommandLine) (shows : Bool) (f : LineFailure) → explains line shows ≡ false → IsComplaintOf line shows f (Failed f)
complaint_plain line shows f asked = inl (asked, refl)

pub complaint_unexplained : (line : CommandLine) (shows : Bool) (f : LineFailure) → explains line shows ≡ true → IsComplaintOf line shows f (Unexplained f)
complaint_unexplained line shows f asked = inr (inl (asked, refl))
