-- Why a line is no case.
use Rattle.hex.specs.declared.error.FromHexError.{FromHexError}
use Rattle.hex.specs.declared.error.FromHexError.TheVariants as hex_errors
use Rattle.mx_vectors_compare.specs.declared.case.CaseError.{CaseError}
use Rattle.mx_vectors_compare.specs.declared.case.CaseError.TheVariants as case_errors

-- a lack of memory makes no line a wrong one
abbrev pub case_error_of : FromHexError → CaseError
case_error_of hex_errors.OutOfMemory = case_errors.NoMemory
case_error_of e = case_errors.Malformed
