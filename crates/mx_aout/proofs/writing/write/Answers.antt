use Rattle.std.proofs.Common.{rules, ◌≡◌, List, ℕ, sym, subst}
use Rattle.std.specs.List.{AllByRecursion}
use Rattle.mx_aout.specs.declared.program.Symbol.{Symbol}
use Rattle.mx_aout.specs.File.{FileIs}
use Rattle.mx_aout.specs.Written.{short_file}
use Rattle.mx_aout.proofs.WrittenSymbols.{IsKept}
use Rattle.mx_aout.proofs.WrittenFile.{file_of_written}
use Rattle.mx_aout.proofs.writing.write.Goals as goal

pub returns-clause-file : goal.returns-clause-file
returns-clause-file c =
    let form : c.push_symbols.new.bytes.items ≡ short_file c.args.program.now = search rules in
    let kept = subst (λ (xs : List Symbol). AllByRecursion IsKept xs) c.as_slice-3.ensures c.in_ok-push_symbols.ensures.again in
    subst (λ (b : List ℕ). FileIs b c.args.program.now) (sym form)
    (file_of_written c.args.program.now c.short_header.ensures.within c.short_header.ensures.entry kept)
