use Rattle.std.proofs.Common.{◌≡◌, ◌∙◌, ◌++◌, List, ℕ, ap, codes}
use Rattle.std.specs.Fmt.{decimal}
use Rattle.mx_machine.specs.Refusals.{code_of_refusal, name_of_refusal}
use Rattle.mx_why.specs.RefusedRecords.{cause_text}
use Rattle.mx_why.proofs.Pieces.{extended, joined, joined_is, last_joined}
use Rattle.mx_why.proofs.refused_record.push_cause.Goals as goal

pub returns : goal.returns
unfolding cause_text
returns c =
    let a0 : List ℕ = codes ") is refused, " in
    let h0 : c.extend_from_slice.new.self.items ≡ c.args.out.now.items ++ a0 = c.in_ok-extend_from_slice.ensures.items in
    let a1 : List ℕ = a0 ++ (decimal (code_of_refusal c.args.refusal)) in
    let h1 : c.push_decimal.new.out.items ≡ c.args.out.now.items ++ a1 = joined_is c.args.out.now.items a0 (decimal c.from.result) (decimal (code_of_refusal c.args.refusal)) h0 (ap decimal (c.from.ensures ∙ c.code.ensures)) c.in_ok-push_decimal.ensures in
    let a2 : List ℕ = a1 ++ (codes " ") in
    let h2 : c.extend_from_slice-2.new.self.items ≡ c.args.out.now.items ++ a2 = joined c.args.out.now.items a1 (codes " ") h1 c.in_ok-extend_from_slice-2.ensures.items in
    let a3 : List ℕ = a2 ++ (name_of_refusal c.args.refusal) in
    let h3 : c.extend_from_slice-3.new.self.items ≡ c.args.out.now.items ++ a3 = joined_is c.args.out.now.items a2 c.as_bytes.result.now (name_of_refusal c.args.refusal) h2 (c.as_bytes.ensures.value ∙ c.name.ensures) c.in_ok-extend_from_slice-3.ensures.items in
    last_joined c.extend_from_slice-4.result c.args.out.now.items a3 (codes ". LOG is of another machine, or CONFIG or a program was changed since, or LOG itself\n") c.extend_from_slice-3.new.self.items c.extend_from_slice-4.new.self.items h3 (extended c.extend_from_slice-4.result c.extend_from_slice-4.new.self.items (c.extend_from_slice-3.new.self.items ++ (codes ". LOG is of another machine, or CONFIG or a program was changed since, or LOG itself\n")) c.extend_from_slice-3.new.self.items c.extend_from_slice-4.ensures.items)
