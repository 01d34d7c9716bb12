use Rattle.std.proofs.Common.{◌≡◌, ◌∙◌, ◌++◌, List, ℕ, append_assoc, ap, sym}
use Rattle.std.proofs.lemmas.Result.{on_ok_weaker}
use Rattle.std.specs.Prelude.{codes, string_bytes}
use Rattle.mx_insn_words.specs.Numbers.{eight_digits}
use Rattle.mx_look.specs.FaultLines.{access_text, limit_number, touched_text}
use Rattle.mx_look.proofs.fault_lines.push_access.Goals as goal

-- the access, and then the words and the limit
told : (at count limit : ℕ) (out above new : List ℕ) → above ≡ out ++ touched_text at count limit → new ≡ above ++ (codes " is past the limit " ++ eight_digits (limit_number limit))
    → new ≡ out ++ access_text at count limit
unfolding access_text
told at count limit out above new e h =
    let touched = touched_text at count limit in
    let words = codes " is past the limit " in
    let digits = eight_digits (limit_number limit) in
    h ∙ ap (λ (x : List ℕ). x ++ (words ++ digits)) e ∙ append_assoc out touched (words ++ digits)
    ∙ ap (λ (x : List ℕ). out ++ x) (sym (append_assoc touched words digits))

pub returns : goal.returns
returns c =
    on_ok_weaker c.push_limit.result
    (told c.args.at c.args.count c.args.limit (string_bytes c.args.out.now) (string_bytes c.push_touched.new.out) (string_bytes c.push_limit.new.out) c.in_ok-push_touched.ensures) c.push_limit.ensures
