use Rattle.std.proofs.Common.{◌∙◌, ◌+◌, ◌++◌, List, ℕ, append_assoc, ap, drop, sym}
use Rattle.mx_print_answers.specs.Said.{said_line}
use Rattle.mx_turns.specs.Sweep.{indented, said_text}
use Rattle.mx_turns.proofs.LineLemmas.{said_text_more}
use Rattle.mx_turns.proofs.trials.push_said.Goals as goal

pub loop-answer-preserved : goal.loop-answer-preserved
loop-answer-preserved c =
    let said = c.args.said.now in
    let i = c.loop-answer.answer-index in
    let old = c.loop-answer.text.items in
    let below = said_text (drop (i + 1) said) in
    ap (λ (t : List ℕ). t ++ below) (c.in_ok-extend_from_slice.ensures.items ∙ ap (λ (l : List ℕ). old ++ l) (c.as_bytes.ensures.value ∙ c.in_ok-line.ensures.ok))
    ∙ append_assoc old (indented (said_line _)) below ∙ sym (ap (λ (t : List ℕ). old ++ t) (said_text_more said i _ c.loop-answer-test.true)) ∙ c.loop-answer.invariant
