use Rattle.std.proofs.Common.{◌∙◌, ◌++◌, List, ℕ, ap}
use Rattle.mx_why.specs.AfterRun.{line_after}
use Rattle.mx_why.specs.Begun.{names_of}
use Rattle.mx_why.proofs.AfterLemmas.{marked, unmarked}
use Rattle.mx_why.proofs.after_run.line_if_marked.Goals as goal

pub returns-then-not-branch : goal.returns-then-not-branch
returns-then-not-branch c =
    unmarked c.args.config.now c.args.end.now c.args.notes.now c.args.calls.now c.args.lost.now c.args.records c.in_ok-is_marked.field-0 (names_of c.args.names)
    c.in_ok-is_marked.ensures c.if-not-branch.true

pub returns : goal.returns
returns c =
    let line = line_after c.args.config.now c.args.end.now c.as_slice.result.now c.args.records (names_of c.args.names) in
    marked c.args.config.now c.args.end.now c.args.notes.now c.args.calls.now c.args.lost.now c.args.records c.in_ok-is_marked.field-0 (names_of c.args.names)
    c.in_ok-lines.lines.items c.as_slice.result.now c.push_line_after.new.out.items
    c.in_ok-is_marked.ensures c.if-not-branch.false c.in_ok-lines.ensures c.as_slice.ensures.value
    (c.in_ok-push_line_after.ensures ∙ ap (λ (t : List ℕ). t ++ line) c.new-line.ensures.items)
