use Rattle.std.proofs.Common.{ℕ, Option, subst}
use Rattle.std.proofs.lemmas.Result.{IfOk-weaker}
use Rattle.mx_app_start.specs.Machine.{world_of}
use Rattle.mx_machine.specs.declared.events.Refusal.{Refusal}
use Rattle.mx_why.specs.Begun.{names_of}
use Rattle.mx_why.specs.Telling.{IsNoted}
use Rattle.mx_why.proofs.AfterLemmas.{told_marked, told_refused}
use Rattle.mx_why.proofs.after_run.line_of.Goals as goal

pub returns-in-None : goal.returns-in-None
returns-in-None c =
    let w = world_of c.args.machine.now in
    let u = world_of c.note_records.new.machine in
    let ns = c.note_records.new.notes.items in
    let cs = c.note_records.new.calls.items in
    let noted = subst (λ (o : Option (ℕ × Refusal)). IsNoted w u c.args.records.now o ns cs) c.in-None.is c.in_ok-note_records.ensures.noted in
    IfOk-weaker c.line_told.result _ _ (λ line e. told_marked c.args.config.now w u c.args.records.now ns c.as_slice.result.now cs c.as_slice-in-None.result.now c.args.said.now (names_of c.args.names) _ c.as_slice.ensures.value c.as_slice-in-None.ensures.value noted e) c.line_told.ensures

pub returns : goal.returns
returns c =
    let w = world_of c.args.machine.now in
    let u = world_of c.note_records.new.machine in
    let ns = c.note_records.new.notes.items in
    let cs = c.note_records.new.calls.items in
    told_refused c.args.config.now w u c.args.records.now ns cs c.in-Some.field-0 c.args.said.now (names_of c.args.names)
    (subst (λ (o : Option (ℕ × Refusal)). IsNoted w u c.args.records.now o ns cs) c.in-Some.is c.in_ok-note_records.ensures.noted)
