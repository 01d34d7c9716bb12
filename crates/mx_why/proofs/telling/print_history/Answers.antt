use Rattle.std.proofs.Common.{List, ℕ, Option, inl, inr, refl, subst}
use Rattle.std.proofs.KnownBytes.{Appends-nil}
use Rattle.std.specs.Io.KnownBytes.{Appends}
use Rattle.mx_app_start.specs.Failure.{PrintsFront}
use Rattle.mx_app_start.specs.Machine.{world_of}
use Rattle.mx_app_step.proofs.FrontLemmas.{err_always}
use Rattle.mx_machine.specs.declared.events.Refusal.{Refusal}
use Rattle.mx_why.specs.declared.telling.Told.TheVariants.{Whole, Refused}
use Rattle.mx_why.specs.Seeing.{end_of}
use Rattle.mx_why.specs.Telling.{IsNoted, told_marked}
use Rattle.mx_why.proofs.NoteLemmas.{lines_printed, refusal_printed}
use Rattle.mx_why.proofs.telling.print_history.Goals as goal

pub returns-in_err-note_records-clause-begun : goal.returns-in_err-note_records-clause-begun
returns-in_err-note_records-clause-begun g c = err_always c.from_residual.result _ (inl (Appends-nil _))

pub returns-in_err-marked-in-None-clause-begun : goal.returns-in_err-marked-in-None-clause-begun
returns-in_err-marked-in-None-clause-begun g c =
    let w = world_of c.args.machine.now in
    let u = world_of c.note_records.new.machine in
    let ns = c.note_records.new.notes.items in
    let cs = c.note_records.new.calls.items in
    let front : List ℕ → Type 0 = λ text. PrintsFront (λ t. Appends (g.W.Write.contents c.args.out.now) (g.W.Write.contents c.print_lines.new.out) t) text in
    let noted = subst (λ (o : Option (ℕ × Refusal)). IsNoted w u c.args.records.now o ns cs) c.in-None.is c.in_ok-note_records.ensures.noted in
    err_always c.from_residual-in_err-marked-in-None.result _
    (inr (
      Whole (told_marked c.args.config.now (end_of u) c.as_slice-noted.result.now c.as_slice-counted.result.now c.args.records.now c.args.said.now),
      lines_printed front c.args.config.now w u c.args.records.now ns c.as_slice-noted.result.now cs c.as_slice-counted.result.now c.args.said.now _
          c.as_slice-noted.ensures.value c.as_slice-counted.ensures.value noted refl c.in_err-marked-in-None.ensures.front,
    ))

pub returns-in-None-clause-printed : goal.returns-in-None-clause-printed
returns-in-None-clause-printed g c =
    let w = world_of c.args.machine.now in
    let u = world_of c.note_records.new.machine in
    let ns = c.note_records.new.notes.items in
    let cs = c.note_records.new.calls.items in
    let noted = subst (λ (o : Option (ℕ × Refusal)). IsNoted w u c.args.records.now o ns cs) c.in-None.is c.in_ok-note_records.ensures.noted in
    lines_printed (λ (t : List ℕ). Appends (g.W.Write.contents c.args.out.now) (g.W.Write.contents c.print_lines.new.out) t) c.args.config.now w u c.args.records.now ns c.as_slice-noted.result.now cs c.as_slice-counted.result.now c.args.said.now _
    c.as_slice-noted.ensures.value c.as_slice-counted.ensures.value noted c.in_ok-marked-in-None.ensures.marked c.in_ok-marked-in-None.ensures.bytes

pub returns-in_err-print_refused_record-in-Some-clause-begun : goal.returns-in_err-print_refused_record-in-Some-clause-begun
returns-in_err-print_refused_record-in-Some-clause-begun g c =
    let w = world_of c.args.machine.now in
    let u = world_of c.note_records.new.machine in
    let ns = c.note_records.new.notes.items in
    let cs = c.note_records.new.calls.items in
    let n = c.in-Some.number in
    let front : List ℕ → Type 0 = λ text. PrintsFront (λ t. Appends (g.W.Write.contents c.args.out.now) (g.W.Write.contents c.print_refused_record.new.out) t) text in
    let noted = subst (λ (o : Option (ℕ × Refusal)). IsNoted w u c.args.records.now o ns cs) c.in-Some.is c.in_ok-note_records.ensures.noted in
    err_always c.from_residual-in_err-print_refused_record-in-Some.result _
    (inr (Refused, refusal_printed front c.args.config.now w u c.args.records.now ns cs c.args.said.now n c.in-Some.refusal noted c.in_err-print_refused_record-in-Some.ensures.front))

pub returns-clause-printed : goal.returns-clause-printed
returns-clause-printed g c =
    let w = world_of c.args.machine.now in
    let u = world_of c.note_records.new.machine in
    let ns = c.note_records.new.notes.items in
    let cs = c.note_records.new.calls.items in
    let n = c.in-Some.number in
    let noted = subst (λ (o : Option (ℕ × Refusal)). IsNoted w u c.args.records.now o ns cs) c.in-Some.is c.in_ok-note_records.ensures.noted in
    refusal_printed (λ (t : List ℕ). Appends (g.W.Write.contents c.args.out.now) (g.W.Write.contents c.print_refused_record.new.out) t) c.args.config.now w u c.args.records.now ns cs c.args.said.now n c.in-Some.refusal noted c.in_ok-print_refused_record-in-Some.ensures.bytes
