use Rattle.std.proofs.Common.{List, ℕ, ◌∙◌, ◌<◌, ap, take, inl, inr}
use Rattle.std.proofs.KnownBytes.{Appends-nil}
use Rattle.std.proofs.lemmas.Result.{IfErr-weaker, IfOk-weaker, err_from_is_err_and}
use Rattle.std.specs.Io.KnownBytes.{Appends}
use Rattle.mx_app_start.specs.Failure.{IsWanting, PrintsFront}
use Rattle.mx_app_start.specs.Machine.{world_of}
use Rattle.mx_machine.specs.World.{actors}
use Rattle.mx_machine.specs.declared.history.Record.{Record}
use Rattle.mx_app_step.proofs.FrontLemmas.{err_always}
use Rattle.mx_app_step.proofs.TraceLemmas.{front_by_actors}
use Rattle.mx_why.specs.Begun.{names_of}
use Rattle.mx_why.proofs.BegunLemmas.{begun_by_actors}
use Rattle.mx_why.proofs.NoteLemmas.{why_printed}
use Rattle.mx_why.proofs.telling.why.Goals as goal

pub returns-in_err-begun-clause-fault : goal.returns-in_err-begun-clause-fault
returns-in_err-begun-clause-fault g c =
    let p = err_from_is_err_and c.from_residual.result c.from_residual.ensures.1 in
    let h = c.in_err-begun.ensures.fault in
    rw (p.1, p.2) (h.0, h.1, inl h.2)

pub print_history-requires-clause-actors : goal.print_history-requires-clause-actors
print_history-requires-clause-actors g c =
    let s = c.in_ok-begun.ensures.begun in
    let w = world_of c.in_ok-begun.begun.started.machine in
    let whole = begun_by_actors (names_of c.args.names) s.0 s.1 s.2 c.in_ok-begun.begun.started.lines.items c.as_slice.result.now c.in_ok-begun.begun.said.items w c.as_slice.ensures.value s.5 s.4 in
    front_by_actors (λ (x : Record). x.actor < actors w) c.as_slice.result.now c.first_records-records.result.now 4294967295 c.first_records-records.ensures.first whole

pub returns-clause-printed : goal.returns-clause-printed
returns-clause-printed g c =
    let s = c.in_ok-begun.ensures.begun in
    IfOk-weaker c.print_history.result _ _ (λ how b. (
      s.0,
      s.1,
      s.2,
      c.in_ok-begun.begun.started.lines.items,
      c.in_ok-begun.begun.said.items,
      s.3,
      s.4,
      why_printed (λ (text : List ℕ). Appends (g.W.Write.contents c.args.out.now) (g.W.Write.contents c.print_history.new.out) text) s.1 _ s.2 c.in_ok-begun.begun.started.lines.items c.first_records-records.result.now (world_of c.in_ok-begun.begun.started.machine)
          c.in_ok-begun.begun.said.items _ how
          (c.first_records-records.ensures.first ∙ ap (λ (rs : List Record). take 4294967295 rs) c.as_slice.ensures.value) s.5 s.6 c.as_slice-2.ensures.value b,
    )) c.print_history.ensures.printed

pub returns-clause-fault : goal.returns-clause-fault
returns-clause-fault g c =
    let s = c.in_ok-begun.ensures.begun in
    IfErr-weaker c.print_history.result IsWanting _ (λ f h. (s.0, s.3, inr (s.1, s.2, c.in_ok-begun.begun.started.lines.items, c.in_ok-begun.begun.said.items, s.4, h))) c.print_history.ensures.err

pub returns-in_err-begun-clause-begun : goal.returns-in_err-begun-clause-begun
returns-in_err-begun-clause-begun g c = err_always c.from_residual.result _ (inl (Appends-nil _))

pub returns-clause-begun : goal.returns-clause-begun
returns-clause-begun g c =
    let s = c.in_ok-begun.ensures.begun in
    let slice = c.first_records-records.ensures.first ∙ ap (λ (rs : List Record). take 4294967295 rs) c.as_slice.ensures.value in
    let front : List ℕ → Type 0 = λ text. PrintsFront (λ t. Appends (g.W.Write.contents c.args.out.now) (g.W.Write.contents c.print_history.new.out) t) text in
    IfErr-weaker c.print_history.result _ _ (λ f h. elim h [
      | inl none ↦ inl none
      | inr some ↦ inr (
        s.0,
        s.1,
        s.2,
        c.in_ok-begun.begun.started.lines.items,
        c.in_ok-begun.begun.said.items,
        s.3,
        s.4,
        (some.0, why_printed front s.1 _ s.2 c.in_ok-begun.begun.started.lines.items c.first_records-records.result.now (world_of c.in_ok-begun.begun.started.machine) c.in_ok-begun.begun.said.items _ some.0 slice s.5 s.6 c.as_slice-2.ensures.value some.1),
      )
    ]) c.print_history.ensures.begun
