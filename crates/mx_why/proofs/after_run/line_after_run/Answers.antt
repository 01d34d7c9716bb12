use Rattle.std.proofs.Common.{List, ◌∙◌, ◌<◌, ap, take, inl, inr, refl}
use Rattle.std.proofs.lemmas.Result.{err_from_is_err_and}
use Rattle.mx_app_start.specs.Machine.{world_of}
use Rattle.mx_app_step.proofs.TraceLemmas.{front_by_actors}
use Rattle.mx_machine.specs.World.{actors}
use Rattle.mx_machine.specs.declared.history.Record.{Record}
use Rattle.mx_why.specs.Begun.{names_of}
use Rattle.mx_why.proofs.AfterLemmas.{told_started}
use Rattle.mx_why.proofs.BegunLemmas.{begun_by_actors}
use Rattle.mx_why.proofs.after_run.line_after_run.Goals as goal

pub returns-in_err-begun-clause-fault : goal.returns-in_err-begun-clause-fault
returns-in_err-begun-clause-fault g c =
    let p = err_from_is_err_and c.from_residual.result c.from_residual.ensures.1 in
    let h = c.in_err-begun.ensures.fault in
    rw (p.1, p.2) (h.0, h.1, inl h.2)

pub told_within-requires-clause-actors : goal.told_within-requires-clause-actors
told_within-requires-clause-actors g c =
    let s = c.in_ok-begun.ensures.begun in
    let w = world_of c.in_ok-begun.begun.started.machine in
    let whole = begun_by_actors (names_of c.args.names) s.0 s.1 s.2 c.in_ok-begun.begun.started.lines.items c.as_slice.result.now c.in_ok-begun.begun.said.items w c.as_slice.ensures.value s.5 s.4 in
    front_by_actors (λ (x : Record). x.actor < actors w) c.as_slice.result.now c.first_records-records.result.now 4294967295 c.first_records-records.ensures.first whole

pub returns-in_err-told-clause-fault : goal.returns-in_err-told-clause-fault
returns-in_err-told-clause-fault g c =
    let p = err_from_is_err_and c.from_residual-in_err-told.result c.from_residual-in_err-told.ensures.1 in
    let s = c.in_ok-begun.ensures.begun in
    rw (p.1, p.2) (s.0, s.3, inr (s.1, s.2, c.in_ok-begun.begun.started.lines.items, c.in_ok-begun.begun.said.items, s.4, inr refl))

pub returns-clause-told : goal.returns-clause-told
returns-clause-told g c =
    let s = c.in_ok-begun.ensures.begun in (
      s.0,
      s.1,
      s.2,
      c.in_ok-begun.begun.started.lines.items,
      c.in_ok-begun.begun.said.items,
      s.3,
      s.4,
      told_started c.args.all s.1 _ s.2 c.in_ok-begun.begun.started.lines.items c.first_records-records.result.now (world_of c.in_ok-begun.begun.started.machine) c.in_ok-begun.begun.said.items _ (names_of c.args.names) _
          (c.first_records-records.ensures.first ∙ ap (λ (rs : List Record). take 4294967295 rs) c.as_slice.ensures.value) s.5 s.6 c.as_slice-2.ensures.value c.in_ok-told.ensures,
    )
