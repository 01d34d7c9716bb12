use Rattle.std.proofs.Common.{rules, ◌≡◌, ◌∙◌, ◌<◌, All, IfErr, [], inl, inr, refl, ap, subst, sym}
use Rattle.std.proofs.lemmas.List.{append-nil}
use Rattle.std.proofs.lemmas.Result.{IfErr-weaker, err_from_is_err_and}
use Rattle.mx_app_step.proofs.ReplayLemmas.{saved_by_actors}
use Rattle.mx_app_step.specs.Config.{Config}
use Rattle.mx_app_step.specs.Failure.{IsWanting}
use Rattle.mx_machine.specs.Boot.{world_at_boot}
use Rattle.mx_machine.specs.History.{BootAndHistory}
use Rattle.mx_machine.specs.World.{World, actors}
use Rattle.mx_machine.specs.declared.history.Record.{Record}
use Rattle.mx_walk.specs.Parts.{walk_shown}
use Rattle.mx_walk.specs.Walks.{IsLast}
use Rattle.mx_app_gdb.specs.Talks.{file_names}
use Rattle.mx_app_gdb.proofs.Grown.{grown_same}
use Rattle.mx_app_gdb.proofs.Opening.{is_begun, none_set}
use Rattle.mx_app_gdb.proofs.talking.open_history.Goals as goal

pub returns-in_err-machine-clause-fault : goal.returns-in_err-machine-clause-fault
returns-in_err-machine-clause-fault g c =
    let p = err_from_is_err_and c.from_residual.result c.from_residual.ensures.1 in
    let h = c.in_err-machine.ensures.fault in
    rw (p.1, p.2) (h.0, [], h.1, sym (append-nil (g.P.Progress.shown c.args.progress.now)), inl (refl, h.2))

pub returns-in_err-files-clause-fault : goal.returns-in_err-files-clause-fault
returns-in_err-files-clause-fault g c =
    let s = c.in_ok-machine.ensures.started in
    let records = c.in_ok-machine.field-0.lines.items in
    let p = err_from_is_err_and c.from_residual-in_err-files.result c.from_residual-in_err-files.ensures.1 in
    rw (p.1) (s.0, [], s.3, sym (append-nil (g.P.Progress.shown c.args.progress.now)), inl (refl, inr (s.1, s.2, records, s.4, p.2)))

pub new-requires-clause-actors : goal.new-requires-clause-actors
new-requires-clause-actors g c =
    let s = c.in_ok-machine.ensures.started in
    let records = c.in_ok-machine.field-0.lines.items in
    subst (λ (w : World). All (λ (x : Record). x.actor < actors w) records) (sym s.5)
    (saved_by_actors c.args.wanted.config.now c.args.wanted.log.now s.0 s.1 s.2 records records (world_at_boot s.1 s.2) refl refl s.4)

pub returns-in_err-walker-clause-fault : goal.returns-in_err-walker-clause-fault
returns-in_err-walker-clause-fault g c =
    let s = c.in_ok-machine.ensures.started in
    let records = c.in_ok-machine.field-0.lines.items in
    let h = c.in_err-walker.ensures.walked in
    let boot = ap (λ (x : BootAndHistory). x.boot) c.in_ok-machine.ensures.kernel ∙ s.5 in
    let last : IsLast (world_at_boot s.1 s.2) records h.0 = subst (λ (w : World). IsLast w records h.0) boot h.1 in
    let wanting : IfErr c.from_residual-in_err-walker.result IsWanting = search rules in
    IfErr-weaker c.from_residual-in_err-walker.result IsWanting _
    (λ f e. (s.0, walk_shown records h.0, s.3, h.2, inr (s.1, s.2, records, h.0, s.4, last, grown_same _ _ refl, inr e))) wanting

pub returns-clause-opened : goal.returns-clause-opened
returns-clause-opened g c =
    let s = c.in_ok-machine.ensures.started in
    let records = c.in_ok-machine.field-0.lines.items in
    let k = c.in_ok-walker.walker in
    let made = c.in_ok-walker.ensures.made in
    let boot : k.boot ≡ world_at_boot s.1 s.2 = made.0 ∙ ap (λ (x : BootAndHistory). x.boot) c.in_ok-machine.ensures.kernel ∙ s.5 in (
      s.0,
      walk_shown k.records k.last,
      s.1,
      k,
      s.3,
      c.clear.ensures ∙ c.in_ok-walker.ensures.shown,
      record {
        services = s.2;
        records = records;
        started = s.4;
        begun = is_begun (world_at_boot s.1 s.2) records k boot made.1 made.2 c.in_ok-walker.ensures.last;
        shown = grown_same _ _ refl;
      },
      none_set k c.new-2.result c.new-2.ensures.breakpoints c.new-2.ensures.watches,
      c.in_ok-files.ensures ∙ ap file_names (c.as_slice.ensures ∙ ap (λ (x : Config). x.lines) s.7),
    )
