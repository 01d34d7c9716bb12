use Rattle.std.proofs.Common.{◌∙◌, ◌<◌, All, List, ℕ, Some, ap, arith, inl, inr, length, rules, subst, sym, take}
use Rattle.std.proofs.KnownBytes.{Appends-nil, Appends-trans}
use Rattle.std.proofs.lemmas.List.{length-drop, length-take}
use Rattle.std.proofs.lemmas.List.Elements.{All-drop}
use Rattle.std.proofs.lemmas.Result.{IfErr-weaker, IfOk-weaker}
use Rattle.std.specs.Io.KnownBytes.{Appends}
use Rattle.mx_machine.specs.History.{events_of_history}
use Rattle.mx_machine.specs.World.{actors}
use Rattle.mx_machine.proofs.ActorLemmas.{actors_after_events}
use Rattle.mx_machine.specs.declared.history.Record.{Record}
use Rattle.mx_look_page.specs.Heads.{run_of}
use Rattle.mx_app_step.specs.Failure.{PrintsFront}
use Rattle.mx_app_step.specs.declared.records.Replayed.TheVariants as replayed
use Rattle.mx_app_step.specs.Machine.{world_of}
use Rattle.mx_app_step.proofs.FrontLemmas.{err_always, front_after, front_more}
use Rattle.mx_app_step.proofs.TraceLemmas.{front_by_actors}
use Rattle.mx_app_page.specs.Pages.{front_text, back_text, refused_line}
use Rattle.mx_app_page.proofs.AboveLemmas.{front_of_rows, page_at_boot, page_of_rows}
use Rattle.mx_app_page.proofs.PageStart.{with_first}
use Rattle.mx_app_page.proofs.printing.print_page.Goals as goal

pub perform_records-requires : goal.perform_records-requires
perform_records-requires g c =
    front_by_actors (λ (x : Record). x.actor < actors (world_of c.args.machine.now)) c.args.records.now c.first_records-above.result.now c.args.terms.first c.first_records-above.ensures.first c.requires.actors

pub print_made-requires-clause-actors : goal.print_made-requires-clause-actors
print_made-requires-clause-actors g c =
    subst (λ (rs : List Record). All (λ (x : Record). x.actor < actors (world_of c.perform_records.new.machine)) rs) (sym c.records_in_rows-rows.ensures)
    (All-drop (λ (x : Record). x.actor < actors (world_of c.perform_records.new.machine)) (length (take c.args.terms.first c.args.records.now)) c.args.records.now
    (subst (λ n. All (λ (x : Record). x.actor < n) c.args.records.now) (sym (ap actors c.in-Ok.ensures.ok.1 ∙ actors_after_events (world_of c.args.machine.now) (events_of_history c.first_records-above.result.now))) c.requires.actors))

pub print_made-requires-clause-few : goal.print_made-requires-clause-few
print_made-requires-clause-few g c =
    let all = c.args.records.now in
    let first = c.args.terms.first in
    let rows = ap length c.records_in_rows-rows.ensures ∙ length-drop (length (take first all)) all in
    omega (arith, c.requires.few, rows, ap length c.first_records-above.ensures.first, length-take first all)

pub returns-in_err-at_boot-clause-begun : goal.returns-in_err-at_boot-clause-begun
returns-in_err-at_boot-clause-begun g c = err_always c.from_residual.result _ (inl (Appends-nil (g.W.Write.contents c.args.out.now)))

pub returns-in-Ok-clause-printed : goal.returns-in-Ok-clause-printed
returns-in-Ok-clause-printed g c =
    let w = world_of c.args.machine.now in
    let v = world_of c.perform_records.new.machine in
    let done = c.in-Ok.ensures.ok in
    IfOk-weaker c.print_made.result _ _ (λ how h. page_of_rows (with_first (run_of c.args.terms)) w v c.args.records.now c.first_records-above.result.now c.records_in_rows-rows.result.now c.args.terms.first _ c.rules-rules.result
    c.first_records-above.ensures.first (search rules) c.records_in_rows-rows.ensures done.0 done.1 c.rules-rules.ensures (λ (t : List ℕ). Appends (g.W.Write.contents c.args.out.now) (g.W.Write.contents c.print_made.new.out) t) how h) c.print_made.ensures.printed

pub returns-in-Ok-clause-begun : goal.returns-in-Ok-clause-begun
returns-in-Ok-clause-begun g c =
    let w = world_of c.args.machine.now in
    let v = world_of c.perform_records.new.machine in
    let done = c.in-Ok.ensures.ok in
    IfErr-weaker c.print_made.result _ _ (λ f h. front_of_rows (with_first (run_of c.args.terms)) w v c.args.records.now c.first_records-above.result.now c.records_in_rows-rows.result.now c.args.terms.first _ c.rules-rules.result
    c.first_records-above.ensures.first (search rules) c.records_in_rows-rows.ensures done.0 done.1 c.rules-rules.ensures (λ (t : List ℕ). Appends (g.W.Write.contents c.args.out.now) (g.W.Write.contents c.print_made.new.out) t) h) c.print_made.ensures.begun

pub returns-in_err-print_text-in-Err-clause-begun : goal.returns-in_err-print_text-in-Err-clause-begun
returns-in_err-print_text-in-Err-clause-begun g c =
    let w = world_of c.args.machine.now in
    let x = g.W.Write.contents c.args.out.now in
    let y = g.W.Write.contents c.print_text.new.out in
    let n = c.in-Err.number in
    let r = c.in-Err.refusal in
    let head = front_text (with_first (run_of c.args.terms) 0) w in
    let text = c.as_slice.ensures.value ∙ c.in_ok-at_boot.ensures in
    err_always c.from_residual-in_err-print_text-in-Err.result _
    (inr (inr (
      replayed.Refused,
      page_at_boot (with_first (run_of c.args.terms)) w c.args.records.now c.first_records-above.result.now c.args.terms.first n r c.rules-rules.result c.first_records-above.ensures.first c.in-Err.ensures.few c.in-Err.ensures.err c.rules-rules.ensures (λ (t : List ℕ). PrintsFront (λ s. Appends x y s) t)
          (front_more (λ s. Appends x y s) head (back_text 0 (Some (refused_line c.rules-rules.result n r)))
          (subst (λ (t : List ℕ). PrintsFront (λ s. Appends x y s) t) text c.in_err-print_text-in-Err.ensures.front)),
    )))

pub returns-in_err-print_refused-in-Err-clause-begun : goal.returns-in_err-print_refused-in-Err-clause-begun
returns-in_err-print_refused-in-Err-clause-begun g c =
    let w = world_of c.args.machine.now in
    let x = g.W.Write.contents c.args.out.now in
    let y = g.W.Write.contents c.print_text.new.out in
    let z = g.W.Write.contents c.print_refused.new.out in
    let n = c.in-Err.number in
    let r = c.in-Err.refusal in
    let head = front_text (with_first (run_of c.args.terms) 0) w in
    let text = c.as_slice.ensures.value ∙ c.in_ok-at_boot.ensures in
    err_always c.from_residual-in_err-print_refused-in-Err.result _
    (inr (inr (
      replayed.Refused,
      page_at_boot (with_first (run_of c.args.terms)) w c.args.records.now c.first_records-above.result.now c.args.terms.first n r c.rules-rules.result c.first_records-above.ensures.first c.in-Err.ensures.few c.in-Err.ensures.err c.rules-rules.ensures (λ (t : List ℕ). PrintsFront (λ s. Appends x z s) t)
          (front_after x y z head (back_text 0 (Some (refused_line c.rules-rules.result n r)))
          (subst (λ (t : List ℕ). Appends x y t) text c.in_ok-print_text-in-Err.ensures.bytes) c.in_err-print_refused-in-Err.ensures.front),
    )))

pub returns-clause-printed : goal.returns-clause-printed
returns-clause-printed g c =
    let w = world_of c.args.machine.now in
    let x = g.W.Write.contents c.args.out.now in
    let y = g.W.Write.contents c.print_text.new.out in
    let z = g.W.Write.contents c.print_refused.new.out in
    let n = c.in-Err.number in
    let r = c.in-Err.refusal in
    let head = front_text (with_first (run_of c.args.terms) 0) w in
    let text = c.as_slice.ensures.value ∙ c.in_ok-at_boot.ensures in
    page_at_boot (with_first (run_of c.args.terms)) w c.args.records.now c.first_records-above.result.now c.args.terms.first n r c.rules-rules.result c.first_records-above.ensures.first c.in-Err.ensures.few c.in-Err.ensures.err c.rules-rules.ensures (λ (t : List ℕ). Appends x z t)
    (Appends-trans x y z head (back_text 0 (Some (refused_line c.rules-rules.result n r)))
    (subst (λ (t : List ℕ). Appends x y t) text c.in_ok-print_text-in-Err.ensures.bytes) c.in_ok-print_refused-in-Err.ensures.bytes)
