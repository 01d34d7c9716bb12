use Rattle.std.proofs.Common.{◌≡◌, ◌∙◌, ◌++◌, ◌+◌, ◌-◌, ℕ, List, [], Option, Some, IfErr, IfOk, OnOk, ap, arith, inl, inr, length, refl, subst, sym}
use Rattle.std.proofs.KnownBytes.{Appends-nil}
use Rattle.std.proofs.lemmas.List.{append-nil}
use Rattle.std.specs.Io.KnownBytes.{Appends}
use Rattle.mx_machine.specs.History.{BootAndHistory}
use Rattle.mx_machine.specs.World.{World}
use Rattle.mx_machine.specs.declared.events.Refusal.{Refusal}
use Rattle.mx_app_failure.specs.Failure.{PrintsFront}
use Rattle.mx_app_step.proofs.FrontLemmas.{front_after, front_more}
use Rattle.mx_app_step.specs.Machine.{world_of}
use Rattle.mx_app_step.specs.declared.records.Replayed.TheVariants as replayed
use Rattle.mx_app_turns.specs.Begun.{sweep_of}
use Rattle.mx_app_turns.specs.Sweeping.{ending_of}
use Rattle.mx_app_turns.proofs.ReadyLemmas.{swept}
use Rattle.mx_app_turns.proofs.SweptLemmas.{positions_are}
use Rattle.mx_app_turns.specs.declared.sweeping.Swept.TheVariants.{Refused}
use Rattle.mx_look_page.specs.Heads.{Run}
use Rattle.mx_look_page.specs.Strips.{Strip}
use Rattle.mx_app_page.specs.Pages.{AreRowsPrinted, back_text, front_text, refused_line, rows_text, run_of_files}
use Rattle.mx_app_page.specs.Strips.{strip_in, strip_text}
use Rattle.mx_app_page.proofs.AboveLemmas.{page_of_rows}
use Rattle.mx_app_page.proofs.MadeLemmas.{refused_front, refused_printed}
use Rattle.mx_app_page.proofs.StripLemmas.{below_done, failed, same_boot, same_services, strip_is}
use Rattle.mx_app_page.proofs.strips.print_swept.Goals as goal

-- ---- above the strip

pub returns-in_err-front : goal.returns-in_err-front
returns-in_err-front g c =
    let plan = c.args.plan in
    let names = c.args.names in
    let x = g.W.Write.contents c.args.out.now in (
      [],
      sym (append-nil _),
      failed (run_of_files names.config.now names.log.now 0 plan.sweep.config.now) (sweep_of plan.sweep (world_of c.args.machine)) names.fault.now plan.wanted.from plan.wanted.to (λ (t : List ℕ). Appends x x t)
          _ c.from_residual.result c.from_residual.ensures.1 (inr refl) (inl (Appends-nil x)),
    )

pub returns-in_err-print_text : goal.returns-in_err-print_text
returns-in_err-print_text g c =
    let plan = c.args.plan in
    let names = c.args.names in
    let w = world_of c.args.machine in
    let r = run_of_files names.config.now names.log.now 0 plan.sweep.config.now in
    let x = g.W.Write.contents c.args.out.now in
    let y = g.W.Write.contents c.print_text.new.out in
    let text = c.as_slice.ensures.value ∙ c.in_ok-front.ensures ∙ ap (λ (q : Run). front_text q w) c.terms_of-terms.ensures.run in
    let begun = subst (λ (t : List ℕ). PrintsFront (λ u. Appends x y u) t) text c.in_err-print_text.ensures.front in (
      [],
      sym (append-nil _),
      failed r (sweep_of plan.sweep w) names.fault.now plan.wanted.from plan.wanted.to (λ (t : List ℕ). Appends x y t) _ c.from_residual-in_err-print_text.result c.from_residual-in_err-print_text.ensures.1
          c.in_err-print_text.ensures.err (inr (inl (0, (tt, front_more (λ t. Appends x y t) (front_text r w) (rows_text w 1 []) begun)))),
    )

pub print_rows-requires-clause-actors : goal.print_rows-requires-clause-actors
print_rows-requires-clause-actors g c = c.requires.ready.by_actors

pub returns-in_err-print_rows : goal.returns-in_err-print_rows
returns-in_err-print_rows g c =
    let plan = c.args.plan in
    let names = c.args.names in
    let w = world_of c.args.machine in
    let r = run_of_files names.config.now names.log.now 0 plan.sweep.config.now in
    let x = g.W.Write.contents c.args.out.now in
    let y = g.W.Write.contents c.print_text.new.out in
    let z = g.W.Write.contents c.print_rows.new.out in
    let text = c.as_slice.ensures.value ∙ c.in_ok-front.ensures ∙ ap (λ (q : Run). front_text q w) c.terms_of-terms.ensures.run in
    let front = subst (λ (t : List ℕ). Appends x y t) text c.in_ok-print_text.ensures.bytes in
    let h = c.in_err-print_rows.ensures.begun in (
      [],
      sym (append-nil _),
      failed r (sweep_of plan.sweep w) names.fault.now plan.wanted.from plan.wanted.to (λ (t : List ℕ). Appends x z t) _ c.from_residual-in_err-print_rows.result c.from_residual-in_err-print_rows.ensures.1
          c.in_err-print_rows.ensures.err (inr (inl (h.0, (h.1, front_after x y z (front_text r w) _ front h.2)))),
    )

-- ---- the strip: the machines of the trials boot as the one of the rows

pub print_below-requires-clause-swept : goal.print_below-requires-clause-swept
print_below-requires-clause-swept g c κs within =
    let m = c.args.machine in
    let w = world_of m in
    let sweep = c.args.plan.sweep in
    let records = sweep.records.now in
    let rows = subst (λ (o : Option (ℕ × Refusal)). AreRowsPrinted w 0 records o (λ t. Appends (g.W.Write.contents c.print_text.new.out) (g.W.Write.contents c.print_rows.new.out) t)) c.in-None.is c.in_ok-print_rows.ensures.printed in
    let after = c.in_ok-print_rows.ensures.world c.in-None.is in
    let own = c.into_services-services.ensures ∙ ap (λ (k : BootAndHistory). k.boot.services) c.into_kernel.ensures in
    let same = same_services m c.print_rows.new.machine w records c.into_services-services.result.items refl after own in
    swept m sweep.config.now sweep.other records c.requires.ready sweep _ (same_boot sweep.config.now w c.into_services-services.result.items c.requires.ready.booted same) refl refl refl rows.0

pub returns-in-None : goal.returns-in-None
returns-in-None g c =
    let m = c.args.machine in
    let w = world_of m in
    let wanted = c.args.plan.wanted in
    let sweep = c.args.plan.sweep in
    let records = sweep.records.now in
    let range = sweep.range in
    let names = c.args.names in
    let r = run_of_files names.config.now names.log.now 0 sweep.config.now in
    let x = g.W.Write.contents c.args.out.now in
    let y = g.W.Write.contents c.print_text.new.out in
    let z = g.W.Write.contents c.print_rows.new.out in
    let u = g.W.Write.contents c.print_below.new.out in
    let rows = subst (λ (o : Option (ℕ × Refusal)). AreRowsPrinted w 0 records o (λ t. Appends y z t)) c.in-None.is c.in_ok-print_rows.ensures.printed in
    let after = c.in_ok-print_rows.ensures.world c.in-None.is in
    let own = c.into_services-services.ensures ∙ ap (λ (k : BootAndHistory). k.boot.services) c.into_kernel.ensures in
    let same = same_services m c.print_rows.new.machine w records c.into_services-services.result.items refl after own in
    let boot = same_boot sweep.config.now w c.into_services-services.result.items c.requires.ready.booted same in
    let text = c.as_slice.ensures.value ∙ c.in_ok-front.ensures ∙ ap (λ (q : Run). front_text q w) c.terms_of-terms.ensures.run in
    let front = subst (λ (t : List ℕ). Appends x y t) text c.in_ok-print_text.ensures.bytes in
    let many = positions_are (sweep_of sweep w) wanted.from wanted.to range.from range.end (length records) c.requires.from refl c.requires.end in
    let told : Strip = record { fault = names.fault.now; turns = sweep.bound; from = range.from; positions = range.end - range.from } in
    let is = strip_is told (strip_in (sweep_of sweep w) names.fault.now wanted.from wanted.to) refl refl c.requires.from many in
    let h = c.print_below.ensures in
    let n = range.end - range.from in
    let begun = subst (λ (b : World). IfErr c.print_below.result (λ _. PrintsFront (λ t. Appends z u t) (strip_text (sweep_of sweep b) (length records) told))) boot h.front in
    let printed = subst (λ (b : World). OnOk c.print_below.result (Appends z u (strip_text (sweep_of sweep b) (length records) told))) boot h.bytes in
    let ended = subst (λ (b : World). IfOk c.print_below.result (λ how. how ≡ ending_of (sweep_of sweep b) wanted.from wanted.to)) boot h.ended in
    below_done r (sweep_of sweep w) names.fault.now wanted.from wanted.to x y z u front rows.1 rows.0 (g.P.Progress.shown c.args.progress.now) (g.P.Progress.shown c.print_below.new.progress) n told c.print_below.result many is
    h.err begun printed ended h.shown

-- ---- a record is refused

pub returns-in_err-print_refused-in-Some : goal.returns-in_err-print_refused-in-Some
returns-in_err-print_refused-in-Some g c =
    let w = world_of c.args.machine in
    let plan = c.args.plan in
    let records = plan.sweep.records.now in
    let names = c.args.names in
    let r = run_of_files names.config.now names.log.now 0 plan.sweep.config.now in
    let x = g.W.Write.contents c.args.out.now in
    let y = g.W.Write.contents c.print_text.new.out in
    let z = g.W.Write.contents c.print_rows.new.out in
    let u = g.W.Write.contents c.print_refused.new.out in
    let rows = subst (λ (o : Option (ℕ × Refusal)). AreRowsPrinted w 0 records o (λ t. Appends y z t)) c.in-Some.is c.in_ok-print_rows.ensures.printed in
    let text = c.as_slice.ensures.value ∙ c.in_ok-front.ensures ∙ ap (λ (q : Run). front_text q w) c.terms_of-terms.ensures.run in
    let front = subst (λ (t : List ℕ). Appends x y t) text c.in_ok-print_text.ensures.bytes in
    let number : c.in-Some.rows + 1 ≡ 0 + c.in-Some.rows + 1 = omega arith in
    let back = subst (λ n. PrintsFront (λ t. Appends z u t) (back_text c.in-Some.rows (Some (refused_line c.rules-rules.result n c.in-Some.refusal)))) number c.in_err-print_refused-in-Some.ensures.front in
    let made = refused_front c.rules-rules.result r w 0 records x y z front u c.in-Some.rows c.in-Some.refusal rows back in
    let begun = page_of_rows (λ (n : ℕ). r) w w records [] records 0 0 c.rules-rules.result refl refl refl tt refl c.rules-rules.ensures (PrintsFront (λ t. Appends x u t)) replayed.Refused made in (
      [],
      sym (append-nil _),
      failed r (sweep_of plan.sweep w) names.fault.now plan.wanted.from plan.wanted.to (λ (t : List ℕ). Appends x u t) _ c.from_residual-in_err-print_refused-in-Some.result c.from_residual-in_err-print_refused-in-Some.ensures.1
          c.in_err-print_refused-in-Some.ensures.err (inr (inr (Refused, begun))),
    )

pub returns-in_ok-print_refused-in-Some : goal.returns-in_ok-print_refused-in-Some
returns-in_ok-print_refused-in-Some g c =
    let w = world_of c.args.machine in
    let sweep = c.args.plan.sweep in
    let records = sweep.records.now in
    let names = c.args.names in
    let r = run_of_files names.config.now names.log.now 0 sweep.config.now in
    let x = g.W.Write.contents c.args.out.now in
    let y = g.W.Write.contents c.print_text.new.out in
    let z = g.W.Write.contents c.print_rows.new.out in
    let u = g.W.Write.contents c.print_refused.new.out in
    let rows = subst (λ (o : Option (ℕ × Refusal)). AreRowsPrinted w 0 records o (λ t. Appends y z t)) c.in-Some.is c.in_ok-print_rows.ensures.printed in
    let text = c.as_slice.ensures.value ∙ c.in_ok-front.ensures ∙ ap (λ (q : Run). front_text q w) c.terms_of-terms.ensures.run in
    let front = subst (λ (t : List ℕ). Appends x y t) text c.in_ok-print_text.ensures.bytes in
    let number : c.in-Some.rows + 1 ≡ 0 + c.in-Some.rows + 1 = omega arith in
    let back = subst (λ n. Appends z u (back_text c.in-Some.rows (Some (refused_line c.rules-rules.result n c.in-Some.refusal)))) number c.in_ok-print_refused-in-Some.ensures.bytes in
    let made = refused_printed c.rules-rules.result r w 0 records x y z front u c.in-Some.rows c.in-Some.refusal rows back in
    let whole = page_of_rows (λ (n : ℕ). r) w w records [] records 0 0 c.rules-rules.result refl refl refl tt refl c.rules-rules.ensures (λ t. Appends x u t) replayed.Refused made in
    ([], sym (append-nil _), (whole, refl))
