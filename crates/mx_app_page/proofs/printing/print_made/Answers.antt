use Rattle.std.proofs.Common.{◌∙◌, List, ℕ, Option, subst}
use Rattle.std.specs.Io.KnownBytes.{Appends}
use Rattle.mx_machine.specs.declared.events.Refusal.{Refusal}
use Rattle.mx_app_step.specs.Machine.{world_of}
use Rattle.mx_app_step.specs.Failure.{PrintsFront}
use Rattle.mx_app_step.proofs.FrontLemmas.{err_always}
use Rattle.mx_look_page.specs.Heads.{run_of}
use Rattle.mx_app_page.specs.Pages.{AreRowsPrinted}
use Rattle.mx_app_page.proofs.MadeLemmas.{none_begun, head_begun, rows_begun, back_begun, refused_begun, whole_printed, refused_printed}
use Rattle.mx_app_page.proofs.printing.print_made.Goals as goal

pub returns-in_err-front-clause-begun : goal.returns-in_err-front-clause-begun
returns-in_err-front-clause-begun g c =
    err_always c.from_residual.result _ (none_begun c.args.rules (run_of c.args.terms) (world_of c.args.machine.now) c.args.terms.first c.args.records.now (g.W.Write.contents c.args.out.now) (g.W.Write.contents c.args.out.now))

pub returns-in_err-print_text-clause-begun : goal.returns-in_err-print_text-clause-begun
returns-in_err-print_text-clause-begun g c =
    let w = world_of c.args.machine.now in
    let x = g.W.Write.contents c.args.out.now in
    let y = g.W.Write.contents c.print_text.new.out in
    let text = c.as_slice.ensures.value ∙ c.in_ok-front.ensures in
    err_always c.from_residual-in_err-print_text.result _
    (head_begun c.args.rules (run_of c.args.terms) w c.args.terms.first c.args.records.now x y
    (subst (λ (t : List ℕ). PrintsFront (λ s. Appends x y s) t) text c.in_err-print_text.ensures.front))

pub returns-in_err-print_rows-clause-begun : goal.returns-in_err-print_rows-clause-begun
returns-in_err-print_rows-clause-begun g c =
    let w = world_of c.args.machine.now in
    let x = g.W.Write.contents c.args.out.now in
    let y = g.W.Write.contents c.print_text.new.out in
    let z = g.W.Write.contents c.print_rows.new.out in
    let text = c.as_slice.ensures.value ∙ c.in_ok-front.ensures in
    let headed = subst (λ (t : List ℕ). Appends x y t) text c.in_ok-print_text.ensures.bytes in
    err_always c.from_residual-in_err-print_rows.result _
    (rows_begun c.args.rules (run_of c.args.terms) w c.args.terms.first c.args.records.now x y z headed c.in_err-print_rows.ensures.begun)

pub returns-in_err-print_back-in-None-clause-begun : goal.returns-in_err-print_back-in-None-clause-begun
returns-in_err-print_back-in-None-clause-begun g c =
    let w = world_of c.args.machine.now in
    let x = g.W.Write.contents c.args.out.now in
    let y = g.W.Write.contents c.print_text.new.out in
    let z = g.W.Write.contents c.print_rows.new.out in
    let u = g.W.Write.contents c.print_back.new.out in
    let text = c.as_slice.ensures.value ∙ c.in_ok-front.ensures in
    let headed = subst (λ (t : List ℕ). Appends x y t) text c.in_ok-print_text.ensures.bytes in
    let rows = subst (λ (o : Option (ℕ × Refusal)). AreRowsPrinted w c.args.terms.first c.args.records.now o (λ t. Appends y z t)) c.in-None.is c.in_ok-print_rows.ensures.printed in
    err_always c.from_residual-in_err-print_back-in-None.result _
    (back_begun c.args.rules (run_of c.args.terms) w c.args.terms.first c.args.records.now x y z headed u rows c.in_err-print_back-in-None.ensures.front)

pub returns-in_err-print_refused-in-Some-clause-begun : goal.returns-in_err-print_refused-in-Some-clause-begun
returns-in_err-print_refused-in-Some-clause-begun g c =
    let w = world_of c.args.machine.now in
    let x = g.W.Write.contents c.args.out.now in
    let y = g.W.Write.contents c.print_text.new.out in
    let z = g.W.Write.contents c.print_rows.new.out in
    let u = g.W.Write.contents c.print_refused.new.out in
    let text = c.as_slice.ensures.value ∙ c.in_ok-front.ensures in
    let headed = subst (λ (t : List ℕ). Appends x y t) text c.in_ok-print_text.ensures.bytes in
    let rows = subst (λ (o : Option (ℕ × Refusal)). AreRowsPrinted w c.args.terms.first c.args.records.now o (λ t. Appends y z t)) c.in-Some.is c.in_ok-print_rows.ensures.printed in
    err_always c.from_residual-in_err-print_refused-in-Some.result _
    (refused_begun c.args.rules (run_of c.args.terms) w c.args.terms.first c.args.records.now x y z headed u c.in-Some.rows c.in-Some.refusal rows c.in_err-print_refused-in-Some.ensures.front)

pub returns-in-None-clause-printed : goal.returns-in-None-clause-printed
returns-in-None-clause-printed g c =
    let w = world_of c.args.machine.now in
    let x = g.W.Write.contents c.args.out.now in
    let y = g.W.Write.contents c.print_text.new.out in
    let z = g.W.Write.contents c.print_rows.new.out in
    let u = g.W.Write.contents c.print_back.new.out in
    let text = c.as_slice.ensures.value ∙ c.in_ok-front.ensures in
    let headed = subst (λ (t : List ℕ). Appends x y t) text c.in_ok-print_text.ensures.bytes in
    let rows = subst (λ (o : Option (ℕ × Refusal)). AreRowsPrinted w c.args.terms.first c.args.records.now o (λ t. Appends y z t)) c.in-None.is c.in_ok-print_rows.ensures.printed in
    whole_printed c.args.rules (run_of c.args.terms) w c.args.terms.first c.args.records.now x y z headed u rows c.in_ok-print_back-in-None.ensures.bytes

pub returns-clause-printed : goal.returns-clause-printed
returns-clause-printed g c =
    let w = world_of c.args.machine.now in
    let x = g.W.Write.contents c.args.out.now in
    let y = g.W.Write.contents c.print_text.new.out in
    let z = g.W.Write.contents c.print_rows.new.out in
    let u = g.W.Write.contents c.print_refused.new.out in
    let text = c.as_slice.ensures.value ∙ c.in_ok-front.ensures in
    let headed = subst (λ (t : List ℕ). Appends x y t) text c.in_ok-print_text.ensures.bytes in
    let rows = subst (λ (o : Option (ℕ × Refusal)). AreRowsPrinted w c.args.terms.first c.args.records.now o (λ t. Appends y z t)) c.in-Some.is c.in_ok-print_rows.ensures.printed in
    refused_printed c.args.rules (run_of c.args.terms) w c.args.terms.first c.args.records.now x y z headed u c.in-Some.rows c.in-Some.refusal rows c.in_ok-print_refused-in-Some.ensures.bytes
