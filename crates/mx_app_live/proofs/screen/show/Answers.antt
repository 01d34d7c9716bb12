use Rattle.std.proofs.Common.{◌≡◌, ◌∙◌, ◌++◌, [], ℕ, List, ap, drop, drop_of_length-le, refl, rules, subst, sym}
use Rattle.std.specs.Io.KnownBytes.{Appends}
use Rattle.std.proofs.KnownBytes.{Appends-nil}
use Rattle.std.proofs.lemmas.Result.{err_from_is_err_and}
use Rattle.mx_app_failure.specs.Failure.{PrintsFront}
use Rattle.mx_machine.specs.History.{BootAndHistory, replay}
use Rattle.mx_machine.specs.Machine.{world_of}
use Rattle.mx_proc.specs.Console.{ConsoleState}
use Rattle.mx_proc.specs.declared.devices.Devices.{Devices}
use Rattle.mx_proc.specs.TableState.{TableState}
use Rattle.mx_spool.specs.Written.{grown}
use Rattle.mx_app_live.proofs.ScreenLemmas.{console_now, text_is}
use Rattle.mx_app_live.proofs.screen.show.Goals as goal

pub returns-in_err-push_from-clause-front : goal.returns-in_err-push_from-clause-front
returns-in_err-push_from-clause-front g c =
    let p = err_from_is_err_and c.from_residual.result c.from_residual.ensures.1 in
    rw p.1 ([], _, refl, Appends-nil _)

pub returns-then-is_empty-clause-text : goal.returns-then-is_empty-clause-text
returns-then-is_empty-clause-text g c =
    let m = c.args.machine.now in
    let console = c.devices.result.now.console in
    let first = c.first_of-first.result in
    let bytes : c.as_slice.result.now ≡ drop first console.kept = c.as_slice.ensures.value ∙ c.in_ok-push_from.ensures ∙ ap (λ (l : List ℕ). l ++ drop first console.kept) c.clear.ensures.items in
    let same : console ≡ (world_of m).table.devices.console =
    ap (λ (d : Devices). d.console) (c.devices.ensures ∙ ap (λ (t : TableState). t.devices) (c.table.ensures ∙ ap (λ (k : BootAndHistory). (replay k).table) c.kernel.ensures)) ∙ console_now m in
    let text : c.last_of-text.result.now ≡ grown c.args.shown (world_of m).table.devices.console =
    text_is console c.args.shown c.count-count.result c.saturating_sub-more.result first c.as_slice.result.now c.last_of-text.result.now c.count-count.ensures c.saturating_sub-more.ensures bytes c.first_of-first.ensures.there c.last_of-text.ensures
    ∙ ap (λ (x : ConsoleState). grown c.args.shown x) same in
    let empty : c.last_of-text.result.now ≡ [] = drop_of_length-le c.last_of-text.result.now {i = 0} (search rules) in
    subst (λ (t : List ℕ). Appends (g.W.Write.contents c.args.screen.now) (g.W.Write.contents c.args.screen.now) t) (sym empty ∙ text) (Appends-nil _)

pub returns-in_err-print_text-clause-front : goal.returns-in_err-print_text-clause-front
returns-in_err-print_text-clause-front g c =
    let m = c.args.machine.now in
    let console = c.devices.result.now.console in
    let first = c.first_of-first.result in
    let bytes : c.as_slice.result.now ≡ drop first console.kept = c.as_slice.ensures.value ∙ c.in_ok-push_from.ensures ∙ ap (λ (l : List ℕ). l ++ drop first console.kept) c.clear.ensures.items in
    let same : console ≡ (world_of m).table.devices.console =
    ap (λ (d : Devices). d.console) (c.devices.ensures ∙ ap (λ (t : TableState). t.devices) (c.table.ensures ∙ ap (λ (k : BootAndHistory). (replay k).table) c.kernel.ensures)) ∙ console_now m in
    let text : c.last_of-text.result.now ≡ grown c.args.shown (world_of m).table.devices.console =
    text_is console c.args.shown c.count-count.result c.saturating_sub-more.result first c.as_slice.result.now c.last_of-text.result.now c.count-count.ensures c.saturating_sub-more.ensures bytes c.first_of-first.ensures.there c.last_of-text.ensures
    ∙ ap (λ (x : ConsoleState). grown c.args.shown x) same in
    let p = err_from_is_err_and c.from_residual-in_err-print_text.result c.from_residual-in_err-print_text.ensures.1 in
    rw p.1
    (subst (λ (t : List ℕ). PrintsFront (λ (front : List ℕ). Appends (g.W.Write.contents c.args.screen.now) (g.W.Write.contents c.print_text.new.out) front) t) text c.in_err-print_text.ensures.front)

pub returns-clause-text : goal.returns-clause-text
returns-clause-text g c =
    let m = c.args.machine.now in
    let console = c.devices.result.now.console in
    let first = c.first_of-first.result in
    let bytes : c.as_slice.result.now ≡ drop first console.kept = c.as_slice.ensures.value ∙ c.in_ok-push_from.ensures ∙ ap (λ (l : List ℕ). l ++ drop first console.kept) c.clear.ensures.items in
    let same : console ≡ (world_of m).table.devices.console =
    ap (λ (d : Devices). d.console) (c.devices.ensures ∙ ap (λ (t : TableState). t.devices) (c.table.ensures ∙ ap (λ (k : BootAndHistory). (replay k).table) c.kernel.ensures)) ∙ console_now m in
    let text : c.last_of-text.result.now ≡ grown c.args.shown (world_of m).table.devices.console =
    text_is console c.args.shown c.count-count.result c.saturating_sub-more.result first c.as_slice.result.now c.last_of-text.result.now c.count-count.ensures c.saturating_sub-more.ensures bytes c.first_of-first.ensures.there c.last_of-text.ensures
    ∙ ap (λ (x : ConsoleState). grown c.args.shown x) same in
    subst (λ (t : List ℕ). Appends (g.W.Write.contents c.args.screen.now) (g.W.Write.contents c.print_text.new.out) t) text c.in_ok-print_text.ensures.bytes
