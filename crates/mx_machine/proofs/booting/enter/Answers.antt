use Rattle.std.proofs.Common.{◌∙◌, ◌<◌, [], ◌∷◌, ◌++◌, length, take, sym, ap, subst, arith}
use Rattle.std.proofs.lemmas.List.{take_more, length-take-le}
use Rattle.mx_exec.specs.declared.image.Image.{Image}
use Rattle.mx_ipc.specs.Proc.TableState.{TableState, table_after_add}
use Rattle.mx_machine.specs.Load.{image_of_program}
use Rattle.mx_machine.specs.Boot.{first_table}
use Rattle.mx_machine.proofs.BootLemmas.{first-empty, first-more, first-used}
use Rattle.mx_machine.proofs.booting.enter.Goals as goal

pub loop-service-init : goal.loop-service-init
loop-service-init c = c.requires.empty ∙ sym (first-empty c.args.table.now.rules)

pub add-requires : goal.add-requires
add-requires c =
    let so_far = take c.loop-service.service-index c.args.services.now in
    record {
      room = subst (λ (w : TableState). length w.slots < 32) (sym c.loop-service.invariant)
          (omega (arith, first-used c.args.table.now.rules so_far, length-take-le c.loop-service.service-index c.args.services.now (omega arith)));
    }

pub loop-service-preserved : goal.loop-service-preserved
loop-service-preserved c =
    let s = c.service-item.result in
    let n = c.loop-service.service-index in
    let so_far = take n c.args.services.now in
    c.in_ok-add.ensures.ok.0
    ∙ ap (λ (m : Image). table_after_add c.loop-service.table m s.terms) c.in_ok-image.ensures.image
    ∙ ap (λ (w : TableState). table_after_add w (image_of_program s.program) s.terms) c.loop-service.invariant
    ∙ sym (first-more c.args.table.now.rules so_far s s.terms.lowest)
    ∙ ap (λ x. first_table c.args.table.now.rules (so_far ++ x ∷ [])) c.service-item.is
    ∙ ap (first_table c.args.table.now.rules) (sym (take_more c.args.services.now n s (omega arith)))
