use Rattle.std.proofs.Common.{◌≡◌, ◌∙◌, ap, false, nat_eq, not, sym}
use Rattle.std.specs.Prelude.{bytes_eq}
use Rattle.std.proofs.lemmas.Bool.{ne_eqb}
use Rattle.mx_app_look.specs.Ranges.{range_in}
use Rattle.mx_app_look.proofs.Ranges.{step_is, step_isnt}
use Rattle.mx_app_look.proofs.range_change.RangeChangeMark.look_again.Goals as goal

pub returns-then-slot-clause-met : goal.returns-then-slot-clause-met
returns-then-slot-clause-met c = λ l seen same.
    let y = c.args.self.now.watch in
    let here : l.slot ≡ y.slot = same ∙ c.if-slot.true ∙ c.slot.ensures in
    ap not (c.is_there.ensures ∙ ap (λ bs. bytes_eq bs (range_in c.args.out.now.image.memory y)) (seen here)) ∙ sym (step_is y l c.args.out.now here)

pub returns-else-slot-clause-met : goal.returns-else-slot-clause-met
returns-else-slot-clause-met c = λ l seen same.
    let y = c.args.self.now.watch in
    let isnt : nat_eq c.args.slot c.slot.result ≡ false = ne_eqb c.args.slot c.slot.result c.if-slot.false in
    let other : nat_eq l.slot y.slot ≡ false = ap (λ n. nat_eq n y.slot) same ∙ ap (λ n. nat_eq c.args.slot n) (sym c.slot.ensures) ∙ isnt in
    isnt ∙ sym (step_isnt y l c.args.out.now other)
