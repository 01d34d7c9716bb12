use Rattle.std.proofs.Common.{◌∙◌, ap, nat_eq, sym}
use Rattle.mx_app_look.proofs.Ranges.{step_isnt}
use Rattle.mx_app_look.proofs.range_change.RangeChangeMark.watches.Goals as goal

pub returns : goal.returns
returns c = λ isnt l o same.
    let y = c.args.self.now.watch in
    step_isnt y l o (ap (λ n. nat_eq n y.slot) same ∙ ap (λ n. nat_eq c.args.slot n) (sym c.slot.ensures) ∙ isnt)
