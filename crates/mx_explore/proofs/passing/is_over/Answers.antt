use Rattle.std.proofs.Common.{◌≡◌, ◌∙◌, ◌&&◌, not, Bool, true, false, Option, Some, None, is_none, is_some, ap, sym}
use Rattle.mx_turns.specs.declared.outside.OutsideLine.{OutsideLine}
use Rattle.mx_machine.specs.History.{BootAndHistory, replay}
use Rattle.mx_machine.specs.Rest.{at_rest}
use Rattle.mx_machine.specs.Machine.{world_of}
use Rattle.mx_turns.proofs.TurnLemmas.{rest_now}
use Rattle.mx_explore.proofs.passing.is_over.Goals as goal

none_there : (o : Option OutsideLine) (r a y : Bool) → is_some o ≡ not r → r ≡ true → y ≡ a → y ≡ (is_none o && a)
none_there None r a y e t h = h
none_there (Some x) r a y e t h = let z : true ≡ false = e ∙ ap not t in cc

pub returns-then-is_none : goal.returns-then-is_none
returns-then-is_none c =
    none_there c.args.next c.is_none.result (at_rest (world_of c.args.machine.now)) c.at_rest.result c.is_none.ensures c.if-is_none.true
    (c.at_rest.ensures ∙ ap (λ (k : BootAndHistory). at_rest (replay k)) c.kernel.ensures ∙ sym (rest_now c.args.machine.now))
