use Rattle.std.proofs.Common.{◌<◌, ◌≡◌, ◌∙◌, true, length, ap, sym, subst, arith}
use Rattle.mx_ipc.specs.Proc.States.{is_down}
use Rattle.mx_ipc.specs.Proc.TableState.{process_at}
use Rattle.mx_machine.specs.KernelState.{KernelState}
use Rattle.mx_machine.proofs.CurrentLemmas.{get-at, respawned_holds, respawn_acted}
use Rattle.mx_machine.proofs.current.CurrentState.respawn.Goals as goal

pub invariant_of-self : goal.invariant_of-self
invariant_of-self c =
    let may = c.in_ok-endpoint.ensures.ok in
    let used : c.args.slot < length c.self.inside.table.slots = subst (λ (d : KernelState). c.args.slot < length d.table.slots) (sym c.self.view_is) may.used in
    let down : is_down (process_at c.self.inside.table c.args.slot).state ≡ true = ap (λ (d : KernelState). is_down (process_at d.table c.args.slot).state) c.self.view_is ∙ may.down in
    respawned_holds _ _ _ c.args.slot c.index.result.now c.self.view_is c.self.invariant (get-at c.self.inside.services.items c.args.slot c.index.result.now c.index.ensures (omega (arith, used, c.self.invariant.served))) used down
    c.respawn.ensures.value c.respawn.ensures.frame c.respawn.ensures.settled may.room

pub returns : goal.returns
returns c =
    let may = c.in_ok-endpoint.ensures.ok in
    let used : c.args.slot < length c.self.inside.table.slots = subst (λ (d : KernelState). c.args.slot < length d.table.slots) (sym c.self.view_is) may.used in
    respawn_acted _ _ _ c.args.slot c.in_ok-endpoint.endpoint c.index.result.now c.self.view_is may (get-at c.self.inside.services.items c.args.slot c.index.result.now c.index.ensures (omega (arith, used, c.self.invariant.served))) c.respawn.ensures.value
