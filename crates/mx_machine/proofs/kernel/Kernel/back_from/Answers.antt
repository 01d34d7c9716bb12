use Rattle.std.proofs.Common.{◌≡◌, ◌∙◌, Some, refl, ap, sym, subst, arith}
use Rattle.mx_machine.specs.declared.events.Event.TheVariants as events
use Rattle.mx_machine.specs.History.{replay}
use Rattle.mx_machine.specs.Move.{world_after_event, with_held}
use Rattle.mx_machine.specs.Sound.{IsSound}
use Rattle.mx_machine.specs.World.{HeldProcess, held_by}
use Rattle.mx_machine.specs.Agrees.{IsAtReplay}
use Rattle.std.proofs.Common.{slice_get, vec_capacity}
use Rattle.mx_machine.proofs.ReplayLemmas.{kept_of, opened_sound, lease_known, back_steps, back_loaded, back_sound, back_world, back_agrees, after_returning, holder_is_actor}
use Rattle.mx_machine.proofs.kernel.Kernel.back_from.Goals as goal

pub come_back-requires-clause-count : goal.come_back-requires-clause-count
come_back-requires-clause-count c =
    let k = lease_known _ _ _ _ c.args.cpu c.requires.0 c.in-Some.lease c.self.view_is c.self.invariant c.requires.1 (sym c.lease.ensures ∙ c.in-Some.is) in
    let s = back_steps _ _ _ _ c.args.cpu c.requires.0 c.args.out.now c.self.view_is c.self.invariant c.requires.1 c.requires.2 in
    omega (arith, k.1, s.within)

pub come_back-requires-clause-loaded : goal.come_back-requires-clause-loaded
come_back-requires-clause-loaded c =
    let k = lease_known _ _ _ _ c.args.cpu c.requires.0 c.in-Some.lease c.self.view_is c.self.invariant c.requires.1 (sym c.lease.ensures ∙ c.in-Some.is) in
    λ v g. back_loaded _ _ _ _ c.args.cpu c.requires.0 c.args.out.now v c.self.view_is c.self.invariant c.requires.1 c.requires.2 (ap (λ s. slice_get c.self.inside.present.services s) (sym k.0) ∙ g)

pub invariant_of-self : goal.invariant_of-self
invariant_of-self c =
    let at = sym c.lease.ensures ∙ c.in-Some.is in
    let k = lease_known _ _ _ _ c.args.cpu c.requires.0 c.in-Some.lease c.self.view_is c.self.invariant c.requires.1 at in
    let s = back_steps _ _ _ _ c.args.cpu c.requires.0 c.args.out.now c.self.view_is c.self.invariant c.requires.1 c.requires.2 in
    subst (λ k. IsAtReplay c.come_back.new.self (vec_capacity c.note.new.records) k) (sym (after_returning c.self.inside.rules _ _ c.self.inside.processors c.args.cpu c.in-Some.lease.slot _ _ c.args.out.now c.come_back.ensures.value c.note.ensures.items))
    (back_agrees _ _ _ _ _ c.args.cpu c.requires.0 c.args.out.now c.in-Some.lease c.self.invariant (opened_sound _ _ _ _ refl c.self.invariant c.facts.ensures.sound c.facts.ensures.holds) (ap (λ k. held_by (replay k) c.args.cpu) c.self.view_is ∙ c.requires.1) s k.0 c.come_back.ensures.value
    (record { actor = holder_is_actor _ _ _ c.args.cpu c.in-Some.lease c.self.invariant at; number = omega (arith, c.come_back.ensures.few) }) c.note.ensures.room)

pub returns-clause-world : goal.returns-clause-world
returns-clause-world c =
    let s = back_steps _ _ _ _ c.args.cpu c.requires.0 c.args.out.now c.self.view_is c.self.invariant c.requires.1 c.requires.2 in
    λ l h. let z : Some c.requires.0 ≡ Some l = sym c.requires.1 ∙ h in let same : c.requires.0 ≡ l = cc in
    subst (λ (l : HeldProcess). replay (kept_of c.self.inside.rules c.come_back.new.self c.self.inside.processors c.note.new.records.items) ≡ world_after_event (with_held (replay c.args.self.now) c.args.cpu (Some (record l { out = c.args.out.now }))) c.args.cpu events.Back) same
    (back_world _ _ _ _ _ c.args.cpu c.requires.0 c.args.out.now c.self.view_is c.self.invariant c.requires.1 s (after_returning c.self.inside.rules _ _ c.self.inside.processors c.args.cpu c.in-Some.lease.slot _ _ c.args.out.now c.come_back.ensures.value c.note.ensures.items))

pub returns-clause-found : goal.returns-clause-found
returns-clause-found c =
    let s = back_steps _ _ _ _ c.args.cpu c.requires.0 c.args.out.now c.self.view_is c.self.invariant c.requires.1 c.requires.2 in
    λ l h. let z : Some c.requires.0 ≡ Some l = sym c.requires.1 ∙ h in let same : c.requires.0 ≡ l = cc in
    subst (λ (l : HeldProcess). IsSound (with_held (replay c.args.self.now) c.args.cpu (Some (record l { out = c.args.out.now })))) same
    (back_sound _ _ _ _ c.args.cpu c.requires.0 c.args.out.now c.self.view_is c.self.invariant (opened_sound _ _ _ _ refl c.self.invariant c.facts.ensures.sound c.facts.ensures.holds) s)
