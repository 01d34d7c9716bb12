use Rattle.std.proofs.Common.{rules, ◌≡◌, ◌∙◌, ◌≤◌, ◌<◌, ◌≢◌, ℕ, List, sym, subst}
use Rattle.mx_proc.specs.Queues.{times, list_at}
use Rattle.mx_proc.proofs.WayLemmas.{led_firsts, led_nexts}
use Rattle.mx_proc.proofs.LinkLemmas.{slot_low, prev_low, next_low, removed, shows_same}
use Rattle.mx_proc.proofs.links.Links.remove.Goals as goal

pub next-before-requires : goal.next-before-requires
next-before-requires g c = (search rules, slot_low c.args.list c.args.slot c.self.invariant (subst (λ (l : List (List ℕ)). 1 ≤ times c.args.slot (list_at l c.args.list)) (sym c.self.view_is) c.requires.there))

pub next-after-requires : goal.next-after-requires
next-after-requires g c = (search rules, slot_low c.args.list c.args.slot c.self.invariant (subst (λ (l : List (List ℕ)). 1 ≤ times c.args.slot (list_at l c.args.list)) (sym c.self.view_is) c.requires.there))

pub lead-requires : goal.lead-requires
lead-requires g c = (search rules, (c.requires.list, subst (λ (x : ℕ). x ≢ 255 → x < 32) (sym c.next-before.ensures) (prev_low c.args.list c.args.slot c.self.invariant (subst (λ (l : List (List ℕ)). 1 ≤ times c.args.slot (list_at l c.args.list)) (sym c.self.view_is) c.requires.there))))

pub lead-requires-2 : goal.lead-requires-2
lead-requires-2 g c = (search rules, (c.requires.list, subst (λ (x : ℕ). x ≢ 255 → x < 32) (sym c.next-after.ensures) (next_low c.args.list c.args.slot c.self.invariant (subst (λ (l : List (List ℕ)). 1 ≤ times c.args.slot (list_at l c.args.list)) (sym c.self.view_is) c.requires.there))))

pub invariant_of-self : goal.invariant_of-self
invariant_of-self g c = (shows_same _ _ _ _ _ _ _ _ _ _ (led_nexts _ _ _ _ _ _ c.lead.ensures.nexts c.next-before.ensures c.next-after.ensures) (led_nexts _ _ _ _ _ _ c.lead-2.ensures.nexts c.next-after.ensures c.next-before.ensures) (led_firsts _ _ _ _ _ _ _ c.lead.ensures.firsts c.next-before.ensures c.next-after.ensures) (led_firsts _ _ _ _ _ _ _ c.lead-2.ensures.firsts c.next-after.ensures c.next-before.ensures) (removed c.args.list c.args.slot c.self.invariant c.self.view_is c.requires.list c.requires.there)).sound

pub returns : goal.returns
returns g c = (shows_same _ _ _ _ _ _ _ _ _ _ (led_nexts _ _ _ _ _ _ c.lead.ensures.nexts c.next-before.ensures c.next-after.ensures) (led_nexts _ _ _ _ _ _ c.lead-2.ensures.nexts c.next-after.ensures c.next-before.ensures) (led_firsts _ _ _ _ _ _ _ c.lead.ensures.firsts c.next-before.ensures c.next-after.ensures) (led_firsts _ _ _ _ _ _ _ c.lead-2.ensures.firsts c.next-after.ensures c.next-before.ensures) (removed c.args.list c.args.slot c.self.invariant c.self.view_is c.requires.list c.requires.there)).are
