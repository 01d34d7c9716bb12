use Rattle.std.proofs.Common.{◌≡◌, ◌++◌, ◌∙◌, ap, sym, subst, length, map, take, drop}
use Rattle.std.proofs.lemmas.List.{length-map}
use Rattle.mx_proc.specs.Serving.{without_bit_of}
use Rattle.mx_proc.specs.Sound.{Sound}
use Rattle.mx_proc.proofs.ServingLemmas.{whole, forgotten_is, forgotten_sound, forgotten_framed}
use Rattle.mx_proc.proofs.table.Table.forget.Goals as goal

the_slots : (c : goal.After-give_up) → take c.self.inside.slots.len (c.clear_bits.new.processes ++ drop (length c.clear_bits.new.processes) c.self.inside.slots.items) ≡ map (without_bit_of c.args.slot) c.self.inside.slots.items
the_slots c =
    let told : c.clear_bits.new.processes ≡ map (without_bit_of c.args.slot) c.self.inside.slots.items = c.clear_bits.ensures ∙ ap (map (without_bit_of c.args.slot)) c.as_mut_slice.ensures.value in
    whole _ c.self.inside.slots.items _ (ap length told ∙ length-map _ _ ∙ sym (ap length c.as_mut_slice.ensures.value) ∙ c.as_mut_slice.ensures.len) ∙ told

pub invariant_of-self : goal.invariant_of-self
invariant_of-self c = subst Sound (sym (forgotten_is _ c.args.slot _ _ (the_slots c) c.give_up.ensures)) (forgotten_sound _ c.args.slot c.self.invariant)

pub returns-clause-frame : goal.returns-clause-frame
returns-clause-frame c = forgotten_framed _ _ c.args.slot _ _ c.self.view_is (the_slots c)
