use Rattle.std.proofs.Common.{List, ◌≡◌, ◌≤◌, ◌+◌, ◌++◌, ◌∙◌, ap, sym, subst, arith, length, take, drop, slice_set, get_or, length-set}
use Rattle.mx_mem.specs.Segment.{part}
use Rattle.mx_proc.specs.TableState.{TableState, nobody, memory_at}
use Rattle.mx_proc.specs.declared.process.Process.{Process}
use Rattle.mx_proc.specs.Serving.{process_after_copy}
use Rattle.mx_proc.proofs.ServingLemmas.{whole, copied_sound, copied_framed, length-part}
use Rattle.mx_proc.proofs.table.Table.copy.Goals as goal

the_slots : (c : goal.After-self-1) → take c.self.inside.slots.len (c.copy_between.new.processes ++ drop (length c.copy_between.new.processes) c.self.inside.slots.items)
    ≡ slice_set c.self.inside.slots.items c.args.target.slot (process_after_copy (get_or c.self.inside.slots.items c.args.target.slot nobody) c.args.target.offset (part (get_or c.self.inside.slots.items c.args.source.slot nobody).image.memory c.args.source.offset c.args.count))
the_slots c =
    let f = λ (l : List Process). slice_set l c.args.target.slot (process_after_copy (get_or l c.args.target.slot nobody) c.args.target.offset (part (get_or l c.args.source.slot nobody).image.memory c.args.source.offset c.args.count)) in
    let told : c.copy_between.new.processes ≡ f c.self.inside.slots.items = c.copy_between.ensures ∙ ap f c.as_mut_slice.ensures.value in
    whole _ c.self.inside.slots.items _ (ap length told ∙ length-set c.self.inside.slots.items _ _ ∙ sym (ap length c.as_mut_slice.ensures.value) ∙ c.as_mut_slice.ensures.len) ∙ told

room : (c : goal.After-self-1) → c.args.target.offset + length (part (get_or c.self.inside.slots.items c.args.source.slot nobody).image.memory c.args.source.offset c.args.count) ≤ length (get_or c.self.inside.slots.items c.args.target.slot nobody).image.memory
room c =
    let source : c.args.source.offset + c.args.count ≤ length (get_or c.self.inside.slots.items c.args.source.slot nobody).image.memory = subst (λ (x : TableState). c.args.source.offset + c.args.count ≤ length (memory_at x c.args.source.slot)) (sym c.self.view_is) c.requires.source in
    let room : c.args.target.offset + c.args.count ≤ length (get_or c.self.inside.slots.items c.args.target.slot nobody).image.memory = subst (λ (x : TableState). c.args.target.offset + c.args.count ≤ length (memory_at x c.args.target.slot)) (sym c.self.view_is) c.requires.destination in
    omega (arith, room, length-part (get_or c.self.inside.slots.items c.args.source.slot nobody).image.memory c.args.source.offset c.args.count source)

pub invariant_of-self : goal.invariant_of-self
invariant_of-self c = copied_sound _ _ c.args.target.slot c.args.target.offset _ _ c.self.view_is c.self.invariant c.requires.to (room c) (the_slots c)

pub returns-clause-frame : goal.returns-clause-frame
returns-clause-frame c = copied_framed _ _ c.args.target.slot c.args.target.offset _ _ c.self.view_is c.requires.to (room c) (the_slots c)
