use Rattle.std.proofs.Common.{◌≡◌, ◌∙◌, Bor, [], Option, Some, None, ap, not, sym}
use Rattle.std.specs.Prelude.{bytes_eq, option_map}
use Rattle.mx_exec.specs.declared.image.Image.{Image}
use Rattle.mx_machine.specs.Machine.{world_of}
use Rattle.mx_print_answers.specs.Slots.{image_in}
use Rattle.mx_app_look.specs.Ranges.{memory_in, memory_of, range_in}
use Rattle.mx_app_look.proofs.Ranges.{changed_is, range_none}
use Rattle.mx_app_look.proofs.range_change.RangeChangeMark.is_met.Goals as goal

pub returns-in-Some : goal.returns-in-Some
returns-in-Some c = λ w x seen.
    let y = c.args.self.now.watch in
    let u = world_of c.args.machine.now in
    let held : image_in u c.slot.result ≡ Some c.in-Some.image.now = sym c.image_in.ensures ∙ ap (λ (o : Option (Bor Image)). option_map (λ (m : Bor Image). m.now) o) c.in-Some.is in
    let memory : c.in-Some.image.now.memory ≡ memory_in u y.slot = sym (ap memory_of held) ∙ ap (memory_in u) c.slot.ensures in
    ap not (c.is_there.ensures ∙ ap (λ bs. bytes_eq bs (range_in c.in-Some.image.now.memory y)) seen ∙ ap (λ m. bytes_eq (range_in (memory_in w y.slot) y) (range_in m y)) memory)
    ∙ sym (changed_is y w x u)

pub returns-in-None : goal.returns-in-None
returns-in-None c = λ w x seen.
    let y = c.args.self.now.watch in
    let u = world_of c.args.machine.now in
    let held : image_in u c.slot.result ≡ None = sym c.image_in.ensures ∙ ap (λ (o : Option (Bor Image)). option_map (λ (m : Bor Image). m.now) o) c.in-None.is in
    let memory : [] ≡ memory_in u y.slot = sym (ap memory_of held) ∙ ap (memory_in u) c.slot.ensures in
    ap not (c.is_none.ensures ∙ ap (λ bs. bytes_eq c.args.self.now.bytes bs) (sym (range_none y)) ∙ ap (λ bs. bytes_eq bs (range_in [] y)) seen ∙ ap (λ m. bytes_eq (range_in (memory_in w y.slot) y) (range_in m y)) memory)
    ∙ sym (changed_is y w x u)
