use Rattle.std.proofs.Common.{◌≡◌, ◌∙◌, ◌++◌, ◌∷◌, [], ℕ, List, Option, Some, OnOk, append_assoc, slice_get, refl, ap, subst, sym}
use Rattle.std.specs.Prelude.{option_map}
use Rattle.mx_aout.specs.declared.program.Symbol.{Symbol}
use Rattle.mx_app_step.specs.Service.{Service}
use Rattle.mx_exec.specs.declared.image.Image.{Image}
use Rattle.mx_look.specs.Code.{code_line}
use Rattle.mx_look.specs.declared.glance.Glance.{Glance}
use Rattle.mx_look.specs.Glances.{glance_of}
use Rattle.mx_look.specs.Words.{who}
use Rattle.mx_machine.specs.Machine.{world_of}
use Rattle.mx_machine.specs.World.{HeldProcess, held_by}
use Rattle.mx_print_answers.specs.Slots.{symbols_by}
use Rattle.mx_app_look.specs.Places.{process_line}
use Rattle.mx_app_look.proofs.Kernels.{same_services}
use Rattle.mx_app_look.proofs.places.push_process.Goals as goal

slot_is : (o : Option HeldProcess) (l : HeldProcess) (s : ℕ) → Some s ≡ option_map (λ (l : HeldProcess). l.slot) o → o ≡ Some l → s ≡ l.slot
slot_is o l s e h = let same : Some s ≡ Some l.slot = e ∙ ap (λ (o : Option HeldProcess). option_map (λ (l : HeldProcess). l.slot) o) h in cc

pub returns : goal.returns
returns c =
    let w = world_of c.args.machine.now in
    let held = c.in-Some.ensures in
    let l = held.0 in
    let there : held_by w c.args.cpu ≡ Some l = held.1 in
    let image : c.in-Some.image.now ≡ l.out.image = held.2 in
    let slot : c.in-Some-slot_on.slot ≡ l.slot = slot_is (held_by w c.args.cpu) l c.in-Some-slot_on.slot c.in-Some-slot_on.ensures there in
    let services = same_services c.kernel.result.now c.args.machine.now w c.kernel.ensures refl in
    let symbols : c.symbols_of.result.now ≡ symbols_by (slice_get w.services l.slot) =
    c.symbols_of.ensures ∙ ap (λ (vs : List Service). symbols_by (slice_get vs c.in-Some-slot_on.slot)) services
    ∙ ap (λ i. symbols_by (slice_get w.services i)) slot in
    let out = c.args.out.now.items in
    let name = who c.of.result c.from.result in
    let code = code_line c.symbols_of.result.now c.in-Some.image.now c.in-Some.image.now.eip in
    let whose : name ≡ who (glance_of w) l.slot =
    ap (λ (g : Glance). who g c.from.result) c.of.ensures ∙ ap (λ i. who (glance_of w) i) (c.from.ensures ∙ slot) in
    let text : name ++ (32 ∷ []) ++ code ≡ process_line w (held_by w c.args.cpu) =
    ap (λ t. t ++ (32 ∷ []) ++ code) whose
    ∙ ap (λ (i : Image). who (glance_of w) l.slot ++ (32 ∷ []) ++ code_line c.symbols_of.result.now i i.eip) image
    ∙ ap (λ (s : List Symbol). who (glance_of w) l.slot ++ (32 ∷ []) ++ code_line s l.out.image l.out.image.eip) symbols
    ∙ ap (λ (o : Option HeldProcess). process_line w o) (sym there) in
    let earlier : c.extend_from_slice.new.self.items ≡ out ++ (name ++ 32 ∷ []) =
    c.in_ok-extend_from_slice.ensures.items ∙ ap (λ t. t ++ 32 ∷ []) c.in_ok-push_who.ensures ∙ append_assoc out name (32 ∷ []) in
    subst (λ t. OnOk c.push_instruction.result (c.push_instruction.new.out.items ≡ t))
    (ap (λ t. t ++ code) earlier ∙ append_assoc out (name ++ 32 ∷ []) code ∙ ap (λ t. out ++ t) text) c.push_instruction.ensures
