use Rattle.std.proofs.Common.{◌≡◌, ◌∙◌, ◌-◌, ◌<◌, ◌≤◌, ℕ, List, ◌++◌, length, ap, arith, refl, sym}
use Rattle.std.specs.Prelude.{slice_range}
use Rattle.std.proofs.lemmas.List.{append-nil}
use Rattle.std.proofs.lemmas.Result.{on_ok_weaker}
use Rattle.mx_look.specs.FaultLines.{fault_line}
use Rattle.mx_look.specs.declared.transition.Transition.{Transition}
use Rattle.mx_why.specs.Noting.{fault_place}
use Rattle.mx_why.proofs.Pieces.{extended}
use Rattle.mx_why.proofs.PlaceLemmas.{placed, unplaced}
use Rattle.mx_why.proofs.place.push_fault_place.Goals as goal

pub returns-then-text-le-MARGIN : goal.returns-then-text-le-MARGIN
returns-then-text-le-MARGIN c =
    let x = c.args.transition.now in
    let out = c.args.out.now.items in
    let line = c.as_slice-text.ensures.value ∙ c.in_ok-push_fault_line.ensures ∙ ap (λ (l : List ℕ). l ++ fault_line (record x { number = 0 })) c.new-line.ensures.items in
    let short : length c.as_slice-text.result.now ≤ 3 = omega (arith, c.if-text-le-MARGIN.true) in
    sym (append-nil out) ∙ ap (λ (l : List ℕ). out ++ l) (sym (unplaced x c.as_slice-text.result.now line short))

told : (x : Transition) (text : List ℕ) (n : ℕ) (out new : List ℕ) → text ≡ fault_line (record x { number = 0 }) → 3 < length text → n ≡ length text - 1
    → new ≡ out ++ slice_range text 3 n → new ≡ out ++ fault_place x
told x text n out new e long end h = h ∙ ap (λ (l : List ℕ). out ++ l) (placed x text n e long end)

pub returns : goal.returns
returns c =
    let x = c.args.transition.now in
    let line = c.as_slice-text.ensures.value ∙ c.in_ok-push_fault_line.ensures ∙ ap (λ (l : List ℕ). l ++ fault_line (record x { number = 0 })) c.new-line.ensures.items in
    let long : 3 < length c.as_slice-text.result.now = omega (arith, c.if-text-le-MARGIN.false) in
    on_ok_weaker c.extend_from_slice.result (told x c.as_slice-text.result.now (length c.as_slice-text.result.now - 1) c.args.out.now.items c.extend_from_slice.new.self.items line long refl) (extended c.extend_from_slice.result c.extend_from_slice.new.self.items (c.args.out.now.items ++ slice_range c.as_slice-text.result.now 3 (length c.as_slice-text.result.now - 1)) c.args.out.now.items c.extend_from_slice.ensures.items)
