use Rattle.std.proofs.Common.{◌≡◌, ◌∙◌, ◌++◌, ℕ, List, [], ap, rules}
use Rattle.std.proofs.lemmas.Result.{on_ok_weaker}
use Rattle.mx_app_draw.specs.Document.{drawing_text}
use Rattle.mx_app_draw.proofs.drawing.print_picture.Goals as goal

pub returns-clause-printed : goal.returns-clause-printed
returns-clause-printed g c =
    let blank : c.new-text.result.items ≡ [] = search rules in
    let text : c.as_slice.result.now ≡ drawing_text c.args.scene.now c.in_ok-drawing.drawing =
    c.as_slice.ensures.value ∙ c.in_ok-push_drawing.ensures
    ∙ ap (λ (above : List ℕ). above ++ drawing_text c.args.scene.now c.in_ok-drawing.drawing) blank in
    on_ok_weaker c.print_text.result
    (λ b. (c.as_slice.result.now, (c.in_ok-drawing.drawing, c.in_ok-drawing.ensures.picture, text), b)) c.print_text.ensures.bytes
