use Rattle.std.proofs.Common.{◌∙◌, ap, refl}
use Rattle.std.proofs.lemmas.Result.{on_ok_weaker}
use Rattle.mx_asm.specs.View.{above_of}
use Rattle.mx_asm.specs.Layout.{address_of_offset, statement_said}
use Rattle.mx_asm.proofs.Emitting.{put_text, put_init, put_bss}
use Rattle.mx_asm.proofs.emit.put_line.Goals as goal

pub returns-in-Text : goal.returns-in-Text
returns-in-Text c =
    let a = above_of c.args.layout.now in
    let text = c.args.parts.now.text.items in
    let init = c.args.parts.now.init.items in
    on_ok_weaker c.push_line.result (λ p. put_text a c.args.sizes c.address_of-at.result (statement_said c.args.line.now) text init c.push_line.new.out.items init c.in-Text.is (c.address_of-at.ensures ∙ ap (address_of_offset a) c.spot.ensures) p refl) c.push_line.ensures

pub returns-in-Data : goal.returns-in-Data
returns-in-Data c =
    let a = above_of c.args.layout.now in
    let text = c.args.parts.now.text.items in
    let init = c.args.parts.now.init.items in
    on_ok_weaker c.push_line-in-Data.result (λ p. put_init a c.args.sizes c.address_of-at.result (statement_said c.args.line.now) text init text c.push_line-in-Data.new.out.items c.in-Data.is (c.address_of-at.ensures ∙ ap (address_of_offset a) c.spot.ensures) p refl) c.push_line-in-Data.ensures

pub returns-in-Bss : goal.returns-in-Bss
returns-in-Bss c =
    let text = c.args.parts.now.text.items in
    let init = c.args.parts.now.init.items in
    put_bss (above_of c.args.layout.now) c.args.sizes (statement_said c.args.line.now) text init text init c.in-Bss.is refl refl

pub push_line-requires : goal.push_line-requires
push_line-requires c = rw (c.address_of-at.ensures, c.spot.ensures) c.requires

pub push_line-requires-in-Data : goal.push_line-requires-in-Data
push_line-requires-in-Data c = rw (c.address_of-at.ensures, c.spot.ensures) c.requires
