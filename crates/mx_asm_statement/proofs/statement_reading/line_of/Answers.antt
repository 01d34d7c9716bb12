use Rattle.mx_asm_statement.proofs.Slices.{slices_after_label, slices_after_first}
use Rattle.mx_asm_statement.proofs.statement_reading.line_of.Goals as goal

pub begun_by-begun-requires : goal.begun_by-begun-requires
begun_by-begun-requires c = slices_after_label c.args.text.now c.args.tokens.now _ c.after_label-label.ensures.rest c.requires

pub mnemonic_first-second-requires : goal.mnemonic_first-second-requires
mnemonic_first-second-requires c = slices_after_first c.args.text.now _ _ c.after_first-rest.ensures (slices_after_label c.args.text.now c.args.tokens.now _ c.after_label-label.ensures.rest c.requires)

pub text_alone-requires : goal.text_alone-requires
text_alone-requires c = slices_after_first c.args.text.now _ _ c.after_first-rest.ensures (slices_after_label c.args.text.now c.args.tokens.now _ c.after_label-label.ensures.rest c.requires)

pub items_of-requires : goal.items_of-requires
items_of-requires c = slices_after_first c.args.text.now _ _ c.after_first-rest.ensures (slices_after_label c.args.text.now c.args.tokens.now _ c.after_label-label.ensures.rest c.requires)
