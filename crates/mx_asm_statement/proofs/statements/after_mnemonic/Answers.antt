use Rattle.std.proofs.Common.{◌≡◌, ◌∙◌, Bool, true, false, ◌&&◌, cond, List, ◌∷◌, refl, sym, ap, subst, rules}
use Rattle.mx_insn_words.specs.declared.mnemonic.Mnemonic.{Mnemonic}
use Rattle.mx_asm_statement.specs.declared.branch.JumpLength.TheVariants.{Short, Long}
use Rattle.mx_asm_statement.specs.declared.item.Item.{Item}
use Rattle.mx_asm_statement.specs.LineStatements.{is_short_word, takes_short, statement_by, after_mnemonic}
use Rattle.mx_asm_statement.proofs.statements.after_mnemonic.Goals as goal

-- what is after a mnemonic, by whether the mark comes first
parted : (m : Mnemonic) (ts us xs : List Item) (t : Item) (b : Bool) → ts ≡ t ∷ us → xs ≡ cond b us ts → (takes_short m && is_short_word t) ≡ b → statement_by (cond b Short Long) m xs ≡ after_mnemonic m ts
parted m ts us xs t b e f h =
    ap (statement_by (cond b Short Long) m) (f ∙ ap (cond b us) e)
    ∙ (subst (λ (d : Bool). statement_by (cond d Short Long) m (cond d us (t ∷ us)) ≡ after_mnemonic m (t ∷ us)) h refl ∙ ap (after_mnemonic m) (sym e))

pub returns-then-takes_short-is_short : goal.returns-then-takes_short-is_short
returns-then-takes_short-is_short c =
    let said = parted c.args.mnemonic c.args.items.now c.in-Some.rest.now c.in-Some.rest.now c.in-Some.first.now true (search rules) refl (rw (c.takes_short.ensures, c.is_short.ensures) at c.if-takes_short-is_short.true) in
    rw said at c.stated_by-then-takes_short-is_short.ensures

pub returns-else-takes_short-is_short : goal.returns-else-takes_short-is_short
returns-else-takes_short-is_short c =
    let said = parted c.args.mnemonic c.args.items.now c.in-Some.rest.now c.args.items.now c.in-Some.first.now false (search rules) refl (rw (c.takes_short.ensures, c.is_short.ensures) at c.if-takes_short-is_short.false) in
    rw said at c.stated_by-else-takes_short-is_short.ensures
