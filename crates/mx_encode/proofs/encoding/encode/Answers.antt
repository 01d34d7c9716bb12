use Rattle.std.proofs.Common.{◌≡◌, ℕ, Bool, List, ◌∙◌, sym, refl, subst}
use Rattle.mx_insn.specs.Spelling.{Spells}
use Rattle.mx_encode.specs.Places.{rm_form_for}
use Rattle.mx_encode.specs.Chosen.{fields_of}
use Rattle.mx_encode.specs.Given.{form_bytes}
use Rattle.mx_encode.proofs.Answer.{reg_fits, chosen_given}
use Rattle.mx_encode.proofs.Spelled.{spelled_has_form}
use Rattle.mx_encode.proofs.Formless.{unspelled_given, unspelled_place, unformed_place, where_err}
use Rattle.mx_encode.proofs.encoding.encode.Goals as goal

pub bytes_of_encoding-requires : goal.bytes_of_encoding-requires
bytes_of_encoding-requires c = reg_fits c.in_ok-form.form c.args.insn.now c.args.wide c.in_ok-form.ensures.form c.in_ok-form.ensures.fits

pub returns-clause-chosen : goal.returns-clause-chosen
returns-clause-chosen c = chosen_given c.in_ok-form.form c.args.insn.now c.args.wide c.bytes_of_encoding.result.items c.in_ok-form.ensures.form c.in_ok-form.ensures.fits (sym c.has_place.ensures ∙ c.if-not-has_place.false) (subst (λ (long : Bool). c.bytes_of_encoding.result.items ≡ form_bytes c.in_ok-form.form (rm_form_for c.in_ok-form.form.rm long)) c.displacement_form.ensures c.bytes_of_encoding.ensures)

pub returns-clause-form : goal.returns-clause-form
returns-clause-form c =
    let bytes = c.bytes_of_encoding.result.items in
    let x = chosen_given c.in_ok-form.form c.args.insn.now c.args.wide bytes c.in_ok-form.ensures.form c.in_ok-form.ensures.fits (sym c.has_place.ensures ∙ c.if-not-has_place.false) (subst (λ (long : Bool). c.bytes_of_encoding.result.items ≡ form_bytes c.in_ok-form.form (rm_form_for c.in_ok-form.form.rm long)) c.displacement_form.ensures c.bytes_of_encoding.ensures) in
    (λ e. spelled_has_form c.args.insn.now bytes (x.chosen.row, fields_of x.chosen c.args.wide.displacement, x.spells), λ e. refl)

pub returns-in_err-form-clause-none : goal.returns-in_err-form-clause-none
returns-in_err-form-clause-none c = where_err c.from_residual.result ((bytes : List ℕ) → Spells bytes c.args.insn.now → ⊥) (unspelled_given c.args.insn.now c.args.wide c.in_err-form.field-0.0 c.in_err-form.ensures.form)

pub returns-then-not-has_place-clause-none : goal.returns-then-not-has_place-clause-none
returns-then-not-has_place-clause-none c = unspelled_place c.args.insn.now c.args.wide c.in_ok-form.form c.in_ok-form.ensures.form (sym c.has_place.ensures ∙ c.if-not-has_place.true)

pub returns-then-not-has_place-clause-form : goal.returns-then-not-has_place-clause-form
returns-then-not-has_place-clause-form c =
    rw (unformed_place c.args.insn.now c.args.wide c.in_ok-form.form c.in_ok-form.ensures.form (sym c.has_place.ensures ∙ c.if-not-has_place.true)) (λ e. e, λ e. e)
