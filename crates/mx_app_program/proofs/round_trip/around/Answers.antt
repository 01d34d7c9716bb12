use Rattle.std.proofs.Common.{ℕ, List, ◌∙◌, sym, subst}
use Rattle.mx_aout.specs.File.{FileIs}
use Rattle.mx_exec.specs.declared.image.Image.{Image}
use Rattle.mx_exec.specs.Image.{code_bytes}
use Rattle.mx_app_program.specs.Around.{CodeKeeps}
use Rattle.mx_app_program.proofs.round_trip.around.Goals as goal

pub returns-clause-around : goal.returns-clause-around
returns-clause-around c =
    let p = c.in_ok-program.program in
    let assembled = c.in_ok-program.ensures.program in
    let file : FileIs c.from_vec.result p = subst (λ (b : List ℕ). FileIs b p) (sym c.from_vec.ensures) c.in_ok-file.ensures.file in
    let image = c.in_ok-image.ensures.image in
    let found = c.in_ok-image.ensures.listing in
    record {
      program = p;
      assembled = assembled;
      file = file;
      short = c.from_vec.ensures ∙ c.in_ok-file.ensures.form;
      only = λ other is. c.one_program.ensures c.from_vec.result other p is file;
      image = image;
      code = subst (λ (m : Image). CodeKeeps assembled.0 p assembled.2 (code_bytes m)) (sym image) (c.code_keeps.ensures assembled.0 p assembled.2 c.text_is_short.ensures);
      parts = found.0;
      parting = found.1;
      listing = found.2;
      instructions = c.listing_keeps.ensures assembled.0 p assembled.2 found.0 c.text_is_short.ensures found.1;
    }
