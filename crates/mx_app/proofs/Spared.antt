-- Which file of a request is looked at.
use Rattle.std.proofs.Common.{◌≡◌, Bool, true, false, List, [], Option, Some, None, Result, Ok, refl, subst, sym}
use Rattle.mx_app_command.specs.Files.{FileWord, file_written, writes_several, written_kind}
use Rattle.mx_app_command.specs.declared.command_line.CommandRequest.{CommandRequest}
use Rattle.mx_app_command.specs.declared.files.FileKind.{FileKind}
use Rattle.mx_app_failure.specs.declared.failure.Failure.{Failure as Kind}
use Rattle.mx_app_spare.specs.Sparing.{SparesName, SparesNumbered}
use Rattle.mx_app_start.specs.Asked.{Asked}
use Rattle.mx_app.specs.Sparing.{SparesRequest, SparesWord}

module _ (request : CommandRequest) (force : Bool) where
  -- none, if that is forced
  pub spares_forced : force ≡ true → SparesRequest request force [] (Ok tt)
  spares_forced forced = subst (λ (b : Bool). SparesRequest request b [] (Ok tt)) (sym forced) (refl, refl)

  module _ (unforced : force ≡ false) (qs : List Asked) (r : Result (Unit {0}) Kind) where
    by_word : (w : Option FileWord) → file_written request ≡ w → SparesWord (written_kind request) (writes_several request) w qs r → SparesRequest request force qs r
    by_word w is h =
        subst (λ (b : Bool). SparesRequest request b qs r) (sym unforced) (subst (λ (o : Option FileWord). SparesWord (written_kind request) (writes_several request) o qs r) (sym is) h)

    -- none, if none is written
    pub spares_none : file_written request ≡ None → qs ≡ [] → r ≡ Ok tt → SparesRequest request force qs r
    spares_none is none well = by_word None is (none, well)

    module _ (kind : FileKind) (w : FileWord) (is : file_written request ≡ Some w) (as_kind : kind ≡ written_kind request) where
      by_kind : (b : Bool) → writes_several request ≡ b → SparesWord kind b (Some w) qs r → SparesRequest request force qs r
      by_kind b several h =
          by_word (Some w) is
          (subst (λ (k : FileKind). SparesWord k (writes_several request) (Some w) qs r) as_kind (subst (λ (x : Bool). SparesWord kind x (Some w) qs r) (sym several) h))

      -- the first of several
      pub spares_first : writes_several request ≡ true → SparesNumbered kind w.name 1 qs r → SparesRequest request force qs r
      spares_first several h = by_kind true several h

      -- or the one that is written
      pub spares_one : writes_several request ≡ false → SparesName kind w.name qs r → SparesRequest request force qs r
      spares_one several h = by_kind false several h
