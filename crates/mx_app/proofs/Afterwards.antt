-- What is told after a command.
use Rattle.std.proofs.Common.{◌≡◌, ◌∙◌, ℕ, ◌==◌, Bool, false, List, [], ◌∷◌, ◌++◌, Option, Result, Ok, Err, IfErr, IfOk, length, take, ap, append_assoc, inl, refl}
use Rattle.mx_app_failure.specs.declared.failure.Failure.{Failure as Kind}
use Rattle.mx_app_db.specs.Asked.{Asked, file_given}
use Rattle.mx_app_db.specs.Config.{Config}
use Rattle.mx_app_db.specs.Service.{Service}
use Rattle.mx_machine.specs.declared.history.Record.{Record}
use Rattle.mx_machine.specs.Boot.{world_at_boot}
use Rattle.mx_turns.specs.declared.outside.OutsideLine.{OutsideLine}
use Rattle.mx_why.specs.AfterRun.{IsToldWithin}
use Rattle.mx_why.specs.Begun.{FileNames, IsBegun, IsUntold}
use Rattle.mx_why.specs.declared.after_run.AfterRun.{AfterRun}
use Rattle.mx_app.specs.AfterRun.{TellsAgain, TellsOf}

pub tells : (strict : Bool) (asked now : List Asked) (names : FileNames) (r : Result AfterRun Kind)
    → IfOk r (λ told. (qs : List Asked) × (c : Config) × (vs : List Service) × (records : List Record) × (said : List (Option OutsideLine))
    × (now ≡ asked ++ qs) × IsBegun names qs c vs records said
    × IsToldWithin strict (world_at_boot c vs) (take 4294967295 records) c said names told)
    → IfErr r (λ f. (qs : List Asked) × (now ≡ asked ++ qs) × IsUntold names qs f)
    → (qs : List Asked) × (now ≡ asked ++ qs) × TellsOf strict names qs r
tells strict asked now names (Ok told) p f = (p.0, p.5, (p.1, p.2, p.3, p.4, p.6, p.7))
tells strict asked now names (Err why) p f = (f.0, f.1, f.2)

-- after its first bytes were read
pub tells_again : (strict : Bool) (asked before now : List Asked) (names : FileNames) (front : List ℕ) (r : Result AfterRun Kind)
    → before ≡ asked ++ file_given names.log front ∷ [] → (length front == 0) ≡ false
    → (qs : List Asked) × (now ≡ before ++ qs) × TellsOf strict names qs r
    → (qs : List Asked) × (now ≡ asked ++ qs) × TellsAgain strict names qs r
tells_again strict asked before now names front r given some t = (
  file_given names.log front ∷ t.0,
  t.1 ∙ ap (λ (qs : List Asked). qs ++ t.0) given ∙ append_assoc asked (file_given names.log front ∷ []) t.0,
  inl (front, t.0, refl, some, t.2),
)
