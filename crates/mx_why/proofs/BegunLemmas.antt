-- The records of a machine that is begun.
use Rattle.std.proofs.Common.{◌≡◌, ◌<◌, ℕ, List, [], ◌∷◌, Option, Some, All, refl, subst, sym}
use Rattle.mx_app_failure.specs.declared.failure.Failure.{Failure}
use Rattle.mx_app_start.specs.Asked.{Asked}
use Rattle.mx_app_start.specs.Config.{Config}
use Rattle.mx_app_start.specs.Service.{Service}
use Rattle.mx_app_step.proofs.ReplayLemmas.{saved_by_actors}
use Rattle.mx_machine.specs.declared.config.ServiceLine.{ServiceLine}
use Rattle.mx_machine.specs.declared.history.Record.{Record}
use Rattle.mx_machine.specs.Boot.{world_at_boot}
use Rattle.mx_machine.specs.World.{World, actors}
use Rattle.mx_turns.specs.declared.outside.OutsideLine.{OutsideLine}
use Rattle.mx_why.specs.Begun.{FileNames, IsBegun}
use Rattle.mx_why.specs.EventFiles.{AreEventsGiven, AreEventsRead, AreEventsUnread, AreNoEventsGiven}

pub begun_by_actors : (n : FileNames) (qs : List Asked) (c : Config) (vs : List Service) (records slice : List Record) (said : List (Option OutsideLine)) (w : World)
    → slice ≡ records → w ≡ world_at_boot c vs → IsBegun n qs c vs records said → All (λ (x : Record). x.actor < actors w) slice
begun_by_actors n qs c vs records slice said w same e h = saved_by_actors n.config n.log h.0 c vs records slice w same e h.3

-- ---- the file of outside events that is named

pub events_given : (o : Option (List ℕ)) (name : List ℕ) (q : Asked) (services : List ServiceLine) (said : List (Option OutsideLine)) → o ≡ Some name
    → AreEventsGiven name q services said → AreEventsRead o (q ∷ []) services said
events_given o name q services said e h = subst (λ (x : Option (List ℕ)). AreEventsRead x (q ∷ []) services said) (sym e) (q, refl, h)

pub events_not_given : (o : Option (List ℕ)) (name : List ℕ) (q : Asked) (services : List ServiceLine) (f : Failure) → o ≡ Some name
    → AreNoEventsGiven name q services f → AreEventsUnread o (q ∷ []) services f
events_not_given o name q services f e h = subst (λ (x : Option (List ℕ)). AreEventsUnread x (q ∷ []) services f) (sym e) (q, refl, h)
