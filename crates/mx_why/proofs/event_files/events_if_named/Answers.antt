use Rattle.std.proofs.Common.{◌≡◌, [], ◌∷◌, List, ℕ, Option, Some, None, Bor, ap, refl, subst, sym}
use Rattle.std.specs.Prelude.{option_map}
use Rattle.std.proofs.lemmas.List.{append-nil}
use Rattle.std.proofs.lemmas.Result.{IfErr-weaker, IfOk-weaker}
use Rattle.mx_why.specs.EventFiles.{AreEventsRead}
use Rattle.mx_why.proofs.BegunLemmas.{events_given, events_not_given}
use Rattle.mx_why.proofs.event_files.events_if_named.Goals as goal

pub returns-in-Some-clause-read : goal.returns-in-Some-clause-read
returns-in-Some-clause-read g c =
    let is : option_map (λ s. s.now) c.args.name ≡ Some c.in-Some.name.now = ap (λ (o : Option (Bor (List ℕ))). option_map (λ s. s.now) o) c.in-Some.is in
    IfOk-weaker c.events_of.result _ _ (λ said h. (h.0 ∷ [], h.1, events_given (option_map (λ s. s.now) c.args.name) c.in-Some.name.now h.0 c.args.config.now.lines said.items is h.2)) c.events_of.ensures.read

pub returns-in-Some-clause-fault : goal.returns-in-Some-clause-fault
returns-in-Some-clause-fault g c =
    let is : option_map (λ s. s.now) c.args.name ≡ Some c.in-Some.name.now = ap (λ (o : Option (Bor (List ℕ))). option_map (λ s. s.now) o) c.in-Some.is in
    IfErr-weaker c.events_of.result _ _ (λ f h. (h.0 ∷ [], h.1, events_not_given (option_map (λ s. s.now) c.args.name) c.in-Some.name.now h.0 c.args.config.now.lines f is h.2)) c.events_of.ensures.fault

pub returns-in-None-clause-read : goal.returns-in-None-clause-read
returns-in-None-clause-read g c =
    let is : option_map (λ s. s.now) c.args.name ≡ None = ap (λ (o : Option (Bor (List ℕ))). option_map (λ s. s.now) o) c.in-None.is in
    ([], sym (append-nil _), subst (λ (o : Option (List ℕ)). AreEventsRead o [] c.args.config.now.lines c.new.result.items) (sym is) (refl, c.new.ensures.items))
