-- What is shown and printed where a history drives a machine.
use Rattle.std.proofs.Common.{◌≡◌, ◌∙◌, ◌<◌, ◌+◌, ℕ, zero, suc, cond, nat_lt, Bool, true, false, List, [], ◌∷◌, map, length, get_or, Option, Some, None, refl, ap, sym, subst, arith, All}
use Rattle.std.proofs.lemmas.Bool.{ltb-true}
use Rattle.std.proofs.lemmas.List.{length-replicate}
use Rattle.std.specs.Io.KnownBytes.{Appends}
use Rattle.mx_text.specs.Fields.{◌>>=◌, fields}
use Rattle.mx_app_start.specs.Config.{Config}
use Rattle.mx_app_start.specs.Service.{Service}
use Rattle.mx_boot.specs.Script.{actor_field, after_event_word}
use Rattle.mx_app_start.specs.Log.{record_by, record_line, record_of, recorded_of}
use Rattle.mx_app_start.specs.Report.{report_text}
use Rattle.mx_machine.specs.declared.history.Record.{Record}
use Rattle.mx_machine.specs.declared.history.Recorded.{Recorded}
use Rattle.mx_machine.specs.Boot.{world_at_boot}
use Rattle.mx_machine.specs.History.{AreAccepted, world_after_events, events_of_history}
use Rattle.mx_machine.specs.World.{World, actors}
use Rattle.mx_app_start.specs.Asked.{Asked}
use Rattle.mx_app_start.specs.Course.{IsSaved}
use Rattle.mx_app_start.specs.Setup.{IsStart}
use Rattle.mx_app_step.specs.declared.records.Replayed.{Replayed}
use Rattle.mx_app_step.specs.Records.{IsReplayPrinted}

-- ---- a saved record is by an actor of the machine

by_made : (b : Bool) (n a : ℕ) (x : Recorded) (r : Record) → nat_lt a n ≡ b → cond b (Some (record { actor = a; event = x })) None ≡ Some r → r.actor < n
by_made true n a x r e h =
    let s : record { actor = a; event = x } ≡ r = cc in
    subst (λ (z : Record). z.actor < n) s (ltb-true a n e)
by_made false n a x r e h = absurd cc

by_event : (n a : ℕ) (x : Option Recorded) (r : Record) → (x >>= (λ y. record_by n a y)) ≡ Some r → r.actor < n
by_event n a None r h = absurd cc
by_event n a (Some x) r h = by_made (nat_lt a n) n a x r refl h

by_actor : (n : ℕ) (fs : List (List ℕ)) (a : Option ℕ) (r : Record) → (a >>= (λ b. after_event_word recorded_of fs >>= (λ y. record_by n b y))) ≡ Some r → r.actor < n
by_actor n fs None r h = absurd cc
by_actor n fs (Some a) r h = by_event n a (after_event_word recorded_of fs) r h

by_fields : (n : ℕ) (fs : List (List ℕ)) (r : Record) → record_of n fs ≡ Some r → r.actor < n
by_fields n [] r h = absurd cc
by_fields n (f ∷ fs) r h = by_actor n fs (actor_field f) r h

made_in : (n : ℕ) (ls : List (List ℕ)) (records : List Record) → map (record_line n) ls ≡ map Some records → (k : ℕ) (d : Record) → k < length records → (get_or records k d).actor < n
made_in n ls [] h k d b = absurd (omega arith)
made_in n [] (r ∷ rs) h k d b = absurd cc
made_in n (l ∷ ls) (r ∷ rs) h zero d b = let e : record_line n l ≡ Some r = cc in by_fields n (fields l) r e
made_in n (l ∷ ls) (r ∷ rs) h (suc k) d b = let e : map (record_line n) ls ≡ map Some rs = cc in made_in n ls rs e k d (omega arith)

pub saved_by_actors : (config_name name : List ℕ) (qs : List Asked) (c : Config) (vs : List Service) (records slice : List Record) (w : World)
    → slice ≡ records → w ≡ world_at_boot c vs → IsStart IsSaved config_name name qs c vs records → All (λ (x : Record). x.actor < actors w) slice
saved_by_actors config_name name qs c vs records slice w same e h =
    let said = h.7 in
    let as_many : length (world_at_boot c vs).cpus ≡ c.cpus = length-replicate c.cpus None in
    let read : h.3.cpus + h.3.others ≡ c.cpus + c.others = sym (ap (λ (x : Config). x.cpus + x.others) said.2) in
    let n : h.3.cpus + h.3.others ≡ actors w = read ∙ sym (ap actors e ∙ ap (λ k. k + c.others) as_many) in
    subst (λ (rs : List Record). All (λ (x : Record). x.actor < actors w) rs) (sym same)
    (subst (λ k. All (λ (x : Record). x.actor < k) records) n (made_in (h.3.cpus + h.3.others) _ records said.1.0))

-- ---- what is printed

pub whole_printed : (x z : Option (List ℕ)) (records : List Record) (w v : World)
    → AreAccepted w (events_of_history records) → v ≡ world_after_events w (events_of_history records) → Appends x z (report_text v.table v.services)
    → AreAccepted w (events_of_history records) × (let u = world_after_events w (events_of_history records) in Appends x z (report_text u.table u.services))
whole_printed x z records w v a world b = (a, subst (λ (u : World). Appends x z (report_text u.table u.services)) world b)

pub history_printed : (Prints : List ℕ → Type 0) (c : Config) (vs : List Service) (records slice : List Record) (w : World) (replayed : Replayed)
    → slice ≡ records → w ≡ world_at_boot c vs → IsReplayPrinted w slice replayed Prints → IsReplayPrinted (world_at_boot c vs) records replayed Prints
history_printed Prints c vs records slice w replayed same e h =
    subst (λ (v : World). IsReplayPrinted v records replayed Prints) e (subst (λ (rs : List Record). IsReplayPrinted w rs replayed Prints) same h)
