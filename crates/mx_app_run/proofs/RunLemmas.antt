-- From loops to a run, and from its text to its replay.
use Rattle.std.proofs.Common.{◌≡◌, ◌∙◌, ◌+◌, ◌<◌, ◌≤◌, ℕ, suc, Bool, List, [], ◌∷◌, ◌++◌, length, take, get_or, Option, Some, None, Result, All, refl, sym, ap, subst, arith, inl, inr, append_assoc}
use Rattle.std.specs.Io.KnownBytes.{Appends}
use Rattle.std.proofs.lemmas.List.{length-replicate, take_more}
use Rattle.atomic_table.specs.Seated.{TableId}
use Rattle.mx_machine.specs.declared.config.Config.{Config}
use Rattle.mx_machine.specs.declared.events.Event.{Event}
use Rattle.mx_machine.specs.declared.events.Refusal.{Refusal}
use Rattle.mx_machine.specs.declared.history.Record.{Record}
use Rattle.mx_machine.specs.Boot.{first_table, world_at_boot}
use Rattle.mx_machine.specs.History.{AreAccepted, BootAndHistory, IsWritable, events_of, events_of_history, replay, world_after_events}
use Rattle.mx_machine.specs.Move.{world_after_event}
use Rattle.mx_machine.specs.Rules.{Rules}
use Rattle.mx_machine.specs.World.{World, actors}
use Rattle.mx_machine.specs.Service.{Service}
use Rattle.mx_machine.proofs.ActorLemmas.{actors_after_events}
use Rattle.mx_cpus.specs.Seats.{SeatView}
use Rattle.mx_cpus.specs.Boots.{all_seats}
use Rattle.mx_app_step.specs.Asked.{Asked}
use Rattle.mx_app_step.specs.ServiceLine.{ServiceLine}
use Rattle.mx_app_step.specs.Setup.{AreServicesRead, IsSetup, IsTextGiven}
use Rattle.mx_app_failure.specs.declared.failure.Failure.{Failure as Kind}
use Rattle.mx_app_failure.specs.declared.failure.About.TheVariants.{Course}
use Rattle.mx_app_failure.specs.Failure.{IsMisstated}
use Rattle.mx_app_step.specs.Setup.{IsSetupFault}
use Rattle.mx_app_step.specs.Kept.{text_kept}
use Rattle.mx_app_step.specs.Written.{Written}
use Rattle.mx_app_step.specs.Report.{report_text}
use Rattle.mx_boot.specs.Text.{saved_text}
use Rattle.mx_app_step.specs.Records.{IsFirstRefusal, IsRefusedAt, IsReplayPrinted}
use Rattle.mx_app_step.specs.declared.records.Replayed.{Replayed}
use Rattle.mx_app_step.specs.declared.records.Replayed.TheVariants as replayed
use Rattle.mx_app_run.specs.declared.run_by_threads.RunEnding.{RunEnding}
use Rattle.mx_cpus.specs.declared.outside.OutsideCall.{OutsideCall}
use Rattle.mx_app_run.specs.Calls.{AreCallsGiven, IsCallsFault, call_line, tick_of, ticks_of}
use Rattle.mx_text.specs.Lines.{lines}
use Rattle.mx_text.specs.declared.error.BootError.{BootError}
use Rattle.mx_app_turns.specs.Commented.{AreSaid, TellsUnsaid}
use Rattle.mx_walk.specs.declared.progress.Part.{Part}
use Rattle.mx_app_run.specs.Shows.{shows}
use Rattle.mx_app_run.specs.Run.{ComesTo, EndsDriven, IsCalled, IsNotCalled, IsRun, IsRunHistory, ReportsRun, run_ending}

-- a run ends at a kernel whose loops have ended
pub run_of : (WasShown : Part → Type 0) (stops : Bool) (c : Config) (vs : List Service) (ticks : ℕ) (xs : List OutsideCall) (whole : Bool) (k : BootAndHistory) (boot : World) (z : TableId) (seats : List SeatView)
    → boot ≡ world_at_boot c vs → seats ≡ all_seats c z → k.boot ≡ boot → EndsDriven boot (shows WasShown c.log stops) (length boot.cpus) ticks xs whole seats k.history
    → AreAccepted k.boot (events_of_history k.history) → All (IsWritable (actors (replay k))) k.history → IsRun WasShown stops c vs ticks xs whole k
run_of WasShown stops c vs ticks xs whole k boot z seats booted all is ends accepted written =
    let many : length boot.cpus ≡ c.cpus = ap (λ (w : World). length w.cpus) booted ∙ length-replicate c.cpus None in
    record {
      history = record { boot = is ∙ booted; accepted = accepted; written = written };
      table = z;
      loops = subst (λ (w : World). EndsDriven w (shows WasShown c.log stops) c.cpus ticks xs whole (all_seats c z) k.history) booted
          (subst (λ n. EndsDriven boot (shows WasShown c.log stops) n ticks xs whole (all_seats c z) k.history) many
          (subst (λ (l : List SeatView). EndsDriven boot (shows WasShown c.log stops) (length boot.cpus) ticks xs whole l k.history) all ends));
    }

-- one service for each line
as_many : (ls : List ServiceLine) (qs : List Asked) (vs : List Service) → AreServicesRead ls qs vs → length vs ≡ length ls
as_many [] [] [] h = refl
as_many (l ∷ ls) (q ∷ qs) (v ∷ vs) h = ap suc (as_many ls qs vs h.1)
as_many [] [] (v ∷ vs) h = absurd h
as_many [] (q ∷ qs) [] h = absurd h
as_many [] (q ∷ qs) (v ∷ vs) h = absurd h
as_many (l ∷ ls) [] [] h = absurd h
as_many (l ∷ ls) [] (v ∷ vs) h = absurd h
as_many (l ∷ ls) (q ∷ qs) [] h = absurd h

pub as_many_services : (name : List ℕ) (qs : List Asked) (c : Config) (vs : List Service) → IsSetup name qs c vs → length vs ≡ length c.lines
as_many_services name qs c vs h = as_many c.lines h.1 vs h.6

rules_at_boot : (c : Config) (vs : List Service) → (world_at_boot c vs).table.rules ≡ c.rules
unfolding first_table
rules_at_boot c vs = refl

-- ---- what was read

-- the calls of no file
pub called_alone : (config : List ℕ) (o : Option (List ℕ)) (qs : List Asked) (c : Config) (vs : List Service) (xs : List OutsideCall) → o ≡ None → IsSetup config qs c vs → xs ≡ [] → IsCalled config o qs c vs xs
called_alone config o qs c vs xs is setup none = subst (λ (p : Option (List ℕ)). IsCalled config p qs c vs xs) (sym is) (setup, none)

-- a file's calls, by the text that was read
pub calls_given : (name text slice : List ℕ) (q : Asked) (others : Config) (xs : List OutsideCall) → slice ≡ text → IsTextGiven name q text → AreSaid (call_line others) (lines slice) xs → AreCallsGiven name q others xs
calls_given name text slice q others xs of t h = (text, t, subst (λ (x : List ℕ). AreSaid (call_line others) (lines x) xs) of h)

pub calls_unread : (name text slice : List ℕ) (q : Asked) (others : Config) (e : BootError) (f : Kind) → slice ≡ text → IsTextGiven name q text → TellsUnsaid (call_line others) (lines slice) e → IsMisstated e Course text f
    → IsCallsFault name q others f
calls_unread name text slice q others e f of t h m = inr (text, e, t, subst (λ (x : List ℕ). TellsUnsaid (call_line others) (lines x) e) of h, m)

-- those of a file
pub called_by : (config name : List ℕ) (o : Option (List ℕ)) (qs : List Asked) (q : Asked) (c : Config) (vs : List Service) (xs : List OutsideCall) → o ≡ Some name → IsSetup config qs c vs → AreCallsGiven name q c xs
    → IsCalled config o (qs ++ q ∷ []) c vs xs
called_by config name o qs q c vs xs is setup given = subst (λ (p : Option (List ℕ)). IsCalled config p (qs ++ q ∷ []) c vs xs) (sym is) (qs, q, refl, setup, given)

pub not_set_up : (config : List ℕ) (o : Option (List ℕ)) (qs : List Asked) (f : Kind) → IsSetupFault config qs f → IsNotCalled config o qs f
not_set_up config None qs f h = h
not_set_up config (Some name) qs f h = inl h

pub calls_faulty : (config name : List ℕ) (o : Option (List ℕ)) (qs : List Asked) (q : Asked) (c : Config) (vs : List Service) (f : Kind) → o ≡ Some name → IsSetup config qs c vs → IsCallsFault name q c f
    → IsNotCalled config o (qs ++ q ∷ []) f
calls_faulty config name o qs q c vs f is setup h = subst (λ (p : Option (List ℕ)). IsNotCalled config p (qs ++ q ∷ []) f) (sym is) (inr (qs, q, c, vs, refl, setup, h))

-- the configuration, whichever files were read
setup_of_called : (config : List ℕ) (o : Option (List ℕ)) (qs : List Asked) (c : Config) (vs : List Service) (xs : List OutsideCall) → IsCalled config o qs c vs xs → length vs ≡ length c.lines
setup_of_called config None qs c vs xs h = as_many_services config qs c vs h.0
setup_of_called config (Some name) qs c vs xs h = as_many_services config h.0 c vs h.3

pub some_called : (config : List ℕ) (o : Option (List ℕ)) (qs : List Asked) (c : Config) (vs : List Service) (xs : List OutsideCall) → IsCalled config o qs c vs xs → (0 < length vs) × (length vs ≤ 32)
some_called config o qs c vs xs h =
    let many = setup_of_called config o qs c vs xs h in
    (omega (arith, many, c.some_lines), omega (arith, many, c.lines_fit))

-- ---- what `mx run` does, by how far it comes

-- the text of a run's history is by the rules of its configuration
by_rules : (c : Config) (vs : List Service) (k : BootAndHistory) → IsRunHistory c vs k → text_kept k ≡ saved_text c.rules k.history
by_rules c vs k run = ap (λ (r : Rules). saved_text r k.history) (ap (λ (w : World). w.table.rules) run.boot ∙ rules_at_boot c vs)

-- a run whose kernel is reported
pub run_reported : (WasShown : Part → Type 0) (stops : Bool) (c : Config) (vs : List Service) (ticks : ℕ) (xs : List OutsideCall) (whole : Bool) (k : BootAndHistory) → IsRun WasShown stops c vs ticks xs whole k → (log : List ℕ) (ws : List Written) (Prints : List ℕ → Type 0) (ending : RunEnding) (r : Result RunEnding Kind)
    → ending ≡ run_ending c.log ticks xs whole k → ReportsRun log (text_kept k) (report_text (replay k).table (replay k).services) ws Prints ending r → ComesTo WasShown stops c vs xs log ticks ws Prints r
run_reported WasShown stops c vs ticks xs whole k run log ws Prints ending r is h =
    let report = report_text (replay k).table (replay k).services in
    inr (
      k,
      whole,
      run,
      subst (λ e. ReportsRun log (saved_text c.rules k.history) report ws Prints e r) is
          (subst (λ t. ReportsRun log t report ws Prints ending r) (by_rules c vs k run.history) h),
    )

-- ---- its replay

pub actors_of_run : (c : Config) (vs : List Service) (k : BootAndHistory)
    → IsRunHistory c vs k → actors (replay k) ≡ c.cpus + c.others
unfolding replay
actors_of_run c vs k r = actors_after_events k.boot (events_of_history k.history) ∙ ap actors r.boot ∙ ap (λ n. n + c.others) (length-replicate c.cpus None)

events_both : (xs ys : List Record) → events_of_history (xs ++ ys) ≡ events_of_history xs ++ events_of_history ys
events_both [] ys = refl
events_both (x ∷ xs) ys = ap (λ l. events_of x.actor x.event ++ l) (events_both xs ys) ∙ sym (append_assoc (events_of x.actor x.event) (events_of_history xs) (events_of_history ys))

accepted_after : (w : World) (xs ys : List (ℕ × Event)) → AreAccepted w (xs ++ ys) → AreAccepted (world_after_events w xs) ys
accepted_after w [] ys h = h
accepted_after w (x ∷ xs) ys h = accepted_after (world_after_event w x.0 x.1) xs ys h.1

never_refused : (w : World) (xs ys : List (ℕ × Event)) (r : Refusal) → AreAccepted w (xs ++ ys) → IsFirstRefusal w xs r → ⊥
never_refused w [] ys r h q = q
never_refused w (x ∷ xs) ys r h q = elim q [
  | inl e ↦ (let both : None ≡ Some r = sym h.0 ∙ e in absurd cc)
  | inr p ↦ never_refused (world_after_event w x.0 x.1) xs ys r h.1 p.1
]

-- no record of an accepted history is refused
not_refused : (w : World) (records : List Record) (n : ℕ) (r : Refusal) → AreAccepted w (events_of_history records) → IsRefusedAt w records n r → ⊥
not_refused w records n r h q =
    let above = q.0 in
    let below = q.1 in
    let x = q.2 in
    let parts = ap events_of_history q.3 ∙ events_both above (x ∷ below) in
    never_refused (world_after_events w (events_of_history above)) (events_of x.actor x.event) (events_of_history below) r
    (accepted_after w (events_of_history above) (events_of_history (x ∷ below)) (subst (AreAccepted w) parts h)) q.5

pub printed_whole : (c : Config) (vs : List Service) (k : BootAndHistory) (records : List Record) (how : Replayed) (before after : Option (List ℕ))
    → IsRunHistory c vs k → records ≡ k.history → IsReplayPrinted (world_at_boot c vs) records how (λ text. Appends before after text)
    → (how ≡ replayed.Whole) × Appends before after (report_text (replay k).table (replay k).services)
unfolding replay
printed_whole c vs k records replayed.Whole before after run same h =
    let there : world_after_events (world_at_boot c vs) (events_of_history records) ≡ world_after_events k.boot (events_of_history k.history) =
    ap (λ (l : List Record). world_after_events (world_at_boot c vs) (events_of_history l)) same ∙ ap (λ w. world_after_events w (events_of_history k.history)) (sym run.boot) in
    (refl, subst (λ (u : World). Appends before after (report_text u.table u.services)) there h.1)
printed_whole c vs k records replayed.Refused before after run same h =
    let accepted = subst (λ w. AreAccepted w (events_of_history records)) run.boot (subst (λ (l : List Record). AreAccepted k.boot (events_of_history l)) (sym same) run.accepted) in
    absurd (not_refused (world_at_boot c vs) records h.0 h.1 accepted h.2)

-- ---- ticks among calls

ticks_push : (xs : List OutsideCall) (x : OutsideCall) → ticks_of (xs ++ x ∷ []) ≡ ticks_of xs + tick_of x
ticks_push [] x = omega arith
ticks_push (y ∷ xs) x = let rest = ticks_push xs x in omega (arith, rest)

-- one call more
pub ticks_more : (xs : List OutsideCall) (k : ℕ) (d : OutsideCall) (n m : ℕ) → k < length xs → n ≡ ticks_of (take k xs) → m ≡ tick_of (get_or xs k d) → n + m ≡ ticks_of (take (k + 1) xs)
ticks_more xs k d n m below before now =
    let both = ap ticks_of (take_more xs k d below) ∙ ticks_push (take k xs) (get_or xs k d) in
    omega (arith, both, before, now)
