-- Machines that make turns.
use Rattle.std.proofs.Common.{◌≡◌, ◌≢◌, ◌∙◌, ◌+◌, ◌^◌, ◌≤◌, ◌<◌, ℕ, zero, suc, ◌++◌, Bool, false, List, [], ◌∷◌, length, Option, None, Result, Ok, Err, All, inl, inr, refl, ap, sym, subst, arith}
use Rattle.std.specs.Io.KnownBytes.{Appends}
use Rattle.std.specs.Prelude.{IsErrAnd}
use Rattle.std.proofs.lemmas.List.{length-replicate}
use Rattle.mx_machine.specs.declared.config.Config.{Config}
use Rattle.mx_machine.specs.declared.events.Event.{Event}
use Rattle.mx_machine.specs.declared.events.Event.TheVariants.{Tick}
use Rattle.mx_machine.specs.declared.history.Record.{Record}
use Rattle.mx_machine.specs.Boot.{first_table, world_at_boot}
use Rattle.mx_machine.specs.History.{AreAccepted, BootAndHistory, IsWritable, events_of_history, replay, world_after_events}
use Rattle.mx_machine.specs.Move.{moves}
use Rattle.mx_machine.specs.Rules.{Rules}
use Rattle.mx_machine.specs.Service.{Service}
use Rattle.mx_machine.specs.Sound.{IsSound}
use Rattle.mx_machine.specs.World.{World, actors}
use Rattle.mx_machine.specs.Machine.{MachineState, kept_along, world_of}
use Rattle.mx_turns.specs.declared.turns.Ending.{Ending}
use Rattle.mx_turns.specs.declared.turns.Ending.TheVariants.{Turns}
use Rattle.mx_turns.specs.Made.{HasMade}
use Rattle.mx_machine.proofs.ActorLemmas.{actors_after_events}
use Rattle.mx_turns.proofs.GrowthLemmas.{turns_are_few}
use Rattle.mx_turns.proofs.MadeLemmas.{kept_boot}
use Rattle.mx_turns.specs.Shown.{turns_shown}
use Rattle.mx_turns.specs.Turns.{refusable, turns}
use Rattle.mx_app_failure.specs.declared.failure.Failure.{Failure as Kind}
use Rattle.mx_app_step.proofs.AcceptedLemmas.{not_refused}
use Rattle.mx_app_step.specs.Asked.{Asked}
use Rattle.mx_app_step.specs.Kept.{IsUnreported, text_kept}
use Rattle.mx_app_step.specs.Programs.{SparesProgram, names_program}
use Rattle.mx_app_step.specs.Records.{IsReplayPrinted}
use Rattle.mx_app_step.specs.Report.{report_text}
use Rattle.mx_app_step.specs.Text.{saved_text}
use Rattle.mx_app_step.specs.Written.{Written, kept}
use Rattle.mx_app_step.specs.declared.records.Replayed.{Replayed}
use Rattle.mx_app_step.specs.declared.records.Replayed.TheVariants as replayed
use Rattle.mx_walk.specs.declared.progress.Part.{Part}
use Rattle.mx_turns.specs.declared.outside.OutsideLine.{OutsideLine}
use Rattle.mx_turns.specs.declared.outside.OutsideLine.TheVariants.{Plain}
use Rattle.mx_app_turns.specs.declared.turning.TurnsEnd.{TurnsEnd}
use Rattle.mx_app_turns.specs.Turned.{IsBegun, IsNotBegun, IsTurned, IsTurnedTo, MakesTurns, ShowsTurns, coming}

-- ---- a machine's turns

shown_now : (m : MachineState) → ((world_of m).table ≡ (replay m.kernel).table) × ((world_of m).services ≡ (replay m.kernel).services) × ((world_of m).records ≡ (replay m.kernel).records)
unfolding world_of
shown_now m = (refl, refl, refl)

-- a sound machine's history has room for at most so many records
pub room_of : (w : World) → IsSound w → w.records ≤ 2 ^ 20
room_of w s = omega (arith, s.holds.room, s.holds.size)

abbrev at_boot : World → BootAndHistory
at_boot w = record { boot = w; history = [] }

-- a machine that made the turns of a configuration
pub turned : (c : Config) (vs : List Service) (bound : ℕ) (events : List OutsideLine) (m n : MachineState) (ending : Ending) → world_of m ≡ world_at_boot c vs → m.kernel ≡ at_boot (world_of m)
    → HasMade m (turns bound (world_of m) events).made n → ending ≡ (turns bound (world_of m) events).ending
    → AreAccepted n.kernel.boot (events_of_history n.kernel.history) → All (IsWritable (actors (replay n.kernel))) n.kernel.history → (replay n.kernel).records ≤ 2 ^ 20 → IsTurned c vs bound events n.kernel ending
turned c vs bound events m n ending booted begun made ends accepted written room =
    let xs : World → List (ℕ × Event) = λ w. (turns bound w events).made in
    let shown = shown_now n in
    let world : world_of n ≡ world_after_events (world_at_boot c vs) (xs (world_at_boot c vs)) = made.world ∙ ap (λ (w : World). world_after_events w (xs w)) booted in
    record {
      boot = ap (λ (k : BootAndHistory). k.boot) made.kernel ∙ kept_boot m.kernel (xs (world_of m)) (moves (world_of m) (xs (world_of m))).0 ∙ ap (λ (k : BootAndHistory). k.boot) begun ∙ booted;
      made = made.kernel ∙ ap (λ (k : BootAndHistory). kept_along k (xs (world_of m)) (moves (world_of m) (xs (world_of m))).0) begun ∙ ap (λ (w : World). kept_along (at_boot w) (xs w) (moves w (xs w)).0) booted;
      ending = ends ∙ ap (λ (w : World). (turns bound w events).ending) booted;
      world = (sym shown.0 ∙ ap (λ (w : World). w.table) world, sym shown.1 ∙ ap (λ (w : World). w.services) world, sym shown.2 ∙ ap (λ (w : World). w.records) world);
      room = room;
      accepted = accepted;
      written = written;
    }

-- the same, by what was read and asked for
pub turned_at : (c : Config) (vs : List Service) (bound known : ℕ) (listed items : List OutsideLine) (ticks : ℕ) (m n : MachineState) (k : BootAndHistory) (ending : Ending) → bound ≡ known → listed ≡ items → k ≡ n.kernel
    → world_of m ≡ world_at_boot c vs → m.kernel ≡ at_boot (world_of m) → HasMade m (turns bound (world_of m) (coming listed ticks)).made n → ending ≡ (turns bound (world_of m) (coming listed ticks)).ending
    → AreAccepted k.boot (events_of_history k.history) → All (IsWritable (actors (replay k))) k.history → (replay k).records ≤ 2 ^ 20 → IsTurned c vs known (coming items ticks) k ending
turned_at c vs bound known listed items ticks m n k ending same_bound same_items same_kernel booted begun made ends accepted written room =
    subst (λ (x : BootAndHistory). IsTurned c vs known (coming items ticks) x ending) (sym same_kernel)
    (subst (λ (l : List OutsideLine). IsTurned c vs known (coming l ticks) n.kernel ending) same_items
    (subst (λ (b : ℕ). IsTurned c vs b (coming listed ticks) n.kernel ending) same_bound
    (turned c vs bound (coming listed ticks) m n ending booted begun made ends
    (subst (λ (x : BootAndHistory). AreAccepted x.boot (events_of_history x.history)) same_kernel accepted)
    (subst (λ (x : BootAndHistory). All (IsWritable (actors (replay x))) x.history) same_kernel written)
    (subst (λ (x : BootAndHistory). (replay x).records ≤ 2 ^ 20) same_kernel room))))

-- what was shown of its turns, by what was read and asked for
pub shows_at : (c : Config) (vs : List Service) (bound known log : ℕ) (listed items : List OutsideLine) (ticks : ℕ) (w : World) (before shown now : List Part) → bound ≡ known → log ≡ c.log → listed ≡ items → w ≡ world_at_boot c vs
    → shown ≡ before ++ turns_shown log bound w (coming listed ticks) → now ≡ shown → (ps : List Part) × (now ≡ before ++ ps) × ShowsTurns c vs known (coming items ticks) ps
shows_at c vs bound known log listed items ticks w before shown now same_bound same_log same_items booted is cleared = (
  turns_shown c.log known (world_at_boot c vs) (coming items ticks),
  cleared ∙ is
      ∙ ap (λ n. before ++ turns_shown log n w (coming listed ticks)) same_bound
      ∙ ap (λ n. before ++ turns_shown n known w (coming listed ticks)) same_log
      ∙ ap (λ (l : List OutsideLine). before ++ turns_shown c.log known w (coming l ticks)) same_items
      ∙ ap (λ (u : World). before ++ turns_shown c.log known u (coming items ticks)) booted,
  refl,
)

-- ---- what `mx turns` reports, by how it ends

rules_at_boot : (c : Config) (vs : List Service) → (world_at_boot c vs).table.rules ≡ c.rules
unfolding first_table
rules_at_boot c vs = refl

module _ (stops : Bool) (config : List ℕ) (file : Option (List ℕ)) (log : List ℕ) (ticks bound : ℕ) (qs : List Asked) (Prints : List ℕ → Type 0) where
  pub not_begun : (f : Kind) (r : Result TurnsEnd Kind) → IsNotBegun config file qs f → Prints [] → IsErrAnd r (λ y. y ≡ f) → MakesTurns stops config file log ticks bound qs [] [] Prints r
  not_begun f (Ok u) why printed h = absurd h
  not_begun f (Err y) why printed h = inl (refl, refl, printed, subst (λ z. IsNotBegun config file qs z) (sym h) why)

  -- a program isn't written over
  pub spared : (c : Config) (vs : List Service) (events : List OutsideLine) (f : Kind) (r : Result TurnsEnd Kind) → IsBegun config file qs c vs events → SparesProgram c log [] Prints f → IsErrAnd r (λ y. y ≡ f)
      → MakesTurns stops config file log ticks bound qs [] [] Prints r
  spared c vs events f (Ok u) begun named h = absurd h
  spared c vs events f (Err y) begun named h = inr (inl (c, vs, events, begun, refl, subst (λ z. SparesProgram c log [] Prints z) (sym h) named))

  module _ (c : Config) (vs : List Service) (events : List OutsideLine) (k : BootAndHistory) (end : TurnsEnd) (ps : List Part) (begun : IsBegun config file qs c vs events) (other : names_program c log ≡ false)
      (made : IsTurnedTo stops c vs bound (coming events ticks) k end ps) where
    by_rules : text_kept k ≡ saved_text c.rules k.history
    by_rules = ap (λ (r : Rules). saved_text r k.history) (ap (λ (w : World). w.table.rules) made.2.boot ∙ rules_at_boot c vs)

    pub untold : (ws : List Written) (f : Kind) (r : Result TurnsEnd Kind) → IsUnreported log (text_kept k) ws Prints f → IsErrAnd r (λ y. y ≡ f) → MakesTurns stops config file log ticks bound qs ws ps Prints r
    untold ws f (Ok u) why h = absurd h
    untold ws f (Err y) why h =
        inr (inr (c, vs, events, k, end, begun, other, made, subst (λ t. IsUnreported log t ws Prints y) by_rules (subst (λ z. IsUnreported log (text_kept k) ws Prints z) (sym h) why)))

    pub written : Prints (report_text (replay k).table (replay k).services) → MakesTurns stops config file log ticks bound qs (kept log (text_kept k) ∷ []) ps Prints (Ok end)
    written printed = (c, vs, events, k, begun, other, made, ap (λ t. kept log t ∷ []) by_rules, printed)

-- ---- its replay

pub actors_turned : (c : Config) (vs : List Service) (k : BootAndHistory) → k.boot ≡ world_at_boot c vs → actors (replay k) ≡ c.cpus + c.others
unfolding replay
actors_turned c vs k boot = actors_after_events k.boot (events_of_history k.history) ∙ ap actors boot ∙ ap (λ n. n + c.others) (length-replicate c.cpus None)

pub printed_whole : (c : Config) (vs : List Service) (k : BootAndHistory) (records : List Record) (how : Replayed) (before after : Option (List ℕ))
    → k.boot ≡ world_at_boot c vs → AreAccepted k.boot (events_of_history k.history) → records ≡ k.history → IsReplayPrinted (world_at_boot c vs) records how (λ text. Appends before after text)
    → (how ≡ replayed.Whole) × Appends before after (report_text (replay k).table (replay k).services)
unfolding replay
printed_whole c vs k records replayed.Whole before after boot accepted same h =
    let there : world_after_events (world_at_boot c vs) (events_of_history records) ≡ world_after_events k.boot (events_of_history k.history) =
    ap (λ (l : List Record). world_after_events (world_at_boot c vs) (events_of_history l)) same ∙ ap (λ w. world_after_events w (events_of_history k.history)) (sym boot) in
    (refl, subst (λ (u : World). Appends before after (report_text u.table u.services)) there h.1)
printed_whole c vs k records replayed.Refused before after boot accepted same h =
    let all = subst (λ w. AreAccepted w (events_of_history records)) boot (subst (λ (l : List Record). AreAccepted k.boot (events_of_history l)) (sym same) accepted) in
    absurd (not_refused (world_at_boot c vs) records h.0 h.1 all h.2)

-- ---- the bound

-- of lines, kills and ticks, and then ticks, at most the first may be refused
few_refusable : (events : List OutsideLine) (ticks : ℕ) → refusable (coming events ticks) ≤ length events
few_refusable [] zero = omega arith
few_refusable [] (suc n) = few_refusable [] n
few_refusable (Plain Tick ∷ xs) ticks = let rest = few_refusable xs ticks in omega (arith, rest)
few_refusable (x ∷ xs) ticks = let rest = few_refusable xs ticks in omega (arith, rest)

-- turns don't end by the bound, if it is above what the history has room for and what may be refused
pub not_by_bound : (c : Config) (vs : List Service) (bound : ℕ) (events : List OutsideLine) (ticks : ℕ) (k : BootAndHistory) (ending : Ending)
    → IsTurned c vs bound (coming events ticks) k ending → 2 ^ 20 + length events < bound → ending ≢ Turns
not_by_bound c vs bound events ticks k ending made above ends =
    let w = world_at_boot c vs in
    let cpus : length w.cpus ≡ c.cpus = length-replicate c.cpus None in
    let some : 0 < length w.cpus = omega (arith, cpus, c.some_cpus) in
    let all = turns_are_few bound w (coming events ticks) some (sym made.ending ∙ ends) in
    let refused = few_refusable events ticks in
    omega (arith, all, refused, made.world.2, made.room, above)
