-- The notes of records and the calls that they refuse, one record more.
use Rattle.std.proofs.Common.{Option, ◌≡◌, ◌∙◌, ◌<◌, ◌≤◌, ℕ, Bool, ◌+◌, List, [], ◌∷◌, ◌++◌, length, take, get_or, append_assoc, Some, None, ap, sym, subst, arith}
use Rattle.std.proofs.lemmas.List.{append-nil, take_more, take_all, length-take-le}
use Rattle.mx_machine.specs.declared.history.Record.{Record}
use Rattle.mx_machine.specs.History.{AreAccepted, world_after_events, events_of, events_of_history}
use Rattle.mx_machine.specs.World.{World}
use Rattle.mx_look.specs.declared.transition.Transition.{Transition}
use Rattle.mx_app_step.proofs.RecordLemmas.{after_both}
use Rattle.mx_app_step.specs.Traces.{transition_of}
use Rattle.mx_app_start.specs.Config.{Config}
use Rattle.mx_app_start.specs.Service.{Service}
use Rattle.mx_machine.specs.declared.events.Refusal.{Refusal}
use Rattle.mx_machine.specs.Boot.{world_at_boot}
use Rattle.mx_why.specs.Seeing.{end_of}
use Rattle.mx_why.specs.Telling.{IsNoted, IsWhyPrinted, told_marked, told_text}
use Rattle.mx_turns.specs.declared.outside.OutsideLine.{OutsideLine}
use Rattle.mx_why.specs.declared.failed_calls.FailedCall.{FailedCall}
use Rattle.mx_why.specs.declared.notes.Note.{Note}
use Rattle.mx_why.specs.declared.telling.Told.{Told}
use Rattle.mx_why.specs.declared.telling.Told.TheVariants.{Whole, Refused}
use Rattle.mx_why.specs.FailedCalls.{counted_in, failed_calls, failed_from, next_calls}
use Rattle.mx_why.specs.Noting.{notes_from, notes_of, notes_of_records}
use Rattle.mx_why.specs.Readings.{followed}
use Rattle.mx_why.specs.RefusedRecords.{refused_record_text}

notes_more : (w : World) (n k : ℕ) (xs : List Record) (x : Record) → k ≡ n + length xs
    → notes_from w n (xs ++ x ∷ []) ≡ notes_from w n xs ++ notes_of (transition_of (world_after_events w (events_of_history xs)) k x)
notes_more w n k [] x e =
    let here : n ≡ k = omega (arith, e) in
    append-nil (notes_of (transition_of w n x)) ∙ ap (λ (m : ℕ). notes_of (transition_of w m x)) here
notes_more w n k (y ∷ ys) x e =
    let u = world_after_events w (events_of y.actor y.event) in
    let next : k ≡ n + 1 + length ys = omega (arith, e) in
    ap (λ (t : List Note). notes_of (transition_of w n y) ++ t) (notes_more u (n + 1) k ys x next)
    ∙ sym (append_assoc (notes_of (transition_of w n y)) (notes_from u (n + 1) ys) (notes_of (transition_of (world_after_events u (events_of_history ys)) k x)))
    ∙ ap (λ (v : World). (notes_of (transition_of w n y) ++ notes_from u (n + 1) ys) ++ notes_of (transition_of v k x)) (sym (after_both w (events_of y.actor y.event) (events_of_history ys)))

pub next_noted : (w v : World) (records : List Record) (i n : ℕ) (d : Record) (x : Transition) (before after : List Note) → i < length records
    → n ≡ i + 1 → v ≡ world_after_events w (events_of_history (take i records)) → x ≡ transition_of v n (get_or records i d)
    → before ≡ notes_of_records w (take i records) → after ≡ before ++ notes_of x
    → after ≡ notes_of_records w (take (i + 1) records)
next_noted w v records i n d x before after within e world is so_far more =
    let at : n ≡ 1 + length (take i records) = omega (arith, e, length-take-le i records (omega arith)) in
    more ∙ ap (λ (t : List Note). t ++ notes_of x) so_far
    ∙ ap (λ (s : Transition). notes_of_records w (take i records) ++ notes_of s) (is ∙ ap (λ (y : World). transition_of y n (get_or records i d)) world)
    ∙ sym (ap (λ (rs : List Record). notes_from w 1 rs) (take_more records i d within) ∙ notes_more w 1 n (take i records) (get_or records i d) at)

failed_more : (w : World) (n k : ℕ) (cs : List FailedCall) (xs : List Record) (x : Record) → k ≡ n + length xs
    → failed_from w n cs (xs ++ x ∷ [])
    ≡ (let v = world_after_events w (events_of_history xs) in next_calls v k x (failed_from w n cs xs))
failed_more w n k cs [] x e =
    let here : n ≡ k = omega (arith, e) in
    ap (λ (m : ℕ). next_calls w m x cs) here
failed_more w n k cs (y ∷ ys) x e =
    let u = world_after_events w (events_of y.actor y.event) in
    let next : k ≡ n + 1 + length ys = omega (arith, e) in
    let ds = next_calls w n y cs in
    failed_more u (n + 1) k ds ys x next
    ∙ ap (λ (v : World). next_calls v k x (failed_from u (n + 1) ds ys))
    (sym (after_both w (events_of y.actor y.event) (events_of_history ys)))

pub next_failed : (w v u : World) (records : List Record) (i n : ℕ) (d : Record) (x : Transition) (before looked after : List FailedCall) → i < length records
    → n ≡ i + 1 → v ≡ world_after_events w (events_of_history (take i records))
    → u ≡ world_after_events v (events_of (get_or records i d).actor (get_or records i d).event) → x ≡ transition_of v n (get_or records i d)
    → before ≡ failed_calls w (take i records) → looked ≡ followed v (get_or records i d).actor (get_or records i d).event before → after ≡ counted_in u x looked
    → after ≡ failed_calls w (take (i + 1) records)
next_failed w v u records i n d x before looked after within e world made is so_far on more =
    let y = get_or records i d in
    let cs = failed_calls w (take i records) in
    let at : n ≡ 1 + length (take i records) = omega (arith, e, length-take-le i records (omega arith)) in
    more ∙ ap (λ (t : List FailedCall). counted_in u x t) (on ∙ ap (λ (t : List FailedCall). followed v y.actor y.event t) so_far)
    ∙ ap (λ (z : Transition). counted_in u z (followed v y.actor y.event cs)) is
    ∙ ap (λ (z : World). counted_in z (transition_of v n y) (followed v y.actor y.event cs)) made
    ∙ ap (λ (z : World). next_calls z n y cs) world
    ∙ sym (ap (λ (rs : List Record). failed_from w 1 [] rs) (take_more records i d within) ∙ failed_more w 1 n [] (take i records) y at)

pub all_noted : (w u : World) (records : List Record) (i : ℕ) (ns : List Note) (cs : List FailedCall) → length records ≤ i
    → AreAccepted w (events_of_history (take i records)) → u ≡ world_after_events w (events_of_history (take i records)) → ns ≡ notes_of_records w (take i records)
    → cs ≡ failed_calls w (take i records)
    → AreAccepted w (events_of_history records) × (u ≡ world_after_events w (events_of_history records)) × (ns ≡ notes_of_records w records) × (cs ≡ failed_calls w records)
all_noted w u records i ns cs over accepted world noted failed =
    let all : take i records ≡ records = take_all i records over in (
      subst (λ (rs : List Record). AreAccepted w (events_of_history rs)) all accepted,
      world ∙ ap (λ (rs : List Record). world_after_events w (events_of_history rs)) all,
      noted ∙ ap (λ (rs : List Record). notes_of_records w rs) all,
      failed ∙ ap (λ (rs : List Record). failed_calls w rs) all,
    )

pub why_printed : (Prints : List ℕ → Type 0) (c d : Config) (vs : List Service) (records slice : List Record) (w : World) (said lines : List (Option OutsideLine)) (how : Told)
    → slice ≡ take 4294967295 records → w ≡ world_at_boot c vs → d ≡ c → lines ≡ said → IsWhyPrinted w slice d lines how Prints
    → IsWhyPrinted (world_at_boot c vs) (take 4294967295 records) c said how Prints
why_printed Prints c d vs records slice w said lines how same e is alike h =
    subst (λ (ls : List (Option OutsideLine)). IsWhyPrinted (world_at_boot c vs) (take 4294967295 records) c ls how Prints) alike
    (subst (λ (b : Config). IsWhyPrinted (world_at_boot c vs) (take 4294967295 records) b lines how Prints) is
    (subst (λ (v : World). IsWhyPrinted v (take 4294967295 records) d lines how Prints) e (subst (λ (rs : List Record). IsWhyPrinted w rs d lines how Prints) same h)))

pub lines_printed : (Prints : List ℕ → Type 0) (c : Config) (w u : World) (records : List Record) (ns slice : List Note) (cs calls : List FailedCall) (said : List (Option OutsideLine)) (marked : Bool)
    → slice ≡ ns → calls ≡ cs
    → IsNoted w u records None ns cs → marked ≡ told_marked c (end_of u) slice calls records said → Prints (told_text c (end_of u) slice calls records said)
    → IsWhyPrinted w records c said (Whole marked) Prints
lines_printed Prints c w u records ns slice cs calls said marked same alike (accepted, world, noted, failed) mark h = (
  accepted,
  mark ∙ ap (λ (ms : List Note). told_marked c (end_of u) ms calls records said) (same ∙ noted)
      ∙ ap (λ (ds : List FailedCall). told_marked c (end_of u) (notes_of_records w records) ds records said) (alike ∙ failed)
      ∙ ap (λ (v : World). told_marked c (end_of v) (notes_of_records w records) (failed_calls w records) records said) world,
  subst (λ (v : World). Prints (told_text c (end_of v) (notes_of_records w records) (failed_calls w records) records said)) world
      (subst (λ (ds : List FailedCall). Prints (told_text c (end_of u) (notes_of_records w records) ds records said)) (alike ∙ failed)
      (subst (λ (ms : List Note). Prints (told_text c (end_of u) ms calls records said)) (same ∙ noted) h)),
)

pub refusal_printed : (Prints : List ℕ → Type 0) (c : Config) (w u : World) (records : List Record) (ns : List Note) (cs : List FailedCall) (said : List (Option OutsideLine)) (n : ℕ) (r : Refusal)
    → IsNoted w u records (Some (n, r)) ns cs → Prints (refused_record_text records n r) → IsWhyPrinted w records c said Refused Prints
refusal_printed Prints c w u records ns cs said n r refused h = (n, r, refused, h)
