use Rattle.std.proofs.Common.{◌≡◌, ◌∙◌, ◌++◌, ◌+◌, append_assoc, List, Option, Some, OnOk, slice_get, ap, subst, sym}
use Rattle.mx_machine.specs.declared.events.Refusal.{Refusal}
use Rattle.mx_machine.specs.declared.history.Record.{Record}
use Rattle.mx_walk.specs.declared.positions.Position.{Position}
use Rattle.mx_walk.specs.Walks.{Walk, refusal_here}
use Rattle.mx_app_look.specs.Places.{ahead_line, record_line, rest_of_place}
use Rattle.mx_app_look.proofs.Moving.{read_is}
use Rattle.mx_app_look.proofs.places.push_rest.Goals as goal

text_is : (k : Walk) (records : List Record) (p : Position) (x : Record) (r : Option Refusal) → records ≡ k.records → p ≡ k.here → slice_get records p.records ≡ Some x → r ≡ refusal_here k
    → record_line (p.records + 1) x ++ ahead_line k r ≡ rest_of_place k (slice_get k.records k.here.records)
text_is k records p x r same here read refused =
    let there : Some x ≡ slice_get k.records k.here.records =
    sym read ∙ ap (λ (ys : List Record). slice_get ys p.records) same ∙ ap (λ (q : Position). slice_get k.records q.records) here in
    ap (λ (o : Option Refusal). record_line (p.records + 1) x ++ ahead_line k o) refused
    ∙ ap (λ (q : Position). record_line (q.records + 1) x ++ ahead_line k (refusal_here k)) here
    ∙ ap (λ (o : Option Record). rest_of_place k o) there

pub returns-in_ok-push_record_line-in-Some : goal.returns-in_ok-push_record_line-in-Some
returns-in_ok-push_record_line-in-Some c =
    let k = c.args.walker.now in
    let x = c.in-Some.entry.now in
    let p = c.here-here.result in
    let records = c.records.result.now in
    let out = c.args.out.now.items in
    let later = ahead_line k c.args.refusal in
    let read : slice_get records p.records ≡ Some x =
    read_is records p.records x c.in-Some.ensures.lookup.3.0 ∙ ap (λ (y : Record). Some y) (sym c.in-Some.ensures.lookup.1) in
    let text = text_is k records p x c.args.refusal c.records.ensures c.here-here.ensures.here read c.requires in
    subst (λ t. OnOk c.push_ahead.result (c.push_ahead.new.out.items ≡ t))
    (ap (λ t. t ++ later) c.in_ok-push_record_line-in-Some.ensures ∙ append_assoc out (record_line (p.records + 1) x) later ∙ ap (λ t. out ++ t) text) c.push_ahead.ensures
