use Rattle.std.proofs.Common.{◌≡◌, ◌∙◌, ◌++◌, ◌∷◌, [], refl}
use Rattle.std.proofs.lemmas.Map.Made.{is_some-lookup}
use Rattle.indexmap.proofs.CallerLemmas.{insert_entry-new}
use Rattle.mx_asm.specs.Layout.{is_same_label, label_named}
use Rattle.mx_asm.proofs.Laying.{none_of}
use Rattle.mx_asm.proofs.layout.Layout.place_label.Goals as goal

pub returns-in_ok-insert-clause-ok : goal.returns-in_ok-insert-clause-ok
returns-in_ok-insert-clause-ok c =
    let labels = c.args.self.now.labels in
    let fresh = rw c.in-Some.is at c.requires in
    let absent = none_of (label_named labels.entries c.in-Some.name) (is_some-lookup (is_same_label c.in-Some.name) labels.entries ∙ fresh) in
    let entries : c.insert.new.self.entries ≡ labels.entries ++ (c.in-Some.name, c.spot-spot.result) ∷ [] =
    c.in_ok-insert.ensures.entries ∙ insert_entry-new is_same_label labels c.in-Some.name c.spot-spot.result absent in
    rw (c.in-Some.is, entries, c.spot-spot.ensures) refl
