-- The classes of figures, whose colours the style sheet has (our own).
use Rattle.std.specs.Prelude.{ℕ, List, codes}
use Rattle.mx_app_draw.specs.declared.values.BarKind.{BarKind}
use Rattle.mx_app_draw.specs.declared.values.BarKind.TheVariants as bar
use Rattle.mx_app_draw.specs.declared.values.ArrowKind.{ArrowKind}
use Rattle.mx_app_draw.specs.declared.values.ArrowKind.TheVariants as arrow
use Rattle.mx_app_draw.specs.declared.values.LabelKind.{LabelKind}
use Rattle.mx_app_draw.specs.declared.values.LabelKind.TheVariants as label
use Rattle.mx_app_draw.specs.declared.values.Anchor.{Anchor}
use Rattle.mx_app_draw.specs.declared.values.Anchor.TheVariants as anchor

abbrev pub bar_class : BarKind → List ℕ
bar_class bar.Band = codes "band"
bar_class bar.Grid = codes "grid"
bar_class bar.Out = codes "out"
bar_class bar.Doomed = codes "doomed"
bar_class bar.Ready = codes "ready"
bar_class bar.Sending = codes "sending"
bar_class bar.Awaiting = codes "awaiting"
bar_class bar.Receiving = codes "receiving"

abbrev pub arrow_class : ArrowKind → List ℕ
arrow_class arrow.Message = codes "message"
arrow_class arrow.Notification = codes "notify"
arrow_class arrow.Pending = codes "pending"
arrow_class arrow.Kill = codes "kill"
arrow_class arrow.Respawn = codes "respawn"

abbrev pub label_class : LabelKind → List ℕ
label_class label.Title = codes "title"
label_class label.Axis = codes "axis"
label_class label.Name = codes "name"
label_class label.End = codes "end"
label_class label.Cpu = codes "cpu"
label_class label.Note = codes "note"
label_class label.Call = codes "call"
label_class label.Bad = codes "bad"
label_class label.Character = codes "char"
label_class label.Byte = codes "byte"
label_class label.Refused = codes "refused"
label_class label.Key = codes "key"

abbrev pub anchor_word : Anchor → List ℕ
anchor_word anchor.Start = codes "start"
anchor_word anchor.Middle = codes "middle"
anchor_word anchor.End = codes "end"
