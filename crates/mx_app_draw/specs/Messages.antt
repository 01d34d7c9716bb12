-- Arrows at a record (our own): messages, notifications, and notifications that become pending.
use Rattle.std.specs.Prelude.{ℕ, ◌-◌, ◌==◌, ◌&&◌, not, nat_lt, if◌then◌else◌, Bool, true, false, List, [], ◌∷◌, Option, Some, None}
use Rattle.std.specs.List.{flat_map, range_with_len}
use Rattle.mx_proc.specs.declared.deliveries.Delivery.{Delivery}
use Rattle.mx_proc.specs.declared.deliveries.DeliveryKind.{DeliveryKind}
use Rattle.mx_proc.specs.declared.deliveries.DeliveryKind.TheVariants.{Message, Notification}
use Rattle.mx_proc.specs.EndpointNumbers.{slot_of}
use Rattle.mx_look.specs.declared.transition.Transition.{Transition}
use Rattle.mx_look.specs.Transition.{slot_in}
use Rattle.mx_look.specs.Slots.{both}
use Rattle.mx_look.specs.Deliveries.{delivery_to, is_new_bit}
use Rattle.mx_app_draw.specs.declared.values.Hint.TheVariants as hint
use Rattle.mx_app_draw.specs.declared.values.ArrowKind.{ArrowKind}
use Rattle.mx_app_draw.specs.declared.values.ArrowKind.TheVariants as drawn
use Rattle.mx_app_draw.specs.declared.values.LabelKind.TheVariants as written
use Rattle.mx_app_draw.specs.declared.values.Text.TheVariants as text
use Rattle.mx_app_draw.specs.declared.values.Value.{Value}
use Rattle.mx_app_draw.specs.declared.layout.Origin.{Origin}
use Rattle.mx_app_draw.specs.Layout.{row}
use Rattle.mx_app_draw.specs.Fates.{height_of, line_to, note}

-- the row of the party that an endpoint names. HARDWARE and CLOCK are no services, so theirs is outside
abbrev pub party_height : Origin → ℕ → ℕ
party_height at e = height_of at (slot_of e)

-- the row of a source by its place among the pending bits: HARDWARE and CLOCK come before slot 0
abbrev pub source_height : Origin → ℕ → ℕ
source_height at place = if nat_lt place 2 then row at.top 0 else height_of at (place - 2)

abbrev pub arrow_kind : DeliveryKind → ArrowKind
arrow_kind Message = drawn.Message
arrow_kind Notification = drawn.Notification

abbrev pub is_message : DeliveryKind → Bool
is_message Message = true
is_message Notification = false

unfoldable pub type_note : Origin → ℕ → Delivery → List Value
type_note at s d =
    if is_message d.kind
    && not (d.message_type == 0) then note written.Note at s (text.Number d.message_type) (hint.Delivery at.place s)
    ∷ []
    else []

abbrev pub delivery_by : Origin → ℕ → Option Delivery → List Value
delivery_by at s None = []
delivery_by at s (Some d) =
    line_to at (arrow_kind d.kind) (party_height at d.from) s (hint.Delivery at.place s) ∷ type_note at s d

unfoldable pub delivery_values : Transition → Origin → ℕ → List Value
delivery_values x at s = delivery_by at s (delivery_to x s)

-- ---- notifications that become pending

abbrev pub is_kept : Transition → ℕ → ℕ → Bool
is_kept x s place = both (λ v u. is_new_bit v u place) (slot_in x.before s) (slot_in x.after s)

unfoldable pub kept_arrow : Transition → Origin → ℕ → ℕ → List Value
kept_arrow x at s place =
    if is_kept x s place then line_to at drawn.Pending (source_height at place) s (hint.Kept at.place s place) ∷ []
    else []

unfoldable pub kept_values : Transition → Origin → ℕ → List Value
kept_values x at s = flat_map (kept_arrow x at s) (range_with_len 0 34)
