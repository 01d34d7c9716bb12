use Rattle.std.proofs.Common.{◌≡◌, ◌++◌, List, ℕ, ap, codes, slice_get}
use Rattle.std.specs.Fmt.{decimal}
use Rattle.mx_app_explore.specs.FoundText.{name_told}
use Rattle.mx_app_explore.proofs.Pieces.{joined, joined_is, last_joined}
use Rattle.mx_app_explore.proofs.found_text.push_offer.Goals as goal

pub returns-in_ok-extend_from_slice-in-Take-2 : goal.returns-in_ok-extend_from_slice-in-Take-2
returns-in_ok-extend_from_slice-in-Take-2 c =
    let o = c.args.text.now.items in
    let a0 : List ℕ = codes "processor " in
    let h0 : c.extend_from_slice.new.self.items ≡ o ++ a0 = c.in_ok-extend_from_slice-in-Take.ensures.items in
    let a1 : List ℕ = a0 ++ decimal c.in-Take.cpu in
    let h1 : c.push_decimal.new.out.items ≡ o ++ a1 = joined_is o a0 (decimal c.from.result) (decimal c.in-Take.cpu) h0 (ap decimal c.from.ensures) c.in_ok-push_decimal-in-Take.ensures in
    let a2 : List ℕ = a1 ++ codes " waits with take " in
    let h2 : c.extend_from_slice-in-Take.new.self.items ≡ o ++ a2 = joined o a1 (codes " waits with take ") h1 c.in_ok-extend_from_slice-in-Take-2.ensures.items in
    rw c.in-Take.is (last_joined c.push_slot.result o a2 (name_told (slice_get c.args.services.now c.in-Take.slot)) c.extend_from_slice-in-Take.new.self.items c.push_slot.new.text.items h2 c.push_slot.ensures)

pub returns-in_ok-extend_from_slice-in-Back-2 : goal.returns-in_ok-extend_from_slice-in-Back-2
returns-in_ok-extend_from_slice-in-Back-2 c =
    let o = c.args.text.now.items in
    let a0 : List ℕ = codes "processor " in
    let h0 : c.extend_from_slice-in-Back.new.self.items ≡ o ++ a0 = c.in_ok-extend_from_slice-in-Back.ensures.items in
    let a1 : List ℕ = a0 ++ decimal c.in-Back.cpu in
    let h1 : c.push_decimal-in-Back.new.out.items ≡ o ++ a1 = joined_is o a0 (decimal c.from-in-Back.result) (decimal c.in-Back.cpu) h0 (ap decimal c.from-in-Back.ensures) c.in_ok-push_decimal-in-Back.ensures in
    let a2 : List ℕ = a1 ++ codes " waits with back " in
    let h2 : c.extend_from_slice-in-Back-2.new.self.items ≡ o ++ a2 = joined o a1 (codes " waits with back ") h1 c.in_ok-extend_from_slice-in-Back-2.ensures.items in
    rw c.in-Back.is (last_joined c.push_slot-in-Back.result o a2 (name_told (slice_get c.args.services.now c.in-Back.slot)) c.extend_from_slice-in-Back-2.new.self.items c.push_slot-in-Back.new.text.items h2 c.push_slot-in-Back.ensures)

pub returns-in_ok-extend_from_slice-in-Respawn : goal.returns-in_ok-extend_from_slice-in-Respawn
returns-in_ok-extend_from_slice-in-Respawn c =
    let o = c.args.text.now.items in
    let a0 : List ℕ = codes "respawner waits with respawn " in
    let h0 : c.extend_from_slice-in-Respawn.new.self.items ≡ o ++ a0 = c.in_ok-extend_from_slice-in-Respawn.ensures.items in
    rw c.in-Respawn.is (last_joined c.push_slot-in-Respawn.result o a0 (name_told (slice_get c.args.services.now c.in-Respawn.slot)) c.extend_from_slice-in-Respawn.new.self.items c.push_slot-in-Respawn.new.text.items h0 c.push_slot-in-Respawn.ensures)
