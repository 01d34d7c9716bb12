use Rattle.std.proofs.Common.{◌≡◌, ◌∙◌, ◌+◌, ◌-◌, Bool, false, true, ap, sym}
use Rattle.std.specs.Prelude.{◌||◌}
use Rattle.std.specs.List.{list_any, range_with_len}
use Rattle.mx_app_gdb.specs.Threads.{is_seen}
use Rattle.mx_app_gdb.proofs.Lists.{range_next, range_over}
use Rattle.mx_app_gdb.proofs.threads.Threads.has_any.Goals as goal

pub returns-then-is_seen : goal.returns-then-is_seen
returns-then-is_seen c =
    let f = is_seen c.args.self in
    let slot = c.loop-slot.slot in
    let seen : f slot ≡ true = sym c.is_seen.ensures ∙ c.if-is_seen.true in
    sym (ap (λ (q : Bool). q || list_any f (range_with_len (slot + 1) (32 - (slot + 1)))) seen)
    ∙ sym (ap (list_any f) (range_next 32 slot c.loop-slot-test.true)) ∙ c.loop-slot.invariant

pub loop-slot-preserved : goal.loop-slot-preserved
loop-slot-preserved c =
    let f = is_seen c.args.self in
    let slot = c.loop-slot.slot in
    let unseen : f slot ≡ false = sym c.is_seen.ensures ∙ c.if-is_seen.false in
    sym (ap (λ (q : Bool). q || list_any f (range_with_len (slot + 1) (32 - (slot + 1)))) unseen)
    ∙ sym (ap (list_any f) (range_next 32 slot c.loop-slot-test.true)) ∙ c.loop-slot.invariant

pub returns : goal.returns
returns c = sym (ap (list_any (is_seen c.args.self)) (range_over 32 c.loop-slot.slot c.loop-slot-test.false)) ∙ c.loop-slot.invariant
