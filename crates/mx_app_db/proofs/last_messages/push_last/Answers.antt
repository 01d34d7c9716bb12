use Rattle.std.proofs.Common.{◌∙◌, ◌++◌, ◌-◌, ap, sym, arith, drop}
use Rattle.std.specs.Prelude.{string_bytes}
use Rattle.std.specs.List.{flat_map}
use Rattle.mx_machine.specs.History.{replay}
use Rattle.mx_app_db.specs.LastMessages.{kept_line, recorded}
use Rattle.mx_app_db.proofs.LastOnes.{never_past, next_left, none_left}
use Rattle.mx_app_db.proofs.last_messages.push_last.Goals as goal

pub loop-index-init : goal.loop-index-init
loop-index-init c =
    let all = (replay c.args.kernel.now).table.deliveries in
    ap (λ k. string_bytes c.args.out.now ++ flat_map (kept_line c.args.glance.now) (drop k (recorded all)))
    (c.saturating_sub-first.ensures ∙ ap (λ k. k - c.args.most) c.delivery_count-count.ensures.count)

pub loop-index-preserved : goal.loop-index-preserved
loop-index-preserved c =
    let all = (replay c.args.kernel.now).table.deliveries in
    next_left (kept_line c.args.glance.now) 1024 all c.loop-index.index c.in-Some.delivery _ (string_bytes c.loop-index.out) (string_bytes c.push_kept_line.new.out) (sym c.message.ensures ∙ c.in-Some.is)
    (omega (arith, c.loop-index-test.true, c.delivery_count-count.ensures.few)) c.loop-index.invariant c.in_ok-push_kept_line-in-Some.ensures

pub unreachable-requires : goal.unreachable-requires
unreachable-requires c =
    never_past 1024 c.loop-index.index (replay c.args.kernel.now).table.deliveries (omega (arith, c.loop-index-test.true, c.delivery_count-count.ensures.count)) (sym c.message.ensures ∙ c.in-None.is)

pub returns : goal.returns
returns c =
    let all = (replay c.args.kernel.now).table.deliveries in
    none_left (kept_line c.args.glance.now) (recorded all) c.loop-index.index _ (string_bytes c.loop-index.out) (omega (arith, c.loop-index-test.false, c.delivery_count-count.ensures.count)) c.loop-index.invariant
