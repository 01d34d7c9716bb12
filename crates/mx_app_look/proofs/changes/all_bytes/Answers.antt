use Rattle.std.proofs.Common.{◌∙◌, ℕ, List, ap, get_or, map}
use Rattle.std.proofs.lemmas.List.{take_all}
use Rattle.mx_machine.specs.Machine.{world_of}
use Rattle.mx_app_look.specs.Changes.{as_seen, seen_in}
use Rattle.mx_app_look.specs.declared.watches.Watch.{Watch}
use Rattle.mx_app_look.proofs.Lists.{mapped_more}
use Rattle.mx_app_look.proofs.changes.all_bytes.Goals as goal

abbrev no_watch : Watch
no_watch = record { slot = 0; address = 0; count = 0 }

pub loop-watch-preserved : goal.loop-watch-preserved
loop-watch-preserved c =
    let i = c.loop-watch.watch-index in
    let x = get_or c.args.watches.now i no_watch in
    mapped_more as_seen (seen_in (world_of c.args.machine.now)) c.args.watches.now i no_watch c.loop-watch.seen.items c.push.new.self.items (record { watch = x; bytes = c.in_ok-bytes.bytes })
    c.loop-watch-test.true c.in_ok-push.ensures.items (ap (λ (bs : List ℕ). (x, bs)) c.in_ok-bytes.ensures) c.loop-watch.invariant

pub returns : goal.returns
returns c = c.loop-watch.invariant ∙ ap (map (seen_in (world_of c.args.machine.now))) (take_all c.loop-watch.watch-index c.args.watches.now c.loop-watch-test.false)
