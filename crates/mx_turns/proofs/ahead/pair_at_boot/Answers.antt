use Rattle.std.proofs.Common.{◌<◌, ◌≤◌, List, length, subst, sym}
use Rattle.mx_machine.specs.Service.{Service}
use Rattle.mx_turns.proofs.AheadLemmas.{first_before}
use Rattle.mx_turns.proofs.AlongLemmas.{first_boot, first_pair}
use Rattle.mx_turns.proofs.ahead.pair_at_boot.Goals as goal

pub new-requires : goal.new-requires
new-requires c = record {
  some = subst (λ (vs : List Service). 0 < length vs) (sym c.requires.services) c.requires.swept.some;
  few = subst (λ (vs : List Service). length vs ≤ 32) (sym c.requires.services) c.requires.swept.few;
}

pub returns : goal.returns
returns c =
    let made = c.new.ensures in
    let w = c.args.boot.now.value.kernel.boot in
    first_before _ c.args.sweep w c.args.sweep.range.from c.new.result (first_pair _ c.args.sweep.records.now c.new.result made.first made.kernel made.boot made.coming)
    (first_boot _ c.args.sweep.records.now c.new.result c.args.sweep.config.now w c.args.services.now c.requires.services c.requires.swept.booted made.world made.kernel) made.first
