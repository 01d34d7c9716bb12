use Rattle.std.proofs.Common.{◌≡◌, ◌≤◌, ◌+◌, drop}
use Rattle.mx_machine.specs.World.{out_count}
use Rattle.mx_machine.proofs.current.count_out.Given as goal

abbrev pub invariant-loop-lease : goal.invariant-loop-lease
invariant-loop-lease l = record {
  told : l.count + out_count (drop l.lease-index l.leases) ≡ out_count l.leases;
  within : l.count ≤ l.lease-index;
}
