use Rattle.std.proofs.Common.{◌≡◌, ◌-◌, ◌++◌, filter, map}
use Rattle.std.specs.List.{range_with_len}
use Rattle.mx_app_gdb.specs.Threads.{is_seen, thread_of}
use Rattle.mx_app_gdb.proofs.here.threads_seen.Given as goal

-- those so far, and those of the slots that are left
abbrev pub invariant-loop-slot : goal.invariant-loop-slot
invariant-loop-slot l =
    l.names.items ++ map (thread_of l.threads) (filter (is_seen l.threads) (range_with_len l.slot (l.threads.count - l.slot)))
    ≡ map (thread_of l.threads) (filter (is_seen l.threads) (range_with_len 0 l.threads.count))
