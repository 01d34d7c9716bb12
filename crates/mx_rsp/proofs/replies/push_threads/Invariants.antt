use Rattle.std.proofs.Common.{◌≡◌, ◌++◌, ◌∷◌, [], codes, drop}
use Rattle.mx_rsp.specs.Replies.{threads_after}
use Rattle.mx_rsp.proofs.replies.push_threads.Given as goal

-- the threads so far, and those that are left
abbrev pub invariant-loop-thread : goal.invariant-loop-thread
invariant-loop-thread l = l.out.items ++ threads_after (l.between ∷ []) (drop l.thread-index l.threads) ≡ l.fn.out.items ++ threads_after (codes "m") l.threads
