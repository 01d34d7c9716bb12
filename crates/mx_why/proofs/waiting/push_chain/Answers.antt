use Rattle.std.proofs.Common.{◌-◌, ◌+◌, ◌++◌, suc, ◌≡◌, arith}
use Rattle.mx_why.specs.Waiting.{chain}
use Rattle.mx_why.proofs.Chains.{chain_more}
use Rattle.mx_why.proofs.waiting.push_chain.Goals as goal

pub loop-count-preserved : goal.loop-count-preserved
loop-count-preserved c =
    let one : 32 - c.loop-count.count ≡ suc (32 - (c.loop-count.count + 1)) = omega (arith, c.loop-count-test.true) in
    chain_more c.args.end.now c.loop-count.slots.items (c.args.slots.now.items ++ chain c.args.end.now c.args.slot) c.push.new.self.items (32 - (c.loop-count.count + 1)) (32 - c.loop-count.count) c.loop-count.at c.in-Some.next
    c.loop-count.invariant c.in-Some.ensures c.in_ok-push-in-Some.ensures.items one
