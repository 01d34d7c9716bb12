use Rattle.mx_asm_statement.proofs.Valuing.{after_one, after_bad, after_last}
use Rattle.mx_asm_statement.proofs.data.data_of.Goals as goal

pub loop-front-preserved : goal.loop-front-preserved
loop-front-preserved c = after_one c.args.size _ c.loop-front.found.items c.push.new.self.items _ _ c.in-Some.front.now c.in-Some-value_in.value c.loop-front.invariant c.in-Some.ensures.parts c.in-Some-value_in.ensures c.in_ok-push-in-Some-value_in.ensures.items

pub returns-in-None : goal.returns-in-None
returns-in-None c = after_bad c.args.size _ c.loop-front.found.items _ _ c.in-Some.front.now c.loop-front.invariant c.in-Some.ensures.parts c.in-None.ensures

pub returns-in-None-value_in : goal.returns-in-None-value_in
returns-in-None-value_in c = after_bad c.args.size _ c.loop-front.found.items _ _ c.loop-front.rest.now c.loop-front.invariant c.in_default.ensures.parts c.in-None-value_in.ensures

pub returns : goal.returns
returns c =
    after_last c.args.size _ c.loop-front.found.items c.push-in-Some-value_in-2.new.self.items c.from_vec.result _ c.loop-front.rest.now c.in-Some-value_in-2.value
    c.loop-front.invariant c.in_default.ensures.parts c.in-Some-value_in-2.ensures c.in_ok-push-in-Some-value_in-2.ensures.items c.from_vec.ensures
