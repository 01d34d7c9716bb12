use Rattle.std.proofs.Common.{◌∙◌, ap}
use Rattle.mx_proc.specs.declared.process.Partner.TheVariants.{Any}
use Rattle.mx_proc.specs.Waits.{caller_of}
use Rattle.mx_proc.proofs.CallerLemmas.{first_calls, none_call}
use Rattle.mx_proc.proofs.waits.Waits.first_caller.Goals as goal

pub returns-then-to-lt32 : goal.returns-then-to-lt32
returns-then-to-lt32 c = c.first.ensures ∙ first_calls c.args.to c.self.invariant c.if-to-lt32.true ∙ ap (caller_of c.args.to Any) c.self.view_is

pub returns-else-to-lt32 : goal.returns-else-to-lt32
returns-else-to-lt32 c = none_call c.args.to c.self.invariant c.if-to-lt32.false ∙ ap (caller_of c.args.to Any) c.self.view_is
