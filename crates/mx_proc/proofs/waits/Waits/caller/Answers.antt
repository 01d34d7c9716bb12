use Rattle.std.proofs.Common.{◌∙◌, ap, sym}
use Rattle.mx_proc.specs.declared.process.Partner.{Partner}
use Rattle.mx_proc.specs.Waits.{caller_of}
use Rattle.mx_proc.proofs.CallerLemmas.{caller_system}
use Rattle.mx_proc.proofs.waits.Waits.caller.Goals as goal

pub returns-in-System : goal.returns-in-System
returns-in-System c = sym (ap (λ (p : Partner). caller_of c.args.to p c.args.self.now) c.in-System.is ∙ caller_system c.args.to c.args.self.now)
