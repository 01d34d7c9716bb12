use Rattle.std.proofs.Common.{◌∙◌, ap, sym}
use Rattle.mx_proc.specs.Waits.{next_of}
use Rattle.mx_proc.proofs.CallerLemmas.{next_beyond, next_missing, next_given}
use Rattle.mx_proc.proofs.waits.Waits.next.Goals as goal

pub returns-then-from-ge32 : goal.returns-then-from-ge32
returns-then-from-ge32 c = sym (next_beyond c.args.from c.self.invariant c.if-from-ge32.true) ∙ ap (next_of c.args.from) c.self.view_is

pub returns-then-to : goal.returns-then-to
returns-then-to c = sym (next_missing c.args.from c.self.invariant c.if-from-ge32.false c.if-to.true) ∙ ap (next_of c.args.from) c.self.view_is

pub returns-else-to : goal.returns-else-to
returns-else-to c = sym (next_given c.args.from c.self.invariant c.if-from-ge32.false c.if-to.false) ∙ ap (next_of c.args.from) c.self.view_is
