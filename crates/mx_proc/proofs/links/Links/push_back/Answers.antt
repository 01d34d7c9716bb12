use Rattle.std.proofs.Common.{rules}
use Rattle.mx_proc.proofs.LinkLemmas.{first_low, mirrored, pushed_back, shows_same}
use Rattle.mx_proc.proofs.links.Links.push_back.Goals as goal

pub push-requires : goal.push-requires
push-requires g c = (search rules, (c.requires.list, (c.requires.slot, first_low c.args.list (mirrored c.self.invariant) c.requires.list)))

pub invariant_of-self : goal.invariant_of-self
invariant_of-self g c = (shows_same _ _ _ _ _ _ _ _ _ _ c.push.ensures.prevs c.push.ensures.nexts c.push.ensures.lasts c.push.ensures.firsts (pushed_back c.args.list c.args.slot c.self.invariant c.self.view_is c.requires.list c.requires.slot c.requires.absent)).sound

pub returns : goal.returns
returns g c = (shows_same _ _ _ _ _ _ _ _ _ _ c.push.ensures.prevs c.push.ensures.nexts c.push.ensures.lasts c.push.ensures.firsts (pushed_back c.args.list c.args.slot c.self.invariant c.self.view_is c.requires.list c.requires.slot c.requires.absent)).are
