use Rattle.mx_proc.proofs.LinkLemmas.{pushed_front, shows_same}
use Rattle.mx_proc.proofs.links.Links.push_front.Goals as goal

pub invariant_of-self : goal.invariant_of-self
invariant_of-self g c = (shows_same _ _ _ _ _ _ _ _ _ _ c.push.ensures.nexts c.push.ensures.prevs c.push.ensures.firsts c.push.ensures.lasts (pushed_front c.args.list c.args.slot c.self.invariant c.self.view_is c.requires.list c.requires.slot c.requires.absent)).sound

pub returns : goal.returns
returns g c = (shows_same _ _ _ _ _ _ _ _ _ _ c.push.ensures.nexts c.push.ensures.prevs c.push.ensures.firsts c.push.ensures.lasts (pushed_front c.args.list c.args.slot c.self.invariant c.self.view_is c.requires.list c.requires.slot c.requires.absent)).are
