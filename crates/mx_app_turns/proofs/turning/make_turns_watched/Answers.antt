use Rattle.std.proofs.Common.{◌≡◌, ◌∙◌, ◌+◌, ◌-◌, ◌≤◌, ◌++◌, List, drop, refl, ap, arith, subst, sym}
use Rattle.mx_machine.specs.Machine.{world_of}
use Rattle.mx_turns.specs.declared.outside.OutsideLine.{OutsideLine}
use Rattle.mx_turns.specs.Made.{HasMade, outside_events}
use Rattle.mx_turns.specs.Shown.{turns_shown}
use Rattle.mx_turns.specs.Turns.{turns}
use Rattle.mx_turns.proofs.ShownLemmas.{none_shown}
use Rattle.mx_turns.proofs.TurnLemmas.{other_stays, stands_first}
use Rattle.mx_app_turns.proofs.PieceLemmas.{all_made, made_last, made_over, shown_last, shown_over, shown_so, stands_more, stopped_at}
use Rattle.mx_app_turns.proofs.turning.make_turns_watched.Goals as goal

pub loop-made-init : goal.loop-made-init
loop-made-init g c =
    let coming = outside_events c.args.outside in
    record {
      within = omega arith;
      stands = stands_first c.args.machine.now coming;
      other = c.requires;
      shown = none_shown c.args.log (world_of c.args.machine.now) coming (g.P.Progress.shown c.args.progress.now);
    }

pub loop-made-preserved : goal.loop-made-preserved
loop-made-preserved g c =
    let m = c.args.machine.now in
    let coming = outside_events c.args.outside in
    let made = c.loop-made.made in
    let n = c.loop-made.machine in
    let p = c.make_turns-ending.new.machine in
    let inv = c.loop-made.invariant in
    let next = c.make_turns-ending.ensures in
    let left = c.after.ensures in
    let v = world_of n in
    let before = g.P.Progress.shown c.args.progress.now in
    let now = g.P.Progress.shown c.loop-made.progress in
    let then = g.P.Progress.shown c.make_turns-ending.new.progress in
    let h : HasMade n (turns 16 v (drop made coming)).made p = subst (λ (l : List OutsideLine). HasMade n (turns 16 v l).made p) left next.made in
    let is : c.make_turns-ending.result ≡ (turns 16 v (drop made coming)).ending = next.ending ∙ ap (λ (l : List OutsideLine). (turns 16 v l).ending) left in
    let shown : then ≡ now ++ turns_shown c.args.log 16 v (drop made coming) = next.shown ∙ ap (λ (l : List OutsideLine). now ++ turns_shown c.args.log 16 v l) left in
    record {
      within = omega (arith, c.loop-made-test.true);
      stands = stands_more m coming made n inv.stands 16 p h (sym is ∙ c.in-Turns.is);
      other = other_stays n p (turns 16 v (drop made coming)).made h inv.other;
      shown = shown_so m coming made n inv.stands c.args.log before now then inv.shown 16 shown;
    }

pub returns-in_default : goal.returns-in_default
returns-in_default g c =
    let m = c.args.machine.now in
    let coming = outside_events c.args.outside in
    let bound = c.args.bound in
    let made = c.loop-made.made in
    let n = c.loop-made.machine in
    let p = c.make_turns-ending.new.machine in
    let how = c.make_turns-ending.result in
    let inv = c.loop-made.invariant in
    let next = c.make_turns-ending.ensures in
    let left = c.after.ensures in
    let v = world_of n in
    let before = g.P.Progress.shown c.args.progress.now in
    let now = g.P.Progress.shown c.loop-made.progress in
    let then = g.P.Progress.shown c.make_turns-ending.new.progress in
    let h : HasMade n (turns 16 v (drop made coming)).made p = subst (λ (l : List OutsideLine). HasMade n (turns 16 v l).made p) left next.made in
    let is : how ≡ (turns 16 v (drop made coming)).ending = next.ending ∙ ap (λ (l : List OutsideLine). (turns 16 v l).ending) left in
    let shown : then ≡ now ++ turns_shown c.args.log 16 v (drop made coming) = next.shown ∙ ap (λ (l : List OutsideLine). now ++ turns_shown c.args.log 16 v l) left in
    let few : made + 16 ≤ bound = omega (arith, c.loop-made-test.true) in
    let over = made_over m coming made n inv.stands bound 16 p how few c.in_default.not-Turns h is in (
      bound,
      all_made (g.S.StopSign.can_stop c.args.sign.now) bound _ refl,
      over.made,
      over.ending,
      shown_over m coming made n inv.stands c.args.log before now then bound 16 how inv.shown few c.in_default.not-Turns is shown,
    )

pub returns-then-is_up : goal.returns-then-is_up
returns-then-is_up g c =
    let m = c.args.machine.now in
    let coming = outside_events c.args.outside in
    let made = c.loop-made.made in
    let n = c.loop-made.machine in
    let p = c.make_turns-ending.new.machine in
    let how = c.make_turns-ending.result in
    let inv = c.loop-made.invariant in
    let next = c.make_turns-ending.ensures in
    let left = c.after.ensures in
    let v = world_of n in
    let before = g.P.Progress.shown c.args.progress.now in
    let now = g.P.Progress.shown c.loop-made.progress in
    let then = g.P.Progress.shown c.make_turns-ending.new.progress in
    let h : HasMade n (turns 16 v (drop made coming)).made p = subst (λ (l : List OutsideLine). HasMade n (turns 16 v l).made p) left next.made in
    let is : how ≡ (turns 16 v (drop made coming)).ending = next.ending ∙ ap (λ (l : List OutsideLine). (turns 16 v l).ending) left in
    let shown : then ≡ now ++ turns_shown c.args.log 16 v (drop made coming) = next.shown ∙ ap (λ (l : List OutsideLine). now ++ turns_shown c.args.log 16 v l) left in
    let few : made + 16 ≤ c.args.bound = omega (arith, c.loop-made-test.true) in
    let last = made_last m coming made n inv.stands (made + 16) 16 p how refl h is in (
      made + 16,
      stopped_at (g.S.StopSign.can_stop c.args.sign.now) c.args.bound (made + 16) _ few refl (c.is_up.ensures c.if-is_up.true),
      last.made,
      last.ending,
      shown_so m coming made n inv.stands c.args.log before now then inv.shown 16 shown,
    )

pub returns : goal.returns
returns g c =
    let m = c.args.machine.now in
    let coming = outside_events c.args.outside in
    let bound = c.args.bound in
    let made = c.loop-made.made in
    let k = bound - made in
    let n = c.loop-made.machine in
    let p = c.make_turns.new.machine in
    let how = c.make_turns.result in
    let inv = c.loop-made.invariant in
    let next = c.make_turns.ensures in
    let left = c.after-2.ensures in
    let v = world_of n in
    let before = g.P.Progress.shown c.args.progress.now in
    let now = g.P.Progress.shown c.loop-made.progress in
    let then = g.P.Progress.shown c.make_turns.new.progress in
    let h : HasMade n (turns (bound - made) v (drop made coming)).made p = subst (λ (l : List OutsideLine). HasMade n (turns (bound - made) v l).made p) left next.made in
    let is : how ≡ (turns (bound - made) v (drop made coming)).ending = next.ending ∙ ap (λ (l : List OutsideLine). (turns (bound - made) v l).ending) left in
    let shown : then ≡ now ++ turns_shown c.args.log (bound - made) v (drop made coming) = next.shown ∙ ap (λ (l : List OutsideLine). now ++ turns_shown c.args.log (bound - made) v l) left in
    let all : made + (bound - made) ≡ bound = omega (arith, inv.within) in
    let last = made_last m coming made n inv.stands bound k p how all h is in (
      bound,
      all_made (g.S.StopSign.can_stop c.args.sign.now) bound _ refl,
      last.made,
      last.ending,
      shown_last m coming made n inv.stands c.args.log before now then inv.shown bound k all shown,
    )
