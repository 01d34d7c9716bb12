use Rattle.std.proofs.Common.{◌∙◌, Option, subst, sym}
use Rattle.mx_walk.specs.declared.positions.Position.{Position}
use Rattle.mx_walk.specs.Positions.{IsPosition, IsUpTo}
use Rattle.mx_walk.proofs.Along.{up_trans}
use Rattle.mx_walk.proofs.Next.{above_trans}
use Rattle.mx_app_gdb.specs.declared.halts.Halted.{Halted}
use Rattle.mx_app_gdb.specs.Moves.{IsComeFrom, IsMadeNext, IsSteppedFrom, LeadsOn}
use Rattle.mx_app_gdb.proofs.HaltedOn.{none_is}
use Rattle.mx_app_gdb.proofs.SteppedOn.{within_come, within_made, within_range, within_step}
use Rattle.mx_app_gdb.proofs.stepping.step_within.Goals as goal

pub returns-then-is_some-clause-stepped : goal.returns-then-is_some-clause-stepped
returns-then-is_some-clause-stepped g c =
    let k = c.args.walker in
    let h = c.args.halts.now in
    let s = c.args.slot in
    let r = c.args.range in
    let start = subst (λ (p : Position). IsPosition k.records p) c.here.ensures.here c.here.ensures.position in
    let early = subst (λ (p : Position). IsUpTo p k.last) c.here.ensures.here c.here.ensures.early in
    let j = c.in_ok-walker.walker in
    within_made k h s r c.requires.there start early j.here c.in_ok-walker.halted c.in_ok-walker.ensures.made (sym c.is_some.ensures ∙ c.if-is_some.true)

pub returns-then-is_some-2-clause-stepped : goal.returns-then-is_some-2-clause-stepped
returns-then-is_some-2-clause-stepped g c =
    let k = c.args.walker in
    let h = c.args.halts.now in
    let s = c.args.slot in
    let r = c.args.range in
    let start = subst (λ (p : Position). IsPosition k.records p) c.here.ensures.here c.here.ensures.position in
    let early = subst (λ (p : Position). IsUpTo p k.last) c.here.ensures.here c.here.ensures.early in
    let j = c.in_ok-walker.walker in
    let none = none_is c.in_ok-walker.halted (sym c.is_some.ensures ∙ c.if-is_some.false) in
    let made = subst (λ (o : Option Halted). IsMadeNext k h (j.here, o)) none c.in_ok-walker.ensures.made in
    let i = c.in_ok-walker-2.walker in
    within_range k h s r c.requires.there start early j c.in_ok-walker.ensures.same made i.here c.in_ok-walker-2.halted c.in_ok-walker-2.ensures.left (sym c.is_some-2.ensures ∙ c.if-is_some-2.true)

pub returns-then-is_some-3-clause-stepped : goal.returns-then-is_some-3-clause-stepped
returns-then-is_some-3-clause-stepped g c =
    let k = c.args.walker in
    let h = c.args.halts.now in
    let s = c.args.slot in
    let r = c.args.range in
    let start = subst (λ (p : Position). IsPosition k.records p) c.here.ensures.here c.here.ensures.position in
    let early = subst (λ (p : Position). IsUpTo p k.last) c.here.ensures.here c.here.ensures.early in
    let j = c.in_ok-walker.walker in
    let none = none_is c.in_ok-walker.halted (sym c.is_some.ensures ∙ c.if-is_some.false) in
    let made = subst (λ (o : Option Halted). IsMadeNext k h (j.here, o)) none c.in_ok-walker.ensures.made in
    let i = c.in_ok-walker-2.walker in
    let none-2 = none_is c.in_ok-walker-2.halted (sym c.is_some-2.ensures ∙ c.if-is_some-2.false) in
    let led = subst (λ (o : Option Halted). LeadsOn (IsSteppedFrom j h s r) j.here i.here o) none-2 c.in_ok-walker-2.ensures.left in
    let u = c.in_ok-walker-3.walker in
    within_come k h s r c.requires.there start early j c.in_ok-walker.ensures.same made i c.in_ok-walker-2.ensures.same led u.here c.in_ok-walker-3.halted c.in_ok-walker-3.ensures.come (sym c.is_some-3.ensures ∙ c.if-is_some-3.true)

pub returns-clause-stepped : goal.returns-clause-stepped
returns-clause-stepped g c =
    let k = c.args.walker in
    let h = c.args.halts.now in
    let s = c.args.slot in
    let r = c.args.range in
    let start = subst (λ (p : Position). IsPosition k.records p) c.here.ensures.here c.here.ensures.position in
    let early = subst (λ (p : Position). IsUpTo p k.last) c.here.ensures.here c.here.ensures.early in
    let j = c.in_ok-walker.walker in
    let none = none_is c.in_ok-walker.halted (sym c.is_some.ensures ∙ c.if-is_some.false) in
    let made = subst (λ (o : Option Halted). IsMadeNext k h (j.here, o)) none c.in_ok-walker.ensures.made in
    let i = c.in_ok-walker-2.walker in
    let none-2 = none_is c.in_ok-walker-2.halted (sym c.is_some-2.ensures ∙ c.if-is_some-2.false) in
    let led = subst (λ (o : Option Halted). LeadsOn (IsSteppedFrom j h s r) j.here i.here o) none-2 c.in_ok-walker-2.ensures.left in
    let u = c.in_ok-walker-3.walker in
    let none-3 = none_is c.in_ok-walker-3.halted (sym c.is_some-3.ensures ∙ c.if-is_some-3.false) in
    let come = subst (λ (o : Option Halted). IsComeFrom i h s i.here (u.here, o)) none-3 c.in_ok-walker-3.ensures.come in
    within_step k h s r c.requires.there start early j c.in_ok-walker.ensures.same made i c.in_ok-walker-2.ensures.same led u c.why_over-why.result c.in_ok-walker-3.ensures.same come c.why_over-why.ensures

pub returns-clause-later : goal.returns-clause-later
returns-clause-later g c =
    let k = c.args.walker in
    let h = c.args.halts.now in
    let s = c.args.slot in
    let r = c.args.range in
    let start = subst (λ (p : Position). IsPosition k.records p) c.here.ensures.here c.here.ensures.position in
    let early = subst (λ (p : Position). IsUpTo p k.last) c.here.ensures.here c.here.ensures.early in
    let j = c.in_ok-walker.walker in
    let none = none_is c.in_ok-walker.halted (sym c.is_some.ensures ∙ c.if-is_some.false) in
    let made = subst (λ (o : Option Halted). IsMadeNext k h (j.here, o)) none c.in_ok-walker.ensures.made in
    let i = c.in_ok-walker-2.walker in
    let none-2 = none_is c.in_ok-walker-2.halted (sym c.is_some-2.ensures ∙ c.if-is_some-2.false) in
    let led = subst (λ (o : Option Halted). LeadsOn (IsSteppedFrom j h s r) j.here i.here o) none-2 c.in_ok-walker-2.ensures.left in
    let u = c.in_ok-walker-3.walker in
    let none-3 = none_is c.in_ok-walker-3.halted (sym c.is_some-3.ensures ∙ c.if-is_some-3.false) in
    λ e. above_trans k.here j.here u.here (c.in_ok-walker.ensures.on none) (up_trans j.here i.here u.here (c.in_ok-walker-2.ensures.on none-2) (c.in_ok-walker-3.ensures.on none-3))

pub returns-clause-there : goal.returns-clause-there
returns-clause-there g c =
    let u = c.in_ok-walker-3.walker in
    let none-3 = none_is c.in_ok-walker-3.halted (sym c.is_some-3.ensures ∙ c.if-is_some-3.false) in
    λ e. c.in_ok-walker-3.ensures.there none-3
