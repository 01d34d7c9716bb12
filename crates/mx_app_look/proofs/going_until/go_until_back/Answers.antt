use Rattle.std.proofs.Common.{◌∙◌, ◌++◌, ℕ, Bool, List, ap, subst, sym}
use Rattle.mx_walk.specs.declared.progress.Part.{Part}
use Rattle.mx_app_look.specs.Happenings.{is_happening}
use Rattle.mx_app_look.specs.Shows.{IsLastShown, IsShownIf}
use Rattle.mx_app_look.specs.Until.{type_note}
use Rattle.mx_app_look.proofs.Happened.{gone_until, ungone_until}
use Rattle.mx_app_look.proofs.ShownMore.{Shows, err_always, grown_by, grown_none, unshown_if}
use Rattle.mx_app_look.proofs.going_until.go_until_back.Goals as goal

pub returns-then-not-has_slots-clause-gone : goal.returns-then-not-has_slots-clause-gone
returns-then-not-has_slots-clause-gone g c = ungone_until c.args.sight c.args.happening c.say.result (sym c.has_slots.ensures ∙ c.if-not-has_slots.true) c.say.ensures.same c.say.ensures.text

pub returns-then-not-has_slots-clause-shown : goal.returns-then-not-has_slots-clause-shown
returns-then-not-has_slots-clause-shown g c =
    unshown_if c.say.result _ (IsLastShown (is_happening c.args.happening) c.args.sight.walker) (g.P.Progress.shown c.args.progress.now) (sym c.has_slots.ensures ∙ c.if-not-has_slots.true)

pub returns-then-not-has_slots-clause-grown : goal.returns-then-not-has_slots-clause-grown
returns-then-not-has_slots-clause-grown g c = err_always c.say.result _ (grown_none _)

pub returns-in_err-push_type_note-clause-grown : goal.returns-in_err-push_type_note-clause-grown
returns-in_err-push_type_note-clause-grown g c = err_always c.from_residual.result _ (grown_none _)

pub returns-in_err-walker-clause-grown : goal.returns-in_err-walker-clause-grown
returns-in_err-walker-clause-grown g c = err_always c.from_residual-in_err-walker.result _ c.in_err-walker.ensures.grown

pub returns-clause-gone : goal.returns-clause-gone
returns-clause-gone g c =
    gone_until c.args.sight c.in_ok-walker.walker c.push_place.new.walker c.args.happening c.push_type_note.new.out.items c.go_back_until.new.out.items c.push_place.new.out.items
    (sym c.has_slots.ensures ∙ c.if-not-has_slots.false) c.in_ok-walker.ensures.walker
    (c.in_ok-push_type_note.ensures ∙ ap (λ (t : List ℕ). t ++ type_note c.args.sight.walker c.args.happening) c.new-text.ensures.items) c.in_ok-walker.ensures.halt c.push_place.ensures.same c.in_ok-push_place.ensures.text

pub returns-clause-shown : goal.returns-clause-shown
returns-clause-shown g c =
    let s = c.args.sight in
    subst (λ (b : Bool). Shows (g.P.Progress.shown c.args.progress.now) (g.P.Progress.shown c.go_back_until.new.progress) (λ (ps : List Part). IsShownIf b (IsLastShown (is_happening c.args.happening) s.walker) ps))
    (sym (sym c.has_slots.ensures ∙ c.if-not-has_slots.false)) c.in_ok-walker.ensures.shown

pub returns-in_err-push_place-clause-grown : goal.returns-in_err-push_place-clause-grown
returns-in_err-push_place-clause-grown g c = let s = c.in_ok-walker.ensures.shown in err_always c.from_residual-in_err-push_place.result _ (grown_by _ _ s.0 s.1)
