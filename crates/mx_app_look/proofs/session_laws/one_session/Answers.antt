use Rattle.std.proofs.Common.{◌≡◌, ◌∙◌, ◌++◌, List, ap, subst, sym}
use Rattle.mx_machine.specs.declared.history.Record.{Record}
use Rattle.mx_walk.proofs.Naming.{last_is_unique}
use Rattle.mx_walk.specs.Positions.{IsPosition}
use Rattle.mx_walk.specs.Walks.{Walk}
use Rattle.mx_app_look.specs.Places.{place_text}
use Rattle.mx_app_look.specs.Sessions.{begun_text, sight_at}
use Rattle.mx_app_look.proofs.Alike.{Texts, bare_texts, same_texts, texts_of}
use Rattle.mx_app_look.proofs.Traced.{same_walk, unmarked}
use Rattle.mx_app_look.proofs.session_laws.one_session.Goals as goal

pub returns : goal.returns
unfolding place_text
returns c boot records j k asks typed s t ps qs h g a b =
    let same : unmarked j ≡ unmarked k = same_walk j k (h.boot ∙ sym g.boot) (h.records ∙ sym g.records) (h.here ∙ sym g.here) (last_is_unique boot records j.last k.last h.last g.last) in
    let known = subst (λ (xs : List Record). IsPosition xs k.last) (sym g.records) g.last.position in
    let one = subst (λ (w : Walk). Texts asks (sight_at w) typed s) same (bare_texts asks (sight_at j) typed s (texts_of asks (sight_at j) typed s ps a)) in
    let other = bare_texts asks (sight_at k) typed t (texts_of asks (sight_at k) typed t qs b) in
    ap (λ (w : Walk). begun_text asks w ++ s) same
    ∙ ap (λ x. begun_text asks k ++ x) (same_texts asks (sight_at (unmarked k)) typed s t known one other)
