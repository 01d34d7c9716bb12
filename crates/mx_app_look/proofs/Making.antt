-- What is made of requests.
use Rattle.std.proofs.Common.{◌≡◌, ◌∙◌, ℕ, List, Result, Ok, Err, IfOk, Vec, Global, ap, subst, sym}
use Rattle.mx_walk.specs.declared.positions.Position.{Position}
use Rattle.mx_app_look.specs.declared.request.Request.{Request}
use Rattle.mx_app_look.specs.declared.sight.Sight.{Sight}
use Rattle.mx_app_look.specs.Answers.{IsMade}
use Rattle.mx_app_look.specs.Places.{place_text}
use Rattle.mx_app_look.proofs.Coming.{gone}

-- a session's sight, from elsewhere
abbrev pub seen_from : Sight → Position → Sight
seen_from s p = record s { walker = gone s.walker p }

-- what two clauses say is made of the request that this one is
pub made_as : {E : Type 0} (r : Result (Sight × Vec ℕ Global) E) (s : Sight) (q p : Request) (u : Sight) (text : List ℕ) → q ≡ p
    → ((v : Sight) (t : List ℕ) → v ≡ u → t ≡ text → IsMade s p v t)
    → IfOk r (λ (a : Sight × Vec ℕ Global). a.0 ≡ u) → IfOk r (λ (a : Sight × Vec ℕ Global). a.1.items ≡ text)
    → IfOk r (λ (a : Sight × Vec ℕ Global). IsMade s q a.0 a.1.items)
made_as (Ok a) s q p u text is f e h = subst (λ (x : Request). IsMade s x a.0 a.1.items) (sym is) (f a.0 a.1.items e h)
made_as (Err e) s q p u text is f g h = tt

-- one that goes to a position
pub made_there : {E : Type 0} (r : Result (Sight × Vec ℕ Global) E) (s : Sight) (q p : Request) (to there : Position) → q ≡ p → to ≡ there
    → ((v : Sight) (t : List ℕ) → v ≡ seen_from s there → t ≡ place_text (gone s.walker there) → IsMade s p v t)
    → IfOk r (λ (a : Sight × Vec ℕ Global). a.0 ≡ seen_from s to) → IfOk r (λ (a : Sight × Vec ℕ Global). a.1.items ≡ place_text (gone s.walker to))
    → IfOk r (λ (a : Sight × Vec ℕ Global). IsMade s q a.0 a.1.items)
made_there (Ok a) s q p to there is e f g h =
    subst (λ (x : Request). IsMade s x a.0 a.1.items) (sym is)
    (f a.0 a.1.items (g ∙ ap (λ (o : Position). seen_from s o) e) (h ∙ ap (λ (o : Position). place_text (gone s.walker o)) e))
made_there (Err x) s q p to there is e f g h = tt
