-- A session has one text.
use Rattle.std.proofs.Common.{◌≡◌, ◌∙◌, ◌⊎◌, ◌==◌, ◌&&◌, ℕ, zero, suc, cond, refl, Bool, true, false, List, [], ◌∷◌, ◌++◌, Option, Some, None, inl, inr, ap, ap₂, sym, subst}
use Rattle.mx_app_look.specs.declared.request.Request.{Request}
use Rattle.mx_app_look.specs.declared.request.Request.TheVariants.{Nothing, Forward, Back, Step, StepBack, GoTo, Point, Continue, Reverse, Until, UntilBack, Where, Why, Processes, Messages, Show, Help}
use Rattle.mx_app_look.proofs.Halting.{one_last_halt, one_last_happened, one_next_halt}
use Rattle.mx_walk.specs.declared.positions.Position.{Position}
use Rattle.mx_walk.specs.Positions.{IsPosition, is_up_to, next_position, position_before}
use Rattle.mx_walk.specs.Walks.{Walk, world_here}
use Rattle.mx_walk.specs.Moves.{steps_back, steps_on}
use Rattle.mx_app_look.specs.declared.sight.Sight.{Sight}
use Rattle.mx_app_look.specs.Answers.{IsMade}
use Rattle.mx_app_look.specs.Places.{place_text}
use Rattle.mx_app_look.specs.declared.happening.Happening.{Happening}
use Rattle.mx_app_look.specs.Seeking.{IsGoneBack, IsGoneBy, IsGoneOn, IsGoneUntilBackBy, IsHalted, has_points, no_points}
use Rattle.mx_app_look.specs.Until.{has_slots, no_service, type_note}
use Rattle.mx_app_look.specs.Requests.{ends, request_of}
use Rattle.mx_app_look.specs.Sessions.{IsAnswered, IsAnsweredBy, IsSession, end_text, prompt_text}
use Rattle.mx_walk.specs.declared.progress.Part.{Part}
use Rattle.mx_app_look.proofs.Traced.{unmarked}

-- ---- the text of a session, which its marks don't change

abbrev pub Texts : Bool → Sight → List (Option (List ℕ)) → List ℕ → Type 0
Texts asks s [] text = text ≡ []
Texts asks s (None ∷ xs) text = text ≡ end_text asks
Texts asks s (Some l ∷ xs) text =
    ((ends l ≡ true) × (text ≡ []))
    ⊎ ((ends l ≡ false) × ((u : Sight) × (answer : List ℕ) × (rest : List ℕ) × IsAnswered s l u answer × Texts asks u xs rest
    × (text ≡ (answer ++ prompt_text asks u.walker) ++ rest)))

pub texts_of : (asks : Bool) (s : Sight) (xs : List (Option (List ℕ))) (t : List ℕ) (ps : List Part) → IsSession asks s xs t ps → Texts asks s xs t
texts_of asks s [] t ps a = a.0
texts_of asks s (None ∷ xs) t ps a = a.0
texts_of asks s (Some l ∷ xs) t ps (inl a) = inl (a.0, a.1)
texts_of asks s (Some l ∷ xs) t ps (inr a) = let p = a.1 in inr (a.0, (p.0, p.1, p.2, p.5, texts_of asks p.0 xs p.2 p.4 p.7, p.8))

abbrev pub bare : Sight → Sight
bare s = record s { walker = unmarked s.walker }

steps_on_bare : (n : ℕ) (k : Walk) (p : Position) → steps_on n k p ≡ steps_on n (unmarked k) p
steps_on_bare zero k p = refl
steps_on_bare (suc n) k p = ap (λ (q : Position). let r : Position = cond (is_up_to k.last p) p q in r) (steps_on_bare n k (next_position k.records p))

steps_back_bare : (n : ℕ) (k : Walk) (p : Position) → steps_back n k p ≡ steps_back n (unmarked k) p
steps_back_bare zero k p = refl
steps_back_bare (suc n) k p = ap (λ (q : Position). let r : Position = cond ((p.records == 0) && (p.steps == 0)) p q in r) (steps_back_bare n k (position_before k.records p))

abbrev bare_gone : Sight → Position → Sight
bare_gone s p = record (bare s) { walker = record (unmarked s.walker) { here = p } }

-- a search that is made if there is something to halt at
bare_if : (b : Bool) (IsGone : Sight → Sight → List ℕ → Type 0) (s u : Sight) (t : List ℕ) → (IsGone s u t → IsGone (bare s) (bare u) t) → IsGoneBy b IsGone s u t → IsGoneBy b IsGone (bare s) (bare u) t
bare_if true IsGone s u t f a = f a
bare_if false IsGone s u t f a = (ap bare a.0, a.1)

-- one for what happens
bare_until : (b : Bool) (s u : Sight) (h : Happening) (t : List ℕ) → IsGoneUntilBackBy b s h u t → IsGoneUntilBackBy b (bare s) h (bare u) t
unfolding place_text
bare_until true s u h t a = let x = a.2 in (a.0, a.1, (ap bare x.0, x.1))
bare_until false s u h t a = (ap bare a.0, a.1)

bare_made : (s u : Sight) (q : Request) (t : List ℕ) → IsMade s q u t → IsMade (bare s) q (bare u) t
unfolding place_text
bare_made s u Nothing t a = (ap bare a.0, a.1)
bare_made s u (Forward n) t a = (ap bare a.0, a.1)
bare_made s u (Back n) t a = (ap bare a.0, a.1)
bare_made s u (Step n) t a =
    let e = steps_on_bare n s.walker s.walker.here in
    (ap bare a.0 ∙ ap (λ (p : Position). bare_gone s p) e, a.1 ∙ ap (λ (p : Position). place_text (bare_gone s p).walker) e)
bare_made s u (StepBack n) t a =
    let e = steps_back_bare n s.walker s.walker.here in
    (ap bare a.0 ∙ ap (λ (p : Position). bare_gone s p) e, a.1 ∙ ap (λ (p : Position). place_text (bare_gone s p).walker) e)
bare_made s u (GoTo p) t a = (ap bare a.0, a.1)
bare_made s u (Point p) t a = (ap bare a.0, a.1)
bare_made s u Continue t a = bare_if (has_points s.points) IsGoneOn s u t (λ x. let h = x.2 in (x.0, x.1, (ap bare h.0, h.1))) a
bare_made s u Reverse t a = bare_if (has_points s.points) IsGoneBack s u t (λ x. let h = x.2 in (x.0, x.1, (ap bare h.0, h.1))) a
bare_made s u (Until h) t a = (ap bare a.0, a.1)
bare_made s u (UntilBack h) t a = bare_until (has_slots s.walker h) s u h t a
bare_made s u Where t a = (ap bare a.0, a.1)
bare_made s u Why t a = (ap bare a.0, a.1)
bare_made s u Processes t a = (ap bare a.0, a.1)
bare_made s u Messages t a = (ap bare a.0, a.1)
bare_made s u (Show p) t a = (ap bare a.0, a.1)
bare_made s u Help t a = (ap bare a.0, a.1)

bare_answered : (s u : Sight) (line : List ℕ) (q : Option Request) (t : List ℕ) → IsAnsweredBy s line q u t → IsAnsweredBy (bare s) line q (bare u) t
bare_answered s u line None t a = (ap bare a.0, a.1)
bare_answered s u line (Some q) t a = bare_made s u q t a

pub bare_texts : (asks : Bool) (s : Sight) (xs : List (Option (List ℕ))) (t : List ℕ) → Texts asks s xs t → Texts asks (bare s) xs t
bare_texts asks s [] t a = a
bare_texts asks s (None ∷ xs) t a = a
bare_texts asks s (Some l ∷ xs) t (inl a) = inl a
bare_texts asks s (Some l ∷ xs) t (inr a) = let p = a.1 in inr (a.0, (bare p.0, p.1, p.2, bare_answered s p.0 l (request_of (world_here s.walker).services l) p.1 p.3, bare_texts asks p.0 xs p.2 p.4, p.5))

-- ---- one text

-- the last position of what is in hand is one of its history
abbrev pub IsReady : Sight → Type 0
IsReady s = IsPosition s.walker.records s.walker.last

abbrev Alike : Sight → Sight → List ℕ → List ℕ → Type 0
Alike u v t r = (u ≡ v) × (t ≡ r)

by_functions : (x u v : Sight) (y t r : List ℕ) → (u ≡ x) × (t ≡ y) → (v ≡ x) × (r ≡ y) → Alike u v t r
by_functions x u v y t r a b = (a.0 ∙ sym b.0, a.1 ∙ sym b.1)

by_halt : (s u v : Sight) (g h : Position × List ℕ) (t r : List ℕ) → g ≡ h → IsHalted s g u t → IsHalted s h v r → Alike u v t r
by_halt s u v g h t r e a b =
    let same : u ≡ v = a.0 ∙ ap (λ (k : Position × List ℕ). let w : Sight = record s { walker = record s.walker { here = k.0 } } in w) e ∙ sym b.0 in
    (same, a.1 ∙ ap₂ (λ (k : Position × List ℕ) (w : Sight). k.1 ++ place_text w.walker) e same ∙ sym b.1)

by_gone : (b : Bool) (IsGone : Sight → Sight → List ℕ → Type 0) (s u v : Sight) (t r : List ℕ) → (IsGone s u t → IsGone s v r → Alike u v t r) → IsGoneBy b IsGone s u t → IsGoneBy b IsGone s v r → Alike u v t r
by_gone true IsGone s u v t r f a b = f a b
by_gone false IsGone s u v t r f a b = by_functions s u v no_points t r a b

by_until : (p : Bool) (s u v : Sight) (h : Happening) (t r : List ℕ) → IsGoneUntilBackBy p s h u t → IsGoneUntilBackBy p s h v r → Alike u v t r
by_until true s u v h t r a b =
    let noted : Position × List ℕ → Position × List ℕ = λ x. (x.0, type_note s.walker h ++ x.1) in
    by_halt s u v (noted a.0) (noted b.0) t r (ap noted (one_last_happened s.walker h a.0 b.0 a.1 b.1)) a.2 b.2
by_until false s u v h t r a b = by_functions s u v no_service t r a b

alike : (s u v : Sight) (q : Request) (t r : List ℕ) → IsReady s → IsMade s q u t → IsMade s q v r → Alike u v t r
alike s u v Nothing t r l a b = by_functions _ u v _ t r a b
alike s u v (Forward n) t r l a b = by_functions _ u v _ t r a b
alike s u v (Back n) t r l a b = by_functions _ u v _ t r a b
alike s u v (Step n) t r l a b = by_functions _ u v _ t r a b
alike s u v (StepBack n) t r l a b = by_functions _ u v _ t r a b
alike s u v (GoTo p) t r l a b = by_functions _ u v _ t r a b
alike s u v (Point p) t r l a b = by_functions _ u v _ t r a b
alike s u v Continue t r l a b = by_gone (has_points s.points) IsGoneOn s u v t r (λ x y. by_halt s u v x.0 y.0 t r (one_next_halt s.walker s.points x.0 y.0 l x.1 y.1) x.2 y.2) a b
alike s u v Reverse t r l a b = by_gone (has_points s.points) IsGoneBack s u v t r (λ x y. by_halt s u v x.0 y.0 t r (one_last_halt s.walker s.points x.0 y.0 x.1 y.1) x.2 y.2) a b
alike s u v (Until h) t r l a b = by_functions _ u v _ t r a b
alike s u v (UntilBack h) t r l a b = by_until (has_slots s.walker h) s u v h t r a b
alike s u v Where t r l a b = by_functions _ u v _ t r a b
alike s u v Why t r l a b = by_functions _ u v _ t r a b
alike s u v Processes t r l a b = by_functions _ u v _ t r a b
alike s u v Messages t r l a b = by_functions _ u v _ t r a b
alike s u v (Show p) t r l a b = by_functions _ u v _ t r a b
alike s u v Help t r l a b = by_functions _ u v _ t r a b

answered_alike : (s u v : Sight) (line : List ℕ) (q : Option Request) (t r : List ℕ) → IsReady s → IsAnsweredBy s line q u t → IsAnsweredBy s line q v r → Alike u v t r
answered_alike s u v line None t r l a b = by_functions _ u v _ t r a b
answered_alike s u v line (Some q) t r l a b = alike s u v q t r l a b

-- ---- what is in hand after a request is ready too

kept_ready : (s u x : Sight) → IsReady x → u ≡ x → IsReady u
kept_ready s u x l e = subst IsReady (sym e) l

ready_gone : (b : Bool) (IsGone : Sight → Sight → List ℕ → Type 0) (s u : Sight) (t : List ℕ) → IsReady s → (IsGone s u t → IsReady u) → IsGoneBy b IsGone s u t → IsReady u
ready_gone true IsGone s u t l f a = f a
ready_gone false IsGone s u t l f a = kept_ready s u s l a.0

ready_until : (b : Bool) (s u : Sight) (h : Happening) (t : List ℕ) → IsReady s → IsGoneUntilBackBy b s h u t → IsReady u
ready_until true s u h t l a = let x = a.2 in kept_ready s u _ l x.0
ready_until false s u h t l a = kept_ready s u s l a.0

ready : (s u : Sight) (q : Request) (t : List ℕ) → IsReady s → IsMade s q u t → IsReady u
ready s u Nothing t l a = kept_ready s u _ l a.0
ready s u (Forward n) t l a = kept_ready s u _ l a.0
ready s u (Back n) t l a = kept_ready s u _ l a.0
ready s u (Step n) t l a = kept_ready s u _ l a.0
ready s u (StepBack n) t l a = kept_ready s u _ l a.0
ready s u (GoTo p) t l a = kept_ready s u _ l a.0
ready s u (Point p) t l a = kept_ready s u _ l a.0
ready s u Continue t l a = ready_gone (has_points s.points) IsGoneOn s u t l (λ x. let h = x.2 in kept_ready s u _ l h.0) a
ready s u Reverse t l a = ready_gone (has_points s.points) IsGoneBack s u t l (λ x. let h = x.2 in kept_ready s u _ l h.0) a
ready s u (Until h) t l a = kept_ready s u _ l a.0
ready s u (UntilBack h) t l a = ready_until (has_slots s.walker h) s u h t l a
ready s u Where t l a = kept_ready s u _ l a.0
ready s u Why t l a = kept_ready s u _ l a.0
ready s u Processes t l a = kept_ready s u _ l a.0
ready s u Messages t l a = kept_ready s u _ l a.0
ready s u (Show p) t l a = kept_ready s u _ l a.0
ready s u Help t l a = kept_ready s u _ l a.0

answered_ready : (s u : Sight) (line : List ℕ) (q : Option Request) (t : List ℕ) → IsReady s → IsAnsweredBy s line q u t → IsReady u
answered_ready s u line None t l a = kept_ready s u s l a.0
answered_ready s u line (Some q) t l a = ready s u q t l a

pub same_texts : (asks : Bool) (s : Sight) (xs : List (Option (List ℕ))) (t r : List ℕ) → IsReady s → Texts asks s xs t → Texts asks s xs r → t ≡ r
same_texts asks s [] t r l a b = a ∙ sym b
same_texts asks s (None ∷ xs) t r l a b = a ∙ sym b
same_texts asks s (Some x ∷ xs) t r l (inl a) (inl b) = a.1 ∙ sym b.1
same_texts asks s (Some x ∷ xs) t r l (inl a) (inr b) = let no : true ≡ false = sym a.0 ∙ b.0 in absurd cc
same_texts asks s (Some x ∷ xs) t r l (inr a) (inl b) = let no : true ≡ false = sym b.0 ∙ a.0 in absurd cc
same_texts asks s (Some x ∷ xs) t r l (inr a) (inr b) =
    let p = a.1 in
    let q = b.1 in
    let asked = request_of (world_here s.walker).services x in
    let same = answered_alike s p.0 q.0 x asked p.1 q.1 l p.3 q.3 in
    let rest = same_texts asks q.0 xs p.2 q.2 (answered_ready s q.0 x asked q.1 l q.3) (subst (λ (u : Sight). Texts asks u xs p.2) same.0 p.4) q.4 in
    p.5 ∙ ap (λ (u : Sight). (p.1 ++ prompt_text asks u.walker) ++ p.2) same.0 ∙ ap (λ y. (y ++ prompt_text asks q.0.walker) ++ p.2) same.1
    ∙ ap (λ y. (q.1 ++ prompt_text asks q.0.walker) ++ y) rest ∙ sym q.5
