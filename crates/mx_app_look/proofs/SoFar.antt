-- A session so far: the lines that were typed, what was printed and shown, and what is in hand.
use Rattle.std.proofs.Common.{◌≡◌, ◌∙◌, ◌+◌, ◌-◌, ◌^◌, ℕ, Bool, true, false, cond, List, [], ◌∷◌, ◌++◌, append_assoc, length, Option, Some, None, MatchOption, inl, inr, refl, ap, sym, subst, arith}
use Rattle.std.proofs.KnownBytes.{Appends-nil, Appends-trans}
use Rattle.std.proofs.lemmas.List.{append-nil}
use Rattle.std.specs.Io.KnownBytes.{Appends}
use Rattle.mx_app_look.specs.declared.sight.Sight.{Sight}
use Rattle.mx_app_look.specs.Requests.{ends}
use Rattle.mx_app_look.specs.Sessions.{IsAnswered, IsSession, IsWhole, end_text, is_nothing, is_over, prompt_text}
use Rattle.mx_app_look.specs.Shows.{IsShown}
use Rattle.mx_walk.specs.Parts.{HasGrown}
use Rattle.mx_walk.specs.declared.progress.Part.{Part}

-- ---- what a call answers

pub none_case : {A : Type 0} (o : Option A) (P : Type 0) (Q : A → Type 0) → o ≡ None → MatchOption o P Q → P
none_case None P Q e h = h
none_case (Some x) P Q e h = absurd cc

pub some_case : {A : Type 0} (o : Option A) (x : A) (P : Type 0) (Q : A → Type 0) → o ≡ Some x → MatchOption o P Q → Q x
some_case None x P Q e h = absurd cc
some_case (Some y) x P Q e h = let same : y ≡ x = cc in subst Q same h

-- ---- the lines

one_longer : (xs : List (Option (List ℕ))) (x : Option (List ℕ)) → length (xs ++ x ∷ []) ≡ length xs + 1
one_longer [] x = refl
one_longer (y ∷ xs) x = let e = one_longer xs x in omega (arith, e)

more_lines : (given g h typed : List (Option (List ℕ))) (x : Option (List ℕ)) → g ≡ given ++ typed → h ≡ g ++ x ∷ [] → h ≡ given ++ (typed ++ x ∷ [])
more_lines given g h typed x e f = f ∙ ap (λ (ys : List (Option (List ℕ))). ys ++ x ∷ []) e ∙ append_assoc given typed (x ∷ [])

module _ (asks : Bool) where
  -- lines that don't end the session, their answers, what was shown, and what is in hand after them
  abbrev pub Leads : Sight → List (Option (List ℕ)) → List ℕ → List Part → Sight → Type 0
  Leads s [] text ps u = (text ≡ []) × (ps ≡ []) × (u ≡ s)
  Leads s (None ∷ xs) text ps u = ⊥
  Leads s (Some l ∷ xs) text ps u =
      (ends l ≡ false) × ((v : Sight) × (answer : List ℕ) × (rest : List ℕ) × (now : List Part) × (later : List Part)
      × IsAnswered s l v answer × IsShown s l now × Leads v xs rest later u
      × (text ≡ (answer ++ prompt_text asks v.walker) ++ rest) × (ps ≡ now ++ later))

  leads_more : (s u v : Sight) (xs : List (Option (List ℕ))) (text answer l : List ℕ) (ps now : List Part) → Leads s xs text ps u → ends l ≡ false → IsAnswered u l v answer → IsShown u l now
      → Leads s (xs ++ Some l ∷ []) (text ++ (answer ++ prompt_text asks v.walker)) (ps ++ now) v
  leads_more s u v [] text answer l ps now h e g i =
      let more = answer ++ prompt_text asks v.walker in (
        e,
        (
          v,
          answer,
          [],
          now,
          [],
          subst (λ (r : Sight). IsAnswered r l v answer) h.2 g,
          subst (λ (r : Sight). IsShown r l now) h.2 i,
          (refl, refl, refl),
          ap (λ t. t ++ more) h.0 ∙ sym (append-nil more),
          ap (λ (t : List Part). t ++ now) h.1 ∙ sym (append-nil now),
        ),
      )
  leads_more s u v (None ∷ xs) text answer l ps now h e g i = absurd h
  leads_more s u v (Some m ∷ xs) text answer l ps now h e g i =
      let more = answer ++ prompt_text asks v.walker in
      let p = h.1 in (
        h.0,
        (
          p.0,
          p.1,
          p.2 ++ more,
          p.3,
          p.4 ++ now,
          p.5,
          p.6,
          leads_more p.0 u v xs p.2 answer l p.4 now p.7 e g i,
          ap (λ t. t ++ more) p.8 ∙ append_assoc (p.1 ++ prompt_text asks p.0.walker) p.2 more,
          ap (λ (t : List Part). t ++ now) p.9 ∙ append_assoc p.3 p.4 now,
        ),
      )

  -- the session of these lines and more
  on : (s u : Sight) (xs ys : List (Option (List ℕ))) (text rest : List ℕ) (ps more : List Part) → Leads s xs text ps u → IsSession asks u ys rest more → IsSession asks s (xs ++ ys) (text ++ rest) (ps ++ more)
  on s u [] ys text rest ps more h g =
      subst (λ t. IsSession asks s ys (t ++ rest) (ps ++ more)) (sym h.0)
      (subst (λ (t : List Part). IsSession asks s ys rest (t ++ more)) (sym h.1) (subst (λ (v : Sight). IsSession asks v ys rest more) h.2 g))
  on s u (None ∷ xs) ys text rest ps more h g = absurd h
  on s u (Some l ∷ xs) ys text rest ps more h g =
      let p = h.1 in
      inr (
        h.0,
        (
          p.0,
          p.1,
          p.2 ++ rest,
          p.3,
          p.4 ++ more,
          p.5,
          p.6,
          on p.0 u xs ys p.2 rest p.4 more p.7 g,
          ap (λ t. t ++ rest) p.8 ∙ append_assoc (p.1 ++ prompt_text asks p.0.walker) p.2 rest,
          ap (λ (t : List Part). t ++ more) p.9 ∙ append_assoc p.3 p.4 more,
        ),
      )

  -- it is over with what comes after them
  over_after : (s u : Sight) (xs ys : List (Option (List ℕ))) (text : List ℕ) (ps : List Part) → Leads s xs text ps u → is_over (xs ++ ys) ≡ is_over ys
  over_after s u [] ys text ps h = refl
  over_after s u (None ∷ xs) ys text ps h = absurd h
  over_after s u (Some l ∷ xs) ys text ps h =
      let p = h.1 in
      ap (λ b. cond b (is_nothing (xs ++ ys)) (is_over (xs ++ ys))) h.0 ∙ over_after p.0 u xs ys p.2 p.4 p.7

  pub record SoFar (s now : Sight) (n : ℕ) (given given_now : List (Option (List ℕ))) (shown shown_now : List Part) (out out_now : Option (List ℕ)) : Type 0 where
    pub typed : List (Option (List ℕ))
    pub text : List ℕ
    pub parts : List Part
    pub lines : given_now ≡ given ++ typed
    pub walked : shown_now ≡ shown ++ parts
    pub printed : Appends out out_now text
    pub leads : Leads s typed text parts now
    pub count : length typed ≡ n

  pub nothing_yet : (s : Sight) (given : List (Option (List ℕ))) (shown : List Part) (out : Option (List ℕ)) → SoFar s s 0 given given shown shown out out
  nothing_yet s given shown out = record { typed = []; text = []; parts = []; lines = sym (append-nil given); walked = sym (append-nil shown); printed = Appends-nil out; leads = (refl, refl, refl); count = refl }

  -- what was given, where an answer fails
  pub given_more : (s now : Sight) (n : ℕ) (given g h : List (Option (List ℕ))) (shown later : List Part) (out o : Option (List ℕ)) (x : Option (List ℕ)) → SoFar s now n given g shown later out o → h ≡ g ++ x ∷ [] → (typed : List (Option (List ℕ))) × (h ≡ given ++ typed)
  given_more s now n given g h shown later out o x f more = (f.typed ++ x ∷ [], more_lines given g h f.typed x f.lines more)

  -- and what was shown
  pub shown_more : (s now : Sight) (n : ℕ) (given g : List (Option (List ℕ))) (shown later last : List Part) (out o : Option (List ℕ)) → SoFar s now n given g shown later out o → HasGrown later last → HasGrown shown last
  shown_more s now n given g shown later last out o f more = (f.parts ++ more.0, more.1 ∙ ap (λ (ps : List Part). ps ++ more.0) f.walked ∙ append_assoc shown f.parts more.0)

  -- one line more that doesn't end it
  pub one_more : (s now next : Sight) (n : ℕ) (given g h : List (Option (List ℕ))) (shown later last : List Part) (out o p : Option (List ℕ)) (l : List ℕ) → SoFar s now n given g shown later out o
      → h ≡ g ++ Some l ∷ [] → ends l ≡ false
      → ((answer : List ℕ) × (ps : List Part) × IsAnswered now l next answer × IsShown now l ps × (last ≡ later ++ ps) × Appends o p (answer ++ prompt_text asks next.walker))
      → SoFar s next (n + 1) given h shown last out p
  one_more s now next n given g h shown later last out o p l f more isnt a =
      let answer = a.0 ++ prompt_text asks next.walker in record {
        typed = f.typed ++ Some l ∷ [];
        text = f.text ++ answer;
        parts = f.parts ++ a.1;
        lines = more_lines given g h f.typed (Some l) f.lines more;
        walked = a.4 ∙ ap (λ (ps : List Part). ps ++ a.1) f.walked ∙ append_assoc shown f.parts a.1;
        printed = Appends-trans out o p f.text answer f.printed a.5;
        leads = leads_more s now next f.typed f.text a.0 l f.parts a.1 f.leads isnt a.2 a.3;
        count = one_longer f.typed (Some l) ∙ ap (λ i. i + 1) f.count;
      }

  abbrev pub Whole : Sight → List (Option (List ℕ)) → List (Option (List ℕ)) → List Part → List Part → Option (List ℕ) → Option (List ℕ) → Type 0
  Whole s given given_now shown shown_now out out_now =
      (typed : List (Option (List ℕ))) × (text : List ℕ) × (ps : List Part) × (given_now ≡ given ++ typed) × IsWhole typed × IsSession asks s typed text ps
      × (shown_now ≡ shown ++ ps) × Appends out out_now text

  -- a line that ends it
  pub ended : (s now : Sight) (n : ℕ) (given g h : List (Option (List ℕ))) (shown later last : List Part) (out o p : Option (List ℕ)) (l : List ℕ) → SoFar s now n given g shown later out o
      → h ≡ g ++ Some l ∷ [] → ends l ≡ true → last ≡ later → p ≡ o → Whole s given h shown last out p
  ended s now n given g h shown later last out o p l f more is same quiet =
      let over : is_over (Some l ∷ []) ≡ true = ap (λ b. cond b (is_nothing []) (is_over [])) is in (
        f.typed ++ Some l ∷ [],
        f.text ++ [],
        f.parts ++ [],
        more_lines given g h f.typed (Some l) f.lines more,
        inl (over_after s now f.typed (Some l ∷ []) f.text f.parts f.leads ∙ over),
        on s now f.typed (Some l ∷ []) f.text [] f.parts [] f.leads (inl (is, refl, refl)),
        same ∙ f.walked ∙ ap (λ (ps : List Part). shown ++ ps) (sym (append-nil f.parts)),
        subst (λ t. Appends out p t) (sym (append-nil f.text)) (subst (λ q. Appends out q f.text) (sym quiet) f.printed),
      )

  -- the end of the input
  pub over : (s now : Sight) (n : ℕ) (given g h : List (Option (List ℕ))) (shown later : List Part) (out o p : Option (List ℕ)) → SoFar s now n given g shown later out o
      → h ≡ g ++ None ∷ [] → Appends o p (end_text asks) → Whole s given h shown later out p
  over s now n given g h shown later out o p f more printed = (
    f.typed ++ None ∷ [],
    f.text ++ end_text asks,
    f.parts ++ [],
    more_lines given g h f.typed None f.lines more,
    inl (over_after s now f.typed (None ∷ []) f.text f.parts f.leads),
    on s now f.typed (None ∷ []) f.text (end_text asks) f.parts [] f.leads (refl, refl),
    f.walked ∙ ap (λ (ps : List Part). shown ++ ps) (sym (append-nil f.parts)),
    Appends-trans out o p f.text (end_text asks) f.printed printed,
  )

  -- as many lines as there may be
  pub broken_off : (s now : Sight) (n : ℕ) (given g : List (Option (List ℕ))) (shown later : List Part) (out o : Option (List ℕ)) → SoFar s now n given g shown later out o → n ≡ 2 ^ 64 - 1 → Whole s given g shown later out o
  broken_off s now n given g shown later out o f all = (
    f.typed,
    f.text,
    f.parts,
    f.lines,
    inr (f.count ∙ all),
    subst (λ (xs : List (Option (List ℕ))). IsSession asks s xs f.text f.parts) (append-nil f.typed)
        (subst (λ t. IsSession asks s (f.typed ++ []) t f.parts) (append-nil f.text)
        (subst (λ (ps : List Part). IsSession asks s (f.typed ++ []) (f.text ++ []) ps) (append-nil f.parts) (on s now f.typed [] f.text [] f.parts [] f.leads (refl, refl)))),
    f.walked,
    f.printed,
  )
