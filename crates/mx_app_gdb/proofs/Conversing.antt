-- A talk, a byte more.
use Rattle.std.proofs.KnownBytes.{Appends-nil, Appends-trans}
use Rattle.std.specs.Io.KnownBytes.{Appends}
use Rattle.std.proofs.Common.{◌≡◌, ◌∙◌, ◌-◌, ◌+◌, ◌<◌, ◌≤◌, ◌++◌, ℕ, suc, List, [], ◌∷◌, append-nil, append_assoc, Option, Some, None, Result, Ok, Err, IfOk, OnOk, ap, inl, inr, refl, sym, subst, arith}
use Rattle.mx_app_failure.specs.Failure.{IsUntyped, IsWanting, PrintsFront}
use Rattle.mx_app_failure.specs.declared.failure.Failure.{Failure}
use Rattle.mx_rsp.specs.declared.hearing.Heard.{Heard}
use Rattle.mx_rsp.specs.declared.hearing.Heard.TheVariants.{Again, Nothing, Packet, TooLong, Wrong}
use Rattle.mx_rsp.specs.Hearing.{heard_of, reading_after}
use Rattle.mx_app_gdb.specs.declared.talking.Talk.{Talk}
use Rattle.mx_app_gdb.specs.Talks.{IsAnswerBegun, IsByteBegun, IsByteHeard, IsCutOf, IsHeardAs, IsHeardBegun, IsTalkOf, read_to}

-- ---- what is written by one output is by another, if all that the first writes is

front_by : (P Q : List ℕ → Type 0) (text : List ℕ) → ((r : List ℕ) → P r → Q r) → PrintsFront P text → PrintsFront Q text
front_by P Q text more (front, rest, is, h) = (front, rest, is, more front h)

answer_by : (P Q : List ℕ → Type 0) (t : Talk) (p : List ℕ) → ((r : List ℕ) → P r → Q r) → IsAnswerBegun t p P → IsAnswerBegun t p Q
answer_by P Q t p more (inl h) = inl (front_by P Q _ more h)
answer_by P Q t p more (inr (s, reply, next, replied, h)) = inr (s, reply, next, replied, front_by P Q _ more h)

heard_by : (P Q : List ℕ → Type 0) (t : Talk) (x : Heard) → ((r : List ℕ) → P r → Q r) → IsHeardBegun t x P → IsHeardBegun t x Q
heard_by P Q t Nothing more h = more [] h
heard_by P Q t Again more h = front_by P Q _ more h
heard_by P Q t Wrong more h = front_by P Q _ more h
heard_by P Q t TooLong more h = answer_by P Q t [] more h
heard_by P Q t (Packet p) more h = answer_by P Q t p more h

cut_by : (P Q : List ℕ → Type 0) (f : Failure) (n : ℕ) (t : Talk) (xs : List (Option (List ℕ))) → ((r : List ℕ) → P r → Q r) → IsCutOf n t xs P f → IsCutOf n t xs Q f
cut_by P Q f n t [] more (m, e, failed, h) = (m, e, failed, more [] h)
cut_by P Q f n t (None ∷ xs) more h = absurd h
cut_by P Q f n t (Some l ∷ xs) more (m, b, e, is, inl (none, failed, h)) = (m, b, e, is, inl (none, failed, heard_by P Q (read_to t b) (heard_of t.reader b) more h))
cut_by P Q f n t (Some l ∷ xs) more (m, b, e, is, inr (u, now, heard, h)) =
    (m, b, e, is, inr (u, now, heard, cut_by (λ r. P (now ++ r)) (λ r. Q (now ++ r)) f m u xs (λ r. more (now ++ r)) h))

-- nothing is written of an answer
pub none_heard : (P : List ℕ → Type 0) (t : Talk) (x : Heard) → P [] → IsHeardBegun t x P
none_heard P t Nothing h = h
none_heard P t Again h = ([], _, refl, h)
none_heard P t Wrong h = ([], _, refl, h)
none_heard P t TooLong h = inl ([], _, refl, h)
none_heard P t (Packet p) h = inl ([], _, refl, h)

-- ---- the bytes so far and what was written; what comes of later bytes is what comes of all, if they end or are cut off

pub record SoFar (n : ℕ) (t now : Talk) (count : ℕ) (Given : List (Option (List ℕ)) → Type 0) (before after : Option (List ℕ)) : Type 0 where
  pub typed : List (Option (List ℕ))
  pub text : List ℕ
  pub given : Given typed
  pub written : Appends before after text
  pub on : (xs : List (Option (List ℕ))) (rest : List ℕ) → IsTalkOf (n - count) (Some now) xs rest
      → IsTalkOf n (Some t) (typed ++ xs) (text ++ rest)
  pub cut : (xs : List (Option (List ℕ))) (f : Failure) (last : Option (List ℕ)) → IsCutOf (n - count) now xs (λ r. Appends after last r) f
      → IsCutOf n t (typed ++ xs) (λ r. Appends before last r) f

module _ (n count : ℕ) (t now : Talk) (typed : List (Option (List ℕ))) (text : List ℕ)
    (on : (xs : List (Option (List ℕ))) (rest : List ℕ) → IsTalkOf (n - count) (Some now) xs rest → IsTalkOf n (Some t) (typed ++ xs) (text ++ rest)) where
  left_is : count < n → n - count ≡ suc (n - (count + 1))
  left_is lt = omega (arith, lt)

  -- a byte that goes on
  pub one_more : count < n → (b : ℕ) (next : Talk) (said : List ℕ) → IsByteHeard now b (Some next) said
      → (xs : List (Option (List ℕ))) (rest : List ℕ) → IsTalkOf (n - (count + 1)) (Some next) xs rest
      → IsTalkOf n (Some t) ((typed ++ Some (b ∷ []) ∷ []) ++ xs) ((text ++ said) ++ rest)
  one_more lt b next said heard xs rest later =
      let whole = on (Some (b ∷ []) ∷ xs) (said ++ rest) (n - (count + 1), b, Some next, said, rest, left_is lt, refl, heard, later, refl) in
      subst (λ (ys : List (Option (List ℕ))). IsTalkOf n (Some t) ys ((text ++ said) ++ rest)) (sym (append_assoc typed (Some (b ∷ []) ∷ []) xs))
      (subst (λ (ys : List ℕ). IsTalkOf n (Some t) (typed ++ Some (b ∷ []) ∷ xs) ys) (sym (append_assoc text said rest)) whole)

  -- a byte that ends it
  pub last_one : count < n → (b : ℕ) (said : List ℕ) → IsByteHeard now b None said
      → IsTalkOf n (Some t) (typed ++ Some (b ∷ []) ∷ []) (text ++ said)
  last_one lt b said heard =
      on (Some (b ∷ []) ∷ []) said (n - (count + 1), b, None, said, [], left_is lt, refl, heard, (refl, refl), sym (append-nil said))

  -- the end of the input
  pub no_byte : IsTalkOf n (Some t) (typed ++ None ∷ []) text
  no_byte = subst (λ (ys : List ℕ). IsTalkOf n (Some t) (typed ++ None ∷ []) ys) (append-nil text) (on (None ∷ []) [] (refl, refl))

  -- as many bytes as there may be
  pub all_counted : n ≤ count → IsTalkOf n (Some t) typed text
  all_counted ge =
      let none : n - count ≡ 0 = omega (arith, ge) in
      subst (λ (ys : List (Option (List ℕ))). IsTalkOf n (Some t) ys text) (append-nil typed)
      (subst (λ (ys : List ℕ). IsTalkOf n (Some t) (typed ++ []) ys) (append-nil text) (on [] [] (none, refl)))

-- ---- what a walk over the input gives, and what is written

-- a talk over the bytes that came since, and what it wrote
abbrev pub Whole : ℕ → Talk → List (Option (List ℕ)) → List (Option (List ℕ)) → Option (List ℕ) → Option (List ℕ) → Type 0
Whole n t given now before after =
    (typed : List (Option (List ℕ))) × (text : List ℕ) × (now ≡ given ++ typed) × IsTalkOf n (Some t) typed text × Appends before after text

abbrev pub Since : ℕ → Talk → Talk → ℕ → List (Option (List ℕ)) → List (Option (List ℕ)) → Option (List ℕ) → Option (List ℕ) → Type 0
Since n t now count given came before after = SoFar n t now count (λ typed. came ≡ given ++ typed) before after

-- a talk over the bytes that came since, which fails, and what it wrote
abbrev pub Failed : ℕ → Talk → List (Option (List ℕ)) → List (Option (List ℕ)) → Option (List ℕ) → Option (List ℕ) → Failure → Type 0
Failed n t given now before after f =
    (typed : List (Option (List ℕ))) × (now ≡ given ++ typed) × IsCutOf n t typed (λ text. Appends before after text) f

pub no_bytes : (n : ℕ) (t : Talk) (given : List (Option (List ℕ))) (before : Option (List ℕ)) → Since n t t 0 given given before before
no_bytes n t given before =
    let all : n - 0 ≡ n = omega arith in
    record {
      typed = [];
      text = [];
      given = sym (append-nil given);
      written = Appends-nil before;
      on = λ xs rest later. subst (λ m. IsTalkOf m (Some t) xs rest) all later;
      cut = λ xs f last later. subst (λ m. IsCutOf m t xs (λ r. Appends before last r) f) all later;
    }

module _ (n : ℕ) (t now : Talk) (count : ℕ) (given came : List (Option (List ℕ))) (before after : Option (List ℕ)) (so : Since n t now count given came before after) where
  more_given : (next : List (Option (List ℕ))) (x : Option (List ℕ)) → next ≡ came ++ x ∷ [] → next ≡ given ++ (so.typed ++ x ∷ [])
  more_given next x e = e ∙ ap (λ (ys : List (Option (List ℕ))). ys ++ x ∷ []) so.given ∙ append_assoc given so.typed (x ∷ [])

  pub input_ends : (next : List (Option (List ℕ))) → next ≡ came ++ None ∷ [] → Whole n t given next before after
  input_ends next e = (so.typed ++ None ∷ [], so.text, more_given next None e, no_byte n count t now so.typed so.text so.on, so.written)

  pub counted : n ≤ count → Whole n t given came before after
  counted ge = (so.typed, so.text, so.given, all_counted n count t now so.typed so.text so.on ge, so.written)

  -- no byte can be read
  pub unread : count < n → (next : List (Option (List ℕ))) → next ≡ came → (f : Failure) → IsUntyped f → Failed n t given next before after f
  unread lt next e f failed = (
    so.typed,
    e ∙ so.given,
    subst (λ (ys : List (Option (List ℕ))). IsCutOf n t ys (λ r. Appends before after r) f) (append-nil so.typed)
        (so.cut [] f after (n - (count + 1), left_is n count t now so.typed so.text so.on lt, failed, Appends-nil after)),
  )

  module _ (lt : count < n) (b : ℕ) (next : List (Option (List ℕ))) (e : next ≡ came ++ Some (b ∷ []) ∷ []) (later : Option (List ℕ)) (said : List ℕ) (writes : Appends after later said) where
    pub talk_ends : IsByteHeard now b None said → Whole n t given next before later
    talk_ends heard =
        (so.typed ++ Some (b ∷ []) ∷ [], so.text ++ said, more_given next (Some (b ∷ [])) e, last_one n count t now so.typed so.text so.on lt b said heard, Appends-trans before after later so.text said so.written writes)

    pub talk_goes_on : (u : Talk) → IsByteHeard now b (Some u) said → Since n t u (count + 1) given next before later
    talk_goes_on u heard = record {
      typed = so.typed ++ Some (b ∷ []) ∷ [];
      text = so.text ++ said;
      given = more_given next (Some (b ∷ [])) e;
      written = Appends-trans before after later so.text said so.written writes;
      on = λ xs rest more. one_more n count t now so.typed so.text so.on lt b u said heard xs rest more;
      cut = λ xs f last more.
          subst (λ (ys : List (Option (List ℕ))). IsCutOf n t ys (λ r. Appends before last r) f) (sym (append_assoc so.typed (Some (b ∷ []) ∷ []) xs))
          (so.cut (Some (b ∷ []) ∷ xs) f last (
            n - (count + 1),
            b,
            left_is n count t now so.typed so.text so.on lt,
            refl,
            inr (
              u,
              said,
              heard,
              cut_by (λ r. Appends later last r) (λ r. Appends after last (said ++ r)) f (n - (count + 1)) u xs
                  (λ r a. Appends-trans after later last said r writes a) more,
            ),
          ));
    }

  -- the answer to a byte isn't written whole
  pub cut_short : count < n → (b : ℕ) (next : List (Option (List ℕ))) → next ≡ came ++ Some (b ∷ []) ∷ [] → (later : Option (List ℕ)) (f : Failure) → IsWanting f
      → IsByteBegun now b (λ r. Appends after later r) → Failed n t given next before later f
  cut_short lt b next e later f failed begun = (
    so.typed ++ Some (b ∷ []) ∷ [],
    more_given next (Some (b ∷ [])) e,
    so.cut (Some (b ∷ []) ∷ []) f later (n - (count + 1), b, left_is n count t now so.typed so.text so.on lt, refl, inl (refl, failed, begun)),
  )

-- ---- one byte

pub heard_as : (t : Talk) (b : ℕ) (r : List ℕ) (x : Heard) (o : Option Talk) (text : List ℕ) → r ≡ reading_after t.reader b → x ≡ heard_of t.reader b → IsHeardAs (record t { reader = r }) x o text → IsByteHeard t b o text
heard_as t b r x o text reading heard h =
    subst (λ (y : Heard). IsHeardAs (read_to t b) y o text) heard (subst (λ (q : List ℕ). IsHeardAs (record t { reader = q }) x o text) reading h)

pub begun_as : (t : Talk) (b : ℕ) (r : List ℕ) (x : Heard) (P : List ℕ → Type 0) → r ≡ reading_after t.reader b → x ≡ heard_of t.reader b → IsHeardBegun (record t { reader = r }) x P → IsByteBegun t b P
begun_as t b r x P reading heard h =
    subst (λ (y : Heard). IsHeardBegun (read_to t b) y P) heard (subst (λ (q : List ℕ). IsHeardBegun (record t { reader = q }) x P) reading h)

-- what two clauses say of an answer
pub ok_both : {A E : Type 0} (r : Result A E) (P : A → Type 0) (B : Type 0) (Q : A → Type 0) → ((a : A) → P a → B → Q a) → IfOk r P → OnOk r B → IfOk r Q
ok_both (Ok a) P B Q f p b = f a p b
ok_both (Err e) P B Q f p b = tt
