-- Where one level of a simple command finds no fault with its words, an argument that takes a value
-- has one that passes its parser if it is required, and none or such a one if it isn't.
use Rattle.std.proofs.Common.{◌≡◌, ◌⊎◌, ◌∙◌, ◌<◌, ◌≤◌, ◌+◌, min, ◌&&◌, ◌||◌, ℕ, Bool, true, false, not, zero, suc, cond, is_some, refl, sym, ap, ap₂, subst, arith, inl, inr, List, [], ◌∷◌, ◌++◌, length, length-append, Option, Some, None, IfSome, true≢false}
use Rattle.std.specs.Prelude.{encode_utf8, find, fold, slice_get, nat_lt, option_and_then, option_map, drop}
use Rattle.std.specs.List.{AllByRecursion, list_any}
use Rattle.std.specs.Option.{option_map_or}
use Rattle.std.specs.Str.{bytes_eq, chars}
use Rattle.std.proofs.lemmas.Bool.{lt-ltb}
use Rattle.std.proofs.lemmas.Slice.Eq.{bytes_eq-Decides}
use Rattle.clap.specs.Lexer.{long_of, short_of}
use Rattle.clap.specs.Values.{read_as, refused_kind}
use Rattle.clap.specs.ValueTests.{accepts}
use Rattle.clap.specs.Facts.{explicit_source, parser_of_value, unwrap_or_range}
use Rattle.clap.specs.Takes.{is_given}
use Rattle.clap.specs.Simple.{Shape}
use Rattle.clap.specs.Kinds.{Kinds, check_kinds, or_else, range_kinds, value_kinds, values_kinds}
use Rattle.clap.specs.Walk.{Held, Names, Outcome, Row, Rule, Step, Text, Waiting, Walk, action_of, after_flag, after_step, arg_by_id, arg_by_index, arg_by_long, arg_by_short, at_row, attached_value, bundle_met, bundle_step, count_of, default_rows, done, first_of, flag_met, has_row, idle, is_pending, long_met, long_or_other, more_values, new_count, next, nothing_held, one_of, option, option_met, option_word, plain, plain_word, positional, reacted, reading_by, refused, row_text, rows_after, settled, settled_rows, short_met, short_or_plain, subcommand, subcommand_met, subcommand_or_other, takes_several, takes_values, to_positional, trailing, used, used_as, used_by_id, value, values_or_missing, waits, walk, walk_from, walked, walked_from, with_count, with_default, with_values, without, word_met}
use Rattle.clap.specs.Faults.{action_fault, bundle_step_fault, check_fault, defaults_fault, flag_word_fault, flags_fault, level_fault, option_fault, other_fault, positional_fault, react_fault, settle_fault, short_fault, step_fault, stray_fault, turn_fault, use_fault, values_fault, walk_fault, word_fault, long_fault}
use Rattle.clap.specs.declared.builder.action.ArgAction.{ArgAction}
use Rattle.clap.specs.declared.builder.action.ArgAction.TheVariants as action
use Rattle.clap.specs.declared.builder.value_parser.ValueParser.{ValueParser}
use Rattle.clap.specs.declared.builder.value_parser.Reading.{Reading}
use Rattle.clap.specs.declared.error.kind.ErrorKind.TheVariants as kind
use Rattle.clap.specs.declared.parser.matches.ValueSource.{ValueSource}
use Rattle.clap.specs.declared.parser.matches.ValueSource.TheVariants.{DefaultValue, CommandLine}

-- ---- kinds

pub no_fault : (a b : Kinds) → or_else a b ≡ [] → (a ≡ []) × (b ≡ [])
no_fault [] b e = (refl, e)
no_fault (k ∷ ks) b e = cc

values_kinds-append : (ignore_case : Bool) (p : ValueParser) (xs ys : List Text) → values_kinds ignore_case p xs ≡ []
    → values_kinds ignore_case p ys ≡ [] → values_kinds ignore_case p (xs ++ ys) ≡ []
values_kinds-append ignore_case p [] ys e f = f
values_kinds-append ignore_case p (x ∷ xs) ys e f =
    let parts = no_fault (value_kinds ignore_case p x) (values_kinds ignore_case p xs) e in
    ap (λ (k : Kinds). or_else k (values_kinds ignore_case p (xs ++ ys))) parts.0 ∙ values_kinds-append ignore_case p xs ys parts.1 f

-- one value at least, where at least one is wanted
some_values : {X : Type 0} (least most : ℕ) (values : List X) → 1 ≤ least → range_kinds least most (length values) ≡ [] → 0 < length values
some_values least most [] low e =
    let above : nat_lt 0 least ≡ true = lt-ltb 0 least (omega arith) in
    let bad = rw above at e in
    cc
some_values least most (v ∷ vs) low e = omega arith

accepted : (ignore_case : Bool) (p : ValueParser) (text : Text) → value_kinds ignore_case p text ≡ [] → accepts ignore_case p text ≡ true
accepted ignore_case p text = go (accepts ignore_case p text)
  where
    go : (b : Bool) → cond b [] (refused_kind p ∷ []) ≡ [] → b ≡ true
    go true e = refl
    go false e = cc

none_wanted : (a b c : Bool) → check_kinds a b c ≡ [] → (b ≡ false) × (c ≡ false)
none_wanted true b c e = cc
none_wanted false true c e = cc
none_wanted false false true e = cc
none_wanted false false false e = (refl, refl)

-- where a subcommand is wanted, and the last checks find no fault, there is one
pub has_wanted : (s : Shape) (rows : List Row) (has : Bool) → s.subcommand_required ≡ true → check_fault s rows has ≡ [] → has ≡ true
has_wanted s rows has needs e = go has s.subcommand_required needs (none_wanted _ _ _ e).0
  where
    go : (x y : Bool) → y ≡ true → (not x && y) ≡ false → x ≡ true
    go true y r f = refl
    go false y r f = absurd (true≢false (sym r ∙ f))

-- ---- lists

abbrev pub In : Rule → List Rule → Type 0
In a [] = ⊥
In a (x ∷ xs) = (x ≡ a) ⊎ In a xs

all_append : {X : Type 0} (P : X → Type 0) (xs ys : List X) → AllByRecursion P xs → AllByRecursion P ys → AllByRecursion P (xs ++ ys)
all_append P [] ys h g = g
all_append P (x ∷ xs) ys h g = (h.0, all_append P xs ys h.1 g)

pub all_found : {X : Type 0} (P : X → Type 0) (p : X → Bool) (xs : List X) → AllByRecursion P xs → IfSome (find p xs) P
all_found P p [] h = tt
all_found P p (x ∷ xs) h = go (p x) (all_found P p xs h.1)
  where
    go : (b : Bool) → IfSome (find p xs) P → IfSome (cond b (Some x) (find p xs)) P
    go true rest = h.0
    go false rest = rest

none_in : (p : Rule → Bool) (a : Rule) (xs : List Rule) → In a xs → list_any p xs ≡ false → p a ≡ false
none_in p a [] h e = absurd h
none_in p a (x ∷ xs) h e = go (p x) refl e (λ rest f. none_in p a xs rest f)
  where
    go : (b : Bool) → p x ≡ b → (b || list_any p xs) ≡ false → (In a xs → list_any p xs ≡ false → p a ≡ false) → p a ≡ false
    go true is e deeper = absurd (true≢false e)
    go false is e deeper = elim h [ inl same ↦ rw (← same) is | inr rest ↦ deeper rest e ]

-- ---- the rows of one argument

-- the rules have no other argument with this id
abbrev pub IsOnly : Rule → List Rule → Type 0
IsOnly a = AllByRecursion (λ b. bytes_eq b.id a.id ≡ true → b ≡ a)

-- an argument that each use sets to one value or more
pub record SetsValue (a : Rule) : Type 0 where
  pub set : action_of a ≡ action.Set
  pub least : 1 ≤ (unwrap_or_range a.range).start_inclusive
  pub defaults : a.defaults ≡ []

module _ (a : Rule) (sets : SetsValue a) where
  abbrev Is : Rule → Type 0
  Is b = bytes_eq b.id a.id ≡ true → b ≡ a

  -- the values pass, and are some
  abbrev Passes : Reading → List Text → Type 0
  Passes how values = (how ≡ reading_by a) × (values_fault a values ≡ []) × (0 < length values)

  abbrev IsGood : Row → Type 0
  IsGood r = bytes_eq r.id a.id ≡ true → Passes r.reading r.values

  abbrev AreGood : List Row → Type 0
  AreGood = AllByRecursion IsGood

  at_row-good : (id : Text) (change : Row → List Row) (missing rows : List Row)
      → ((r : Row) → bytes_eq r.id id ≡ true → IsGood r → AreGood (change r)) → AreGood missing → AreGood rows → AreGood (at_row id change missing rows)
  at_row-good id change missing [] ch m g = m
  at_row-good id change missing (r ∷ rs) ch m g = go (bytes_eq r.id id) refl (at_row-good id change missing rs ch m g.1)
    where
      go : (b : Bool) → bytes_eq r.id id ≡ b → AreGood (at_row id change missing rs) → AreGood (cond b (change r ++ rs) (r ∷ at_row id change missing rs))
      go true e rest = all_append IsGood (change r) rs (ch r e g.0) g.1
      go false e rest = (g.0, rest)

  without-good : (id : Text) (rows : List Row) → AreGood rows → AreGood (without id rows)
  without-good id rows g = at_row-good id (λ _. []) [] rows (λ r e h. tt) tt g

  with_values-good : (id : Text) (how : Reading) (s : ValueSource) (values : List Text) (rows : List Row)
      → (bytes_eq id a.id ≡ true → Passes how values) → AreGood rows → AreGood (with_values id how s values rows)
  with_values-good id how s values rows passes g =
      at_row-good id (more_values s values) _ rows more (passes, tt) g
    where
      more : (r : Row) → bytes_eq r.id id ≡ true → IsGood r → AreGood (more_values s values r)
      more r e h =
          let good : bytes_eq r.id a.id ≡ true → Passes r.reading (r.values ++ values) = λ own.
          let new = passes (subst (λ (t : Text). bytes_eq t a.id ≡ true) ((bytes_eq-Decides r.id id).0 e) own) in
          let old = h own in
          (old.0, values_kinds-append a.ignore_case (parser_of_value a.parser) r.values values old.1 new.1, omega (arith, length-append r.values values)) in
          (good, tt)

  with_count-good : (id : Text) (how : Reading) (s : ValueSource) (n : ℕ) (rows : List Row)
      → (bytes_eq id a.id ≡ true → ⊥) → AreGood rows → AreGood (with_count id how s n rows)
  with_count-good id how s n rows other g =
      at_row-good id (new_count s n) _ rows more ((λ own. absurd (other own)), tt) g
    where
      more : (r : Row) → bytes_eq r.id id ≡ true → IsGood r → AreGood (new_count s n r)
      more r e h = ((λ own. absurd (other (subst (λ (t : Text). bytes_eq t a.id ≡ true) ((bytes_eq-Decides r.id id).0 e) own))), tt)

  used_as-good : (x : ArgAction) (id : Text) (how : Reading) (values : List Text) (rows : List Row)
      → (bytes_eq id a.id ≡ true → (x ≡ action.Set) × Passes how values) → AreGood rows → AreGood (used_as x id how values rows)
  used_as-good action.Set id how values rows h g = with_values-good id how CommandLine values _ (λ own. (h own).1) (without-good id rows g)
  used_as-good action.SetTrue id how values rows h g = with_values-good id how CommandLine values _ (λ own. (h own).1) (without-good id rows g)
  used_as-good action.SetFalse id how values rows h g = with_values-good id how CommandLine values _ (λ own. (h own).1) (without-good id rows g)
  used_as-good action.Append id how values rows h g = with_values-good id how CommandLine values rows (λ own. (h own).1) g
  used_as-good action.Count id how [] rows h g =
      with_count-good id how CommandLine (min (count_of id rows + 1) 255) _ (λ own. let bad = (h own).0 in cc) (without-good id rows g)
  used_as-good action.Count id how (v ∷ vs) rows h g = with_values-good id how CommandLine (v ∷ vs) _ (λ own. (h own).1) (without-good id rows g)
  used_as-good action.Help id how values rows h g = g
  used_as-good action.HelpShort id how values rows h g = g
  used_as-good action.HelpLong id how values rows h g = g
  used_as-good action.Version id how values rows h g = g

  own_use : (again : Bool) (values : List Text) (rows : List Row) → use_fault again a values rows ≡ []
      → (values_fault a (values_or_missing a values) ≡ []) × (0 < length (values_or_missing a values))
  own_use again values rows e =
      let parts = no_fault _ _ e in
      let fault : action_fault action.Set again a (values_or_missing a values) rows ≡ [] =
      subst (λ (x : ArgAction). action_fault x again a (values_or_missing a values) rows ≡ []) sets.set parts.1 in
      ((no_fault _ _ fault).1, given values (some_values _ _ values sets.least parts.0))
    where
      given : (vs : List Text) → 0 < length vs → 0 < length (values_or_missing a vs)
      given [] lt = absurd (omega arith)
      given (v ∷ vs) lt = lt

  used-good : (again : Bool) (b : Rule) (values : List Text) (rows : List Row) → Is b → use_fault again b values rows ≡ [] → AreGood rows → AreGood (used b values rows)
  used-good again b values rows is e g = used_as-good (action_of b) b.id (reading_by b) (values_or_missing b values) rows (λ own. own_rule b (is own) e) g
    where
      own_rule : (b : Rule) → b ≡ a → use_fault again b values rows ≡ [] → (action_of b ≡ action.Set) × Passes (reading_by b) (values_or_missing b values)
      own_rule b same e =
          let P : Rule → Type 0 = λ x. use_fault again x values rows ≡ [] → (action_of x ≡ action.Set) × Passes (reading_by x) (values_or_missing x values) in
          subst P (sym same) (λ f. let u = own_use again values rows f in (sets.set, (refl, u.0, u.1))) e

  -- ---- one level of the words, of rules that have no other argument of this id

  module _ (s : Shape) (only : IsOnly a s.rules) where
    abbrev c : List Rule
    c = s.rules

    abbrev again : Bool
    again = s.args_override_self

    found : (p : Rule → Bool) → IfSome (find p c) Is
    found p = all_found Is p c only

    by_id-good : (o : Option Rule) → IfSome o Is → (values : List Text) (rows : List Row) → AreGood rows
        → option_map_or (λ (b : Rule). use_fault again b values rows) o [] ≡ [] → AreGood (used_by_id o values rows)
    by_id-good None is values rows g e = g
    by_id-good (Some b) is values rows g e = used-good again b values rows is e g

    settle-good : (p : Option (Text × List Text)) (rows : List Row) → AreGood rows
        → option_map_or (λ (p : Text × List Text). option_map_or (λ (b : Rule). use_fault again b p.1 rows) (arg_by_id c p.0) []) p [] ≡ []
        → AreGood (settled_rows c p rows)
    settle-good None rows g e = g
    settle-good (Some p) rows g e = by_id-good (arg_by_id c p.0) (found _) p.1 rows g e

    settled-good : (h : Held) → AreGood h.rows → settle_fault c again h ≡ [] → AreGood (settled c h).rows
    settled-good h g e = settle-good h.pending h.rows g e

    reacted-good : (b : Rule) → Is b → (values : List Text) (h : Held) → AreGood h.rows → react_fault c again b values h ≡ [] → AreGood (reacted c b values h).rows
    reacted-good b is values h g e =
        let parts = no_fault (settle_fault c again h) _ e in
        used-good again b values (settled c h).rows is parts.1 (settled-good h g parts.0)

    option_met-good : (b : Rule) → Is b → (v : Option Text) (h : Held) → AreGood h.rows → option_fault c again b v h ≡ [] → AreGood (option_met c b v h).0.rows
    option_met-good b is (Some v) h g e = reacted-good b is (v ∷ []) h g e
    option_met-good b is None h g e = settled-good h g e

    long_met-good : (o : Option Rule) → IfSome o Is → (v : Option Text) (h : Held) → AreGood h.rows → long_fault c again o v h ≡ [] → AreGood (long_met c o v h).0.rows
    long_met-good None is v h g e = g
    long_met-good (Some b) is v h g e = go (takes_values b) v e
      where
        go : (t : Bool) (v : Option Text)
            → cond t (option_fault c again b v h) (cond (is_some v) (kind.TooManyValues ∷ []) (react_fault c again b [] h)) ≡ []
            → AreGood (cond t (option_met c b v h) (flag_met c b v h)).0.rows
        go true v e = option_met-good b is v h g e
        go false (Some v) e = g
        go false None e = reacted-good b is [] h g e

    short_met-good : (o : Option Rule) → IfSome o Is → (rest : Text) (h : Held) (after : Held → Held × Outcome) (faults : Held → Kinds)
        → ((x : Held) → AreGood x.rows → faults x ≡ [] → AreGood (after x).0.rows) → AreGood h.rows → short_fault c again o rest h faults ≡ []
        → AreGood (short_met c o rest h after).0.rows
    short_met-good None is rest h after faults step g e = g
    short_met-good (Some b) is rest h after faults step g e = go (takes_values b) e
      where
        go : (t : Bool) → cond t (option_fault c again b (attached_value rest) h) (or_else (react_fault c again b [] h) (faults (reacted c b [] h))) ≡ []
            → AreGood (cond t (option_met c b (attached_value rest) h) (after (reacted c b [] h))).0.rows
        go true e = option_met-good b is (attached_value rest) h g e
        go false e =
            let parts = no_fault (react_fault c again b [] h) _ e in
            step (reacted c b [] h) (reacted-good b is [] h g parts.0) parts.1

    bundle-good : (k : ℕ) (flags : Text) (skip : ℕ) (so_far : Outcome) (h : Held) → AreGood h.rows → flags_fault c again k flags skip h ≡ []
        → AreGood (bundle_met c k flags skip so_far h).0.rows
    unfolding bundle_met flags_fault
    bundle-good zero flags skip so_far h g e = g
    bundle-good (suc k) flags skip so_far h g e = go (slice_get (chars flags) 0) skip e (λ rest less so x y z. bundle-good k rest less so x y z)
      where
        go : (o : Option ℕ) (skip : ℕ) → bundle_step_fault c again o flags skip h (flags_fault c again k) ≡ []
            → ((rest : Text) (less : ℕ) (so : Outcome) (x : Held) → AreGood x.rows → flags_fault c again k rest less x ≡ [] → AreGood (bundle_met c k rest less so x).0.rows)
            → AreGood (bundle_step c o flags skip so_far h (bundle_met c k)).0.rows
        go None skip e rec = g
        go (Some x) zero e rec =
            let rest = drop (length (encode_utf8 x)) flags in
            short_met-good (arg_by_short c x) (found _) rest h (bundle_met c k rest 0 done) (flags_fault c again k rest 0) (rec rest 0 done) g e
        go (Some x) (suc skip) e rec = rec (drop (length (encode_utf8 x)) flags) skip so_far h g e

    option_word-good : (o : Option Rule) (id word : Text) (h : Held) → AreGood h.rows → AreGood (option_word o id word h).0.rows
    option_word-good None id word h g = g
    option_word-good (Some b) id word h g = g

    plain-good : (waiting : Waiting) (word : Text) (h : Held) → AreGood h.rows → AreGood (plain_word c waiting word h).0.rows
    plain-good idle word h g = g
    plain-good (option id) word h g = option_word-good (arg_by_id c id) id word h g
    plain-good positional word h g = g

    after-good : (waiting : Waiting) (word : Text) (h : Held) (o : Outcome) → AreGood h.rows → AreGood (after_flag c waiting word h o).0.rows
    after-good waiting word h done g = g
    after-good waiting word h (waits id) g = g
    after-good waiting word h plain g = plain-good waiting word h g
    after-good waiting word h refused g = plain-good waiting word h g

    short-good : (o : Option Text) (waiting : Waiting) (word : Text) (h : Held) → AreGood h.rows
        → option_map_or (λ (flags : Text). flags_fault c again (length flags) flags h.skip (record h { skip = 0 })) o [] ≡ []
        → AreGood (short_or_plain c waiting word o h).0.rows
    short-good None waiting word h g e = plain-good waiting word h g
    short-good (Some flags) waiting word h g e =
        after-good waiting word _ _ (bundle-good (length flags) flags h.skip plain (record h { skip = 0 }) g e)

    flag-good : (o : Option (Text × Option Text)) (waiting : Waiting) (word : Text) (h : Held) → AreGood h.rows → flag_word_fault c again o word h ≡ []
        → AreGood (long_or_other c waiting word o h).0.rows
    flag-good (Some p) waiting word h g e = after-good waiting word _ _ (long_met-good (arg_by_long c p.0) (found _) p.1 h g e)
    flag-good None waiting word h g e = short-good (short_of word) waiting word h g e

    other-good : (o : Option Text) (waiting : Waiting) (position : ℕ) (word : Text) (h : Held) → AreGood h.rows → other_fault s o word h ≡ []
        → AreGood (subcommand_or_other c o waiting position word h).0.rows
    other-good (Some name) waiting position word h g e = g
    other-good None waiting position word h g e = go (bytes_eq word (45 ∷ 45 ∷ [])) e
      where
        go : (t : Bool) → cond t [] (flag_word_fault c again (long_of word) word h) ≡ []
            → AreGood (cond t (h, trailing position) (long_or_other c waiting word (long_of word) h)).0.rows
        go true e = g
        go false e = flag-good (long_of word) waiting word h g e

    word-good : (names : Names) (t : Bool) (waiting : Waiting) (position : ℕ) (word : Text) (h : Held) → AreGood h.rows
        → word_fault s names t waiting word h ≡ [] → AreGood (word_met c names t waiting position word h).0.rows
    word-good names true waiting position word h g e = g
    word-good names false waiting position word h g e = other-good (subcommand_met names waiting word) waiting position word h g e

    held-good : (b : Rule) (t : Bool) (h : Held) → AreGood h.rows → cond t [] (settle_fault c again h) ≡ [] → AreGood (cond t h (settled c h)).rows
    held-good b true h g e = g
    held-good b false h g e = settled-good h g e

    positional-good : (o : Option Rule) (word : Text) (w : Walk) (h : Held) → AreGood h.rows
        → option_map_or (λ (b : Rule). positional_fault c again b h) o (stray_fault s) ≡ [] → AreGood (to_positional c o word w h).held.rows
    positional-good None word w h g e = g
    positional-good (Some b) word w h g e = held-good b (is_pending b h.pending && takes_several b) h g e

    step-good : (t : Step) (word : Text) (w : Walk) (h : Held) → AreGood h.rows → step_fault s w.position h t ≡ [] → AreGood (after_step c word w h t).held.rows
    step-good (next waiting) word w h g e = g
    step-good (trailing position) word w h g e = g
    step-good (subcommand name) word w h g e = g
    step-good value word w h g e = positional-good (arg_by_index c w.position) word w h g e

    turn-good : (names : Names) (w : Walk) (word : Text) → AreGood w.held.rows → turn_fault s names w word ≡ [] → AreGood (walked c names w word).held.rows
    unfolding walked
    turn-good names w word g e = go w.stopped e
      where
        go : (o : Option (Text × List Text))
            → cond (is_some o) [] (or_else (word_fault s names w.is_trailing w.waiting word w.held)
            (step_fault s w.position (word_met c names w.is_trailing w.waiting w.position word w.held).0 (word_met c names w.is_trailing w.waiting w.position word w.held).1)) ≡ []
            → AreGood (walked_from c names o w word).held.rows
        go (Some p) e = g
        go None e =
            let parts = no_fault (word_fault s names w.is_trailing w.waiting word w.held) _ e in
            step-good _ word w _ (word-good names w.is_trailing w.waiting w.position word w.held g parts.0) parts.1

    walk-good : (names : Names) (w : Walk) (words : List Text) → AreGood w.held.rows → walk_fault s names w words ≡ []
        → AreGood (fold (walked c names) w words).held.rows
    unfolding walk_fault
    walk-good names w [] g e = g
    walk-good names w (word ∷ rest) g e =
        let parts = no_fault (turn_fault s names w word) _ e in
        walk-good names (walked c names w word) rest (turn-good names w word g parts.0) parts.1

    default-good : (b : Rule) → Is b → (rows : List Row) → AreGood rows → AreGood (with_default rows b)
    default-good b is rows g = go (has_row b.id rows) b.defaults refl
      where
        go : (t : Bool) (values : List Text) → b.defaults ≡ values → AreGood (cond t rows (default_rows b.id (reading_by b) values rows))
        go true values e = g
        go false [] e = g
        go false (v ∷ vs) e = with_values-good b.id (reading_by b) DefaultValue (v ∷ vs) rows
            (λ own. let bad : [] ≡ v ∷ vs = sym sets.defaults ∙ (ap (λ (x : Rule). x.defaults) (sym (is own)) ∙ e) in cc) g

    defaults-good : (xs : List Rule) → AllByRecursion Is xs → (rows : List Row) → AreGood rows → AreGood (fold with_default rows xs)
    defaults-good [] is rows g = g
    defaults-good (b ∷ xs) is rows g = defaults-good xs is.1 (with_default rows b) (default-good b is.0 rows g)

    -- the argument's first value, as text and as it is read
    abbrev HasValue : List Row → Type 0
    HasValue rows = (t : Text) × (first_of a.id rows ≡ Some t) × (one_of a.id rows ≡ Some (read_as (reading_by a) t))
        × (accepts a.ignore_case (parser_of_value a.parser) t ≡ true)

    first_good : (rows : List Row) → AreGood rows → IfSome (find (λ r. bytes_eq r.id a.id) rows) (λ r. Passes r.reading r.values)
    first_good [] g = tt
    first_good (r ∷ rs) g = go (bytes_eq r.id a.id) refl (first_good rs g.1)
      where
        go : (t : Bool) → bytes_eq r.id a.id ≡ t → IfSome (find (λ r. bytes_eq r.id a.id) rs) (λ r. Passes r.reading r.values)
            → IfSome (cond t (Some r) (find (λ r. bytes_eq r.id a.id) rs)) (λ r. Passes r.reading r.values)
        go true e rest = g.0 e
        go false e rest = rest

    -- the same of one row
    abbrev HasFirst : Option Row → Type 0
    HasFirst o = (t : Text) × (option_and_then (λ (r : Row). slice_get r.values 0) o ≡ Some t) × (option_and_then row_text o ≡ Some (read_as (reading_by a) t))
        × (accepts a.ignore_case (parser_of_value a.parser) t ≡ true)

    first_of_row : (r : Row) → Passes r.reading r.values → HasFirst (Some r)
    first_of_row r passes = go r.values refl passes.1 passes.2
      where
        go : (vs : List Text) → r.values ≡ vs → values_fault a vs ≡ [] → 0 < length vs
            → (t : Text) × (slice_get r.values 0 ≡ Some t) × (row_text r ≡ Some (read_as (reading_by a) t)) × (accepts a.ignore_case (parser_of_value a.parser) t ≡ true)
        go [] is fault lt = absurd (omega arith)
        go (v ∷ vs) is fault lt = (
          v,
          ap (λ (l : List Text). slice_get l 0) is,
          ap₂ (λ (l : List Text) (how : Reading). option_map (read_as how) (slice_get l 0)) is passes.0,
          accepted a.ignore_case (parser_of_value a.parser) v (no_fault _ _ fault).0,
        )

    value_of_row : (o : Option Row) → IfSome o (λ r. Passes r.reading r.values) → option_map_or (λ (r : Row). explicit_source r.source) o false ≡ true → HasFirst o
    value_of_row None passes there = absurd (true≢false (sym there))
    value_of_row (Some r) passes there = first_of_row r passes

    value_if_row : (o : Option Row) → IfSome o (λ r. Passes r.reading r.values) → (option_and_then row_text o ≡ None) ⊎ HasFirst o
    value_if_row None passes = inl refl
    value_if_row (Some r) passes = inr (first_of_row r passes)

    missing : (rows : List Row) → a.required ≡ true → In a c → list_any (λ (b : Rule). b.required && not (is_given b.id rows)) c ≡ false → is_given a.id rows ≡ true
    missing rows required there e = go a.required (is_given a.id rows) required (none_in (λ (b : Rule). b.required && not (is_given b.id rows)) a c there e)
      where
        go : (x y : Bool) → x ≡ true → (x && not y) ≡ false → y ≡ true
        go true true r e = refl
        go true false r e = absurd (true≢false e)
        go false y r e = absurd (true≢false (sym r))

    -- the level's fault is none: each row of the argument passes
    rows_good : (words : List Text) → level_fault s [] nothing_held words false [] ≡ [] → AreGood (rows_after c [] words)
    rows_good words e =
        let end = (walk c [] nothing_held words).held in
        let walked_fine = no_fault (walk_fault s [] (walk_from nothing_held) words) _ e in
        let settled_fine = no_fault (settle_fault c again end) _ walked_fine.1 in
        defaults-good c only _ (settled-good end (walk-good [] (walk_from nothing_held) words tt walked_fine.0) settled_fine.0)

    -- so it has a value, if it has any
    pub value_if_given : (words : List Text) → level_fault s [] nothing_held words false [] ≡ [] → (one_of a.id (rows_after c [] words) ≡ None) ⊎ HasValue (rows_after c [] words)
    value_if_given words e =
        let rows = rows_after c [] words in
        value_if_row (find (λ r. bytes_eq r.id a.id) rows) (first_good rows (rows_good words e))

    -- and it has one, if it is required
    pub value_given : (words : List Text) → a.required ≡ true → In a c → s.subcommand_negates_reqs ≡ false → level_fault s [] nothing_held words false [] ≡ []
        → HasValue (rows_after c [] words)
    value_given words required there negates e =
        let end = (walk c [] nothing_held words).held in
        let walked_fine = no_fault (walk_fault s [] (walk_from nothing_held) words) _ e in
        let settled_fine = no_fault (settle_fault c again end) _ walked_fine.1 in
        let defaults_fine = no_fault (defaults_fault (settled c end).rows c) _ settled_fine.1 in
        let wanted = (none_wanted _ _ _ defaults_fine.1).1 in
        let rows = rows_after c [] words in
        let all_there : list_any (λ (b : Rule). b.required && not (is_given b.id rows)) c ≡ false = rw negates at wanted in
        value_of_row (find (λ r. bytes_eq r.id a.id) rows) (first_good rows (rows_good words e)) (missing rows required there all_there)
