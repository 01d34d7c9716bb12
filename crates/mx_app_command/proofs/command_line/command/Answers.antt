use Rattle.std.proofs.Common.{◌≡◌, ◌∙◌, ◌&&◌, if◌then◌else◌, Bool, true, false, [], ap, ap₂, codes, map, subst, sym, List, refl, Result, Ok, Err, IfErr}
use Rattle.std.specs.Prelude.{IsErrAnd, is_none, None, Option, Some, option_map, unwrap_or}
use Rattle.clap.specs.Words.{Row, Text, fault_of, found_of, kind_of, rows_of, subcommand_name_of, subcommand_of, subcommand_rows_of, takes}
use Rattle.clap.specs.declared.error.Error.{Error}
use Rattle.clap.specs.declared.error.kind.ErrorKind.TheVariants.{OutOfMemory}
use Rattle.clap.specs.declared.parser.matches.ArgMatches.{ArgMatches}
use Rattle.clap.specs.declared.parser.matches.ArgMatches.TheViews.{out-ArgMatches}
use Rattle.mx_app_command.specs.declared.command_line.Mistake.{Mistake}
use Rattle.mx_app_command.specs.declared.command_line.Mistake.TheVariants.{Grammar, TicksAndEvents, LiveWithCourse, NotLive, NoFault, NoPart}
use Rattle.mx_app_command.specs.Mistakes.{IsMistake, IsOutOfMemory, has_both, has_course, lacks_fault, lacks_live, lacks_part, mistake_given, mistake_in}
use Rattle.mx_app_command.specs.Words.{Asks, AsksBy, AsksForForce, AsksForSilence, AsksForSums, AsksToBeStrict, AsksToExplain, IsAsked, IsFlag, MayHaveText, is_on, mx_grammar, sums_asked}
use Rattle.mx_app_command.proofs.AskedWords.{words_asked}
use Rattle.mx_app_command.proofs.command_line.command.Goals as goal

-- an error that the grammar gives is want of memory, if the grammar takes the words
passes_on : {A : Type 0} (r : Result A Mistake) (e : Error) (taken fine : Bool) → IsErrAnd r (λ m. m ≡ Grammar e) → (taken ≡ true → kind_of e ≡ OutOfMemory) → IfErr r (λ m. (taken && fine) ≡ true → IsOutOfMemory m)
passes_on (Ok x) e taken fine is out = absurd is
passes_on (Err m) e taken fine is out = λ h. subst IsOutOfMemory (sym is) (out (left taken fine h))
  where
    left : (a b : Bool) → (a && b) ≡ true → a ≡ true
    left true b h = refl
    left false b h = h

pub returns-in_err-matches-clause-passes : goal.returns-in_err-matches-clause-passes
returns-in_err-matches-clause-passes c =
    let words : List Text = map (λ s. s.now) c.args.words.now in
    passes_on c.from_residual.result c.in_err-matches.field-0.0 (takes mx_grammar words) (is_none (mistake_given (subcommand_of mx_grammar words))) c.from_residual.ensures.1 c.in_err-matches.ensures.passes

-- words that exclude each other aren't taken
not_passed : (a : Bool) (o : Option Mistake) (m : Mistake) → o ≡ Some m → (a && is_none o) ≡ true → IsOutOfMemory m
not_passed a o m is h = absurd (never a (subst (λ (x : Option Mistake). (a && is_none x) ≡ true) is h))
  where
    never : (a : Bool) → (a && false) ≡ true → ⊥
    never true e = let z : false ≡ true = e in cc
    never false e = let z : false ≡ true = e in cc

-- they are no mistake of the grammar's
not_grammar : (o : Option (Text × List Row)) (e : Error) → mistake_given o ≡ Some (Grammar e) → ⊥
not_grammar None e h = absurd cc
not_grammar (Some found) e h = by (has_both found.0 found.1) (has_course found.0 found.1) (lacks_live found.0 found.1) (lacks_fault found.0 found.1) (lacks_part found.0 found.1) h
  where
    by : (a b c d f : Bool) → (if a then Some TicksAndEvents else if b then Some LiveWithCourse else if c then Some NotLive else if d then Some NoFault else if f then Some NoPart else None) ≡ Some (Grammar e) → ⊥
    by true b c d f h = absurd cc
    by false true c d f h = absurd cc
    by false false true d f h = absurd cc
    by false false false true f h = absurd cc
    by false false false false true h = absurd cc
    by false false false false false h = absurd cc

mistaken : (words : List Text) (m : Mistake) → fault_of mx_grammar words ≡ [] → mistake_given (subcommand_of mx_grammar words) ≡ Some m → IsMistake words m
mistaken words (Grammar e) fine is = absurd (not_grammar (subcommand_of mx_grammar words) e is)
mistaken words TicksAndEvents fine is = (fine, is)
mistaken words LiveWithCourse fine is = (fine, is)
mistaken words NotLive fine is = (fine, is)
mistaken words NoFault fine is = (fine, is)
mistaken words NoPart fine is = (fine, is)

firsts : {X A B : Type 0} (f : X → A) (g : X → B) (o : Option X) → option_map f o ≡ option_map (λ (q : A × B). q.0) (option_map (λ x. (f x, g x)) o)
firsts f g None = refl
firsts f g (Some x) = refl

-- the name of the subcommand comes with its rows
name_of_rows : (m : ArgMatches) (p : Text × List Row) → subcommand_rows_of m ≡ Some p → subcommand_name_of m ≡ Some p.0
name_of_rows m p e = firsts _ _ (out-ArgMatches m).subcommand ∙ ap (option_map (λ (q : Text × List Row). q.0)) e

-- a name and rows that a parse found are those that the words name
module _ (m : ArgMatches) (p : Text × List Row) (entered : subcommand_rows_of m ≡ Some p) (name : Text) (rows : List Row)
    (named : Some name ≡ subcommand_name_of m) (rowed : Some rows ≡ option_map (λ (q : Text × List Row). q.1) (subcommand_rows_of m)) where
  name_is : name ≡ p.0
  name_is = ap (λ (o : Option Text). unwrap_or o p.0) (named ∙ name_of_rows m p entered)

  rows_is : rows ≡ p.1
  rows_is = ap (λ (o : Option (List Row)). unwrap_or o p.1) (rowed ∙ ap (option_map (λ (q : Text × List Row). q.1)) entered)

pub request_of-requires : goal.request_of-requires
request_of-requires c =
    let words : List Text = map (λ s. s.now) c.args.words.now in
    let asked = words_asked words c.in_ok-matches.ensures.kinds in
    let entered : subcommand_rows_of c.in_ok-matches.matches ≡ Some (asked.0, asked.1) = (c.in_ok-matches.ensures.matches refl).1 ∙ asked.2 in
    let rows = rows_of (found_of c.in-Some.found.now) in
    let name_same = name_is c.in_ok-matches.matches (asked.0, asked.1) entered c.in-Some.name.now rows c.in-Some.ensures.name c.in-Some.ensures.rows in
    let rows_same = rows_is c.in_ok-matches.matches (asked.0, asked.1) entered c.in-Some.name.now rows c.in-Some.ensures.name c.in-Some.ensures.rows in
    subst (λ (n : Text). IsAsked n rows) (sym name_same) (subst (λ (r : List Row). IsAsked asked.0 r) (sym rows_same) asked.3)

pub returns-clause-asks : goal.returns-clause-asks
returns-clause-asks c =
    let words : List Text = map (λ s. s.now) c.args.words.now in
    let asked = words_asked words c.in_ok-matches.ensures.kinds in
    let entered : subcommand_rows_of c.in_ok-matches.matches ≡ Some (asked.0, asked.1) = (c.in_ok-matches.ensures.matches refl).1 ∙ asked.2 in
    let rows = rows_of (found_of c.in-Some.found.now) in
    let name_same = name_is c.in_ok-matches.matches (asked.0, asked.1) entered c.in-Some.name.now rows c.in-Some.ensures.name c.in-Some.ensures.rows in
    let rows_same = rows_is c.in_ok-matches.matches (asked.0, asked.1) entered c.in-Some.name.now rows c.in-Some.ensures.name c.in-Some.ensures.rows in
    let by : AsksBy c.request_of.result asked.0 asked.1 =
    subst (λ (r : List Row). AsksBy c.request_of.result asked.0 r) rows_same (subst (λ (n : Text). AsksBy c.request_of.result n rows) name_same c.request_of.ensures) in
    subst (Asks c.request_of.result) (sym asked.2) by

pub unreachable-requires : goal.unreachable-requires
unreachable-requires c =
    let words : List Text = map (λ s. s.now) c.args.words.now in
    let asked = words_asked words c.in_ok-matches.ensures.kinds in
    let entered : subcommand_rows_of c.in_ok-matches.matches ≡ Some (asked.0, asked.1) = (c.in_ok-matches.ensures.matches refl).1 ∙ asked.2 in
    let met : None ≡ Some asked.1 = c.in-None.ensures.rows ∙ ap (option_map (λ (q : Text × List Row). q.1)) entered in
    cc

pub returns-clause-explains : goal.returns-clause-explains
returns-clause-explains c =
    let words : List Text = map (λ s. s.now) c.args.words.now in
    let asked = words_asked words c.in_ok-matches.ensures.kinds in
    let entered : subcommand_rows_of c.in_ok-matches.matches ≡ Some (asked.0, asked.1) = (c.in_ok-matches.ensures.matches refl).1 ∙ asked.2 in
    let rows = rows_of (found_of c.in-Some.found.now) in
    let rows_same = rows_is c.in_ok-matches.matches (asked.0, asked.1) entered c.in-Some.name.now rows c.in-Some.ensures.name c.in-Some.ensures.rows in
    let by : IsFlag (codes "explain") asked.1 c.flag_asked.result = subst (λ (r : List Row). IsFlag (codes "explain") r c.flag_asked.result) rows_same c.flag_asked.ensures in
    subst (AsksToExplain c.flag_asked.result) (sym asked.2) by

pub returns-clause-silent : goal.returns-clause-silent
returns-clause-silent c =
    let words : List Text = map (λ s. s.now) c.args.words.now in
    let asked = words_asked words c.in_ok-matches.ensures.kinds in
    let entered : subcommand_rows_of c.in_ok-matches.matches ≡ Some (asked.0, asked.1) = (c.in_ok-matches.ensures.matches refl).1 ∙ asked.2 in
    let rows = rows_of (found_of c.in-Some.found.now) in
    let rows_same = rows_is c.in_ok-matches.matches (asked.0, asked.1) entered c.in-Some.name.now rows c.in-Some.ensures.name c.in-Some.ensures.rows in
    let by : IsFlag (codes "no-explain") asked.1 c.flag_asked-in-Some.result = subst (λ (r : List Row). IsFlag (codes "no-explain") r c.flag_asked-in-Some.result) rows_same c.flag_asked-in-Some.ensures in
    subst (AsksForSilence c.flag_asked-in-Some.result) (sym asked.2) by

pub returns-clause-sums : goal.returns-clause-sums
returns-clause-sums c =
    let words : List Text = map (λ s. s.now) c.args.words.now in
    let asked = words_asked words c.in_ok-matches.ensures.kinds in
    let entered : subcommand_rows_of c.in_ok-matches.matches ≡ Some (asked.0, asked.1) = (c.in_ok-matches.ensures.matches refl).1 ∙ asked.2 in
    let rows = rows_of (found_of c.in-Some.found.now) in
    let rows_same = rows_is c.in_ok-matches.matches (asked.0, asked.1) entered c.in-Some.name.now rows c.in-Some.ensures.name c.in-Some.ensures.rows in
    let sums : Option Text = option_map (λ s. s.now) c.sums_asked.result in
    let by : sums ≡ sums_asked asked.1 = subst (λ (r : List Row). sums ≡ sums_asked r) rows_same c.sums_asked.ensures in
    subst (AsksForSums sums) (sym asked.2) by

pub returns-clause-force : goal.returns-clause-force
returns-clause-force c =
    let words : List Text = map (λ s. s.now) c.args.words.now in
    let asked = words_asked words c.in_ok-matches.ensures.kinds in
    let entered : subcommand_rows_of c.in_ok-matches.matches ≡ Some (asked.0, asked.1) = (c.in_ok-matches.ensures.matches refl).1 ∙ asked.2 in
    let rows = rows_of (found_of c.in-Some.found.now) in
    let rows_same = rows_is c.in_ok-matches.matches (asked.0, asked.1) entered c.in-Some.name.now rows c.in-Some.ensures.name c.in-Some.ensures.rows in
    let by : c.is_on.result ≡ is_on (codes "force") asked.1 = subst (λ (r : List Row). c.is_on.result ≡ is_on (codes "force") r) rows_same c.is_on.ensures in
    subst (AsksForForce c.is_on.result) (sym asked.2) by

pub returns-clause-strict : goal.returns-clause-strict
returns-clause-strict c =
    let words : List Text = map (λ s. s.now) c.args.words.now in
    let asked = words_asked words c.in_ok-matches.ensures.kinds in
    let entered : subcommand_rows_of c.in_ok-matches.matches ≡ Some (asked.0, asked.1) = (c.in_ok-matches.ensures.matches refl).1 ∙ asked.2 in
    let rows = rows_of (found_of c.in-Some.found.now) in
    let rows_same = rows_is c.in_ok-matches.matches (asked.0, asked.1) entered c.in-Some.name.now rows c.in-Some.ensures.name c.in-Some.ensures.rows in
    let by : c.is_on-in-Some.result ≡ is_on (codes "strict") asked.1 = subst (λ (r : List Row). c.is_on-in-Some.result ≡ is_on (codes "strict") r) rows_same c.is_on-in-Some.ensures in
    subst (AsksToBeStrict c.is_on-in-Some.result) (sym asked.2) by

pub returns-in-Some-mistake_of-clause-passes : goal.returns-in-Some-mistake_of-clause-passes
returns-in-Some-mistake_of-clause-passes c =
    let words : List Text = map (λ s. s.now) c.args.words.now in
    let asked = words_asked words c.in_ok-matches.ensures.kinds in
    let entered : subcommand_rows_of c.in_ok-matches.matches ≡ Some (asked.0, asked.1) = (c.in_ok-matches.ensures.matches refl).1 ∙ asked.2 in
    let rows = rows_of (found_of c.in-Some.found.now) in
    let name_same = name_is c.in_ok-matches.matches (asked.0, asked.1) entered c.in-Some.name.now rows c.in-Some.ensures.name c.in-Some.ensures.rows in
    let rows_same = rows_is c.in_ok-matches.matches (asked.0, asked.1) entered c.in-Some.name.now rows c.in-Some.ensures.name c.in-Some.ensures.rows in
    let given : mistake_given (subcommand_of mx_grammar words) ≡ Some c.in-Some-mistake_of.mistake =
    ap mistake_given asked.2 ∙ sym (ap₂ mistake_in name_same rows_same) ∙ sym c.mistake_of.ensures ∙ c.in-Some-mistake_of.is in
    not_passed (takes mx_grammar words) (mistake_given (subcommand_of mx_grammar words)) c.in-Some-mistake_of.mistake given

pub returns-in-Some-mistake_of-clause-kinds : goal.returns-in-Some-mistake_of-clause-kinds
returns-in-Some-mistake_of-clause-kinds c =
    let words : List Text = map (λ s. s.now) c.args.words.now in
    let asked = words_asked words c.in_ok-matches.ensures.kinds in
    let entered : subcommand_rows_of c.in_ok-matches.matches ≡ Some (asked.0, asked.1) = (c.in_ok-matches.ensures.matches refl).1 ∙ asked.2 in
    let rows = rows_of (found_of c.in-Some.found.now) in
    let name_same = name_is c.in_ok-matches.matches (asked.0, asked.1) entered c.in-Some.name.now rows c.in-Some.ensures.name c.in-Some.ensures.rows in
    let rows_same = rows_is c.in_ok-matches.matches (asked.0, asked.1) entered c.in-Some.name.now rows c.in-Some.ensures.name c.in-Some.ensures.rows in
    let given : mistake_given (subcommand_of mx_grammar words) ≡ Some c.in-Some-mistake_of.mistake =
    ap mistake_given asked.2 ∙ sym (ap₂ mistake_in name_same rows_same) ∙ sym c.mistake_of.ensures ∙ c.in-Some-mistake_of.is in
    mistaken words c.in-Some-mistake_of.mistake c.in_ok-matches.ensures.kinds given
