-- A text whose lines are read, and whether its last line is ended.
use Rattle.std.proofs.Common.{◌≡◌, ℕ, ◌+◌, true, false, inl, inr, List, ◌∷◌, length, Result, Ok, Err, IfOk, IfErr, refl, ap, arith}
use Rattle.mx_text.specs.Lines.{lines}
use Rattle.mx_text.specs.declared.error.BootError.{BootError}
use Rattle.mx_text.specs.declared.error.BootError.TheVariants.{BadLine, TwiceNamed, TooMany, BadRecord, NoMemory}
use Rattle.mx_machine.specs.declared.history.Record.{Record}
use Rattle.mx_boot.specs.Reading.{AreLinesRead}
use Rattle.mx_machine.specs.Rules.{Rules}
use Rattle.mx_boot.specs.Log.{record_line, record_lines, rules_of_lines, is_ended, IsHistory, IsHistoryFault, TellsNoRecords, TellsHistoryFault}

pub one_more : (line : List ℕ) (left below : List (List ℕ)) (all n : ℕ) → left ≡ line ∷ below → all ≡ n + length left → all ≡ (n + 1) + length below
one_more line left below all n next e =
    let longer : length left ≡ length (line ∷ below) = ap length next in
    omega (arith, longer, e)

-- ---- where it is ended

pub read_ended : {X : Type 0} (by : X → Rules) (items : X → List Record) (actors : ℕ) (t : List ℕ) (r : Result X BootError)
    → IfOk r (λ x. by x ≡ rules_of_lines (lines t)) → IfOk r (λ x. AreLinesRead (record_line actors) (record_lines (lines t)) (items x)) → is_ended t ≡ true
    → IfOk r (λ x. IsHistory actors t (by x) (items x))
read_ended by items actors t (Ok x) ruled read ended = (read, ended, ruled)
read_ended by items actors t (Err e) ruled read ended = tt

told : (actors : ℕ) (t : List ℕ) (e : BootError) → TellsNoRecords actors t e → is_ended t ≡ true → TellsHistoryFault actors t e
told actors t (BadRecord n) h ended = inl h
told actors t NoMemory h ended = (rules_of_lines (lines t), h.0, (h.1, ended, refl))
told actors t (BadLine n) h ended = h
told actors t (TwiceNamed n) h ended = h
told actors t (TooMany n) h ended = h

pub told_ended : {X : Type 0} (actors : ℕ) (t : List ℕ) (r : Result X BootError)
    → IfErr r (TellsNoRecords actors t) → is_ended t ≡ true → IfErr r (λ e. TellsHistoryFault actors t e)
told_ended actors t (Ok x) h ended = tt
told_ended actors t (Err e) h ended = told actors t e h ended

-- ---- where it isn't: the last line is the fault

pub unended : (actors : ℕ) (t : List ℕ) (n : ℕ) (records : List Record) → AreLinesRead (record_line actors) (record_lines (lines t)) records → is_ended t ≡ false → n ≡ length (lines t)
    → IsHistoryFault actors t n
unended actors t n records read ends last = inr (records, read, ends, last)
