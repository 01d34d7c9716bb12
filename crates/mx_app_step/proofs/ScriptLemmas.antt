-- What a script's lines do and print in a row, from what lines do that drive a machine.
use Rattle.std.proofs.Common.{◌≡◌, ◌∙◌, ℕ, ◌+◌, append_assoc, Bool, true, false, List, [], ◌∷◌, ◌++◌, Option, refl, ap, subst, sym}
use Rattle.std.specs.Prelude.{codes}
use Rattle.std.specs.Fmt.{decimal}
use Rattle.std.specs.Io.KnownBytes.{Appends}
use Rattle.mx_app_start.specs.Machine.{MachineState, world_of}
use Rattle.mx_app_start.specs.Report.{report_text}
use Rattle.mx_boot.specs.declared.scripts.ScriptLine.{ScriptLine}
use Rattle.mx_machine.specs.World.{World}
use Rattle.mx_print_answers.specs.Said.{said_line, said_lines}
use Rattle.mx_app_step.specs.Driving.{Driven, driven, lines_done, lines_text}
use Rattle.mx_app_step.specs.Kept.{lines_kept}
use Rattle.mx_app_step.specs.Lines.{line_made, lines_made}
use Rattle.mx_app_step.specs.Numbered.{answers_text, numbered_line, numbered_lines}
use Rattle.mx_app_step.specs.Performed.{script_does, script_prints}

world_done : {P : Type 0} (o : ℕ) (ls : List ScriptLine) (d : Driven P) → (lines_done (script_does o) d ls).world ≡ (lines_made d.world o ls).1
world_done o [] d = refl
world_done o (l ∷ ls) d = world_done o ls (script_does o d l)

kernel_done : {P : Type 0} (o : ℕ) (ls : List ScriptLine) (d : Driven P) → (lines_done (script_does o) d ls).kernel ≡ lines_kept d.kernel d.world o ls
kernel_done o [] d = refl
kernel_done o (l ∷ ls) d = kernel_done o ls (script_does o d l)

numbered_told : {P : Type 0} (o n : ℕ) (ls : List ScriptLine) (d : Driven P) → lines_text (script_does o) (script_prints o) true n d ls ≡ numbered_lines n (lines_made d.world o ls).0
numbered_told o n [] d = refl
numbered_told o n (l ∷ ls) d =
    let s = (line_made d.world o l).0 in
    ap (λ (t : List ℕ). t ++ lines_text (script_does o) (script_prints o) true (n + 1) (script_does o d l) ls) (sym (append_assoc (decimal n ++ codes ": ") (said_line s) (codes "\n")))
    ∙ ap (λ (t : List ℕ). numbered_line n s ++ t) (numbered_told o (n + 1) ls (script_does o d l))

plain_told : {P : Type 0} (o n : ℕ) (ls : List ScriptLine) (d : Driven P) → lines_text (script_does o) (script_prints o) false n d ls ≡ said_lines (lines_made d.world o ls).0
plain_told o n [] d = refl
plain_told o n (l ∷ ls) d = ap (λ (t : List ℕ). (said_line (line_made d.world o l).0 ++ codes "\n") ++ t) (plain_told o (n + 1) ls (script_does o d l))

text_told : {P : Type 0} (numbered : Bool) (o : ℕ) (ls : List ScriptLine) (d : Driven P) → lines_text (script_does o) (script_prints o) numbered 1 d ls ≡ answers_text numbered (lines_made d.world o ls).0
unfolding answers_text
text_told true o ls d = numbered_told o 1 ls d
text_told false o ls d = plain_told o 1 ls d

-- ---- from what its functions promise

pub script_world : {P : Type 0} (m u : MachineState) (p q : P) (o : ℕ) (ls : List ScriptLine) → lines_done (script_does o) (driven m p) ls ≡ driven u q → world_of u ≡ (lines_made (world_of m) o ls).1
script_world {P} m u p q o ls h = ap (λ (d : Driven P). d.world) (sym h) ∙ world_done o ls (driven m p)

pub script_kept : {P : Type 0} (m u : MachineState) (p q : P) (o : ℕ) (ls : List ScriptLine) → lines_done (script_does o) (driven m p) ls ≡ driven u q → u.kernel ≡ lines_kept m.kernel (world_of m) o ls
script_kept {P} m u p q o ls h = ap (λ (d : Driven P). d.kernel) (sym h) ∙ kernel_done o ls (driven m p)

pub script_said : {P : Type 0} (numbered : Bool) (Prints : List ℕ → Type 0) (d : Driven P) (o : ℕ) (ls : List ScriptLine)
    → Prints (lines_text (script_does o) (script_prints o) numbered 1 d ls) → Prints (answers_text numbered (lines_made d.world o ls).0)
script_said numbered Prints d o ls h = subst Prints (text_told numbered o ls d) h

pub script_reported : {P : Type 0} (numbered : Bool) (Prints : List ℕ → Type 0) (d : Driven P) (o : ℕ) (ls : List ScriptLine)
    → (let e = lines_done (script_does o) d ls in Prints (lines_text (script_does o) (script_prints o) numbered 1 d ls ++ report_text e.world.table e.world.services))
    → (let u = lines_made d.world o ls in Prints (answers_text numbered u.0 ++ report_text u.1.table u.1.services))
script_reported numbered Prints d o ls h =
    let report : World → List ℕ = λ w. report_text w.table w.services in
    let told : List ℕ = lines_text (script_does o) (script_prints o) numbered 1 d ls in
    subst Prints
    (ap (λ (w : World). told ++ report w) (world_done o ls d) ∙ ap (λ (t : List ℕ). t ++ report (lines_made d.world o ls).1) (text_told numbered o ls d)) h
