-- What is told of records after a run.
use Rattle.std.proofs.Common.{◌≡◌, ◌∙◌, ℕ, Bool, true, false, List, Option, None, Some, ap, inl, inr, length, refl, subst, sym, take}
use Rattle.std.specs.Prelude.{◌&&◌, Vec, if◌then◌else◌, not, option_map}
use Rattle.std.specs.declared.alloc.Global.{Global}
use Rattle.mx_app_start.specs.Config.{Config}
use Rattle.mx_app_start.specs.Service.{Service}
use Rattle.mx_machine.specs.declared.events.Refusal.{Refusal}
use Rattle.mx_machine.specs.declared.history.Record.{Record}
use Rattle.mx_machine.specs.Boot.{world_at_boot}
use Rattle.mx_machine.specs.World.{World}
use Rattle.mx_why.specs.declared.after_run.AfterRun.{AfterRun}
use Rattle.mx_why.specs.declared.after_run.AfterRun.TheVariants as after
use Rattle.mx_why.specs.declared.failed_calls.FailedCall.{FailedCall}
use Rattle.mx_turns.specs.declared.outside.OutsideLine.{OutsideLine}
use Rattle.mx_why.specs.declared.notes.Note.{Note}
use Rattle.mx_why.specs.declared.outside.LostLine.{LostLine}
use Rattle.mx_why.specs.declared.seats.End.{End}
use Rattle.mx_why.specs.AfterRun.{IsToldOf, IsToldWithin, are_many, line_after, line_if_marked, line_told, marked_if_any}
use Rattle.mx_why.specs.Begun.{FileNames}
use Rattle.mx_why.specs.FailedCalls.{failed_calls}
use Rattle.mx_why.specs.Marks.{is_marked}
use Rattle.mx_why.specs.Noting.{notes_of_records}
use Rattle.mx_why.specs.Seeing.{end_of}
use Rattle.mx_why.specs.Telling.{IsNoted}

pub told_marked : (c : Config) (w u : World) (records : List Record) (ns slice : List Note) (cs calls : List FailedCall) (said : List (Option OutsideLine)) (f : FileNames) (line : Option (List ℕ))
    → slice ≡ ns → calls ≡ cs → IsNoted w u records None ns cs → line ≡ line_told c (end_of u) slice calls records said f
    → IsToldOf w records c said f line
told_marked c w u records ns slice cs calls said f line same alike (accepted, world, noted, failed) h = inl (
  accepted,
  h ∙ ap (λ (ms : List Note). line_told c (end_of u) ms calls records said f) (same ∙ noted)
      ∙ ap (λ (ds : List FailedCall). line_told c (end_of u) (notes_of_records w records) ds records said f) (alike ∙ failed)
      ∙ ap (λ (v : World). line_told c (end_of v) (notes_of_records w records) (failed_calls w records) records said f) world,
)

-- what is told of some records, by the line of all
pub within_line : (all : Bool) (w : World) (records : List Record) (c : Config) (said : List (Option OutsideLine)) (f : FileNames) (line : Vec ℕ Global) (o : Option (Vec ℕ Global))
    → (not all && are_many records) ≡ false → o ≡ Some line → IsToldOf w records c said f (option_map (λ l. l.items) o)
    → IsToldWithin all w records c said f (after.Line line)
within_line all w records c said f line o few is told = (few, subst (λ (x : Option (Vec ℕ Global)). IsToldOf w records c said f (option_map (λ l. l.items) x)) is told)

pub within_none : (all : Bool) (w : World) (records : List Record) (c : Config) (said : List (Option OutsideLine)) (f : FileNames) (o : Option (Vec ℕ Global))
    → (not all && are_many records) ≡ false → o ≡ None → IsToldOf w records c said f (option_map (λ l. l.items) o)
    → IsToldWithin all w records c said f after.Nothing
within_none all w records c said f o few is told = (few, subst (λ (x : Option (Vec ℕ Global)). IsToldOf w records c said f (option_map (λ l. l.items) x)) is told)

pub told_started : (all : Bool) (c d : Config) (vs : List Service) (records slice : List Record) (w : World) (said lines : List (Option OutsideLine)) (f : FileNames) (told : AfterRun)
    → slice ≡ take 4294967295 records → w ≡ world_at_boot c vs → d ≡ c → lines ≡ said → IsToldWithin all w slice d lines f told
    → IsToldWithin all (world_at_boot c vs) (take 4294967295 records) c said f told
told_started all c d vs records slice w said lines f told same e is alike h =
    subst (λ (ls : List (Option OutsideLine)). IsToldWithin all (world_at_boot c vs) (take 4294967295 records) c ls f told) alike
    (subst (λ (b : Config). IsToldWithin all (world_at_boot c vs) (take 4294967295 records) b lines f told) is
    (subst (λ (v : World). IsToldWithin all v (take 4294967295 records) d lines f told) e (subst (λ (rs : List Record). IsToldWithin all w rs d lines f told) same h)))

pub told_refused : (c : Config) (w u : World) (records : List Record) (ns : List Note) (cs : List FailedCall) (p : ℕ × Refusal) (said : List (Option OutsideLine)) (f : FileNames)
    → IsNoted w u records (Some p) ns cs → IsToldOf w records c said f None
told_refused c w u records ns cs p said f refused = inr (p.0, p.1, refused, refl)

-- a history without a mark
pub unmarked : (c : Config) (e : End) (ns : List Note) (cs : List FailedCall) (os : List LostLine) (n : ℕ) (b : Bool) (f : FileNames) → b ≡ is_marked c e ns cs os n → b ≡ false
    → None ≡ line_if_marked c e ns cs os n f
unfolding line_if_marked
unmarked c e ns cs os n b f is without =
    ap (λ (v : Bool). if v then Some (line_after c e (marked_if_any c e ns cs os n) n f) else None) (sym without ∙ is)

-- a history with one
pub marked : (c : Config) (e : End) (ns : List Note) (cs : List FailedCall) (os : List LostLine) (n : ℕ) (b : Bool) (f : FileNames) (lines slice text : List ℕ) → b ≡ is_marked c e ns cs os n → b ≡ true
    → lines ≡ marked_if_any c e ns cs os n → slice ≡ lines → text ≡ line_after c e slice n f → Some text ≡ line_if_marked c e ns cs os n f
unfolding line_if_marked
marked c e ns cs os n b f lines slice text is within some alike whole =
    ap (λ (t : List ℕ). Some t) (whole ∙ ap (λ (ls : List ℕ). line_after c e ls n f) (alike ∙ some))
    ∙ ap (λ (v : Bool). if v then Some (line_after c e (marked_if_any c e ns cs os n) n f) else None) (sym within ∙ is)
