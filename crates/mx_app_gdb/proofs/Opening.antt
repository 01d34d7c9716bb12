-- Where a talk begins.
use Rattle.std.proofs.Common.{◌≡◌, ◌∙◌, ◌++◌, ℕ, List, [], Vec, Global, append_assoc, ap, length, map, min, refl, subst, sym}
use Rattle.std.proofs.lemmas.List.{length-map}
use Rattle.mx_app_look.specs.Sessions.{IsBegun, sight_at}
use Rattle.mx_app_look.specs.declared.points.Points.{Points}
use Rattle.mx_app_look.specs.declared.sight.Sight.{Sight}
use Rattle.mx_app_look.specs.declared.watches.Watch.{Watch}
use Rattle.mx_debug.specs.declared.points.Breakpoint.{Breakpoint}
use Rattle.mx_app_step.specs.Asked.{Asked}
use Rattle.mx_app_step.specs.Config.{Config}
use Rattle.mx_machine.specs.World.{World}
use Rattle.mx_machine.specs.declared.config.ServiceLine.{ServiceLine}
use Rattle.mx_machine.specs.declared.history.Record.{Record}
use Rattle.mx_walk.specs.declared.progress.Part.{Part}
use Rattle.mx_walk.specs.Parts.{HasGrown, walk_shown}
use Rattle.mx_walk.specs.Positions.{first}
use Rattle.mx_walk.specs.Walks.{IsLast, Walk}
use Rattle.mx_app_gdb.specs.SymbolFiles.{symbol_file}
use Rattle.mx_app_gdb.specs.Talks.{IsOpened, file_names}

-- a walk at its first position
pub is_begun : (w : World) (records : List Record) (k : Walk) → k.boot ≡ w → k.records ≡ records → k.here ≡ first → IsLast k.boot k.records k.last → IsBegun w records k
is_begun w records k boot same here last = record {
  boot = boot;
  records = same;
  here = here;
  last = subst (λ (rs : List Record). IsLast w rs k.last) same (subst (λ (u : World). IsLast u k.records k.last) boot last);
}

-- with nothing to halt at
pub none_set : (k : Walk) (s : Points) → s.breakpoints ≡ [] → s.watches ≡ [] → (let u : Sight = record { walker = k; points = s } in u ≡ sight_at k)
none_set k s none no_watch =
    ap (λ (bs : List Breakpoint). let u : Sight = record { walker = k; points = record { breakpoints = bs; watches = s.watches } } in u) none
    ∙ ap (λ (xs : List Watch). let u : Sight = record { walker = k; points = record { breakpoints = []; watches = xs } } in u) no_watch

-- ---- what was shown, and more

pub both_shown : (before now after ps qs : List Part) → now ≡ before ++ ps → after ≡ now ++ qs → after ≡ before ++ (ps ++ qs)
both_shown before now after ps qs a b = b ∙ ap (λ (xs : List Part). xs ++ qs) a ∙ append_assoc before ps qs

module _ (config log : List ℕ) (qs : List Asked) (ps : List Part) (c : Config) (k : Walk) (o : IsOpened config log qs ps c k) (more : List Part) where
  more_shown : HasGrown (walk_shown k.records k.last) (ps ++ more)
  more_shown = (o.shown.0 ++ more, both_shown (walk_shown k.records k.last) ps (ps ++ more) o.shown.0 more o.shown.1 refl)

  pub still_opened : IsOpened config log qs (ps ++ more) c k
  still_opened = record {
    services = o.services;
    records = o.records;
    started = o.started;
    begun = o.begun;
    shown = more_shown;
  }

-- ---- slots

-- as many as there are lines, each with a file
pub as_many : (files : List (Vec ℕ Global)) (lines : List ServiceLine) → map (λ (f : Vec ℕ Global). f.items) files ≡ file_names lines → min (length files) 32 ≡ min (length lines) 32
as_many files lines e =
    ap (λ (n : ℕ). min n 32)
    (sym (length-map files (λ (f : Vec ℕ Global). f.items)) ∙ ap length e ∙ length-map lines (λ (l : ServiceLine). symbol_file l.file))
