-- Points that are set one after the other.
use Rattle.std.proofs.Common.{◌≡◌, ◌∙◌, ◌+◌, ◌<◌, ℕ, Bool, true, false, List, drop, filter, get_or, length, Option, Some, None, Result, Ok, Err, sym, ap}
use Rattle.std.specs.Prelude.{OnOk, OnErr, unwrap_or}
use Rattle.mx_debug.specs.declared.points.Breakpoint.{Breakpoint}
use Rattle.mx_debug.specs.Points.{with_point}
use Rattle.mx_app_look.specs.declared.watches.Watch.{Watch}
use Rattle.mx_app_look.specs.Watches.{with_watch}
use Rattle.mx_app_gdb.specs.Points.{breaks_set, watches_set}
use Rattle.mx_app_gdb.proofs.Lists.{kept, left_out}

-- what is set after one more, if there is room
pub set_is : {E X : Type 0} (r : Result (Unit {0}) E) (w : Option (List X)) (new old : List X)
    → OnOk r (w ≡ Some new) → OnErr r (w ≡ None) → OnErr r (new ≡ old) → new ≡ unwrap_or w old
set_is {X = X} (Ok u) w new old a b c = sym (ap (λ (o : Option (List X)). unwrap_or o old) a)
set_is {X = X} (Err e) w new old a b c = c ∙ sym (ap (λ (o : Option (List X)). unwrap_or o old) b)

-- one more breakpoint that counts, and one that doesn't
module _ (f : Breakpoint → Bool) (ps : List Breakpoint) (i : ℕ) (d : Breakpoint) (lt : i < length ps) (old whole : List Breakpoint)
    (inv : breaks_set old (filter f (drop i ps)) ≡ whole) where
  pub break_more : (new : List Breakpoint) → f (get_or ps i d) ≡ true
      → new ≡ unwrap_or (with_point old (get_or ps i d).slot (get_or ps i d).address) old
      → breaks_set new (filter f (drop (i + 1) ps)) ≡ whole
  break_more new is e =
      ap (λ bs. breaks_set bs (filter f (drop (i + 1) ps))) e ∙ sym (ap (breaks_set old) (kept ps i d lt f is)) ∙ inv

  pub break_passed : f (get_or ps i d) ≡ false → breaks_set old (filter f (drop (i + 1) ps)) ≡ whole
  break_passed is = sym (ap (breaks_set old) (left_out ps i d lt f is)) ∙ inv

-- and so of watches
module _ (f : Watch → Bool) (xs : List Watch) (i : ℕ) (d : Watch) (lt : i < length xs) (old whole : List Watch)
    (inv : watches_set old (filter f (drop i xs)) ≡ whole) where
  pub watch_more : (new : List Watch) → f (get_or xs i d) ≡ true → new ≡ unwrap_or (with_watch old (get_or xs i d)) old
      → watches_set new (filter f (drop (i + 1) xs)) ≡ whole
  watch_more new is e =
      ap (λ ws. watches_set ws (filter f (drop (i + 1) xs))) e ∙ sym (ap (watches_set old) (kept xs i d lt f is)) ∙ inv

  pub watch_passed : f (get_or xs i d) ≡ false → watches_set old (filter f (drop (i + 1) xs)) ≡ whole
  watch_passed is = sym (ap (watches_set old) (left_out xs i d lt f is)) ∙ inv
