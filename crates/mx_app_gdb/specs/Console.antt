-- Commands for the stub itself (our own).
use Rattle.std.specs.Prelude.{ℕ, Bool, true, false, List, Option, Some, codes}
use Rattle.mx_app_look.specs.declared.request.Request.{Request}
use Rattle.mx_app_look.specs.declared.request.Request.TheVariants.{Back, Continue, Forward, Point, Reverse, Step, StepBack, Until, UntilBack}

-- gdb has its own command for it: it moves, but not to a position that is named; or is about points
abbrev pub is_for_gdb : Option Request → Bool
is_for_gdb (Some (Forward n)) = true
is_for_gdb (Some (Back n)) = true
is_for_gdb (Some (Step n)) = true
is_for_gdb (Some (StepBack n)) = true
is_for_gdb (Some (Point p)) = true
is_for_gdb (Some Continue) = true
is_for_gdb (Some Reverse) = true
is_for_gdb (Some (Until h)) = true
is_for_gdb (Some (UntilBack h)) = true
is_for_gdb _ = false

abbrev pub for_gdb_text : List ℕ
for_gdb_text = codes "gdb's own commands do that; of those that move only goto is here\n"
