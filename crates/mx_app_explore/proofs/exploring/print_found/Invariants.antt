use Rattle.std.proofs.Common.{◌≡◌, option_map}
use Rattle.mx_explore.specs.Exploring.{IsAtBoot, setting}
use Rattle.mx_app_explore.proofs.FoundLemmas.{IsSoFar}
use Rattle.mx_app_explore.proofs.exploring.print_found.Given as goal

-- the outcomes so far are printed and saved
abbrev pub invariant-loop-place : goal.invariant-loop-place
invariant-loop-place g l = record {
  tally : l.explored.tally ≡ l.initial.explored.tally;
  boot : l.explored.boot ≡ l.initial.explored.boot;
  ready : IsAtBoot l.explored.boot l.explored.services.items;
  told : IsSoFar (setting l.terms l.initial.explored.boot) (option_map (λ s. s.now) l.name) l.initial.explored.tally.outcomes.items l.place (g.F.FileWriter.written l.initial.files) (g.F.FileWriter.written l.files) (g.W.Write.contents l.initial.out) (g.W.Write.contents l.out);
}
