use Rattle.std.proofs.Common.{map, rules}
use Rattle.std.proofs.lemmas.List.MinMax.{ranks_by}
use Rattle.std.proofs.lemmas.List.Sorted.{IsPermutation-map, answers_always}
use Rattle.mx_explore.specs.Outcomes.{first_of, tallied}
use Rattle.mx_explore.proofs.OrderLemmas.{found_total}
use Rattle.mx_explore.proofs.TallyLemmas.{reordered}
use Rattle.mx_explore.proofs.outcomes.Tally.sort.Goals as goal

pub returns-clause-tally : goal.returns-clause-tally
returns-clause-tally c fs h =
    let sorted = c.sort_unstable_by.ensures in
    record {
      counted = record {
        schedules = h.schedules;
        outcomes = reordered fs (map tallied c.args.self.now.outcomes.items) _ (IsPermutation-map tallied c.args.self.now.outcomes.items _ sorted.permutation) h.outcomes;
      };
      order = sorted.sorted _ (ranks_by found_total first_of) (answers_always _ _ _ (λ f a r g called. search rules));
    }
