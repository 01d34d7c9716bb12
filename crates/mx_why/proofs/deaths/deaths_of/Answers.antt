use Rattle.std.proofs.Common.{◌≡◌, ◌∙◌, ◌++◌, List, [], ap, refl, rules, arith, length}
use Rattle.std.specs.List.{flat_map, range_with_len}
use Rattle.mx_why.specs.declared.deaths.Death.{Death}
use Rattle.mx_why.specs.Deaths.{death_at, deaths}
use Rattle.mx_why.proofs.Rows.{next_row, all_rows}
use Rattle.mx_why.proofs.deaths.deaths_of.Goals as goal

pub loop-index-preserved : goal.loop-index-preserved
loop-index-preserved c =
    next_row (death_at c.args.notes.now) c.loop-index.index c.new-found.result.items c.loop-index.found.items c.push_death_at.new.deaths.items _ c.loop-index.invariant c.in_ok-push_death_at.ensures refl

pub returns : goal.returns
unfolding deaths
returns c =
    let blank : c.new-found.result.items ≡ [] = search rules in
    let all : c.loop-index.index ≡ length c.args.notes.now = omega arith in
    all_rows (death_at c.args.notes.now) c.loop-index.index (length c.args.notes.now) c.new-found.result.items c.loop-index.found.items all c.loop-index.invariant
    ∙ ap (λ (ds : List Death). ds ++ flat_map (death_at c.args.notes.now) (range_with_len 0 (length c.args.notes.now))) blank
