use Rattle.std.proofs.Common.{sym, rules}
use Rattle.std.specs.Ordering.{nat_cmp}
use Rattle.std.specs.Cmp.Lexicographic.{slice_cmp}
use Rattle.std.proofs.lemmas.Fn.{always_returns_same}
use Rattle.mx_insn_words.proofs.Search.{at_row, searched}
use Rattle.mx_insn_words.proofs.sorted_words.find_word.Goals as goal

pub returns-in-Ok : goal.returns-in-Ok
returns-in-Ok g c = sym (at_row c.args.table.now c.args.word.now c.in-Ok.at c.index-table-at.result c.requires c.in-Ok.ensures.bound (c.in-Ok.ensures.position (λ row. slice_cmp nat_cmp row.word.now c.args.word.now) (always_returns_same _ _ _ (λ a r f k. search rules)) c.index-table-at.result))

pub returns-in-Err : goal.returns-in-Err
returns-in-Err g c = sym (searched c.args.table.now c.args.word.now c.in-Err.field-0 c.requires (c.in-Err.ensures.position (λ row. slice_cmp nat_cmp row.word.now c.args.word.now) (always_returns_same _ _ _ (λ a r f k. search rules))))
