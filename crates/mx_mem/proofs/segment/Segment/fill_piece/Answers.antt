use Rattle.std.proofs.Common.{arith}
use Rattle.mx_word.specs.Word.{bytes_in}
use Rattle.mx_mem.specs.Segment.{repeated}
use Rattle.mx_mem.proofs.Filled.{first_fits, repeated_long, repeated_small}
use Rattle.mx_mem.proofs.Paged.{overwrites}
use Rattle.mx_mem.proofs.segment.Segment.fill_piece.Goals as goal

pub invariant_of-self : goal.invariant_of-self
invariant_of-self c =
    let long = repeated_long c.args.count (bytes_in c.args.size) c.args.value in
    let many = first_fits c.args.size c.args.count c.requires.some in
    (overwrites c.self.inside.limit c.self.inside.pages.items c.args.self.now c.args.at (repeated c.args.count (bytes_in c.args.size) c.args.value) c.index_mut.result.now c.fill.new.self c.self.invariant c.self.view_is (omega (arith, c.requires.piece.0, c.requires.some, many)) c.index_mut.ensures.value (omega (arith, c.requires.piece.1, long)) (omega (arith, c.requires.piece.0, long)) (repeated_small c.args.count (bytes_in c.args.size) c.args.value) c.fill.ensures).1

pub returns : goal.returns
returns c =
    let long = repeated_long c.args.count (bytes_in c.args.size) c.args.value in
    let many = first_fits c.args.size c.args.count c.requires.some in
    (overwrites c.self.inside.limit c.self.inside.pages.items c.args.self.now c.args.at (repeated c.args.count (bytes_in c.args.size) c.args.value) c.index_mut.result.now c.fill.new.self c.self.invariant c.self.view_is (omega (arith, c.requires.piece.0, c.requires.some, many)) c.index_mut.ensures.value (omega (arith, c.requires.piece.1, long)) (omega (arith, c.requires.piece.0, long)) (repeated_small c.args.count (bytes_in c.args.size) c.args.value) c.fill.ensures).0
