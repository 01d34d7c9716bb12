use Rattle.std.proofs.Common.{arith, None, Some, ◌≡◌, ◌∙◌, length, map, sym, ap, subst, refl}
use Rattle.mx_asm_statement.specs.declared.statement.Section.TheVariants.{Text, Data}
use Rattle.mx_asm.specs.View.{above_of}
use Rattle.mx_asm.specs.Layout.{LinesAbove, left_by, no_lines_above}
use Rattle.mx_asm.specs.Bytes.{AllStand}
use Rattle.mx_asm.specs.Faults.{first_problem, total_of}
use Rattle.mx_asm.specs.Kept.{first_problem_kept}
use Rattle.mx_asm.specs.Assembled.{symbol_under, entry_under}
use Rattle.mx_asm.proofs.Emitting.{lengths_same}
use Rattle.mx_asm.proofs.Entering.{begins_somewhere}
use Rattle.mx_asm.proofs.Fitting.{contents_size}
use Rattle.mx_asm.proofs.Kept.{parts_kept, problems_kept}
use Rattle.mx_asm.proofs.program.program_of.Goals as goal

pub returns-clause-program : goal.returns-clause-program
returns-clause-program c lines kept laid =
    let a = above_of c.args.layout.now in
    let parts = parts_kept a no_lines_above.sizes 1 lines c.args.lines.now _ _ kept.0 c.in_ok-parts.ensures in
    let made = c.program_with.ensures in
    let back : a ≡ left_by no_lines_above lines (map length parts.bytes) = laid ∙ sym (lengths_same a no_lines_above no_lines_above.sizes lines parts.bytes parts.stand) in
    record {
      bytes = parts.bytes;
      stand = subst (λ (x : LinesAbove). AllStand x no_lines_above.sizes lines parts.bytes) back parts.stand;
      text = made.text ∙ parts.text_is;
      init = made.init ∙ parts.init_is;
      bss = made.bss ∙ ap (λ (x : LinesAbove). x.sizes.bss) back;
      sep = made.sep ∙ ap (λ (x : LinesAbove). x.sep) back;
      entry = subst (λ (x : LinesAbove). entry_under x x.entry ≡ Some c.program_with.result.entry) back made.entry;
      total = made.total ∙ ap total_of back;
      symbols = made.symbols ∙ ap (λ (x : LinesAbove). map (symbol_under x) x.labels) back;
    }

pub program_with-requires-clause-text : goal.program_with-requires-clause-text
program_with-requires-clause-text c =
    let (lines, kept, laid) = c.requires in
    let a = above_of c.args.layout.now in
    let parts = parts_kept a no_lines_above.sizes 1 lines c.args.lines.now _ _ kept.0 c.in_ok-parts.ensures in
    let back : a ≡ left_by no_lines_above lines (map length parts.bytes) = laid ∙ sym (lengths_same a no_lines_above no_lines_above.sizes lines parts.bytes parts.stand) in
    let size = contents_size Text (λ b. refl) a no_lines_above lines parts.bytes parts.stand in
    ap length parts.text_is ∙ omega (arith, size, ap (λ (x : LinesAbove). x.sizes.text) back)

pub program_with-requires-clause-init : goal.program_with-requires-clause-init
program_with-requires-clause-init c =
    let (lines, kept, laid) = c.requires in
    let a = above_of c.args.layout.now in
    let parts = parts_kept a no_lines_above.sizes 1 lines c.args.lines.now _ _ kept.0 c.in_ok-parts.ensures in
    let back : a ≡ left_by no_lines_above lines (map length parts.bytes) = laid ∙ sym (lengths_same a no_lines_above no_lines_above.sizes lines parts.bytes parts.stand) in
    let size = contents_size Data (λ b. refl) a no_lines_above lines parts.bytes parts.stand in
    ap length parts.init_is ∙ omega (arith, size, ap (λ (x : LinesAbove). x.sizes.init) back)

pub program_with-requires-clause-begins : goal.program_with-requires-clause-begins
program_with-requires-clause-begins c =
    let (lines, kept, laid) = c.requires in
    let a = above_of c.args.layout.now in
    let clean : first_problem a no_lines_above.sizes 1 lines ≡ None = problems_kept a no_lines_above.sizes 1 lines ∙ ap (first_problem_kept a no_lines_above.sizes) (sym kept.0) ∙ c.fault_after.ensures.clean c.in-None.is in
    begins_somewhere a lines laid clean
