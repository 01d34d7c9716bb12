use Rattle.std.proofs.Common.{◌∙◌, ◌++◌, ap, ap₂, sym, arith, List, ℕ, get_or, take, append_assoc}
use Rattle.std.specs.List.{flat_map}
use Rattle.mx_aout.specs.File.{symbol_at}
use Rattle.mx_aout.specs.Written.{symbol_bytes}
use Rattle.mx_aout.proofs.WrittenSymbols.{IsKept, flat_map_more, kept_more, no_symbol}
use Rattle.mx_aout.proofs.writing.push_symbols.Goals as goal

pub loop-symbol-preserved : goal.loop-symbol-preserved
loop-symbol-preserved c =
    let here : IsKept (get_or c.args.symbols.now c.loop-symbol.symbol-index no_symbol) =
    ap (λ (b : List ℕ). symbol_at b 0) (sym c.symbol_bytes.ensures.bytes) ∙ c.symbol_bytes.ensures.again in
    record {
      bytes = c.in_ok-extend_from_slice.ensures.items
          ∙ ap₂ (λ (a b : List ℕ). a ++ b) c.loop-symbol.invariant.bytes c.symbol_bytes.ensures.bytes
          ∙ append_assoc c.args.bytes.now.items (flat_map symbol_bytes (take c.loop-symbol.symbol-index c.args.symbols.now)) (symbol_bytes (get_or c.args.symbols.now c.loop-symbol.symbol-index no_symbol))
          ∙ ap (λ (z : List ℕ). c.args.bytes.now.items ++ z) (sym (flat_map_more symbol_bytes c.args.symbols.now c.loop-symbol.symbol-index no_symbol (omega arith)));
      again = kept_more c.args.symbols.now c.loop-symbol.symbol-index (omega arith) c.loop-symbol.invariant.again here;
    }
