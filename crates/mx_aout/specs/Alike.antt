-- Programs that a file can't distinguish.
use Rattle.std.specs.Prelude.{◌≡◌}
use Rattle.mx_aout.specs.declared.program.Program.{Program}

-- equal in all that a file has of them
pub record AreAlike (p q : Program) : Type 0 where
  pub sep : p.sep ≡ q.sep
  pub entry : p.entry ≡ q.entry
  pub total : p.total ≡ q.total
  pub text : p.text ≡ q.text
  pub init : p.init ≡ q.init
  pub bss : p.bss ≡ q.bss
  pub symbols : p.symbols ≡ q.symbols
