use Rattle.mx_asm.specs.View.{above_of}
use Rattle.mx_asm.proofs.Laying.{small_sizes}
use Rattle.mx_asm.proofs.layout.Layout.total.Goals as goal

pub pages-requires : goal.pages-requires
pages-requires c = small_sizes (above_of c.args.self.now) c.requires
