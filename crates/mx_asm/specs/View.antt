-- What the code's layout shows.
use Rattle.mx_asm.specs.declared.layout.Layout.{Layout}
use Rattle.mx_asm.specs.Layout.{LinesAbove}

abbrev pub above_of : Layout → LinesAbove
above_of l = record { sizes = l.sizes; labels = l.labels.entries; sep = l.sep; entry = l.entry; stack = l.stack }
