use Rattle.mx_app_look.specs.Watches.{places_of}
use Rattle.mx_app_look.proofs.Ranges.{step_law}
use Rattle.mx_app_look.proofs.range_change.RangeChangeMark.steps_are_marked.Goals as goal

pub returns : goal.returns
returns c = λ mark w a l o h. step_law (places_of mark.watch) w a l o h
