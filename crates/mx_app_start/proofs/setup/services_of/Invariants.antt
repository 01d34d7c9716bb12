use Rattle.std.proofs.Common.{◌≡◌, ◌++◌, List, take}
use Rattle.mx_app_start.specs.Asked.{Asked}
use Rattle.mx_app_start.specs.Setup.{AreServicesRead}
use Rattle.mx_app_start.proofs.setup.services_of.Given as goal

-- the files of the lines so far were asked for and read
abbrev pub invariant-loop-line : goal.invariant-loop-line
invariant-loop-line g l = (qs : List Asked) × (g.R.Reader.asked l.reader ≡ g.R.Reader.asked l.initial.reader ++ qs) × AreServicesRead (take l.line-index l.lines) qs l.services.items
