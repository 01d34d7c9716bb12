use Rattle.std.proofs.Common.{◌≡◌, ◌++◌, List}
use Rattle.mx_app_start.specs.Asked.{Asked}
use Rattle.mx_app_explore.specs.Exploring.{AreFree}
use Rattle.mx_app_explore.proofs.exploring.spare_files.Given as goal

-- the files so far were looked at, and none is spared
abbrev pub invariant-loop-place : goal.invariant-loop-place
invariant-loop-place g l =
    (us : List Asked) × (g.R.Reader.asked l.reader ≡ g.R.Reader.asked l.initial.reader ++ us) × AreFree l.name l.place us
