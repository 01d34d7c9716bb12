-- What no request changes; and the points of a move of all (our own).
use Rattle.std.specs.Prelude.{◌≡◌, None}
use Rattle.mx_app_look.specs.declared.points.Points.{Points}
use Rattle.mx_app_gdb.specs.declared.stub.Stub.{Stub}
use Rattle.mx_app_gdb.specs.Points.{counted_points}

-- the boot, the records and the last position are as they were: one may only be elsewhere
abbrev pub IsSameHistory : Stub → Stub → Type 0
IsSameHistory s u = u.sight.walker ≡ record s.sight.walker { here = u.sight.walker.here }

-- the points at which a move halts that isn't of one process alone
abbrev pub points_of : Stub → Points
points_of s = counted_points s.sight.points (record { threads = s.threads; only = None })
