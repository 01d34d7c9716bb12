-- What is looked at of the console and of the recorded deliveries (our own).
use Rattle.std.specs.Prelude.{ℕ, ◌-◌, ◌==◌, ◌&&◌, nat_lt, min, List, length, map, Option, None, slice_get, if◌then◌else◌}
use Rattle.std.specs.List.{range_with_len}
use Rattle.mx_proc.specs.Console.{ConsoleState}
use Rattle.mx_proc.specs.declared.deliveries.Delivery.{Delivery}

-- the byte that was written last, if any was: of all bytes the console holds the last 4,096
unfoldable pub last_byte : ConsoleState → Option ℕ
last_byte c = if c.count == 0 then None else slice_get c.kept (min c.count 4096 - 1)

-- how many deliveries are recorded, at most 1,024
abbrev pub kept_count : List Delivery → ℕ
kept_count ds = min (length ds) 1024

-- of this many the one at a place, counted back from the latest, if it is among the latest `most`
unfoldable pub latest : List Delivery → ℕ → ℕ → ℕ → Option Delivery
latest ds count most back = if nat_lt back most && nat_lt back count then slice_get ds (count - 1 - back) else None

-- the latest `most`, and at most 32, the latest first
unfoldable pub latest_deliveries : List Delivery → ℕ → List (Option Delivery)
latest_deliveries ds most = map (latest ds (kept_count ds) most) (range_with_len 0 32)
