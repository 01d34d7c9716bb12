-- The numbers of refusals, as two's complements of 32 bits (our choice, but for the first three, which
-- are those of MINIX's errno.h).
use Rattle.std.specs.Prelude.{ℕ, ◌-◌, ◌^◌}
use Rattle.mx_proc.specs.declared.errors.Errno.{Errno}
use Rattle.mx_proc.specs.declared.errors.Errno.TheVariants.{NotPermitted, BadAddress, Invalid, Locked, BadEndpoint}
use Rattle.mx_proc.specs.declared.errors.Errno.TheVariants.{Denied, Dead, NotReady, BadRequest}

abbrev pub errno_bits : Errno → ℕ
errno_bits NotPermitted = 2 ^ 32 - 1
errno_bits BadAddress = 2 ^ 32 - 14
errno_bits Invalid = 2 ^ 32 - 22
errno_bits Locked = 2 ^ 32 - 101
errno_bits BadEndpoint = 2 ^ 32 - 103
errno_bits Denied = 2 ^ 32 - 104
errno_bits Dead = 2 ^ 32 - 105
errno_bits NotReady = 2 ^ 32 - 106
errno_bits BadRequest = 2 ^ 32 - 107
