use Rattle.std.proofs.Common.{◌≡◌, ◌++◌, take}
use Rattle.std.specs.List.{flat_map}
use Rattle.mx_rsp.specs.Replies.{register_text}
use Rattle.mx_rsp.proofs.replies.push_registers.Given as goal

-- the registers so far
abbrev pub invariant-loop-register : goal.invariant-loop-register
invariant-loop-register l = l.out.items ≡ l.initial.out.items ++ flat_map register_text (take l.register-index l.registers)
