-- The texts of replies ("Debugging with GDB", "Stop Reply Packets", "Packets", "General Query Packets").
use Rattle.std.specs.Prelude.{ℕ, Bool, true, false, nat_le, if◌then◌else◌, List, [], ◌∷◌, ◌++◌, codes, drop, take, length, replicate}
use Rattle.std.specs.List.{flat_map}
use Rattle.std.specs.Fmt.{digits}
use Rattle.hex.specs.Hex.{encode_lower}
use Rattle.mx_word.specs.Word.{bytes_of}
use Rattle.mx_rsp.specs.declared.replies.StopReason.{StopReason}
use Rattle.mx_rsp.specs.declared.replies.StopReason.TheVariants.{Plain, Watched, AtBegin, AtEnd}
use Rattle.mx_rsp.specs.declared.replies.Stop.{Stop}
use Rattle.mx_rsp.specs.declared.replies.ThreadName.{ThreadName}

-- a number, with no zero in front
abbrev pub hexadecimal : ℕ → List ℕ
hexadecimal n = digits 16 false n

-- A THREAD: its number; if gdb names processes, p and that of its process, which is the same, before it
abbrev pub thread_text : ThreadName → List ℕ
thread_text t =
    if t.with_process then codes "p" ++ hexadecimal t.number ++ codes "." ++ hexadecimal t.number else hexadecimal t.number

-- threads, each after a comma but the first
abbrev pub threads_after : List ℕ → List ThreadName → List ℕ
threads_after between [] = []
threads_after between (t ∷ ts) = between ++ thread_text t ++ threads_after (codes ",") ts

-- A REGISTER: its four bytes, the lowest first
abbrev pub register_text : ℕ → List ℕ
register_text r = encode_lower (bytes_of 4 r)

-- ALL REGISTERS: those that there are, and x for the digits of the six segment registers
abbrev pub registers_text : List ℕ → List ℕ
registers_text rs = flat_map register_text rs ++ replicate 48 120

-- what is left of a text, or its first bytes: l says that nothing follows, m that more does
abbrev pub front_text : List ℕ → ℕ → List ℕ
front_text rest n = if nat_le (length rest) n then codes "l" ++ rest else codes "m" ++ take n rest

-- A PART of a text, from an offset on
abbrev pub part_text : List ℕ → ℕ → ℕ → List ℕ
part_text text offset n = front_text (drop offset text) n

-- ---- why it halted

abbrev pub reason_text : StopReason → List ℕ
reason_text Plain = []
reason_text (Watched a) = codes "watch:" ++ hexadecimal a ++ codes ";"
reason_text AtBegin = codes "replaylog:begin;"
reason_text AtEnd = codes "replaylog:end;"

-- signal, reason and thread
abbrev pub stop_head : Stop → List ℕ
stop_head s = codes "T" ++ encode_lower (s.signal ∷ []) ++ reason_text s.reason ++ codes "thread:" ++ thread_text s.thread

-- ESP, EBP and EIP
abbrev pub stop_registers : Stop → List ℕ
stop_registers s =
    codes ";04:" ++ register_text s.esp ++ codes ";05:" ++ register_text s.ebp ++ codes ";08:" ++ register_text s.eip ++ codes ";"

-- A STOP
abbrev pub stop_text : Stop → List ℕ
stop_text s = stop_head s ++ stop_registers s

-- ---- what the stub has

abbrev pub process_feature : Bool → List ℕ
process_feature true = codes "multiprocess+;"
process_feature false = []

abbrev pub features_text : Bool → List ℕ
features_text names =
    codes "PacketSize=4000;vContSupported+;QStartNoAckMode+;ReverseStep+;ReverseContinue+;" ++ process_feature names
    ++ codes "qXfer:features:read+;qXfer:exec-file:read+"
