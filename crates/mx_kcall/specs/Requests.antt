-- Kernel calls as messages to SYSTEM, and their replies (our choice).
use Rattle.std.specs.Prelude.{◌≡◌, ℕ, ◌+◌, List, [], ◌∷◌, ◌++◌, drop, take, replicate, codes}
use Rattle.std.specs.Prelude.{Option, Some, None, if◌then◌else◌}
use Rattle.mx_word.specs.Word.{value_at, bytes_of}
use Rattle.mx_respawn.specs.Proc.declared.windows.Rules.{Rules}
use Rattle.mx_respawn.specs.Proc.EndpointNumbers.{system_endpoint}
use Rattle.mx_respawn.specs.Proc.TableState.{TableState, buffer_at, memory_at}
use Rattle.mx_respawn.specs.Proc.declared.windows.Rules.TheVariants as since
use Rattle.mx_kcall.specs.Rows.{first_call, row_under}
use Rattle.mx_kcall.specs.declared.rows.CallName.{CallName}
use Rattle.mx_kcall.specs.declared.rows.CallName.TheVariants as calls
use Rattle.mx_kcall.specs.declared.rows.CallRow.{CallRow}
use Rattle.mx_kcall.specs.declared.rows.ReplyCount.{ReplyCount}
use Rattle.mx_kcall.specs.declared.rows.ReplyCount.TheVariants.{Always, AfterRead}
use Rattle.mx_kcall.specs.declared.request.MessageWords.{MessageWords}
use Rattle.mx_kcall.specs.declared.request.ReplyWords.{ReplyWords}
use Rattle.mx_kcall.specs.declared.request.KernelCall.{KernelCall}
use Rattle.mx_kcall.specs.declared.request.KernelCall.TheVariants.{Exit, Times, SetAlarm, Irqctl, Devio, Vircopy, Kill}
use Rattle.mx_kcall.specs.declared.request.KernelCall.TheVariants.{Whois, Grant}

-- the number at a place of a message
abbrev pub word_at : List ℕ → ℕ → ℕ
word_at bytes k = value_at (drop k bytes) 0 4

-- the type and the words of a message, after the four bytes of its source
abbrev pub message_words_of : List ℕ → MessageWords
message_words_of bytes =
    record {
      kind = word_at bytes 4;
      p0 = word_at bytes 8;
      p1 = word_at bytes 12;
      p2 = word_at bytes 16;
      p3 = word_at bytes 20;
      p4 = word_at bytes 24;
    }

-- those at the buffer of a process
unfoldable pub message_words_at : TableState → ℕ → MessageWords
message_words_at w s = message_words_of (take 36 (drop (buffer_at w s) (memory_at w s)))

abbrev pub row : CallName → List ℕ → ℕ → ReplyCount → Rules → CallRow
row call text words reply rules =
    record { call = call; text = text; words = words; reply = reply; rules = rules }

-- THE TABLE: the type of a request, and its call: the name in texts, how many words the request has and its reply, and
-- the rules that brought it. The call's bit in the mask of calls is its place here
unfoldable pub call_table : List (ℕ × CallRow)
call_table =
    (1536, row calls.Exit (codes "EXIT    ") 0 (Always 0) since.Lenient)
    ∷ (1537, row calls.Times (codes "TIMES   ") 0 (Always 3) since.Lenient)
    ∷ (1538, row calls.SetAlarm (codes "SETALARM") 1 (Always 1) since.Lenient)
    ∷ (1539, row calls.Irqctl (codes "IRQCTL  ") 2 (Always 0) since.Lenient)
    ∷ (1540, row calls.Devio (codes "DEVIO   ") 3 (AfterRead 1) since.Lenient)
    ∷ (1541, row calls.Vircopy (codes "VIRCOPY ") 5 (Always 0) since.Lenient)
    ∷ (1542, row calls.Kill (codes "KILL    ") 1 (Always 0) since.Lenient)
    ∷ (1543, row calls.Whois (codes "WHOIS   ") 1 (Always 1) since.Lenient)
    ∷ (1544, row calls.Grant (codes "GRANT   ") 4 (Always 0) since.Strict)
    ∷ []

-- rows with their types, which count up
unfoldable pub typed_from : ℕ → List CallRow → List (ℕ × CallRow)
typed_from n [] = []
typed_from n (x ∷ xs) = (n, x) ∷ typed_from (n + 1) xs

-- these rows are the table's, in its order and so of its types
unfoldable pub AreOfTable : List CallRow → Type 0
AreOfTable rows = typed_from first_call rows ≡ call_table

-- THE CALLS by their names, with their words
abbrev pub kernel_call_of : CallName → MessageWords → KernelCall
kernel_call_of calls.Exit m = Exit
kernel_call_of calls.Times m = Times
-- a delay, 0 cancels
kernel_call_of calls.SetAlarm m = SetAlarm m.p0
-- 1 takes, 0 gives up; a line
kernel_call_of calls.Irqctl m = Irqctl m.p0 m.p1
-- 0 reads, 1 writes; a register; a value
kernel_call_of calls.Devio m = Devio m.p0 m.p1 m.p2
-- from, its address, to, its address, how many bytes
kernel_call_of calls.Vircopy m =
    Vircopy (record {
      source = record { endpoint = m.p0; offset = m.p1 };
      target = record { endpoint = m.p2; offset = m.p3 };
      count = m.p4;
    })
-- an endpoint
kernel_call_of calls.Kill m = Kill m.p0
-- a slot
kernel_call_of calls.Whois m = Whois m.p0
-- an endpoint, an address, how many bytes, an access
kernel_call_of calls.Grant m = Grant (record { user = m.p0; place = m.p1; count = m.p2; access = m.p3 })

-- the call of a row
abbrev pub kernel_call_by : Option CallRow → MessageWords → Option KernelCall
kernel_call_by None m = None
kernel_call_by (Some row) m = Some (kernel_call_of row.call m)

-- THE CALL that words make under these rules
abbrev pub kernel_call_under : Rules → MessageWords → Option KernelCall
kernel_call_under rules m = kernel_call_by (row_under rules m.kind) m

-- no words
abbrev pub no_reply_words : ReplyWords
no_reply_words = record { p0 = 0; p1 = 0; p2 = 0 }

-- a reply: from SYSTEM (-2), with the result as its type, then words, zeros else
abbrev pub reply_bytes : ℕ → ReplyWords → List ℕ
reply_bytes result a =
    bytes_of 4 system_endpoint ++ bytes_of 4 result ++ bytes_of 4 a.p0 ++ bytes_of 4 a.p1 ++ bytes_of 4 a.p2
    ++ replicate 16 0
