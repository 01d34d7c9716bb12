-- Which processes gdb has, and whom a request is about (our own).
use Rattle.std.specs.Prelude.{ℕ, ◌+◌, ◌-◌, ◌==◌, ◌&&◌, nat_lt, not, Bool, true, false}
use Rattle.std.specs.Prelude.{if◌then◌else◌, Option, Some, None, replicate, slice_index_or, unwrap_or}
use Rattle.mx_rsp.specs.declared.fields.Which.{Which}
use Rattle.mx_rsp.specs.declared.fields.Which.TheVariants.{All, Any, One}
use Rattle.mx_rsp.specs.declared.replies.ThreadName.{ThreadName}
use Rattle.mx_app_gdb.specs.declared.threads.Counted.{Counted}
use Rattle.mx_app_gdb.specs.declared.threads.Threads.{Threads}

abbrev pub is_only : Option ℕ → ℕ → Bool
is_only (Some one) s = one == s
is_only None s = true

-- the processes of so many slots, or one of them alone
abbrev pub threads_at : ℕ → Option ℕ → Threads
threads_at n only = record {
  count = n;
  reads = unwrap_or only 0;
  goes = None;
  names = false;
  only = only;
  gone = replicate 32 false;
}

-- gdb has the process of a slot: the only one that it wants, or one that it hasn't left
abbrev pub is_seen : Threads → ℕ → Bool
is_seen t s = ((nat_lt s t.count && is_only t.only s) && nat_lt s 32) && not (slice_index_or t.gone s false)

-- the slot of a process's number, which is one more
abbrev pub named_slot : Threads → ℕ → Option ℕ
named_slot t n = if n == 0 then None else if is_seen t (n - 1) then Some (n - 1) else None

-- THE SLOT that a request is about: of any one, and of all, the one that is read
abbrev pub read_by : Threads → Which → Option ℕ
read_by t (One n) = named_slot t n
read_by t Any = Some t.reads
read_by t All = Some t.reads

-- the slot that goes
abbrev pub goes_by : Threads → ℕ
goes_by t = unwrap_or t.goes t.reads

abbrev pub thread_of : Threads → ℕ → ThreadName
thread_of t s = record { number = s + 1; with_process = t.names }

-- WHOSE points and faults count on a move: those of all that gdb has, or of one alone
abbrev pub counts : Counted → ℕ → Bool
counts c s = is_seen c.threads s && is_only c.only s
