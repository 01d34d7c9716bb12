use Rattle.std.proofs.Common.{◌∙◌, ◌++◌, ◌-◌, ◌+◌, ◌∷◌, [], List, Vec, Global, ap, filter, map, sym}
use Rattle.std.specs.List.{range_with_len}
use Rattle.mx_rsp.specs.declared.replies.ThreadName.{ThreadName}
use Rattle.mx_app_gdb.specs.Threads.{is_seen, thread_of}
use Rattle.mx_app_gdb.proofs.Lists.{listed, unlisted}
use Rattle.mx_app_gdb.proofs.here.threads_seen.Goals.{then-is_seen+in_ok-push, else-is_seen}
use Rattle.mx_app_gdb.proofs.here.threads_seen.Goals as goal

pub loop-slot-preserved : goal.loop-slot-preserved
loop-slot-preserved c =
    let t = c.args.threads in
    let slot = c.loop-slot.slot in
    let front = c.loop-slot.names.items in
    let rest : List ThreadName = map (thread_of t) (filter (is_seen t) (range_with_len (slot + 1) (t.count - (slot + 1)))) in
    elim c.if-is_seen.branch [
      | then-is_seen+in_ok-push w ↦ listed (is_seen t) (thread_of t) t.count slot c.loop-slot-test.true front _ c.loop-slot.invariant (sym c.is_seen.ensures ∙ w.if-is_seen.true) c.if-is_seen.names.items
          (ap (λ (v : Vec ThreadName Global). v.items) w.names-is ∙ w.in_ok-push.ensures.items ∙ ap (λ (x : ThreadName). front ++ x ∷ []) w.thread_of.ensures)
      | else-is_seen w ↦ ap (λ (v : Vec ThreadName Global). v.items ++ rest) w.names-is
          ∙ unlisted (is_seen t) (thread_of t) t.count slot c.loop-slot-test.true front _ c.loop-slot.invariant (sym c.is_seen.ensures ∙ w.if-is_seen.false)
    ]
