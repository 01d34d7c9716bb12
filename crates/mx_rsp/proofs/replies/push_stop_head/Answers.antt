use Rattle.std.proofs.lemmas.Result.{IfOk-weaker}
use Rattle.mx_rsp.proofs.Lists.{five}
use Rattle.mx_rsp.proofs.replies.push_stop_head.Goals as goal

pub returns : goal.returns
returns c =
    IfOk-weaker c.push_thread.result _ _
    (λ u e. five _ _ _ _ _ _ _ _ _ _ _ c.in_ok-push.ensures.items c.in_ok-push_bytes.ensures.text c.in_ok-push_reason.ensures
    c.in_ok-extend_from_slice.ensures.items e)
    c.push_thread.ensures
