use Rattle.std.proofs.Common.{◌≡◌, ◌++◌, List, ℕ, codes, Option, ap, ◌∙◌}
use Rattle.mx_why.specs.Reasons.{waiting_text}
use Rattle.mx_why.specs.Waiting.{waking_alarm, waking_line}
use Rattle.mx_why.specs.Lines.{may_come_text, waker_text}
use Rattle.mx_why.proofs.Pieces.{joined, last_joined_is}
use Rattle.mx_why.proofs.lines.push_may_come.Goals as goal

pub returns : goal.returns
unfolding may_come_text
returns c =
    let a0 : List ℕ = codes ": " in
    let h0 : c.extend_from_slice.new.self.items ≡ c.args.out.now.items ++ a0 = c.in_ok-extend_from_slice.ensures.items in
    let a1 : List ℕ = a0 ++ (waiting_text c.args.end.now c.args.last) in
    let h1 : c.push_waiting.new.out.items ≡ c.args.out.now.items ++ a1 = joined c.args.out.now.items a0 (waiting_text c.args.end.now c.args.last) h0 c.in_ok-push_waiting.ensures in
    let a2 : List ℕ = a1 ++ (codes ", and may be woken by ") in
    let h2 : c.extend_from_slice-2.new.self.items ≡ c.args.out.now.items ++ a2 = joined c.args.out.now.items a1 (codes ", and may be woken by ") h1 c.in_ok-extend_from_slice-2.ensures.items in
    last_joined_is c.push_waker.result c.args.out.now.items a2 (waker_text c.waking_line.result c.waking_alarm.result) (waker_text (waking_line c.args.end.now c.args.last) (waking_alarm c.args.end.now c.args.last)) c.extend_from_slice-2.new.self.items c.push_waker.new.out.items h2 (ap (λ (o : Option ℕ). waker_text o c.waking_alarm.result) c.waking_line.ensures ∙ ap (λ (o : Option ℕ). waker_text (waking_line c.args.end.now c.args.last) o) c.waking_alarm.ensures) c.push_waker.ensures
