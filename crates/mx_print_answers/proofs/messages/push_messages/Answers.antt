use Rattle.std.proofs.Common.{◌∙◌, sym, arith}
use Rattle.std.specs.Prelude.{string_bytes}
use Rattle.mx_machine.specs.History.{replay}
use Rattle.mx_print_answers.specs.Messages.{delivery_line}
use Rattle.mx_print_answers.proofs.Lines.{all_lines, longer, next_line}
use Rattle.mx_print_answers.proofs.messages.push_messages.Goals as goal

pub loop-delivery-preserved : goal.loop-delivery-preserved
loop-delivery-preserved c =
    let inv = c.loop-delivery.invariant in
    let n = longer c.in-Some.delivery (string_bytes c.loop-delivery.out) (string_bytes c.push_delivery_line.new.out) c.in_ok-push_delivery_line.ensures in
    record {
      lines = next_line delivery_line (replay c.args.kernel.now).table.deliveries c.loop-delivery.index c.in-Some.delivery (string_bytes c.args.out.now) (string_bytes c.loop-delivery.out) (string_bytes c.push_delivery_line.new.out) (sym c.message.ensures ∙ c.in-Some.is) inv.lines c.in_ok-push_delivery_line.ensures;
      few = omega (arith, n, inv.few);
    }

pub returns : goal.returns
returns c =
    all_lines delivery_line (replay c.args.kernel.now).table.deliveries c.loop-delivery.index (string_bytes c.args.out.now) (string_bytes c.loop-delivery.out) (sym c.message.ensures ∙ c.in_default.is) c.loop-delivery.invariant.lines
