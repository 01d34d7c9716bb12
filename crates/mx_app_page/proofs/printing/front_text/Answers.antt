use Rattle.std.proofs.Common.{◌∙◌, ◌++◌, List, ℕ, ap}
use Rattle.mx_machine.specs.History.{BootAndHistory, replay}
use Rattle.mx_machine.specs.Machine.{world_of}
use Rattle.mx_look_page.specs.Heads.{run_of}
use Rattle.mx_app_page.specs.declared.fixed.TheConstants.{FRONT}
use Rattle.mx_app_page.proofs.PageStart.{front_is}
use Rattle.mx_app_page.proofs.printing.front_text.Goals as goal

pub returns : goal.returns
unfolding world_of
returns c =
    front_is (run_of c.args.terms) (world_of c.args.machine.now) _ _ _ _ (c.in_ok-push_half.ensures ∙ ap (λ (t : List ℕ). t ++ FRONT.now) c.new-text.ensures.items) c.in_ok-push_head.ensures
    (c.services.ensures ∙ ap (λ (k : BootAndHistory). (replay k).services) c.kernel-kernel.ensures) c.in_ok-shown.ensures
