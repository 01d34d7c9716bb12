use Rattle.std.proofs.Common.{◌≡◌, ◌∙◌, ◌<◌, length, None, arith}
use Rattle.std.proofs.Math.ListN.{length-set}
use Rattle.std.proofs.lemmas.List.FromFn.{fill_by_all}
use Rattle.mx_machine.specs.Machine.{world_of}
use Rattle.mx_look.specs.Glances.{cpu_glance, cpu_glances}
use Rattle.mx_look.proofs.Filled.{filled_more}
use Rattle.mx_look.proofs.glance.look_at_cpus.Goals as goal

pub loop-cpu-preserved : goal.loop-cpu-preserved
loop-cpu-preserved c =
    let inv = c.loop-cpu.invariant in
    let within : c.loop-cpu.cpu < length c.loop-cpu.cpus = omega (arith, inv.long) in
    record {
      long = length-set c.loop-cpu.cpus c.loop-cpu.cpu c.cpu_glance.result ∙ inv.long;
      filled = filled_more (cpu_glance (world_of c.args.machine.now)) c.loop-cpu.cpus c.loop-cpu.cpu c.cpu_glance.result None within c.cpu_glance.ensures inv.filled;
    }

pub returns : goal.returns
unfolding cpu_glances
returns c =
    let inv = c.loop-cpu.invariant in
    let all : c.loop-cpu.cpu ≡ 8 = omega arith in
    fill_by_all (cpu_glance (world_of c.args.machine.now)) c.loop-cpu.cpus 8 None inv.long (λ k b. inv.filled k (omega arith))
