use Rattle.std.proofs.Common.{◌≡◌, ◌∙◌, ap, length, max, refl, rules, arith}
use Rattle.mx_app_step.specs.Machine.{world_of}
use Rattle.mx_app_step.specs.Log.{lines_above}
use Rattle.mx_app_draw.specs.Scenes.{refused_line}
use Rattle.mx_app_draw.proofs.SeenLemmas.{drawn_few}
use Rattle.mx_app_draw.proofs.DrawnLemmas.{made_few}
use Rattle.mx_app_draw.proofs.scene.scene_of.Goals as goal

pub returns-clause-scene : goal.returns-clause-scene
returns-clause-scene c =
    let s = c.in_ok-seen.ensures.seen in
    let first : c.max.result ≡ max c.args.part.from 1 = search rules in (
      c.in_ok-seen.seen.refused,
      s.0,
      s.1,
      record {
        first = first;
        total = c.told_number.ensures;
        processors = refl;
        services = c.service_count-services.ensures.count;
        world = s.3;
        transitions = s.2;
        refused = c.refused_line.ensures ∙ ap (λ above. refused_line above c.in_ok-seen.seen.refused) (c.lines_above-above.ensures.value ∙ ap lines_above c.rules.ensures);
      },
    )

pub returns-clause-drawable : goal.returns-clause-drawable
returns-clause-drawable c =
    let s = c.in_ok-seen.ensures.seen in
    let w = world_of c.args.machine.now in
    let few = drawn_few c.args.part.from w s.0 (length c.args.records.now) (made_few w c.args.records.now s.0 c.in_ok-seen.seen.refused s.1) c.requires.drawn in
    let n = ap length s.2 in
    (omega (arith, few, n), c.service_count-services.ensures.few)
