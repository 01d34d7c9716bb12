use Rattle.std.proofs.Common.{rules, arith, ◌≡◌, length, length-drop, string_bytes, ap, ◌∙◌}
use Rattle.mx_dis.specs.Parting.{part_size}
use Rattle.mx_dis.proofs.Listings.{more_lines, whole}
use Rattle.mx_dis.proofs.listing.list.Goals as goal

pub loop-rest-preserved : goal.loop-rest-preserved
loop-rest-preserved c =
    let rest = c.loop-rest.rest.now in
    let step : c.from-at.result ≡ part_size c.first_part-part.result = c.from-at.ensures ∙ c.size.ensures in
    let lines = more_lines c.loop-rest.at rest c.args.program.now.text c.first_part-part.result (string_bytes c.loop-rest.out) (string_bytes c.push_line.new.out) c.first_part-part.ensures.parting c.loop-rest.invariant.completes c.in_ok-push_line.ensures in record {
      place = omega (arith, ap length c.after-rest.ensures, length-drop (part_size c.first_part-part.result) rest);
      completes = λ more listed. lines more (rw (step, c.after-rest.ensures) at listed);
    }

pub returns : goal.returns
returns c = whole c.loop-rest.at c.loop-rest.rest.now c.args.program.now.text (string_bytes c.loop-rest.out) (search rules) c.loop-rest.invariant.completes
