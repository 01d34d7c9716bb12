use Rattle.std.proofs.Common.{◌≡◌, length, arith}
use Rattle.std.proofs.lemmas.Grind.{common_steps}
use Rattle.std.specs.List.{All}
use Rattle.mx_app_draw.specs.Inside.{IsInside}
use Rattle.mx_app_draw.specs.Layout.{strip_at, paper_width, paper_height}
use Rattle.mx_app_draw.specs.Picture.{picture}
use Rattle.mx_app_draw.proofs.Covered.{each_is_covered}
use Rattle.mx_app_draw.proofs.Edges.{all_inside}
use Rattle.mx_app_draw.proofs.Paper.{picture_within}
use Rattle.mx_app_draw.proofs.whole_picture.picture.Goals as goal

pub returns-in_err-push-clause-covered : goal.returns-in_err-push-clause-covered
returns-in_err-push-clause-covered c k s low under =
    each_is_covered c.args.scene.now (strip_at c.args.scene.now.services (length c.args.scene.now.transitions.items) k) s

pub returns-in_err-push_strips-clause-covered : goal.returns-in_err-push_strips-clause-covered
returns-in_err-push_strips-clause-covered c k s low under =
    each_is_covered c.args.scene.now (strip_at c.args.scene.now.services (length c.args.scene.now.transitions.items) k) s

pub returns-in_err-push_refused-clause-covered : goal.returns-in_err-push_refused-clause-covered
returns-in_err-push_refused-clause-covered c k s low under =
    each_is_covered c.args.scene.now (strip_at c.args.scene.now.services (length c.args.scene.now.transitions.items) k) s

pub returns-in_err-push_legend-clause-covered : goal.returns-in_err-push_legend-clause-covered
returns-in_err-push_legend-clause-covered c k s low under =
    each_is_covered c.args.scene.now (strip_at c.args.scene.now.services (length c.args.scene.now.transitions.items) k) s

pub returns-clause-covered : goal.returns-clause-covered
returns-clause-covered c k s low under =
    each_is_covered c.args.scene.now (strip_at c.args.scene.now.services (length c.args.scene.now.transitions.items) k) s

pub returns-clause-inside : goal.returns-clause-inside
unfolding picture
returns-clause-inside c =
    let n = length c.args.scene.now.transitions.items in
    let width : c.paper_width-width.result ≡ paper_width n = grind (arith, common_steps) in
    let height : c.paper_height.result ≡ paper_height c.args.scene.now.services n = grind (arith, common_steps) in
    let items : c.push_legend.new.out.items ≡ picture c.args.scene.now = grind (arith, common_steps) in
    let inside : All (IsInside (paper_width n) (paper_height c.args.scene.now.services n)) (picture c.args.scene.now) =
    all_inside (paper_width n) (paper_height c.args.scene.now.services n) (picture c.args.scene.now) (picture_within c.args.scene.now) in
    rw (width, height, items) inside
