use Rattle.std.proofs.Common.{◌≡◌, ◌∙◌, List, [], ◌++◌, Option, None, Some, Ok, ap, refl, subst, sym}
use Rattle.std.specs.Prelude.{option_map}
use Rattle.std.proofs.lemmas.List.{append-nil}
use Rattle.mx_app_db.specs.Asked.{Asked}
use Rattle.mx_why.specs.declared.after_run.AfterRun.TheVariants as after
use Rattle.mx_why.specs.Begun.{FileNames, names_of}
use Rattle.mx_app.specs.AfterRun.{TellsAfter, made_by}
use Rattle.mx_app.proofs.after_run.told_after.Goals as goal

pub returns-in-Some : goal.returns-in-Some
returns-in-Some g c =
    let is : Some (names_of c.in-Some.names) ≡ made_by c.args.request = ap (option_map names_of) (sym c.in-Some.is) ∙ c.made_by.ensures in
    subst (λ (m : Option FileNames). (qs : List Asked) × (g.R.Reader.asked c.told_again.new.reader ≡ g.R.Reader.asked c.args.reader.now ++ qs) × TellsAfter c.args.strict m qs c.told_again.result) is
    c.told_again.ensures

pub returns-in-None : goal.returns-in-None
returns-in-None g c =
    let is : None ≡ made_by c.args.request = ap (option_map names_of) (sym c.in-None.is) ∙ c.made_by.ensures in
    ([], sym (append-nil _), subst (λ (m : Option FileNames). TellsAfter c.args.strict m [] (Ok after.Nothing)) is (refl, refl))
