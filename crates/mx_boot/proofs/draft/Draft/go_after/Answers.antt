use Rattle.std.proofs.Common.{◌≡◌, false, subst, sym}
use Rattle.mx_boot.specs.Above.{ItemsAbove}
use Rattle.mx_boot.specs.Lines.{is_service_too_many}
use Rattle.mx_boot.proofs.Taking.{services_more}
use Rattle.mx_boot.proofs.draft.Draft.go_after.Goals as goal

pub invariant_of-self-in-Service : goal.invariant_of-self-in-Service
invariant_of-self-in-Service c =
    let before : ItemsAbove = record { cpus = c.self.inside.cpus; log = c.self.inside.log; others = c.self.inside.others; rules = c.self.inside.rules; services = c.self.inside.services.items } in
    services_more before c.push.new.self.items c.args.item c.in-Service.words c.in-Service.is
    (subst (λ (a : ItemsAbove). is_service_too_many a c.args.item ≡ false) (sym c.self.view_is) c.requires.room)
    c.requires.within c.self.invariant c.push.ensures.items
