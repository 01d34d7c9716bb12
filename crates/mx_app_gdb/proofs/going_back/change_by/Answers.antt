use Rattle.mx_app_gdb.proofs.Grown.{grown_by, grown_trans}
use Rattle.mx_app_gdb.proofs.going_back.change_by.Goals as goal

pub returns-clause-grown : goal.returns-clause-grown
returns-clause-grown g c = grown_trans _ _ _ (grown_by _ _ _ c.in_ok-walker.ensures.shown) (grown_by _ _ _ c.in_ok-walker-2.ensures.shown)
