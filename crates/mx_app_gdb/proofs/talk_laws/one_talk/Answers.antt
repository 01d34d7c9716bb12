use Rattle.mx_app_gdb.proofs.OneTalk.{texts_are_one}
use Rattle.mx_app_gdb.proofs.talk_laws.one_talk.Goals as goal

pub returns : goal.returns
returns c = λ boot records config only j k t u typed a b h g begun too one other.
    texts_are_one boot records config only j k t u h g begun too typed a b one other
