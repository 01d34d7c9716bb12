-- How it is said how turns ended (our own).
use Rattle.std.specs.Prelude.{ℕ, List, codes}
use Rattle.mx_turns.specs.declared.turns.Ending.{Ending}
use Rattle.mx_turns.specs.declared.turns.Ending.TheVariants.{Rest, Turns, Full}

-- THE WORD FOR AN ENDING, of turns or of a run
abbrev pub ending_word : Ending → List ℕ
ending_word Rest = codes "rest"
ending_word Turns = codes "turns"
ending_word Full = codes "full"
