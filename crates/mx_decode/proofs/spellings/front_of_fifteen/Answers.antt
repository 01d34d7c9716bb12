use Rattle.mx_decode.proofs.Front.{front_same, front_takes}
use Rattle.mx_decode.proofs.spellings.front_of_fifteen.Goals as goal

pub returns-clause-same : goal.returns-clause-same
returns-clause-same c = front_same

pub returns-clause-least : goal.returns-clause-least
returns-clause-least c = λ bytes i k small e. (front_takes bytes i k small e).least

pub returns-clause-most : goal.returns-clause-most
returns-clause-most c = λ bytes i k small e. (front_takes bytes i k small e).most

pub returns-clause-within : goal.returns-clause-within
returns-clause-within c = λ bytes i k small e. (front_takes bytes i k small e).within
