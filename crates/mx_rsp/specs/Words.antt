-- The words of requests ("Debugging with GDB", "Packets" and "General Query Packets").
use Rattle.std.specs.Prelude.{ℕ, Bool, List, [], ◌∷◌, Option, codes, find, is_some}
use Rattle.std.specs.Str.{bytes_eq}
use Rattle.mx_rsp.specs.declared.words.Word.{Word}
use Rattle.mx_rsp.specs.declared.words.Word.TheVariants.{WhyHalted, Registers, NoAcks, Threads, MoreThreads, Current, IsAttached, Actions, StepBack, ContinueBack, Detach, End}
use Rattle.mx_rsp.specs.declared.words.Verb.{Verb}
use Rattle.mx_rsp.specs.declared.words.Verb.TheVariants as verb
use Rattle.mx_rsp.specs.Fields.{after}

-- ---- requests that are one word

abbrev pub word_text : Word → List ℕ
word_text WhyHalted = codes "?"
word_text Registers = codes "g"
word_text NoAcks = codes "QStartNoAckMode"
word_text Threads = codes "qfThreadInfo"
word_text MoreThreads = codes "qsThreadInfo"
word_text Current = codes "qC"
word_text IsAttached = codes "qAttached"
word_text Actions = codes "vCont?"
word_text StepBack = codes "bs"
word_text ContinueBack = codes "bc"
word_text Detach = codes "D"
word_text End = codes "k"

abbrev pub words : List Word
words =
    WhyHalted ∷ Registers ∷ NoAcks ∷ Threads ∷ MoreThreads ∷ Current ∷ IsAttached ∷ Actions ∷ StepBack ∷ ContinueBack
    ∷ Detach ∷ End ∷ []

-- the word that a text is
abbrev pub word_of : List ℕ → Option Word
word_of text = find (λ w. bytes_eq text (word_text w)) words

-- ---- what arguments follow

abbrev pub verb_text : Verb → List ℕ
verb_text verb.Supported = codes "qSupported"
verb_text verb.AttachedTo = codes "qAttached:"
verb_text verb.ThreadText = codes "qThreadExtraInfo,"
verb_text verb.Description = codes "qXfer:features:read:target.xml:"
verb_text verb.File = codes "qXfer:exec-file:read:"
verb_text verb.Resume = codes "vCont;"
verb_text verb.ForReading = codes "Hg"
verb_text verb.ForGoing = codes "Hc"
verb_text verb.IsAlive = codes "T"
verb_text verb.Register = codes "p"
verb_text verb.Memory = codes "m"
verb_text verb.BreakSoft = codes "Z0,"
verb_text verb.BreakHard = codes "Z1,"
verb_text verb.Watch = codes "Z2,"
verb_text verb.UnbreakSoft = codes "z0,"
verb_text verb.UnbreakHard = codes "z1,"
verb_text verb.Unwatch = codes "z2,"
verb_text verb.DetachFrom = codes "D;"
verb_text verb.WriteMemory = codes "M"
verb_text verb.WriteBytes = codes "X"
verb_text verb.WriteRegisters = codes "G"
verb_text verb.WriteRegister = codes "P"

abbrev pub verbs : List Verb
verbs =
    verb.Supported ∷ verb.AttachedTo ∷ verb.ThreadText ∷ verb.Description ∷ verb.File ∷ verb.Resume ∷ verb.ForReading
    ∷ verb.ForGoing ∷ verb.IsAlive ∷ verb.Register ∷ verb.Memory ∷ verb.BreakSoft ∷ verb.BreakHard ∷ verb.Watch
    ∷ verb.UnbreakSoft ∷ verb.UnbreakHard ∷ verb.Unwatch ∷ verb.DetachFrom ∷ verb.WriteMemory ∷ verb.WriteBytes
    ∷ verb.WriteRegisters ∷ verb.WriteRegister ∷ []

abbrev pub begins : List ℕ → Verb → Bool
begins text v = is_some (after (verb_text v) text)

-- the verb that a text begins with
abbrev pub verb_of : List ℕ → Option Verb
verb_of text = find (begins text) verbs
