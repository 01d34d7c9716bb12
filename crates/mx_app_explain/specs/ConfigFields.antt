-- The places of a configuration's line, and what is wanted at each (our own words).
use Rattle.std.specs.Prelude.{ℕ, List, codes, Option, Some, None}
use Rattle.mx_app_explain.specs.declared.config_field.Key.{Key as Kind}
use Rattle.mx_app_explain.specs.declared.config_field.Key.TheVariants as keys
use Rattle.mx_app_explain.specs.declared.config_field.Field.{Field}
use Rattle.mx_app_explain.specs.declared.config_field.Field.TheVariants.{Item, Cpus, Others, Log, Rules, ItemEnd, Name, File, Key, Value, ServiceEnd}

abbrev pub key_word : Kind → List ℕ
key_word keys.Traps = codes "traps"
key_word keys.Send = codes "send"
key_word keys.Calls = codes "calls"
key_word keys.Level = codes "level"
key_word keys.Best = codes "best"
key_word keys.Quantum = codes "quantum"
key_word keys.Restarts = codes "restarts"

-- how many words of the line are before a place
abbrev pub words_before : Field → ℕ
words_before Item = 0
words_before Cpus = 1
words_before Others = 1
words_before Log = 1
words_before Rules = 1
words_before ItemEnd = 2
words_before Name = 1
words_before File = 2
words_before (Key keys.Traps) = 3
words_before (Value keys.Traps) = 4
words_before (Key keys.Send) = 5
words_before (Value keys.Send) = 6
words_before (Key keys.Calls) = 7
words_before (Value keys.Calls) = 8
words_before (Key keys.Level) = 9
words_before (Value keys.Level) = 10
words_before (Key keys.Best) = 11
words_before (Value keys.Best) = 12
words_before (Key keys.Quantum) = 13
words_before (Value keys.Quantum) = 14
words_before (Key keys.Restarts) = 15
words_before (Value keys.Restarts) = 16
words_before ServiceEnd = 17

-- what a value is called; a word of the form itself has no name
abbrev pub value_name : Field → Option (List ℕ)
value_name Cpus = Some (codes "cpus")
value_name Others = Some (codes "others")
value_name Log = Some (codes "log")
value_name Rules = Some (codes "rules")
value_name Name = Some (codes "NAME")
value_name File = Some (codes "FILE")
value_name (Value key) = Some (key_word key)
value_name place = None

abbrev pub wanted_at : Field → List ℕ
wanted_at Item = codes "cpus, others, log, rules or service"
wanted_at Cpus = codes "1 to 8"
wanted_at Others = codes "1 to 4"
wanted_at Log = codes "1 to 1048576"
wanted_at Rules = codes "1 or 2"
wanted_at Name = codes "a letter or _, and then letters, digits and _, at most 8 in all, and no register or size"
wanted_at File = codes "the name of the program's file, without spaces, tabs and quotes"
wanted_at (Key key) = key_word key
wanted_at (Value keys.Level) = codes "0 to 14"
wanted_at (Value keys.Best) = codes "0 to the level"
wanted_at (Value keys.Quantum) = codes "1 to 65535"
wanted_at (Value keys.Restarts) = codes "0 to 1048575"
wanted_at (Value key) = codes "1 to 8 hexadecimal digits, without 0x"
wanted_at ItemEnd = codes "the end of the line"
wanted_at ServiceEnd = codes "the end of the line"
