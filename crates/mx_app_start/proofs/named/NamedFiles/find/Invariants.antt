use Rattle.std.proofs.Common.{◌≡◌, drop}
use Rattle.mx_app_start.specs.Named.{bytes_named}
use Rattle.mx_app_start.proofs.named.NamedFiles.find.Given as goal

-- no file so far has the name
abbrev pub invariant-loop-file : goal.invariant-loop-file
invariant-loop-file l = bytes_named l.self.files.now l.name ≡ bytes_named (drop l.file-index l.self.files.now) l.name
