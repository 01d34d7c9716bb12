use Rattle.std.proofs.Common.{◌≡◌, ◌++◌, List, ℕ, codes}
use Rattle.std.specs.Prelude.{option_map}
use Rattle.mx_why.specs.AfterRun.{command_text, events_word}
use Rattle.mx_why.proofs.Pieces.{joined, joined_is, last_joined}
use Rattle.mx_why.proofs.after_run.push_command.Goals as goal

pub returns : goal.returns
unfolding command_text
returns c =
    let a0 : List ℕ = codes " more: mx why " in
    let h0 : c.extend_from_slice.new.self.items ≡ c.args.out.now.items ++ a0 = c.in_ok-extend_from_slice.ensures.items in
    let a1 : List ℕ = a0 ++ (c.args.names.config.now) in
    let h1 : c.extend_from_slice-2.new.self.items ≡ c.args.out.now.items ++ a1 = joined_is c.args.out.now.items a0 c.as_bytes.result.now (c.args.names.config.now) h0 c.as_bytes.ensures.value c.in_ok-extend_from_slice-2.ensures.items in
    let a2 : List ℕ = a1 ++ (codes " ") in
    let h2 : c.extend_from_slice-3.new.self.items ≡ c.args.out.now.items ++ a2 = joined c.args.out.now.items a1 (codes " ") h1 c.in_ok-extend_from_slice-3.ensures.items in
    let a3 : List ℕ = a2 ++ (c.args.names.log.now) in
    let h3 : c.extend_from_slice-4.new.self.items ≡ c.args.out.now.items ++ a3 = joined_is c.args.out.now.items a2 c.as_bytes-2.result.now (c.args.names.log.now) h2 c.as_bytes-2.ensures.value c.in_ok-extend_from_slice-4.ensures.items in
    last_joined c.push_events.result c.args.out.now.items a3 (events_word (option_map (λ s. s.now) c.args.names.events)) c.extend_from_slice-4.new.self.items c.push_events.new.out.items h3 c.push_events.ensures
