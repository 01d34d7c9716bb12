use Rattle.std.proofs.Common.{◌≡◌, ◌∙◌, ◌-◌, ◌++◌, ◌∷◌, [], ℕ, List, Some, ap, arith, length, min, slice_get, sym}
use Rattle.mx_proc.specs.declared.devices.Devices.{Devices}
use Rattle.mx_proc.specs.TableState.{TableState}
use Rattle.mx_spool.specs.Spools.{SpoolView}
use Rattle.mx_spool.proofs.SpoolLemmas.{has_room, lacks_none, lacks_one}
use Rattle.mx_spool.proofs.spool.Spool.follow.Goals as goal

pub returns-then-count-len : goal.returns-then-count-len
returns-then-count-len c =
    let is = ap (λ (d : Devices). d.console) c.devices.ensures ∙ ap (λ (t : TableState). t.devices.console) c.table.ensures in
    let long = ap (λ (v : SpoolView). length v.bytes) (sym c.self.view_is) in
    let few = c.if-count-len.true in
    let counted = c.count-count.ensures in
    let vec = c.len.ensures in
    let ok = c.self.inside.bytes.ok in
    lacks_none c.args.kernel.now c.args.self.now c.devices.result.now.console c.facts.ensures.booted c.requires is (omega (arith, long, few, counted, vec, ok.0))

pub unreachable-requires : goal.unreachable-requires
unreachable-requires c =
    let is = ap (λ (d : Devices). d.console) c.devices.ensures ∙ ap (λ (t : TableState). t.devices.console) c.table.ensures in
    let long = ap (λ (v : SpoolView). length v.bytes) (sym c.self.view_is) in
    let more = c.if-count-len.false in
    let counted = c.count-count.ensures in
    let vec = c.len.ensures in
    let ok = c.self.inside.bytes.ok in
    let last = lacks_one c.args.kernel.now c.args.self.now c.devices.result.now.console c.facts.ensures.booted c.requires is (omega (arith, long, more, counted, vec, ok.0)) in
    let at : c.min.result - 1 ≡ min c.devices.result.now.console.count 4096 - 1 = omega (arith, c.min.ensures, counted) in
    c.in_default.not-Some last.0 (c.get.ensures ∙ ap (λ (i : ℕ). slice_get c.devices.result.now.console.kept i) at ∙ last.1.1)

pub push_reserved-requires : goal.push_reserved-requires
push_reserved-requires c =
    let is = ap (λ (d : Devices). d.console) c.devices.ensures ∙ ap (λ (t : TableState). t.devices.console) c.table.ensures in
    let long = ap (λ (v : SpoolView). length v.bytes) (sym c.self.view_is) in
    let more = c.if-count-len.false in
    let counted = c.count-count.ensures in
    let vec = c.len.ensures in
    let ok = c.self.inside.bytes.ok in
    let room = ap (λ (v : SpoolView). v.room) (sym c.self.view_is) in
    let within = has_room c.args.kernel.now c.args.self.now c.devices.result.now.console c.facts.ensures.sound c.requires is (omega (arith, long, more, counted, vec, ok.0)) in
    omega (arith, long, vec, ok.0, room, within)

pub returns : goal.returns
returns c =
    let is = ap (λ (d : Devices). d.console) c.devices.ensures ∙ ap (λ (t : TableState). t.devices.console) c.table.ensures in
    let long = ap (λ (v : SpoolView). length v.bytes) (sym c.self.view_is) in
    let more = c.if-count-len.false in
    let counted = c.count-count.ensures in
    let vec = c.len.ensures in
    let ok = c.self.inside.bytes.ok in
    let last = lacks_one c.args.kernel.now c.args.self.now c.devices.result.now.console c.facts.ensures.booted c.requires is (omega (arith, long, more, counted, vec, ok.0)) in
    let at : c.min.result - 1 ≡ min c.devices.result.now.console.count 4096 - 1 = omega (arith, c.min.ensures, counted) in
    let got : Some c.in-Some.byte ≡ Some last.0 = sym c.in-Some.is ∙ c.get.ensures ∙ ap (λ (i : ℕ). slice_get c.devices.result.now.console.kept i) at ∙ last.1.1 in
    let same : c.in-Some.byte ≡ last.0 = cc in
    let all : c.push_reserved.new.self.items ≡ c.args.self.now.bytes ++ last.0 ∷ [] =
    c.push_reserved.ensures.items ∙ ap (λ (l : List ℕ). l ++ c.in-Some.byte ∷ []) (ap (λ (v : SpoolView). v.bytes) c.self.view_is) ∙ ap (λ (b : ℕ). c.args.self.now.bytes ++ b ∷ []) same in
    let old = ap (λ (v : SpoolView). v.room) c.self.view_is in
    let room = c.requires.room in
    record { bytes = all ∙ sym last.1.0; room = omega (arith, c.push_reserved.ensures.capacity, old, room) }
