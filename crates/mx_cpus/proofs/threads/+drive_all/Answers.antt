use Rattle.std.proofs.Common.{◌≡◌, None, Some, length, refl, rules, true}
use Rattle.std.proofs.lemmas.Option.{MatchOption-at_some}
use Rattle.mx_cpus.specs.Seats.{SeatView}
use Rattle.mx_cpus.specs.Outsiders.{IsDrivenIf, IsEndTold, IsServedIf, role_of}
use Rattle.mx_cpus.proofs.DrivingLemmas.{driven_as, driven_by, driven_idle, driven_tables, each_push, role_here, served_as, served_by, served_idle, told_as, told_by, told_push, whole_as, whole_by, whole_idle, whole_push}
use Rattle.mx_cpus.proofs.threads.+drive_all.Goals as goal

pub returns-in_default-role_of-clause-driven : goal.returns-in_default-role_of-clause-driven
returns-in_default-role_of-clause-driven g t c =
    let cpus = length g.M.Naming.boot.cpus in
    let n = c.args.context.now.ticks in
    let xs = c.args.context.now.calls.now in
    let seat = c.in-Some.seat in
    let none : c.role_of.result ≡ None = search rules in
    let idle = role_here c.actor.result c.cpus.result seat.actor cpus xs c.role_of.result None c.role_of.ensures c.actor.ensures c.cpus.ensures none in
    each_push (λ (s u : SeatView). IsDrivenIf (role_of s.actor cpus xs) n xs s u) c.pop.new.self.items c.drive_all.new.seats.items c.args.seats.now.items c.push_reserved.new.self.items seat seat
    c.in-Some.ensures.items c.push_reserved.ensures.items c.in_ok-whole.ensures.driven (driven_idle n xs (role_of seat.actor cpus xs) seat idle)

pub returns-in_default-role_of-clause-served : goal.returns-in_default-role_of-clause-served
returns-in_default-role_of-clause-served g t c =
    let cpus = length g.M.Naming.boot.cpus in
    let n = c.args.context.now.ticks in
    let xs = c.args.context.now.calls.now in
    let called = g.G.WatchingGate.was_called c.args.context.now.gate.now in
    let seat = c.in-Some.seat in
    let none : c.role_of.result ≡ None = search rules in
    let idle = role_here c.actor.result c.cpus.result seat.actor cpus xs c.role_of.result None c.role_of.ensures c.actor.ensures c.cpus.ensures none in
    each_push (λ (s u : SeatView). IsServedIf (role_of s.actor cpus xs) g.M.Naming.boot called n xs s u) c.pop.new.self.items c.drive_all.new.seats.items c.args.seats.now.items c.push_reserved.new.self.items seat seat
    c.in-Some.ensures.items c.push_reserved.ensures.items c.in_ok-whole.ensures.served (served_idle n xs g.M.Naming.boot called (role_of seat.actor cpus xs) seat seat idle)

pub returns-in_default-role_of-clause-tables : goal.returns-in_default-role_of-clause-tables
returns-in_default-role_of-clause-tables g t c =
    driven_tables c.args.context.now.ticks c.args.context.now.calls.now g.M.Naming.table (length g.M.Naming.boot.cpus) c.args.seats.now.items c.push_reserved.new.self.items c.requires.tables (returns-in_default-role_of-clause-driven g t c)

pub returns-in_err-started-clause-told : goal.returns-in_err-started-clause-told
returns-in_err-started-clause-told g t c =
    let cpus = length g.M.Naming.boot.cpus in
    let xs = c.args.context.now.calls.now in
    let called = g.G.WatchingGate.was_called c.args.context.now.gate.now in
    let seat = c.in-Some.seat in
    told_push (λ (s : SeatView). IsEndTold (role_of s.actor cpus xs) called s) c.pop.new.self.items c.args.seats.now.items seat c.in-Some.ensures.items c.drive_all-others.ensures.told
    (told_as called (role_of seat.actor cpus xs) seat c.in_err-started.ensures.told)

pub returns-in_err-all-clause-told : goal.returns-in_err-all-clause-told
returns-in_err-all-clause-told g t c =
    let cpus = length g.M.Naming.boot.cpus in
    let xs = c.args.context.now.calls.now in
    let called = g.G.WatchingGate.was_called c.args.context.now.gate.now in
    let seat = c.in-Some.seat in
    let p = c.in_ok-started.field-0.promise in
    let e = c.in_ok-started.ensures.ok in
    let told = told_by g.G.WatchingGate.was_called p.gate.value c.args.context.now.gate.now p.from.value seat e.1 e.0 c.join-seat.ensures.0 in
    told_push (λ (s : SeatView). IsEndTold (role_of s.actor cpus xs) called s) c.pop.new.self.items c.args.seats.now.items seat c.in-Some.ensures.items c.drive_all-others.ensures.told
    (told_as called (role_of seat.actor cpus xs) seat told)

pub returns-in_default-end-clause-told : goal.returns-in_default-end-clause-told
returns-in_default-end-clause-told g t c =
    let cpus = length g.M.Naming.boot.cpus in
    let xs = c.args.context.now.calls.now in
    let called = g.G.WatchingGate.was_called c.args.context.now.gate.now in
    let seat = c.in-Some.seat in
    let p = c.in_ok-started.field-0.promise in
    let e = c.in_ok-started.ensures.ok in
    let told = told_by g.G.WatchingGate.was_called p.gate.value c.args.context.now.gate.now p.from.value seat e.1 e.0 c.join-seat.ensures.0 in
    told_push (λ (s : SeatView). IsEndTold (role_of s.actor cpus xs) called s) c.pop.new.self.items c.args.seats.now.items seat c.in-Some.ensures.items c.drive_all-others.ensures.told
    (told_as called (role_of seat.actor cpus xs) seat told)

pub returns-clause-driven : goal.returns-clause-driven
returns-clause-driven g t c =
    let cpus = length g.M.Naming.boot.cpus in
    let n = c.args.context.now.ticks in
    let xs = c.args.context.now.calls.now in
    let seat = c.in-Some.seat in
    let role = c.in-Some-role_of.role in
    let p = c.in_ok-started.field-0.promise in
    let e = c.in_ok-started.ensures.ok in
    let its : role_of seat.actor cpus xs ≡ Some role = role_here c.actor.result c.cpus.result seat.actor cpus xs c.role_of.result (Some role) c.role_of.ensures c.actor.ensures c.cpus.ensures c.in-Some-role_of.is in
    let ends = MatchOption-at_some _ _ c.in-Some-end.own c.in-Some-end.is c.join-seat.ensures.1 in
    each_push (λ (s u : SeatView). IsDrivenIf (role_of s.actor cpus xs) n xs s u) c.pop.new.self.items c.drive_all-others.new.seats.items c.args.seats.now.items c.push_reserved-2.new.self.items seat c.join-seat.result.0
    c.in-Some.ensures.items c.push_reserved-2.ensures.items c.in_ok-all.ensures.driven
    (driven_as n xs (role_of seat.actor cpus xs) role seat c.join-seat.result.0 its
    (driven_by p.role role p.ticks n p.calls.now xs p.from.value seat c.join-seat.result.0 e.2 e.3 e.4 e.0 ends.0))

pub returns-clause-served : goal.returns-clause-served
returns-clause-served g t c =
    let cpus = length g.M.Naming.boot.cpus in
    let n = c.args.context.now.ticks in
    let xs = c.args.context.now.calls.now in
    let called = g.G.WatchingGate.was_called c.args.context.now.gate.now in
    let seat = c.in-Some.seat in
    let role = c.in-Some-role_of.role in
    let p = c.in_ok-started.field-0.promise in
    let e = c.in_ok-started.ensures.ok in
    let its : role_of seat.actor cpus xs ≡ Some role = role_here c.actor.result c.cpus.result seat.actor cpus xs c.role_of.result (Some role) c.role_of.ensures c.actor.ensures c.cpus.ensures c.in-Some-role_of.is in
    let ends = MatchOption-at_some _ _ c.in-Some-end.own c.in-Some-end.is c.join-seat.ensures.1 in
    each_push (λ (s u : SeatView). IsServedIf (role_of s.actor cpus xs) g.M.Naming.boot called n xs s u) c.pop.new.self.items c.drive_all-others.new.seats.items c.args.seats.now.items c.push_reserved-2.new.self.items seat c.join-seat.result.0
    c.in-Some.ensures.items c.push_reserved-2.ensures.items c.in_ok-all.ensures.served
    (served_as n xs g.M.Naming.boot called (role_of seat.actor cpus xs) role seat c.join-seat.result.0 its
    (served_by g.M.Naming.boot g.G.WatchingGate.was_called p.gate.value c.args.context.now.gate.now p.role role p.ticks n p.calls.now xs p.from.value seat c.join-seat.result.0 e.1 e.2 e.3 e.4 e.0 ends.1))

pub returns-clause-told : goal.returns-clause-told
returns-clause-told g t c =
    let cpus = length g.M.Naming.boot.cpus in
    let xs = c.args.context.now.calls.now in
    let called = g.G.WatchingGate.was_called c.args.context.now.gate.now in
    let seat = c.in-Some.seat in
    let p = c.in_ok-started.field-0.promise in
    let e = c.in_ok-started.ensures.ok in
    let told = told_by g.G.WatchingGate.was_called p.gate.value c.args.context.now.gate.now p.from.value seat e.1 e.0 c.join-seat.ensures.0 in
    told_push (λ (s : SeatView). IsEndTold (role_of s.actor cpus xs) called s) c.pop.new.self.items c.args.seats.now.items seat c.in-Some.ensures.items c.drive_all-others.ensures.told
    (told_as called (role_of seat.actor cpus xs) seat told)

pub returns-clause-tables : goal.returns-clause-tables
returns-clause-tables g t c =
    driven_tables c.args.context.now.ticks c.args.context.now.calls.now g.M.Naming.table (length g.M.Naming.boot.cpus) c.args.seats.now.items c.push_reserved-2.new.self.items c.requires.tables (returns-clause-driven g t c)

pub returns-in_default-role_of-clause-whole : goal.returns-in_default-role_of-clause-whole
returns-in_default-role_of-clause-whole g t c =
    let cpus = length g.M.Naming.boot.cpus in
    let xs = c.args.context.now.calls.now in
    let called = g.G.WatchingGate.was_called c.args.context.now.gate.now in
    let seat = c.in-Some.seat in
    let none : c.role_of.result ≡ None = search rules in
    let idle = role_here c.actor.result c.cpus.result seat.actor cpus xs c.role_of.result None c.role_of.ensures c.actor.ensures c.cpus.ensures none in
    whole_push g.M.Naming.boot called cpus xs c.pop.new.self.items c.drive_all.new.seats.items c.args.seats.now.items c.push_reserved.new.self.items seat seat true c.in_ok-whole.whole c.in_ok-whole.whole
    c.in-Some.ensures.items c.push_reserved.ensures.items refl c.in_ok-whole.ensures.whole (whole_idle g.M.Naming.boot called cpus xs (role_of seat.actor cpus xs) seat seat idle)

pub returns-clause-whole : goal.returns-clause-whole
returns-clause-whole g t c =
    let cpus = length g.M.Naming.boot.cpus in
    let xs = c.args.context.now.calls.now in
    let called = g.G.WatchingGate.was_called c.args.context.now.gate.now in
    let seat = c.in-Some.seat in
    let role = c.in-Some-role_of.role in
    let p = c.in_ok-started.field-0.promise in
    let e = c.in_ok-started.ensures.ok in
    let its : role_of seat.actor cpus xs ≡ Some role = role_here c.actor.result c.cpus.result seat.actor cpus xs c.role_of.result (Some role) c.role_of.ensures c.actor.ensures c.cpus.ensures c.in-Some-role_of.is in
    let ends = MatchOption-at_some _ _ c.in-Some-end.own c.in-Some-end.is c.join-seat.ensures.1 in
    whole_push g.M.Naming.boot called cpus xs c.pop.new.self.items c.drive_all-others.new.seats.items c.args.seats.now.items c.push_reserved-2.new.self.items seat c.join-seat.result.0 c.in-Some-end.own c.in_ok-all.all c.both.result
    c.in-Some.ensures.items c.push_reserved-2.ensures.items c.both.ensures c.in_ok-all.ensures.whole
    (whole_as g.M.Naming.boot called cpus xs (role_of seat.actor cpus xs) role seat c.join-seat.result.0 c.in-Some-end.own its
    (whole_by g.M.Naming.boot g.G.WatchingGate.was_called p.gate.value c.args.context.now.gate.now p.role role p.calls.now xs p.from.value seat c.join-seat.result.0 c.in-Some-end.own e.1 e.2 e.4 e.0 ends.2))
