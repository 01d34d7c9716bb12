use Rattle.mx_load.proofs.loading.code_of.Goals as goal

pub with_cache-requires : goal.with_cache-requires
with_cache-requires c =
    let room = rw c.in-Some.is at c.requires in
    room.2 c.fill.new.segment
