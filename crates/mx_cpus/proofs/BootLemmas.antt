-- Kernel and desk agree at boot.
use Rattle.std.proofs.Common.{◌≡◌, ◌∙◌, ℕ, zero, suc, ◌+◌, List, [], ◌∷◌, map, replicate, None, refl, sym, subst, ap, arith}
use Rattle.std.specs.Prelude.{All}
use Rattle.std.proofs.lemmas.List.{length-replicate}
use Rattle.std.proofs.lemmas.List.Elements.{All-push}
use Rattle.mx_machine.specs.declared.config.Config.{Config}
use Rattle.mx_machine.specs.Service.{Service}
use Rattle.mx_machine.specs.Rules.{Rules}
use Rattle.mx_machine.specs.Boot.{world_at_boot_with}
use Rattle.mx_machine.specs.History.{BootAndHistory, replay}
use Rattle.mx_machine.specs.World.{actors}
use Rattle.mx_spool.specs.Spools.{IsSpoolOf, SpoolView}
use Rattle.atomic_table.specs.Seated.{TableId}
use Rattle.mx_cpus.specs.Seats.{DeskView, SeatView, empty_desk, new_seat, new_seats}
use Rattle.mx_cpus.specs.Calls.{desk_beside, out_of_lent, outs_of, world_after}
use Rattle.mx_cpus.specs.Boots.{IsBlank, all_seats}

no_outs : (n : ℕ) → map out_of_lent (replicate n None) ≡ replicate n None
no_outs zero = refl
no_outs (suc n) = ap (λ l. None ∷ l) (no_outs n)

-- nothing is out
outs_at_boot : (rules : Rules) (v : List Service) (n o c : ℕ) → outs_of (world_after (world_at_boot_with rules v n o c) []) ≡ replicate n None
unfolding replay
outs_at_boot rules v n o c = no_outs n

-- the actors are the processors and the others
actors_at_boot : (rules : Rules) (v : List Service) (n o c : ℕ) → actors (world_at_boot_with rules v n o c) ≡ n + o
actors_at_boot rules v n o c = ap (λ m. m + o) (length-replicate n None)

-- an empty spool with room for all records is that of a kernel without a record
spool_at_boot : (k : BootAndHistory) (s : SpoolView) (rules : Rules) (v : List Service) (n o c : ℕ) → k ≡ record { boot = world_at_boot_with rules v n o c; history = [] } → s ≡ record { bytes = []; room = c } → IsSpoolOf k s
spool_at_boot k s rules v n o c kernel spool =
    subst (λ (x : BootAndHistory). IsSpoolOf x s) (sym kernel)
    (record { bytes = ap (λ (x : SpoolView). x.bytes) spool; room = (let room = ap (λ (x : SpoolView). x.room) spool in omega (arith, room)) })

-- an empty desk and an empty spool agree with the kernel of a configuration
pub blank_at_boot : (d : DeskView) (k : BootAndHistory) (s : SpoolView) (rules : Rules) (v : List Service) (n o c : ℕ) → d ≡ empty_desk d.table n → d.table.words ≡ n + o → k ≡ record { boot = world_at_boot_with rules v n o c; history = [] }
    → s ≡ record { bytes = []; room = c } → IsBlank d k s
blank_at_boot d k s rules v n o c desk words kernel spool = (
  ap (λ (x : BootAndHistory). x.history) kernel,
  (
    refl,
    words ∙ sym (ap (λ (x : BootAndHistory). actors x.boot) kernel ∙ actors_at_boot rules v n o c),
    desk ∙ sym (ap (desk_beside d.table) kernel ∙ ap (λ l. let y : DeskView = record { table = d.table; history = []; lent = l } in y) (outs_at_boot rules v n o c)),
    spool_at_boot k s rules v n o c kernel spool,
  ),
)

-- what holds of each new seat holds of all of them
all_new : (P : SeatView → Type 0) (z : TableId) (n : ℕ) → ((m : ℕ) → P (new_seat z m)) → All P (new_seats z n)
all_new P z zero h = λ k d below. absurd (omega arith)
all_new P z (suc n) h = All-push P (new_seats z n) (new_seat z n) (all_new P z n h) (h n)

pub all_at_boot : (P : SeatView → Type 0) (seats : List SeatView) (c : Config) (z : TableId) → seats ≡ all_seats c z → ((m : ℕ) → P (new_seat z m)) → All P seats
all_at_boot P seats c z same h = subst (All P) (sym same) (all_new P z (c.cpus + c.others) h)
