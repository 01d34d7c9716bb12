-- What a processor holds, and the table to which it comes home.
use Rattle.std.proofs.Common.{◌≡◌, ◌≢◌, ◌∙◌, ℕ, zero, suc, ◌<◌, Bool, true, false, cond, List, [], ◌∷◌, length, map, Option, Some, None, refl, sym, ap, subst, get_or, get_or-set_same, get_or-set_other, length-set, inl, inr, arith}
use Rattle.std.proofs.lemmas.Bool.{cases_eq}
use Rattle.mx_exec.specs.declared.image.Image.{Image}
use Rattle.mx_proc.specs.declared.process.Process.{Process}
use Rattle.mx_proc.specs.declared.process.State.{State}
use Rattle.mx_proc.specs.declared.process.State.TheVariants.{Home, Ready, Out, Doomed, Sending, Calling, Receiving, Awaiting, Down}
use Rattle.mx_proc.specs.Queues.{tally}
use Rattle.mx_proc.specs.Sound.{Sound}
use Rattle.mx_proc.specs.States.{is_out, is_ready, is_sending}
use Rattle.mx_proc.specs.TableState.{TableState, nobody, process_at, table_after_move_home}
use Rattle.mx_proc.specs.Waits.{sends_of}
use Rattle.mx_machine.specs.Move.{table_after_coming_home}
use Rattle.mx_machine.specs.Sound.{IsSound, lease_at, lease_of}
use Rattle.mx_machine.specs.World.{World, HeldProcess, held_by}
use Rattle.mx_laws.proofs.Readies.{IsIdle, readies-at}
use Rattle.mx_laws.proofs.ReadyCalls.{IsQueued}

out_unsending : (st : State) → is_out st ≡ true → is_sending st ≡ false
out_unsending Home e = cc
out_unsending Ready e = cc
out_unsending Out e = refl
out_unsending Doomed e = refl
out_unsending Sending e = cc
out_unsending Calling e = cc
out_unsending (Receiving p) e = cc
out_unsending (Awaiting d) e = cc
out_unsending (Down c) e = cc

pub sound_queued : (t : TableState) → Sound t → IsQueued t
sound_queued t h = record { each = λ p e. (h.each p).waiting ∙ ap tally e }

leases_at : (xs : List (Option HeldProcess)) (a : ℕ) → lease_at (map lease_of xs) a ≡ lease_of (get_or xs a None)
leases_at [] a = refl
leases_at (x ∷ xs) zero = refl
leases_at (x ∷ xs) (suc a) = leases_at xs a

pub held_out : (v : World) (a : ℕ) (l : HeldProcess) → IsSound v → held_by v a ≡ Some l → is_out (process_at v.table l.slot).state ≡ true
held_out v a l h e = by_bool (is_out (process_at v.table l.slot).state) (h.holds.leased a (record { slot = l.slot; budget = l.out.budget }) (leases_at v.cpus a ∙ ap lease_of e))
  where
    by_bool : (b : Bool) → cond b (Some (process_at v.table l.slot).schedule.ticks) None ≡ Some l.out.budget → b ≡ true
    by_bool true f = refl
    by_bool false f = cc

pub out_within : (ps : List Process) (s : ℕ) → is_out (get_or ps s nobody).state ≡ true → s < length ps
out_within [] s e = cc
out_within (p ∷ ps) zero e = omega arith
out_within (p ∷ ps) (suc s) e = let h = out_within ps s e in omega arith

pub holds_in : (xs : List (Option HeldProcess)) (a : ℕ) (l : HeldProcess) → get_or xs a None ≡ Some l → a < length xs
holds_in [] a l e = cc
holds_in (x ∷ xs) zero l e = omega arith
holds_in (x ∷ xs) (suc a) l e = let h = holds_in xs a l e in omega arith

-- ---- the process that comes home

module _ (v : World) (a : ℕ) (l : HeldProcess) (sound : IsSound v) (held : held_by v a ≡ Some l) where
  abbrev pub home : TableState
  home = table_after_coming_home v.table l

  out : is_out (process_at v.table l.slot).state ≡ true
  out = held_out v a l sound held

  pub home_other : (q : ℕ) → q ≢ l.slot → process_at home q ≡ process_at v.table q
  unfolding table_after_coming_home
  home_other q m = get_or-set_other (table_after_move_home v.table l.slot l.out.image).slots l.slot q _ nobody m ∙ get_or-set_other v.table.slots l.slot q _ nobody m

  -- at home, with the image that was out
  home_as : State × Image
  home_as = let p = process_at home l.slot in (p.state, p.image)

  home_is : home_as ≡ (Home, l.out.image)
  unfolding table_after_coming_home home_as
  home_is =
      let seen : Process → State × Image = λ (x : Process). (x.state, x.image) in
      let lies = out_within v.table.slots l.slot out in
      let moved = table_after_move_home v.table l.slot l.out.image in
      let room : l.slot < length moved.slots = omega (arith, lies, length-set v.table.slots l.slot (record (process_at v.table l.slot) { state = Home; image = l.out.image })) in
      ap seen (get_or-set_same moved.slots l.slot _ nobody room) ∙ ap seen (get_or-set_same v.table.slots l.slot _ nobody lies)

  pub home_own : (process_at home l.slot).state ≡ Home
  unfolding home_as
  home_own = ap (λ x. x.0) home_is

  pub home_ecx : (process_at home l.slot).image.regs.ecx ≡ l.out.image.regs.ecx
  unfolding home_as
  home_ecx = ap (λ x. x.1.regs.ecx) home_is

  pub home_long : length home.slots ≡ length v.table.slots
  unfolding table_after_coming_home
  home_long = length-set (table_after_move_home v.table l.slot l.out.image).slots l.slot _ ∙ length-set v.table.slots l.slot _

  home_waits : home.waits ≡ v.table.waits
  unfolding table_after_coming_home
  home_waits = refl

  pub home_queued : IsQueued home
  home_queued = record {
    each = λ q e. ap (sends_of q) home_waits ∙ elim (cases_eq q l.slot) [
      | inl g ↦ (sound_queued v.table sound.table).each q (subst (λ z. is_sending (process_at v.table z).state ≡ false) (sym g) (out_unsending (process_at v.table l.slot).state out))
      | inr m ↦ (sound_queued v.table sound.table).each q (ap (λ (x : Process). is_sending x.state) (sym (home_other q m)) ∙ e)
    ];
  }

  pub home_idle : IsIdle home l.slot
  home_idle = readies-at home.slots l.slot ∙ ap is_ready home_own
