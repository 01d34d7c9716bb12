-- Comparisons that are agreement.
use Rattle.std.proofs.Common.{◌≡◌, ℕ, Bool, true, false, ◌&&◌, IsTrue, ◌↔◌, length, refl, subst, ap}
use Rattle.std.specs.Prelude.{IsOk, Ok, Err, Result}
use Rattle.mx_insn.specs.declared.insn.Insn.{Insn}
use Rattle.mx_decode.specs.declared.DecodeFault.{DecodeFault}
use Rattle.mx_decode.specs.Decode.{front}
use Rattle.mx_exec.specs.declared.image.Image.{Image}
use Rattle.mx_exec.specs.declared.image.Outcome.{Outcome}
use Rattle.mx_exec.specs.Step.{one_step}
use Rattle.mx_vectors_compare.specs.declared.case.Case.{Case}
use Rattle.mx_vectors_compare.specs.Ends.{EndsAs, image_of_case}
use Rattle.mx_vectors_compare.specs.Agreement.{DoesAgree, StepAgrees, decoded_length}

abbrev instruction : Insn → ℕ → Insn × ℕ
instruction i k = (i, k)

abbrev decoded : Insn × ℕ → Result (Insn × ℕ) DecodeFault
decoded p = Ok p

whole_length : (p : Insn × ℕ) (i : Insn) (k : ℕ) → decoded p ≡ decoded (i, k) → p.1 ≡ k
whole_length p i k e = let q : p ≡ instruction i k = cc in ap (λ (x : Insn × ℕ). x.1) q

-- an instruction of this length
whole : (r : Result (Insn × ℕ) DecodeFault) (k : ℕ) → ((decoded_length r ≡ k) × IsOk r) ↔ ((i : Insn) × (r ≡ Ok (i, k)))
whole (Ok p) k = ((λ h. (p.0, let e : p.1 ≡ k = h.0 in ap (λ (n : ℕ). Ok (p.0, n)) e)), (λ h. let e = h.1 in (whole_length p h.0 k e, refl)))
whole (Err f) k = ((λ h. let bad = h.1 in absurd cc), (λ h. let e = h.1 in absurd cc))

-- the end of the case's image is the end that was compared
pub stepped : (c : Case) (i m : Image) (o : Outcome) (same : Bool) → i ≡ image_of_case c → o ≡ (one_step i).0 → m ≡ (one_step i).1
    → IsTrue same ↔ EndsAs c o m → IsTrue same ↔ StepAgrees c
stepped c i m o same is_i is_o is_m e =
    let first : IsTrue same ↔ EndsAs c (one_step i).0 m = subst (λ (x : Outcome). IsTrue same ↔ EndsAs c x m) is_o e in
    let second : IsTrue same ↔ EndsAs c (one_step i).0 (one_step i).1 = subst (λ (x : Image). IsTrue same ↔ EndsAs c (one_step i).0 x) is_m first in
    subst (λ (x : Image). IsTrue same ↔ EndsAs c (one_step x).0 (one_step x).1) is_i second

-- three comparisons are agreement
pub agreeing : (c : Case) (size spelling step : Bool) → IsTrue size ↔ (decoded_length (front c.bytes) ≡ length c.bytes)
    → IsTrue spelling ↔ IsOk (front c.bytes) → IsTrue step ↔ StepAgrees c → IsTrue (size && spelling && step) ↔ DoesAgree c
agreeing c true true true a b d =
    ((λ _. record { spelled = (whole (front c.bytes) (length c.bytes)).0 (a.0 refl, b.0 refl); step = d.0 refl }), (λ _. refl))
agreeing c true true false a b d = ((λ e. absurd cc), (λ s. d.1 s.step))
agreeing c true false step a b d = ((λ e. absurd cc), (λ s. b.1 ((whole (front c.bytes) (length c.bytes)).1 s.spelled).1))
agreeing c false spelling step a b d = ((λ e. absurd cc), (λ s. a.1 ((whole (front c.bytes) (length c.bytes)).1 s.spelled).0))
