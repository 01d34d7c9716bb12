-- A run of events, one more each time.
use Rattle.std.proofs.Common.{◌≡◌, ◌∙◌, ℕ, List, [], ◌∷◌, ◌++◌, Result, refl, sym, ap, subst}
use Rattle.std.proofs.lemmas.List.{append_assoc}
use Rattle.mx_machine.specs.declared.events.Answer.{Answer}
use Rattle.mx_machine.specs.declared.events.Event.{Event}
use Rattle.mx_machine.specs.declared.events.Refusal.{Refusal}
use Rattle.mx_machine.specs.Move.{move, moves}
use Rattle.mx_machine.specs.Sound.{IsSound}
use Rattle.mx_machine.specs.World.{World}
use Rattle.mx_machine.specs.History.{BootAndHistory}
use Rattle.mx_machine.specs.Machine.{AreSound, kept_after, kept_along}
use Rattle.mx_machine.proofs.MachineLemmas.{moves-more}

abbrev Answered : Type 0
Answered = Result Answer Refusal

one_more : (w u v : World) (ys zs : List (ℕ × Event)) (x : ℕ × Event) (r : Answered) → zs ≡ ys ++ x ∷ [] → u ≡ (moves w ys).1 → move u x.0 x.1 ≡ (r, v)
    → moves w zs ≡ ((moves w ys).0 ++ r ∷ [], v)
one_more w u v ys zs x r more at m =
    ap (moves w) more ∙ moves-more w ys x
    ∙ ap (λ (p : Answered × World). let q : List Answered × World = ((moves w ys).0 ++ p.0 ∷ [], p.1) in q) (ap (λ z. move z x.0 x.1) (sym at) ∙ m)

pub next-answers : (w u v : World) (ys zs : List (ℕ × Event)) (x : ℕ × Event) (r : Answered) (olds firsts nows : List Answered) → zs ≡ ys ++ x ∷ [] → u ≡ (moves w ys).1 → move u x.0 x.1 ≡ (r, v)
    → olds ≡ firsts ++ (moves w ys).0 → nows ≡ olds ++ r ∷ [] → nows ≡ firsts ++ (moves w zs).0
next-answers w u v ys zs x r olds firsts nows more at m old new =
    new ∙ ap (λ l. l ++ r ∷ []) old ∙ append_assoc firsts (moves w ys).0 (r ∷ []) ∙ ap (λ (p : List Answered × World). firsts ++ p.0) (sym (one_more w u v ys zs x r more at m))

pub next-world : (w u v : World) (ys zs : List (ℕ × Event)) (x : ℕ × Event) (r : Answered) → zs ≡ ys ++ x ∷ [] → u ≡ (moves w ys).1 → move u x.0 x.1 ≡ (r, v) → v ≡ (moves w zs).1
next-world w u v ys zs x r more at m = sym (ap (λ (p : List Answered × World). p.1) (one_more w u v ys zs x r more at m))

-- ---- what is kept

along_more : (w : World) (k : BootAndHistory) (ys : List (ℕ × Event)) (x : ℕ × Event) (r : Answered) → kept_along k (ys ++ x ∷ []) ((moves w ys).0 ++ r ∷ []) ≡ kept_after (kept_along k ys (moves w ys).0) x.0 x.1 r
along_more w k [] x r = refl
along_more w k (y ∷ ys) x r = let m = move w y.0 y.1 in along_more m.1 (kept_after k y.0 y.1 m.0) ys x r

pub next-kept : (w u v : World) (k l m : BootAndHistory) (ys zs : List (ℕ × Event)) (x : ℕ × Event) (r : Answered) → zs ≡ ys ++ x ∷ [] → u ≡ (moves w ys).1 → move u x.0 x.1 ≡ (r, v)
    → l ≡ kept_along k ys (moves w ys).0 → m ≡ kept_after l x.0 x.1 r → m ≡ kept_along k zs (moves w zs).0
next-kept w u v k l m ys zs x r more at answered before after =
    after ∙ ap (λ (n : BootAndHistory). kept_after n x.0 x.1 r) before ∙ sym (along_more w k ys x r)
    ∙ ap (λ (rs : List Answered). kept_along k (ys ++ x ∷ []) rs) (sym (ap (λ (p : List Answered × World). p.0) (one_more w u v ys zs x r more at answered)) ∙ ap (λ (l : List (ℕ × Event)). (moves w l).0) more)
    ∙ ap (λ (l : List (ℕ × Event)). kept_along k l (moves w l).0) (sym more)

-- ---- what is sound

sound_more : (ys : List (ℕ × Event)) (w : World) (x : ℕ × Event) → AreSound w ys → IsSound (moves w ys).1 → AreSound w (ys ++ x ∷ [])
sound_more [] w x h k = (k, tt)
sound_more (y ∷ ys) w x h k = (h.0, sound_more ys (move w y.0 y.1).1 x h.1 k)

pub next-sound : (w u : World) (ys zs : List (ℕ × Event)) (x : ℕ × Event) → zs ≡ ys ++ x ∷ [] → u ≡ (moves w ys).1 → AreSound w ys → IsSound u → AreSound w zs
next-sound w u ys zs x more at h k = subst (AreSound w) (sym more) (sound_more ys w x h (subst IsSound at k))
