-- A text that is printed in pieces.
use Rattle.std.proofs.Common.{◌≡◌, ◌∙◌, ℕ, List, [], ◌++◌, Option, append_assoc, ap, refl, subst, sym}
use Rattle.std.proofs.KnownBytes.{Appends-nil, Appends-trans}
use Rattle.std.proofs.lemmas.List.{append-nil}
use Rattle.std.specs.Io.KnownBytes.{Appends}
use Rattle.mx_app_step.specs.Pieces.{IsPrintedBut}

-- nothing is printed yet
pub none_printed : (x : Option (List ℕ)) (end : List ℕ) → IsPrintedBut x x end end
none_printed x end = ([], Appends-nil x, refl)

-- all of it is
pub all_printed : (x y : Option (List ℕ)) (slice text end : List ℕ) → Appends x y slice → slice ≡ text → end ≡ [] → IsPrintedBut x y end text
all_printed x y slice text end a is empty = (slice, a, sym is ∙ sym (append-nil slice) ∙ ap (λ e. slice ++ e) (sym empty))

-- a line more, and then a piece
pub next_printed : (x y z : Option (List ℕ)) (end left text line more : List ℕ) → IsPrintedBut x y end text → IsPrintedBut y z left (end ++ line) → more ≡ text ++ line → IsPrintedBut x z left more
next_printed x y z end left text line more (f, a, e) (g, b, h) is = (
  f ++ g,
  Appends-trans x y z f g a b,
  is ∙ ap (λ t. t ++ line) e ∙ append_assoc f end line ∙ ap (λ t. f ++ t) h ∙ sym (append_assoc f g left),
)

-- the end is printed too
pub rest_printed : (x y z : Option (List ℕ)) (end text slice : List ℕ) → IsPrintedBut x y end text → Appends y z slice → slice ≡ end → Appends x z text
rest_printed x y z end text slice (f, a, e) b is =
    subst (λ (t : List ℕ). Appends x z t) (ap (λ t. f ++ t) is ∙ sym e) (Appends-trans x y z f slice a b)

-- and so is a text that began with nothing
pub said_printed : (x y z : Option (List ℕ)) (none end said slice : List ℕ) → IsPrintedBut x y end (none ++ said) → none ≡ [] → Appends y z slice → slice ≡ end → Appends x z said
said_printed x y z none end said slice before empty b is =
    rest_printed x y z end said slice (subst (λ (t : List ℕ). IsPrintedBut x y end (t ++ said)) empty before) b is
