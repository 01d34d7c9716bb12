-- What is shown only grows.
use Rattle.std.proofs.Common.{◌≡◌, ◌∙◌, ◌⊎◌, ◌++◌, List, [], append-nil, append_assoc, Result, Ok, Err, IfOk, ap, inl, inr, sym}
use Rattle.mx_walk.specs.declared.progress.Part.{Part}
use Rattle.mx_walk.specs.Parts.{HasGrown}

pub grown_same : (before after : List Part) → after ≡ before → HasGrown before after
grown_same before after e = ([], e ∙ sym (append-nil before))

pub grown_by : (before after more : List Part) → after ≡ before ++ more → HasGrown before after
grown_by before after more e = (more, e)

pub grown_trans : (before now after : List Part) → HasGrown before now → HasGrown now after → HasGrown before after
grown_trans before now after (xs, e) (ys, f) = (xs ++ ys, f ∙ ap (λ ps. ps ++ ys) e ∙ append_assoc before xs ys)

-- a search back that had no memory has shown nothing, or all
pub grown_either : (before after more : List Part) → (after ≡ before) ⊎ (after ≡ before ++ more) → HasGrown before after
grown_either before after more (inl e) = grown_same before after e
grown_either before after more (inr e) = grown_by before after more e

-- what two clauses say of an answer
pub both_hold : {A E : Type 0} (r : Result A E) (P Q R : A → Type 0) → ((a : A) → P a → Q a → R a) → IfOk r P → IfOk r Q → IfOk r R
both_hold (Ok a) P Q R f p q = f a p q
both_hold (Err e) P Q R f p q = tt
