-- Values, part by part.
use Rattle.std.proofs.Common.{◌≡◌, List, [], ◌∷◌, ◌++◌, Option, Some, None, ap, ◌∙◌, refl, sym}
use Rattle.std.proofs.lemmas.List.{append-nil, append_assoc}
use Rattle.mx_word.specs.declared.size.Size.{Size}
use Rattle.mx_asm_statement.specs.declared.value.Value.{Value}
use Rattle.mx_asm_statement.specs.declared.statement.Statement.TheVariants.{Data}
use Rattle.mx_asm_statement.specs.declared.item.Item.{Item}
use Rattle.mx_asm_statement.specs.Items.{◌>>=◌}
use Rattle.mx_asm_statement.specs.Data.{data_value_in, values_in}

-- what is found, and what the parts say
abbrev pub behind : List Value → Option (List Value) → Option (List Value)
behind found vs = vs >>= λ more. Some (found ++ more)

pub after_start : (vs : Option (List Value)) → vs ≡ behind [] vs
after_start None = refl
after_start (Some vs) = refl

onto : (found : List Value) (v : Value) (vs : Option (List Value)) → behind found (vs >>= λ more. Some (v ∷ more)) ≡ behind (found ++ v ∷ []) vs
onto found v None = refl
onto found v (Some vs) = ap Some (sym (append_assoc found (v ∷ []) vs))

next : (s : Size) (found : List Value) (parts : List (List Item)) (front : List Item) (o : Option Value) → o ≡ data_value_in s front → behind found (values_in s (front ∷ parts)) ≡ behind found (o >>= λ v. values_in s parts >>= λ more. Some (v ∷ more))
next s found parts front o h = sym (ap (λ r. behind found (r >>= λ v. values_in s parts >>= λ more. Some (v ∷ more))) h)

-- one value more
pub after_one : (s : Size) (all : Option (List Value)) (found longer : List Value) (rest parts : List (List Item)) (front : List Item) (v : Value) → all ≡ behind found (values_in s rest) → rest ≡ front ∷ parts → Some v ≡ data_value_in s front → longer ≡ found ++ v ∷ [] → all ≡ behind longer (values_in s parts)
after_one s all found longer rest parts front v e split h pushed =
    e
    ∙ (ap (λ ps. behind found (values_in s ps)) split
    ∙ (next s found parts front (Some v) h
    ∙ (onto found v (values_in s parts)
    ∙ ap (λ vs. behind vs (values_in s parts)) (sym pushed))))

-- one that doesn't fit
pub after_bad : (s : Size) (all : Option (List Value)) (found : List Value) (rest parts : List (List Item)) (front : List Item) → all ≡ behind found (values_in s rest) → rest ≡ front ∷ parts → None ≡ data_value_in s front → None ≡ (all >>= λ vs. Some (Data s vs))
after_bad s all found rest parts front e split h = sym (ap (λ o. o >>= λ vs. Some (Data s vs)) (e ∙ (ap (λ ps. behind found (values_in s ps)) split ∙ next s found parts front None h)))

-- the last value
pub after_last : (s : Size) (all : Option (List Value)) (found longer vs : List Value) (rest : List (List Item)) (front : List Item) (v : Value) → all ≡ behind found (values_in s rest) → rest ≡ front ∷ [] → Some v ≡ data_value_in s front → longer ≡ found ++ v ∷ [] → vs ≡ longer → Some (Data s vs) ≡ (all >>= λ ws. Some (Data s ws))
after_last s all found longer vs rest front v e split h pushed same =
    let whole : all ≡ Some vs = after_one s all found longer rest [] front v e split h pushed ∙ ap Some (append-nil longer ∙ sym same) in
    sym (ap (λ o. o >>= λ ws. Some (Data s ws)) whole)
