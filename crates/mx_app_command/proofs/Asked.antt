-- What is left of the subcommands on a machine.
use Rattle.std.proofs.Common.{◌≡◌, ◌∙◌, ◌⊎◌, true, false, List, codes, ap, inl, inr, sym, refl, true≢false}
use Rattle.std.specs.Str.{bytes_eq}
use Rattle.clap.specs.Words.{Row, Text}
use Rattle.mx_app_command.specs.Words.{IsAloneAsked, IsHistoryAsked, IsMachineAsked, IsOtherHistoryAsked, IsRecordsAsked, MayHaveExplore, MayHaveNumber, MayHaveRange, MayHaveStrip, MayHaveSweep, is_alone}

not_named : (name word : Text) → bytes_eq word word ≡ true → bytes_eq name word ≡ false → name ≡ word → ⊥
not_named name word same h e = true≢false (sym same ∙ ap (λ (t : Text). bytes_eq t word) (sym e) ∙ h)

-- what has a history isn't alone
other_history : (name : Text) (rows : List Row) → IsOtherHistoryAsked name rows → is_alone name ≡ false
other_history name rows asked = elim asked [
  | inl reads ↦ elim reads [
    | inl e ↦ ap (λ (t : Text). is_alone t) e
    | inr two ↦ elim two [
      | inl e ↦ ap (λ (t : Text). is_alone t) e
      | inr e ↦ ap (λ (t : Text). is_alone t) e
    ]
  ]
  | inr rest ↦ elim rest [
    | inl records ↦ elim records.0 [
      | inl e ↦ ap (λ (t : Text). is_alone t) e
      | inr two ↦ elim two [
        | inl e ↦ ap (λ (t : Text). is_alone t) e
        | inr p ↦ ap (λ (t : Text). is_alone t) p.0
      ]
    ]
    | inr more ↦ elim more [
      | inl p ↦ ap (λ (t : Text). is_alone t) p.0
      | inr two ↦ elim two [
        | inl p ↦ ap (λ (t : Text). is_alone t) p.0
        | inr p ↦ ap (λ (t : Text). is_alone t) p.0
      ]
    ]
  ]
]

with_history : (name : Text) (rows : List Row) → IsHistoryAsked name rows → is_alone name ≡ false
with_history name rows asked = elim asked.1 [
  | inl p ↦ ap (λ (t : Text). is_alone t) p.0
  | inr other ↦ other_history name rows other
]

one_of_them : (name : Text) (rows : List Row) → IsAloneAsked name rows → is_alone name ≡ true
one_of_them name rows asked = elim asked [
  | inl e ↦ ap (λ (t : Text). is_alone t) e
  | inr p ↦ ap (λ (t : Text). is_alone t) p.0
]

-- neither `explain` nor `explore`
not_alone : (name : Text) (rows : List Row) → is_alone name ≡ false → IsAloneAsked name rows → ⊥
not_alone name rows alone asked = true≢false (sym (one_of_them name rows asked) ∙ alone)

-- what is asked for without a script and without a history
pub alone_left : (name : Text) (rows : List Row) → is_alone name ≡ true → IsMachineAsked name rows → IsAloneAsked name rows
alone_left name rows alone asked = elim asked.1 [
  | inl one ↦ one
  | inr rest ↦ elim rest [
    | inl script ↦ elim script.1 [
      | inl e ↦ absurd (true≢false (sym alone ∙ ap (λ (t : Text). is_alone t) e))
      | inr e ↦ absurd (true≢false (sym alone ∙ ap (λ (t : Text). is_alone t) e))
    ]
    | inr history ↦ absurd (true≢false (sym alone ∙ with_history name rows history))
  ]
]

-- it isn't `explain`, so it is `explore`
pub explore_left : (name : Text) (rows : List Row) → bytes_eq name (codes "explain") ≡ false → IsAloneAsked name rows → (name ≡ codes "explore") × MayHaveExplore rows
explore_left name rows explain asked = elim asked [
  | inl e ↦ absurd (not_named name (codes "explain") refl explain e)
  | inr p ↦ p
]

-- neither `explain` nor `explore`, nor a script's
pub history_left : (name : Text) (rows : List Row) → is_alone name ≡ false → bytes_eq name (codes "step") ≡ false → bytes_eq name (codes "db") ≡ false → IsMachineAsked name rows → IsHistoryAsked name rows
history_left name rows alone step db asked = elim asked.1 [
  | inl one ↦ absurd (not_alone name rows alone one)
  | inr rest ↦ elim rest [
    | inl script ↦ elim script.1 [
      | inl s ↦ absurd (not_named name (codes "step") refl step s)
      | inr d ↦ absurd (not_named name (codes "db") refl db d)
    ]
    | inr history ↦ history
  ]
]

-- a subcommand with a history that isn't `run` is another one
pub other_left : (name : Text) (rows : List Row) → bytes_eq name (codes "run") ≡ false → IsHistoryAsked name rows → IsOtherHistoryAsked name rows
other_left name rows not asked =
    elim asked.1 [
      | inl run ↦ absurd (not_named name (codes "run") refl not run.0)
      | inr other ↦ other
    ]

-- a name is one word only
one_name : (name word other : Text) → bytes_eq word other ≡ false → bytes_eq name other ≡ true → name ≡ word → ⊥
one_name name word other apart is e = true≢false (sym is ∙ ap (λ (t : Text). bytes_eq t other) e ∙ apart)

-- `sweep` has what it may have
pub sweep_left : (name : Text) (rows : List Row) → bytes_eq name (codes "sweep") ≡ true → IsOtherHistoryAsked name rows → MayHaveSweep rows
sweep_left name rows is asked =
    elim asked [
      | inl reads ↦ elim reads [
        | inl e ↦ absurd (one_name name (codes "replay") (codes "sweep") refl is e)
        | inr two ↦ elim two [
          | inl e ↦ absurd (one_name name (codes "look") (codes "sweep") refl is e)
          | inr e ↦ absurd (one_name name (codes "why") (codes "sweep") refl is e)
        ]
      ]
      | inr rest ↦ elim rest [
        | inl records ↦ elim records.0 [
          | inl e ↦ absurd (one_name name (codes "trace") (codes "sweep") refl is e)
          | inr two ↦ elim two [
            | inl e ↦ absurd (one_name name (codes "draw") (codes "sweep") refl is e)
            | inr p ↦ absurd (one_name name (codes "page") (codes "sweep") refl is p.0)
          ]
        ]
        | inr more ↦ elim more [
          | inl turns ↦ absurd (one_name name (codes "turns") (codes "sweep") refl is turns.0)
          | inr last ↦ elim last [
            | inl sweep ↦ sweep.1
            | inr gdb ↦ absurd (one_name name (codes "gdb") (codes "sweep") refl is gdb.0)
          ]
        ]
      ]
    ]

-- `gdb` may have a number
pub gdb_left : (name : Text) (rows : List Row) → bytes_eq name (codes "gdb") ≡ true → IsOtherHistoryAsked name rows → MayHaveNumber (codes "S") rows
gdb_left name rows is asked =
    elim asked [
      | inl reads ↦ elim reads [
        | inl e ↦ absurd (one_name name (codes "replay") (codes "gdb") refl is e)
        | inr two ↦ elim two [
          | inl e ↦ absurd (one_name name (codes "look") (codes "gdb") refl is e)
          | inr e ↦ absurd (one_name name (codes "why") (codes "gdb") refl is e)
        ]
      ]
      | inr rest ↦ elim rest [
        | inl records ↦ elim records.0 [
          | inl e ↦ absurd (one_name name (codes "trace") (codes "gdb") refl is e)
          | inr two ↦ elim two [
            | inl e ↦ absurd (one_name name (codes "draw") (codes "gdb") refl is e)
            | inr p ↦ absurd (one_name name (codes "page") (codes "gdb") refl is p.0)
          ]
        ]
        | inr more ↦ elim more [
          | inl turns ↦ absurd (one_name name (codes "turns") (codes "gdb") refl is turns.0)
          | inr last ↦ elim last [
            | inl sweep ↦ absurd (one_name name (codes "sweep") (codes "gdb") refl is sweep.0)
            | inr gdb ↦ gdb.1
          ]
        ]
      ]
    ]

-- a subcommand with a history that is neither `turns`, `sweep` nor `gdb` only reads one
pub reading_left : (name : Text) (rows : List Row) → bytes_eq name (codes "turns") ≡ false → bytes_eq name (codes "sweep") ≡ false → bytes_eq name (codes "gdb") ≡ false → IsOtherHistoryAsked name rows
    → ((name ≡ codes "replay") ⊎ ((name ≡ codes "look") ⊎ (name ≡ codes "why"))) ⊎ (IsRecordsAsked name rows × MayHaveRange rows)
reading_left name rows turns sweep gdb asked =
    elim asked [
      | inl reads ↦ inl reads
      | inr rest ↦ elim rest [
        | inl records ↦ inr records
        | inr more ↦ elim more [
          | inl t ↦ absurd (not_named name (codes "turns") refl turns t.0)
          | inr last ↦ elim last [
            | inl s ↦ absurd (not_named name (codes "sweep") refl sweep s.0)
            | inr g ↦ absurd (not_named name (codes "gdb") refl gdb g.0)
          ]
        ]
      ]
    ]

-- what prints records and is neither a trace nor a picture is a page
pub page_left : (name : Text) (rows : List Row) → bytes_eq name (codes "trace") ≡ false → bytes_eq name (codes "draw") ≡ false → IsRecordsAsked name rows → (name ≡ codes "page") × MayHaveStrip rows
page_left name rows trace draw asked = elim asked [
  | inl e ↦ absurd (not_named name (codes "trace") refl trace e)
  | inr two ↦ elim two [
    | inl e ↦ absurd (not_named name (codes "draw") refl draw e)
    | inr page ↦ page
  ]
]
