use Rattle.std.proofs.Common.{◌≡◌, ◌∙◌, ◌++◌, ◌+◌, ℕ, codes, drop, filter, append_assoc, Vec, Global, ap, sym}
use Rattle.mx_app_look.specs.Verbs.{begins_verb, names_after}
use Rattle.mx_app_look.proofs.Begun.{named, passed}
use Rattle.mx_app_look.proofs.verb.push_begun.Goals as goal
use Rattle.mx_app_look.proofs.verb.push_begun.Goals.{then-begins_with+in_ok-extend_from_slice+in_ok-extend_from_slice-2, else-begins_with}

pub loop-verb-preserved : goal.loop-verb-preserved
loop-verb-preserved c =
    let word = c.args.front.now in
    let rest = filter (begins_verb word) (drop (c.loop-verb.verb-index + 1) c.args.verbs.now) in
    let so_far = c.loop-verb.out.items in
    let between = c.loop-verb.between.now in
    elim c.if-begins_with.branch [
      | then-begins_with+in_ok-extend_from_slice+in_ok-extend_from_slice-2 w ↦
          let name = w.word.result.now in
          let items : c.if-begins_with.out.items ≡ (so_far ++ between) ++ name = ap (λ (v : Vec ℕ Global). v.items) w.out-is ∙ w.in_ok-extend_from_slice-2.ensures.items ∙ ap (λ xs. xs ++ name) w.in_ok-extend_from_slice.ensures.items in
          let next : c.if-begins_with.between.now ≡ codes ", " = ap (λ b. b.now) w.between-is in
          ap (λ b. c.if-begins_with.out.items ++ names_after b rest) next
          ∙ ap (λ xs. xs ++ names_after (codes ", ") rest) items
          ∙ ap (λ xs. xs ++ names_after (codes ", ") rest) (append_assoc so_far between name)
          ∙ append_assoc so_far (between ++ name) (names_after (codes ", ") rest)
          ∙ ap (λ n. so_far ++ ((between ++ n) ++ names_after (codes ", ") rest)) w.word.ensures
          ∙ ap (λ xs. so_far ++ xs) (sym (named word c.args.verbs.now c.loop-verb.verb-index _ c.loop-verb-test.true between (sym c.begins_with.ensures ∙ w.if-begins_with.true)))
          ∙ c.loop-verb.invariant
      | else-begins_with w ↦
          let items : c.if-begins_with.out.items ≡ so_far = ap (λ (v : Vec ℕ Global). v.items) w.out-is in
          let next : c.if-begins_with.between.now ≡ between = ap (λ b. b.now) w.between-is in
          ap (λ b. c.if-begins_with.out.items ++ names_after b rest) next
          ∙ ap (λ xs. xs ++ names_after between rest) items
          ∙ ap (λ xs. so_far ++ xs) (sym (passed word c.args.verbs.now c.loop-verb.verb-index _ c.loop-verb-test.true between (sym c.begins_with.ensures ∙ w.if-begins_with.false)))
          ∙ c.loop-verb.invariant
    ]
