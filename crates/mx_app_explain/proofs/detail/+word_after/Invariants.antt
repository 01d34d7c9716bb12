use Rattle.mx_app_explain.proofs.detail.+word_after.Given as goal

abbrev pub decreases-word_after : goal.decreases-word_after
decreases-word_after l = l.before
