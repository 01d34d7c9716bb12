use Rattle.std.proofs.Common.{arith, ◌<◌, ◌≤◌, ◌++◌, ◌∷◌, []}
use Rattle.std.proofs.lemmas.Result.{err_from_is_err_and}
use Rattle.std.proofs.lemmas.List.Elements.{All-push}
use Rattle.mx_lex.specs.Tokens.{AreTokens, Gap, IsSlice}
use Rattle.mx_lex.proofs.Lexing.{AreTokens-snoc, form_lt, gap_le, fault_of, slice_of}
use Rattle.mx_lex.proofs.token_reading.tokens_in.Goals as goal

pub returns-in_err-token-clause-fault : goal.returns-in_err-token-clause-fault
returns-in_err-token-clause-fault c =
    let p = err_from_is_err_and c.from_residual.result c.from_residual.ensures.1 in
    let before = c.loop-at.invariant.tokens in
    let fault = fault_of c.args.bytes.now c.in_err-token.field-0.0 c.loop-at.found.items before.0 c.loop-at.at before.1 before.2 c.in_err-token.ensures.fault in
    rw (p.1, p.2) fault

pub loop-at-smaller : goal.loop-at-smaller
loop-at-smaller c =
    let token = c.in_ok-token.token in
    let t = c.args.bytes.now in
    let more : token.start < token.end = form_lt t token.kind token.start token.end c.in_ok-token.ensures.token.form in
    let from : token.end ≤ c.gap_end-at-in-loop-at.result = gap_le t token.end c.gap_end-at-in-loop-at.result c.gap_end-at-in-loop-at.ensures.gap in
    omega (arith, c.in_ok-token.ensures.start)

pub loop-at-preserved : goal.loop-at-preserved
loop-at-preserved c =
    let token = c.in_ok-token.token in
    let t = c.args.bytes.now in
    let before = c.loop-at.invariant.tokens in
    let gap : Gap t before.0 token.start = rw c.in_ok-token.ensures.start before.2 in
    let tokens : AreTokens t 0 (c.loop-at.found.items ++ token ∷ []) token.end =
    AreTokens-snoc t 0 before.0 c.loop-at.found.items token before.1 gap c.in_ok-token.ensures.token in record {
      within = c.gap_end-at-in-loop-at.ensures.within;
      over = c.gap_end-at-in-loop-at.ensures.over;
      slices = rw c.in_ok-push.ensures.items (All-push (IsSlice t) c.loop-at.found.items token c.loop-at.invariant.slices (slice_of t token c.in_ok-token.ensures.token));
      tokens = (token.end, rw c.in_ok-push.ensures.items tokens, c.gap_end-at-in-loop-at.ensures.gap);
    }
