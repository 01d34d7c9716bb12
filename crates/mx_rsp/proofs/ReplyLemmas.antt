-- A list of threads, one more.
use Rattle.std.proofs.Common.{◌≡◌, ◌∙◌, ◌++◌, ◌+◌, ◌<◌, ℕ, suc, List, codes, drop, get_or, length, ap, sym, arith}
use Rattle.std.proofs.Math.Seq.{drop-cons}
use Rattle.mx_rsp.specs.declared.replies.ThreadName.{ThreadName}
use Rattle.mx_rsp.specs.Replies.{thread_text, threads_after}

pub threads_more : (between : List ℕ) (threads : List ThreadName) (i : ℕ) (t : ThreadName) → i < length threads → t ≡ get_or threads i t
    → threads_after between (drop i threads) ≡ between ++ thread_text t ++ threads_after (codes ",") (drop (i + 1) threads)
threads_more between threads i t h is =
    let next : suc i ≡ i + 1 = omega arith in
    ap (threads_after between) (drop-cons threads i t h)
    ∙ ap (λ (u : ThreadName). between ++ thread_text u ++ threads_after (codes ",") (drop (suc i) threads)) (sym is)
    ∙ ap (λ (n : ℕ). between ++ thread_text t ++ threads_after (codes ",") (drop n threads)) next
