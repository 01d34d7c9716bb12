use Rattle.std.proofs.Common.{◌≡◌, ◌∙◌, ◌++◌, ℕ, List, [], Vec, Global, ap, inl, inr, length, map, min, refl, sym}
use Rattle.std.proofs.KnownBytes.{Appends-nil}
use Rattle.std.proofs.lemmas.List.{append-nil}
use Rattle.std.proofs.lemmas.Result.{err_from_is_err_and}
use Rattle.mx_app_gdb.specs.Talks.{only_by, slot_count}
use Rattle.mx_app_gdb.specs.Threads.{threads_at}
use Rattle.mx_app_gdb.proofs.Opening.{as_many, both_shown, still_opened}
use Rattle.mx_app_gdb.proofs.talking.gdb.Goals as goal

pub returns-in_err-opened-clause-fault : goal.returns-in_err-opened-clause-fault
returns-in_err-opened-clause-fault g c =
    let p = err_from_is_err_and c.from_residual.result c.from_residual.ensures.1 in
    let h = c.in_err-opened.ensures.fault in
    rw (p.1, p.2) (h.0, [], h.1, h.2, sym (append-nil (g.L.LineReader.given c.args.lines.now)), h.3, inl (refl, Appends-nil _, h.4))

pub returns-in_err-converse-in-Ok-clause-fault : goal.returns-in_err-converse-in-Ok-clause-fault
returns-in_err-converse-in-Ok-clause-fault g c =
    let p = err_from_is_err_and c.from_residual-in_err-converse-in-Ok.result c.from_residual-in_err-converse-in-Ok.ensures.1 in
    let s = c.in_ok-opened.ensures.opened in
    let h = c.in_err-converse-in-Ok.ensures.cut in
    let more = c.in_err-converse-in-Ok.ensures.grown in
    let begun = c.begin_talk-talk.ensures in
    let count : c.slot_count-count.result ≡ slot_count s.2 =
    c.slot_count-count.ensures ∙ ap (λ (fs : List (Vec ℕ Global)). min (length fs) 32) c.as_slice.ensures.value
    ∙ as_many c.in_ok-opened.opened.files.items s.2.lines s.8 in
    rw (p.1, p.2) (
      s.0,
      h.0,
      s.1 ++ more.0,
      s.4,
      h.1,
      both_shown _ _ _ s.1 more.0 s.5 more.1,
      inr (
        s.2,
        s.3,
        c.in-Ok.only,
        c.begin_talk-talk.result,
        still_opened c.args.wanted.config.now c.args.wanted.log.now s.0 s.1 s.2 s.3 s.6 more.0,
        ap (λ (n : ℕ). only_by n c.args.wanted.slot) (sym count) ∙ sym c.only_wanted.ensures ∙ c.in-Ok.is,
        record {
          sight = begun.stub.0 ∙ s.7;
          files = ap (λ (v : Vec (Vec ℕ Global) Global). map (λ (f : Vec ℕ Global). f.items) v.items) begun.stub.1 ∙ s.8;
          threads = begun.threads ∙ ap (λ (n : ℕ). threads_at n c.in-Ok.only) count;
          reader = begun.rest.0;
          acks = begun.rest.1;
          last = begun.rest.2;
        },
        h.2,
      ),
    )

pub returns-in_ok-converse-in-Ok-clause-talked : goal.returns-in_ok-converse-in-Ok-clause-talked
returns-in_ok-converse-in-Ok-clause-talked g c =
    let s = c.in_ok-opened.ensures.opened in
    let h = c.in_ok-converse-in-Ok.ensures.talked in
    let more = c.in_ok-converse-in-Ok.ensures.grown in
    let begun = c.begin_talk-talk.ensures in
    let count : c.slot_count-count.result ≡ slot_count s.2 =
    c.slot_count-count.ensures ∙ ap (λ (fs : List (Vec ℕ Global)). min (length fs) 32) c.as_slice.ensures.value
    ∙ as_many c.in_ok-opened.opened.files.items s.2.lines s.8 in (
      s.0,
      h.0,
      s.1 ++ more.0,
      s.4,
      h.2,
      both_shown _ _ _ s.1 more.0 s.5 more.1,
      (
        s.2,
        s.3,
        c.in-Ok.only,
        c.begin_talk-talk.result,
        h.1,
        still_opened c.args.wanted.config.now c.args.wanted.log.now s.0 s.1 s.2 s.3 s.6 more.0,
        ap (λ (n : ℕ). only_by n c.args.wanted.slot) (sym count) ∙ sym c.only_wanted.ensures ∙ c.in-Ok.is,
        record {
          sight = begun.stub.0 ∙ s.7;
          files = ap (λ (v : Vec (Vec ℕ Global) Global). map (λ (f : Vec ℕ Global). f.items) v.items) begun.stub.1 ∙ s.8;
          threads = begun.threads ∙ ap (λ (n : ℕ). threads_at n c.in-Ok.only) count;
          reader = begun.rest.0;
          acks = begun.rest.1;
          last = begun.rest.2;
        },
        h.3,
        h.4,
      ),
    )

pub returns-in-Err-clause-talked : goal.returns-in-Err-clause-talked
returns-in-Err-clause-talked g c =
    let s = c.in_ok-opened.ensures.opened in
    let count : c.slot_count-count.result ≡ slot_count s.2 =
    c.slot_count-count.ensures ∙ ap (λ (fs : List (Vec ℕ Global)). min (length fs) 32) c.as_slice.ensures.value
    ∙ as_many c.in_ok-opened.opened.files.items s.2.lines s.8 in (
      s.0,
      [],
      s.1,
      s.4,
      sym (append-nil (g.L.LineReader.given c.args.lines.now)),
      s.5,
      (
        s.2,
        s.3,
        s.6,
        ap (λ (n : ℕ). only_by n c.args.wanted.slot) (sym count) ∙ sym c.only_wanted.ensures ∙ c.in-Err.is,
        refl,
        Appends-nil _,
      ),
    )
