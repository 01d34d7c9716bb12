-- What is heard of a packet, whole or damaged.
use Rattle.std.proofs.Common.{◌≡◌, ◌≢◌, ◌∙◌, ◌++◌, ◌+◌, ◌-◌, ◌<◌, ◌≤◌, ℕ, zero, suc, Bool, true, false, cond, List, [], ◌∷◌, length, take, drop, Option, Some, None, refl, sym, ap, subst, arith, append_assoc, length-append}
use Rattle.std.specs.Prelude.{slice_index, ◌==◌, ◌&&◌, nat_lt, nat_le}
use Rattle.std.specs.List.{remove}
use Rattle.std.proofs.Math.Seq.{take-append_seam, drop-append_seam, get_or-append_seam}
use Rattle.std.proofs.lemmas.Bool.{ne_eqb, le-leb, le-ltb, eq-eqb}
use Rattle.std.proofs.lemmas.List.{append-nil, get_or_append_left}
use Rattle.hex.specs.Hex.{encode_lower}
use Rattle.mx_text.specs.NumberFields.{number_up_to}
use Rattle.mx_rsp.specs.declared.hearing.Heard.{Heard}
use Rattle.mx_rsp.specs.declared.hearing.Heard.TheVariants.{Nothing, Packet, TooLong, Wrong}
use Rattle.mx_rsp.specs.Packets.{body_of, checksum, packet, payload_of}
use Rattle.mx_rsp.specs.Hearing.{all_heard, also, body_in, digits_in, further, heard_of, heard_within, is_sum, is_whole, outside, reading_after, reading_within, said}
use Rattle.mx_rsp.specs.Damage.{IsDamaged, IsHeard, IsRefusedDamaged, in_body, in_digits}
use Rattle.mx_rsp.proofs.PacketLemmas.{ArePlain, IsPlain, and_true, body_plain, digits_of_byte, other_sum, passed, plain_append, plain_back, plain_front, read_again, taken}

and_false : (p q : Bool) → q ≡ false → (p && q) ≡ false
and_false true q h = h
and_false false q h = refl

-- ---- where the # stands

no_end : (xs : List ℕ) → ArePlain xs → (k : ℕ) → slice_index xs k ≢ 35
no_end [] p k e = omega (arith, e)
no_end (x ∷ xs) p zero e = p.0.0 e
no_end (x ∷ xs) p (suc k) e = no_end xs p.1 k e

-- two bytes at most, after a $ and a body
still_open : (xs ys : List ℕ) → ((k : ℕ) → slice_index xs k ≢ 35) → 0 < length xs → length ys ≤ 2 → is_whole (xs ++ ys) ≡ false
still_open xs ys none some few =
    let n = length-append xs ys in
    let within : length (xs ++ ys) - 3 < length xs = omega (arith, n, some, few) in
    and_false (nat_le 4 (length (xs ++ ys))) (slice_index (xs ++ ys) (length (xs ++ ys) - 3) == 35)
    (ne_eqb (slice_index (xs ++ ys) (length (xs ++ ys) - 3)) 35
    (λ e. none (length (xs ++ ys) - 3) (sym (get_or_append_left xs ys 0 (length (xs ++ ys) - 3) within) ∙ e)))

module _ (xs : List ℕ) (high low : ℕ) where
  abbrev whole : List ℕ
  whole = xs ++ 35 ∷ high ∷ low ∷ []

  three_more : length whole ≡ length xs + 3
  three_more = length-append xs (35 ∷ high ∷ low ∷ [])

  closes : 0 < length xs → is_whole whole ≡ true
  closes some =
      let n = three_more in
      let four : 4 ≤ length whole = omega (arith, n, some) in
      let at : length whole - 3 ≡ length xs = omega (arith, n) in
      let end : slice_index whole (length whole - 3) ≡ 35 = ap (slice_index whole) at ∙ get_or-append_seam xs 35 (high ∷ low ∷ []) 0 in
      and_true (nat_le 4 (length whole)) (slice_index whole (length whole - 3) == 35) (le-leb 4 (length whole) four) (eq-eqb (slice_index whole (length whole - 3)) 35 end)

  last_two : digits_in whole ≡ high ∷ low ∷ []
  last_two =
      let n = three_more in
      let e : length (xs ++ 35 ∷ []) ≡ length xs + 1 = length-append xs (35 ∷ []) in
      let at : length whole - 2 ≡ length (xs ++ 35 ∷ []) = omega (arith, n, e) in
      let two : length whole - (length whole - 2) ≡ 2 = omega (arith, n) in
      let again : whole ≡ (xs ++ 35 ∷ []) ++ high ∷ low ∷ [] = sym (append_assoc xs (35 ∷ []) (high ∷ low ∷ [])) in
      ap (λ (k : ℕ). take k (drop (length whole - 2) whole)) two
      ∙ ap (λ (k : ℕ). take 2 (drop k whole)) at
      ∙ ap (λ (w : List ℕ). take 2 (drop (length (xs ++ 35 ∷ [])) w)) again
      ∙ ap (λ (w : List ℕ). take 2 w) (drop-append_seam (xs ++ 35 ∷ []) (high ∷ low ∷ []))

body_between : (body : List ℕ) (high low : ℕ) → body_in (36 ∷ body ++ 35 ∷ high ∷ low ∷ []) ≡ body
body_between body high low =
    let n : length (body ++ 35 ∷ high ∷ low ∷ []) ≡ length body + 3 = length-append body (35 ∷ high ∷ low ∷ []) in
    let m : length (36 ∷ body ++ 35 ∷ high ∷ low ∷ []) ≡ suc (length (body ++ 35 ∷ high ∷ low ∷ [])) = refl in
    let k : length (36 ∷ body ++ 35 ∷ high ∷ low ∷ []) - 3 - 1 ≡ length body = omega (arith, n, m) in
    ap (λ (i : ℕ). take i (body ++ 35 ∷ high ∷ low ∷ [])) k ∙ take-append_seam body (35 ∷ high ∷ low ∷ [])

-- ---- a byte more

module _ (front : List ℕ) (b : ℕ) (no_begin : b ≢ 36) (some : 0 < length front) (room : length front ≤ 16388) where
  kept : further front b ≡ front ++ b ∷ []
  kept = ap (λ (f : List ℕ). f ++ b ∷ []) (taken (nat_le (length front) 16388) front (remove front 16385) (le-leb (length front) 16388 room))

  has_some : (length front == 0) ≡ false
  has_some = ne_eqb (length front) 0 (λ e. omega (arith, some, e))

  heard_inside : heard_of front b ≡ heard_within front b
  heard_inside =
      passed (b == 36) Nothing (cond (length front == 0) (outside b) (heard_within front b)) (ne_eqb b 36 no_begin)
      ∙ passed (length front == 0) (outside b) (heard_within front b) has_some

  read_inside : reading_after front b ≡ reading_within front b
  read_inside =
      passed (b == 36) (36 ∷ []) (cond (length front == 0) [] (reading_within front b)) (ne_eqb b 36 no_begin)
      ∙ passed (length front == 0) [] (reading_within front b) has_some

  goes_on : is_whole (front ++ b ∷ []) ≡ false → (bs : List ℕ) → all_heard front (b ∷ bs) ≡ all_heard (front ++ b ∷ []) bs
  goes_on unended bs =
      let shut : is_whole (further front b) ≡ false = ap (λ (f : List ℕ). is_whole f) kept ∙ unended in
      let quiet : heard_of front b ≡ Nothing =
      heard_inside ∙ passed (is_whole (further front b)) (said (body_in (further front b)) (digits_in (further front b))) Nothing shut in
      let next : reading_after front b ≡ front ++ b ∷ [] = read_inside ∙ passed (is_whole (further front b)) [] (further front b) shut ∙ kept in
      ap (λ (h : Heard). also h (all_heard (reading_after front b) bs)) quiet ∙ ap (λ (f : List ℕ). all_heard f bs) next

  ends : is_whole (front ++ b ∷ []) ≡ true → all_heard front (b ∷ []) ≡ also (said (body_in (front ++ b ∷ [])) (digits_in (front ++ b ∷ []))) []
  ends end =
      let shut : is_whole (further front b) ≡ true = ap (λ (f : List ℕ). is_whole f) kept ∙ end in
      let loud : heard_of front b ≡ said (body_in (front ++ b ∷ [])) (digits_in (front ++ b ∷ [])) =
      heard_inside ∙ taken (is_whole (further front b)) (said (body_in (further front b)) (digits_in (further front b))) Nothing shut
      ∙ ap (λ (f : List ℕ). said (body_in f) (digits_in f)) kept in
      ap (λ (h : Heard). also h []) loud

-- ---- a packet

opened : (done : List ℕ) → ArePlain done → (k : ℕ) → slice_index (36 ∷ done) k ≢ 35
opened done p zero e = omega (arith, e)
opened done p (suc k) e = no_end done p k e

body_heard : (done body rest : List ℕ) → ArePlain done → ArePlain body → length done + length body ≤ 16384
    → all_heard (36 ∷ done) (body ++ rest) ≡ all_heard (36 ∷ done ++ body) rest
body_heard done [] rest p q small = ap (λ (xs : List ℕ). all_heard (36 ∷ xs) rest) (sym (append-nil done))
body_heard done (b ∷ body) rest p q small =
    let n : length (done ++ b ∷ []) ≡ length done + 1 = length-append done (b ∷ []) in
    goes_on (36 ∷ done) b q.0.1 (omega arith) (omega (arith, small)) (still_open (36 ∷ done) (b ∷ []) (opened done p) (omega arith) (omega arith)) (body ++ rest)
    ∙ body_heard (done ++ b ∷ []) body rest (plain_append done (b ∷ []) p (q.0, tt)) q.1 (omega (arith, n, small))
    ∙ ap (λ (xs : List ℕ). all_heard (36 ∷ xs) rest) (append_assoc done (b ∷ []) body)

frame_heard : (body : List ℕ) (high low : ℕ) → ArePlain body → length body ≤ 16384 → high ≢ 36 → low ≢ 36
    → all_heard [] (36 ∷ body ++ 35 ∷ high ∷ low ∷ []) ≡ also (said body (high ∷ low ∷ [])) []
frame_heard body high low plain small h l =
    let xs : List ℕ = 36 ∷ body in
    let one : length (xs ++ 35 ∷ []) ≡ length xs + 1 = length-append xs (35 ∷ []) in
    let two : length (xs ++ 35 ∷ high ∷ []) ≡ length xs + 2 = length-append xs (35 ∷ high ∷ []) in
    let a : (xs ++ 35 ∷ []) ++ high ∷ [] ≡ xs ++ 35 ∷ high ∷ [] = append_assoc xs (35 ∷ []) (high ∷ []) in
    let b : (xs ++ 35 ∷ high ∷ []) ++ low ∷ [] ≡ xs ++ 35 ∷ high ∷ low ∷ [] = append_assoc xs (35 ∷ high ∷ []) (low ∷ []) in
    body_heard [] body (35 ∷ high ∷ low ∷ []) tt plain (omega (arith, small))
    ∙ goes_on xs 35 (λ e. omega (arith, e)) (omega arith) (omega (arith, small)) (still_open xs (35 ∷ []) (opened body plain) (omega arith) (omega arith)) (high ∷ low ∷ [])
    ∙ goes_on (xs ++ 35 ∷ []) high h (omega (arith, one)) (omega (arith, one, small))
    (ap (λ (f : List ℕ). is_whole f) a ∙ still_open xs (35 ∷ high ∷ []) (opened body plain) (omega arith) (omega arith)) (low ∷ [])
    ∙ ap (λ (f : List ℕ). all_heard f (low ∷ [])) a
    ∙ ends (xs ++ 35 ∷ high ∷ []) low l (omega (arith, two)) (omega (arith, two, small)) (ap (λ (f : List ℕ). is_whole f) b ∙ closes xs high low (omega arith))
    ∙ ap (λ (f : List ℕ). also (said (body_in f) (digits_in f)) []) b
    ∙ ap (λ (d : List ℕ). also (said (body_in (xs ++ 35 ∷ high ∷ low ∷ [])) d) []) (last_two xs high low)
    ∙ ap (λ (d : List ℕ). also (said d (high ∷ low ∷ [])) []) (body_between body high low)

right_sum : (o : Option ℕ) (s : ℕ) → o ≡ Some s → is_sum o s ≡ true
right_sum o s e = ap (λ (x : Option ℕ). is_sum x s) e ∙ eq-eqb s s refl

wrong_sum : (o : Option ℕ) (s : ℕ) → o ≢ Some s → is_sum o s ≡ false
wrong_sum None s n = refl
wrong_sum (Some k) s n = ne_eqb k s (λ e. n (ap Some e))

module _ (body digits : List ℕ) (small : length body ≤ 16384) where
  by_sum : said body digits ≡ cond (is_sum (number_up_to 255 16 digits) (checksum body)) (Packet (payload_of body)) Wrong
  by_sum = passed (nat_lt 16384 (length body)) TooLong (cond (is_sum (number_up_to 255 16 digits) (checksum body)) (Packet (payload_of body)) Wrong) (le-ltb 16384 (length body) small)

  said_right : number_up_to 255 16 digits ≡ Some (checksum body) → said body digits ≡ Packet (payload_of body)
  said_right e = by_sum ∙ taken (is_sum (number_up_to 255 16 digits) (checksum body)) (Packet (payload_of body)) Wrong (right_sum (number_up_to 255 16 digits) (checksum body) e)

  said_wrong : number_up_to 255 16 digits ≢ Some (checksum body) → said body digits ≡ Wrong
  said_wrong n = by_sum ∙ passed (is_sum (number_up_to 255 16 digits) (checksum body)) (Packet (payload_of body)) Wrong (wrong_sum (number_up_to 255 16 digits) (checksum body) n)

-- the bytes of a packet, whose digits are known
framed : (body digits : List ℕ) (high low : ℕ) → digits ≡ high ∷ low ∷ [] → ArePlain body → length body ≤ 16384 → high ≢ 36 → low ≢ 36 → (h : Heard)
    → said body (high ∷ low ∷ []) ≡ h → all_heard [] (36 ∷ body ++ 35 ∷ digits) ≡ also h []
framed body digits high low e plain small h l heard is =
    ap (λ (d : List ℕ). all_heard [] (36 ∷ body ++ 35 ∷ d)) e ∙ frame_heard body high low plain small h l ∙ ap (λ (x : Heard). also x []) is

small_sum : (body : List ℕ) → checksum body < 256
small_sum body = omega arith

pub packet_heard : (payload : List ℕ) → IsHeard payload (packet payload)
unfolding packet
packet_heard payload small =
    let body = body_of payload in
    let d = digits_of_byte (checksum body) (small_sum body) in
    framed body (encode_lower (checksum body ∷ [])) d.0 d.1 d.2 (body_plain payload) small d.3 d.4 (Packet payload)
    (said_right body (d.0 ∷ d.1 ∷ []) small d.5 ∙ ap Packet (read_again payload))

-- ---- a damaged one

same_length : (front back : List ℕ) (a b : ℕ) → length (front ++ b ∷ back) ≡ length (front ++ a ∷ back)
same_length front back a b = length-append front (b ∷ back) ∙ sym (length-append front (a ∷ back))

still_plain : (front back : List ℕ) (a b : ℕ) → IsPlain b → ArePlain (front ++ a ∷ back) → ArePlain (front ++ b ∷ back)
still_plain front back a b is p = plain_append front (b ∷ back) (plain_front front (a ∷ back) p) (is, (plain_back front (a ∷ back) p).1)

other_body : (payload body front back : List ℕ) (a b : ℕ) → body_of payload ≡ front ++ a ∷ back → body ≡ front ++ b ∷ back → a < 256 → b < 256 → a ≢ b → b ≢ 35 → b ≢ 36
    → length (body_of payload) ≤ 16384 → all_heard [] (36 ∷ body ++ 35 ∷ encode_lower (checksum (body_of payload) ∷ [])) ≡ Wrong ∷ []
other_body payload body front back a b was is small less other h d room =
    let s = checksum (body_of payload) in
    let digits = digits_of_byte s (small_sum (body_of payload)) in
    let plain : ArePlain body = subst ArePlain (sym is) (still_plain front back a b (h, d) (subst ArePlain was (body_plain payload))) in
    let n : length body ≡ length (body_of payload) = ap length is ∙ same_length front back a b ∙ ap length (sym was) in
    let fits : length body ≤ 16384 = omega (arith, n, room) in
    let unlike : checksum body ≢ s = λ e. other_sum front back a b small less other (ap checksum (sym is) ∙ e ∙ ap checksum was) in
    framed body (encode_lower (s ∷ [])) digits.0 digits.1 digits.2 plain fits digits.3 digits.4 Wrong
    (said_wrong body (digits.0 ∷ digits.1 ∷ []) fits (λ e. unlike (some_is (checksum body) s (sym e ∙ digits.5))))
  where
    some_is : (x y : ℕ) → Some x ≡ Some y → x ≡ y
    some_is x y h = cc

refused : (payload text : List ℕ) → length (body_of payload) ≤ 16384 → IsDamaged payload text → all_heard [] text ≡ Wrong ∷ []
refused payload text room (in_body body o) = other_body payload body o.0 o.1 o.2 o.3 o.4 o.5 o.6 o.7 o.8 o.9 o.10 room
refused payload text room (in_digits high low h l n) =
    frame_heard (body_of payload) high low (body_plain payload) room h l
    ∙ ap (λ (x : Heard). also x []) (said_wrong (body_of payload) (high ∷ low ∷ []) room n)

pub damage_refused : (payload : List ℕ) → IsRefusedDamaged payload
damage_refused payload room text h = refused payload text room h
