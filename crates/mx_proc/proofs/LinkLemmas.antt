use Rattle.std.proofs.Common.{◌≡◌, ◌≢◌, ℕ, zero, suc, ◌+◌, ◌<◌, ◌≤◌, inl, inr, List, [], ◌∷◌, ◌++◌, length, map, drop, get_or, slice_set, slice_index, replicate, refl, sym, ap, ◌∙◌, arith, subst, length-set, append_assoc, get_or-set_same}
use Rattle.std.proofs.lemmas.List.{length-map, length-replicate, get_or-map, same_lists}
use Rattle.std.proofs.lemmas.Bool.{cases_eq, cases_lt, eq-eqb, ne_eqb}
use Rattle.mx_proc.specs.Queues.{times, without, list_at, InNoList}
use Rattle.mx_proc.specs.Chains.{IsChain, chain, chains, turned, Linked, firsts_with, nexts_with}
use Rattle.mx_proc.proofs.ListLemmas.{all_same, get_or-any, tally-same, times-without_same, times-without_other, list_at-cases}
use Rattle.mx_proc.proofs.ChainLemmas.{chain-is, chain-below, chain-short, chain_frame, chain_front, chain_end, chain_after, chain_out, times-turned, turned-append, turned-turned, more-once, more-apart, replaced, kept, empty_at, more_at, Out, round}

-- the fields determine the lists
chains-is : {size : ℕ} {nexts prevs firsts lasts : List ℕ} {lists : List (List ℕ)} → Linked size nexts prevs firsts lasts lists → chains nexts firsts ≡ lists
chains-is {nexts = nexts} {firsts = firsts} {lists = lists} h =
    let e : length (chains nexts firsts) ≡ length firsts = length-map firsts (λ at. chain (length nexts) nexts at) in
    same_lists (chains nexts firsts) lists (e ∙ h.firsts_long ∙ sym h.lists_long) (λ k d b.
    get_or-map (λ at. chain (length nexts) nexts at) firsts k 255 d (omega (arith, h.firsts_long))
    ∙ chain-is (length nexts) nexts (get_or firsts k 255) (list_at lists k) (h.forward k) (omega (arith, h.nexts_long, chain-short nexts (get_or firsts k 255) (list_at lists k) (h.forward k) (λ t. h.once t k)))
    ∙ get_or-any lists k [] d (omega (arith, h.lists_long)))

-- Fields that are those of some lists show these lists.
pub record Shows (size : ℕ) (nexts prevs firsts lasts : List ℕ) (lists : List (List ℕ)) : Type 0 where
  pub sound : Linked size nexts prevs firsts lasts (chains nexts firsts)
  pub are : chains nexts firsts ≡ lists

shows : {size : ℕ} {nexts prevs firsts lasts : List ℕ} {lists : List (List ℕ)} → Linked size nexts prevs firsts lasts lists → Shows size nexts prevs firsts lasts lists
shows {size = size} {nexts = nexts} {prevs = prevs} {firsts = firsts} {lasts = lasts} h =
    let e = chains-is h in record { sound = subst (Linked size nexts prevs firsts lasts) (sym e) h; are = e }

-- the first of a list that isn't empty is a slot
pub first_low : {size : ℕ} {nexts prevs firsts lasts : List ℕ} {lists : List (List ℕ)} (level : ℕ) → Linked size nexts prevs firsts lasts lists → level < size → slice_index firsts level ≢ 255 → slice_index firsts level < 32
first_low {nexts = nexts} {firsts = firsts} {lists = lists} level h b n = go (list_at lists level) (h.forward level) (get_or-any firsts level 255 0 (omega (arith, h.firsts_long)))
  where
    go : (xs : List ℕ) → IsChain nexts (get_or firsts level 255) xs → get_or firsts level 255 ≡ slice_index firsts level → slice_index firsts level < 32
    go [] g e = absurd (n (sym e ∙ g))
    go (x ∷ xs) g e = omega (arith, g.0, g.1)

-- ---- the lists the other way round

turned_at : (lists : List (List ℕ)) (l : ℕ) → list_at (map turned lists) l ≡ turned (list_at lists l)
turned_at [] l = refl
turned_at (xs ∷ lists) zero = refl
turned_at (xs ∷ lists) (suc l) = turned_at lists l

turned-all : (lists : List (List ℕ)) → map turned (map turned lists) ≡ lists
turned-all [] = refl
turned-all (xs ∷ lists) = ap (λ ys. ys ∷ map turned (map turned lists)) (turned-turned xs) ∙ ap (λ l. xs ∷ l) (turned-all lists)

map-put : (f : List ℕ → List ℕ) (lists : List (List ℕ)) (level : ℕ) (xs : List ℕ) → map f (slice_set lists level xs) ≡ slice_set (map f lists) level (f xs)
map-put f [] level xs = refl
map-put f (ys ∷ lists) zero xs = refl
map-put f (ys ∷ lists) (suc level) xs = ap (λ l. f ys ∷ l) (map-put f lists level xs)

times-turned_at : (lists : List (List ℕ)) (s l : ℕ) → times s (list_at (map turned lists) l) ≡ times s (list_at lists l)
times-turned_at lists s l = ap (times s) (turned_at lists l) ∙ times-turned s (list_at lists l)

pub mirrored : {size : ℕ} {nexts prevs firsts lasts : List ℕ} {lists : List (List ℕ)} → Linked size nexts prevs firsts lasts lists → Linked size prevs nexts lasts firsts (map turned lists)
mirrored {nexts = nexts} {prevs = prevs} {firsts = firsts} {lasts = lasts} {lists = lists} h = record {
  nexts_long = h.prevs_long;
  prevs_long = h.nexts_long;
  firsts_long = h.lasts_long;
  lasts_long = h.firsts_long;
  lists_long = length-map lists turned ∙ h.lists_long;
  forward = λ l. subst (IsChain prevs (get_or lasts l 255)) (sym (turned_at lists l)) (h.backward l);
  backward = λ l. subst (IsChain nexts (get_or firsts l 255)) (sym (ap turned (turned_at lists l) ∙ turned-turned (list_at lists l))) (h.forward l);
  once = λ s l. omega (arith, h.once s l, times-turned_at lists s l);
  apart = λ s l k x y. h.apart s l k (omega (arith, times-turned_at lists s l)) (omega (arith, times-turned_at lists s k));
}

-- ---- one more slot

-- to the front of an empty list
front_empty : {size : ℕ} {nexts prevs firsts lasts : List ℕ} {lists : List (List ℕ)} (level s f : ℕ) → Linked size nexts prevs firsts lasts lists → level < size → s < 32 → InNoList lists s → list_at lists level ≡ [] → f ≡ 255
    → Linked size (slice_set nexts s f) (slice_set prevs s 255) (slice_set firsts level s) (slice_set lasts level s) (slice_set lists level (s ∷ list_at lists level))
front_empty {nexts = nexts} {prevs = prevs} {firsts = firsts} {lasts = lasts} {lists = lists} level s f h b c no-s e q =
    let low : level < length lists = omega (arith, h.lists_long) in
    record {
      nexts_long = length-set _ _ _ ∙ h.nexts_long;
      prevs_long = length-set _ _ _ ∙ h.prevs_long;
      firsts_long = length-set _ _ _ ∙ h.firsts_long;
      lasts_long = length-set _ _ _ ∙ h.lasts_long;
      lists_long = length-set _ _ _ ∙ h.lists_long;
      forward = replaced (λ at xs. IsChain (slice_set nexts s f) at xs) firsts lists level s (s ∷ list_at lists level) (omega (arith, h.firsts_long)) low
          (subst (λ ys. IsChain (slice_set nexts s f) s (s ∷ ys)) (sym e) (refl, c, get_or-set_same nexts s f 0 (omega (arith, h.nexts_long)) ∙ q))
          (λ l n. chain_frame nexts s f _ (list_at lists l) (no-s l) (h.forward l));
      backward = replaced (λ at xs. IsChain (slice_set prevs s 255) at (turned xs)) lasts lists level s (s ∷ list_at lists level) (omega (arith, h.lasts_long)) low
          (subst (λ ys. IsChain (slice_set prevs s 255) s (turned (s ∷ ys))) (sym e) (refl, c, get_or-set_same prevs s 255 0 (omega (arith, h.prevs_long))))
          (λ l n. chain_frame prevs s 255 _ (turned (list_at lists l)) (times-turned s (list_at lists l) ∙ no-s l) (h.backward l));
      once = more-once lists level s (s ∷ list_at lists level) low no-s (λ t. refl) h.once;
      apart = more-apart lists level s (s ∷ list_at lists level) low no-s (λ t. refl) h.apart;
    }

-- to the front of a list that begins with f
front_more : {size : ℕ} {nexts prevs firsts lasts : List ℕ} {lists : List (List ℕ)} (level s f : ℕ) (xs : List ℕ) → Linked size nexts prevs firsts lasts lists → level < size → s < 32 → InNoList lists s → list_at lists level ≡ f ∷ xs
    → Linked size (slice_set nexts s f) (slice_set (slice_set prevs s 255) f s) (slice_set firsts level s) lasts (slice_set lists level (s ∷ list_at lists level))
front_more {nexts = nexts} {prevs = prevs} {firsts = firsts} {lasts = lasts} {lists = lists} level s f xs h b c no-s e =
    let low : level < length lists = omega (arith, h.lists_long) in
    let forward : IsChain nexts (get_or firsts level 255) (f ∷ xs) = subst (IsChain nexts (get_or firsts level 255)) e (h.forward level) in
    let backward : IsChain prevs (get_or lasts level 255) (turned xs ++ f ∷ []) = subst (λ ys. IsChain prevs (get_or lasts level 255) (turned ys)) e (h.backward level) in
    let none : times s (f ∷ xs) ≡ 0 = ap (times s) (sym e) ∙ no-s level in
    let here : times f (list_at lists level) ≡ 1 + times f xs = ap (times f) e ∙ ap (λ n. n + times f xs) (tally-same f f refl) in
    let rest : times f xs ≡ 0 = omega (arith, here, h.once f level) in
    let differ : s ≢ f = λ q. absurd (omega (arith, tally-same f s (sym q), none)) in
    let free : (l : ℕ) → l ≢ level → times f (list_at lists l) ≡ 0 = λ l n. gone l n here in
    let middle : List ℕ = slice_set prevs s 255 in
    let framed : IsChain middle (get_or lasts level 255) (turned xs ++ f ∷ []) = chain_frame prevs s 255 _ (turned xs ++ f ∷ []) (times-turned s (f ∷ xs) ∙ none) backward in
    record {
      nexts_long = length-set _ _ _ ∙ h.nexts_long;
      prevs_long = length-set _ _ _ ∙ length-set _ _ _ ∙ h.prevs_long;
      firsts_long = length-set _ _ _ ∙ h.firsts_long;
      lasts_long = h.lasts_long;
      lists_long = length-set _ _ _ ∙ h.lists_long;
      forward = replaced (λ at xs. IsChain (slice_set nexts s f) at xs) firsts lists level s (s ∷ list_at lists level) (omega (arith, h.firsts_long)) low
          (subst (λ ys. IsChain (slice_set nexts s f) s (s ∷ ys)) (sym e) (chain_front nexts s f (f ∷ xs) c h.nexts_long none (refl, forward.1, forward.2)))
          (λ l n. chain_frame nexts s f _ (list_at lists l) (no-s l) (h.forward l));
      backward = kept (λ at xs. IsChain (slice_set middle f s) at (turned xs)) lasts lists level (s ∷ list_at lists level) low
          (subst (λ ys. IsChain (slice_set middle f s) (get_or lasts level 255) (turned (s ∷ ys))) (sym e)
          (chain_end middle s f _ (turned xs) c (length-set _ _ _ ∙ h.prevs_long) (get_or-set_same prevs s 255 0 (omega (arith, h.prevs_long))) differ (times-turned f xs ∙ rest) (times-turned s xs ∙ omega (arith, none)) framed))
          (λ l n. chain_frame middle f s _ (turned (list_at lists l)) (times-turned f (list_at lists l) ∙ free l n)
          (chain_frame prevs s 255 _ (turned (list_at lists l)) (times-turned s (list_at lists l) ∙ no-s l) (h.backward l)));
      once = more-once lists level s (s ∷ list_at lists level) low no-s (λ t. refl) h.once;
      apart = more-apart lists level s (s ∷ list_at lists level) low no-s (λ t. refl) h.apart;
    }
  where
    gone : (l : ℕ) → l ≢ level → times f (list_at lists level) ≡ 1 + times f xs → times f (list_at lists l) ≡ 0
    gone l n here = elim (cases_lt 0 (times f (list_at lists l))) [
      | inl y ↦ absurd (n (h.apart f l level (omega arith) (omega arith)))
      | inr z ↦ omega arith
    ]

-- to the front of any list
front : {size : ℕ} {nexts prevs firsts lasts : List ℕ} {lists : List (List ℕ)} (level s f : ℕ) → Linked size nexts prevs firsts lasts lists → level < size → s < 32 → InNoList lists s → slice_index firsts level ≡ f
    → Linked size (slice_set nexts s f) (nexts_with (slice_set prevs s 255) f s) (slice_set firsts level s) (firsts_with lasts level f s) (slice_set lists level (s ∷ list_at lists level))
front {size = size} {nexts = nexts} {prevs = prevs} {firsts = firsts} {lasts = lasts} {lists = lists} level s f h b c no-s q =
    let e : get_or firsts level 255 ≡ f = get_or-any firsts level 255 0 (omega (arith, h.firsts_long)) ∙ q in
    elim (cases_eq f 255) [
      | inl is ↦ rw (eq-eqb f 255 is) (front_empty level s f h b c no-s (empty_at nexts (get_or firsts level 255) (list_at lists level) (h.forward level) (e ∙ is)) is)
      | inr n ↦ rw (ne_eqb f 255 n) (front_more level s f (drop 1 (list_at lists level)) h b c no-s
          (more_at nexts (get_or firsts level 255) (list_at lists level) (h.forward level) (λ z. n (sym e ∙ z)) ∙ ap (λ y. y ∷ drop 1 (list_at lists level)) e))
    ]

pub pushed_front : {size : ℕ} {nexts prevs firsts lasts : List ℕ} {lists : List (List ℕ)} (level s : ℕ) → Linked size nexts prevs firsts lasts (chains nexts firsts) → chains nexts firsts ≡ lists → level < size → s < 32 → InNoList lists s
    → Shows size (slice_set nexts s (slice_index firsts level)) (nexts_with (slice_set prevs s 255) (slice_index firsts level) s) (slice_set firsts level s) (firsts_with lasts level (slice_index firsts level) s) (slice_set lists level (s ∷ list_at lists level))
pushed_front {size = size} {nexts = nexts} {prevs = prevs} {firsts = firsts} {lasts = lasts} level s h v b c no-s =
    shows (front level s (slice_index firsts level) (subst (Linked size nexts prevs firsts lasts) v h) b c no-s refl)

pub pushed_back : {size : ℕ} {nexts prevs firsts lasts : List ℕ} {lists : List (List ℕ)} (level s : ℕ) → Linked size nexts prevs firsts lasts (chains nexts firsts) → chains nexts firsts ≡ lists → level < size → s < 32 → InNoList lists s
    → Shows size (nexts_with (slice_set nexts s 255) (slice_index lasts level) s) (slice_set prevs s (slice_index lasts level)) (firsts_with firsts level (slice_index lasts level) s) (slice_set lasts level s) (slice_set lists level (list_at lists level ++ s ∷ []))
pushed_back {size = size} {nexts = nexts} {prevs = prevs} {firsts = firsts} {lasts = lasts} {lists = lists} level s h v b c no-s =
    let k : Linked size nexts prevs firsts lasts lists = subst (Linked size nexts prevs firsts lasts) v h in
    let m = mirrored (front level s (slice_index lasts level) (mirrored k) b c (λ l. times-turned_at lists s l ∙ no-s l) refl) in
    let e : map turned (slice_set (map turned lists) level (s ∷ list_at (map turned lists) level)) ≡ slice_set lists level (list_at lists level ++ s ∷ []) =
    map-put turned (map turned lists) level (s ∷ list_at (map turned lists) level)
    ∙ ap (λ l. slice_set l level (turned (list_at (map turned lists) level) ++ s ∷ [])) (turned-all lists)
    ∙ ap (λ xs. slice_set lists level (turned xs ++ s ∷ [])) (turned_at lists level)
    ∙ ap (λ xs. slice_set lists level (xs ++ s ∷ [])) (turned-turned (list_at lists level)) in
    shows (subst (Linked size _ _ _ _) e m)

-- ---- a slot less

-- What is left of both chains of a list whose slot goes.
pub record Outs (nexts prevs firsts lasts : List ℕ) (lists : List (List ℕ)) (level s : ℕ) : Type 0 where
  pub forward : Out nexts (get_or firsts level 255) s (slice_index prevs s) (without s (list_at lists level))
  pub backward : Out prevs (get_or lasts level 255) s (slice_index nexts s) (turned (without s (list_at lists level)))

outs : {size : ℕ} {nexts prevs firsts lasts : List ℕ} {lists : List (List ℕ)} (level s : ℕ) → Linked size nexts prevs firsts lasts lists → times s (list_at lists level) ≡ 1 → Outs nexts prevs firsts lasts lists level s
outs {size = size} {nexts = nexts} {prevs = prevs} {firsts = firsts} {lasts = lasts} {lists = lists} level s h one =
    let r = round s (list_at lists level) one in
    let ahead : IsChain nexts (get_or firsts level 255) (r.front ++ s ∷ r.rest) = subst (IsChain nexts (get_or firsts level 255)) r.is (h.forward level) in
    let whole : turned (r.front ++ s ∷ r.rest) ≡ turned r.rest ++ s ∷ turned r.front = turned-append r.front (s ∷ r.rest) ∙ append_assoc (turned r.rest) (s ∷ []) (turned r.front) in
    let behind : IsChain prevs (get_or lasts level 255) (turned r.rest ++ s ∷ turned r.front) = subst (IsChain prevs (get_or lasts level 255)) (ap turned r.is ∙ whole) (h.backward level) in
    let before : IsChain prevs (slice_index prevs s) (turned r.front) = chain_after prevs s (get_or lasts level 255) (turned r.rest) (turned r.front) behind in
    let after : IsChain nexts (slice_index nexts s) (turned (turned r.rest)) = subst (IsChain nexts (slice_index nexts s)) (sym (turned-turned r.rest)) (chain_after nexts s (get_or firsts level 255) r.front r.rest ahead) in
    let once : (t : ℕ) → times t (r.front ++ s ∷ r.rest) ≤ 1 = λ t. subst (λ xs. times t xs ≤ 1) r.is (h.once t level) in
    let once2 : (t : ℕ) → times t (turned r.rest ++ s ∷ turned r.front) ≤ 1 = λ t. subst (λ n. n ≤ 1) (sym (times-turned t (r.front ++ s ∷ r.rest)) ∙ ap (times t) whole) (once t) in
    record {
      forward = subst (Out nexts (get_or firsts level 255) s (slice_index prevs s)) (sym r.left) (chain_out nexts prevs s _ (slice_index prevs s) r.front r.rest h.nexts_long once ahead before);
      backward = subst (Out prevs (get_or lasts level 255) s (slice_index nexts s)) (sym (turned-append r.front r.rest) ∙ ap turned (sym r.left)) (chain_out prevs nexts s _ (slice_index nexts s) (turned r.rest) (turned r.front) h.prevs_long once2 behind after);
    }

-- one chain of each list after a slot went
chain_gone : (V : List ℕ → List ℕ) (links firsts : List ℕ) (lists : List (List ℕ)) (level s p : ℕ) → level < length firsts → level < length lists
    → ((t : ℕ) (xs : List ℕ) → times t (V xs) ≡ times t xs)
    → Out links (get_or firsts level 255) s p (V (without s (list_at lists level)))
    → ((l : ℕ) → IsChain links (get_or firsts l 255) (V (list_at lists l)))
    → ((l : ℕ) → l ≢ level → 1 ≤ times p (without s (list_at lists level)) → times p (list_at lists l) ≡ 0)
    → (l : ℕ) → IsChain (nexts_with links p (slice_index links s)) (get_or (firsts_with firsts level p (slice_index links s)) l 255) (V (list_at (slice_set lists level (without s (list_at lists level))) l))
chain_gone V links firsts lists level s p b c same (inl o) old apart l = rw (eq-eqb p 255 o.0)
    (replaced (λ at xs. IsChain links at (V xs)) firsts lists level (slice_index links s) (without s (list_at lists level)) b c o.1 (λ l n. old l) l)
chain_gone V links firsts lists level s p b c same (inr o) old apart l =
    let n : p ≢ 255 = λ q. absurd (omega (arith, o.0)) in
    let v = slice_index links s in
    rw (ne_eqb p 255 n) (kept (λ at xs. IsChain (slice_set links p v) at (V xs)) firsts lists level (without s (list_at lists level)) c o.3
    (λ l m. chain_frame links p v _ (V (list_at lists l)) (same p (list_at lists l) ∙ apart l m (subst (λ k. 1 ≤ k) (same p (without s (list_at lists level))) o.1)) (old l)) l)

times-without-le : (s t : ℕ) (xs : List ℕ) → times t (without s xs) ≤ times t xs
times-without-le s t xs = elim (cases_eq t s) [
  | inl e ↦ subst (λ k. times k (without s xs) ≤ times k xs) (sym e) (omega (arith, times-without_same s xs))
  | inr n ↦ omega (arith, times-without_other s t xs n)
]

fewer : (lists : List (List ℕ)) (level s t l : ℕ) → level < length lists → times t (list_at (slice_set lists level (without s (list_at lists level))) l) ≤ times t (list_at lists l)
fewer lists level s t l b = elim (list_at-cases lists level l (without s (list_at lists level)) b) [
  | inl e ↦ subst (λ xs. times t xs ≤ times t (list_at lists l)) (sym e.1) (subst (λ k. times t (without s (list_at lists level)) ≤ times t (list_at lists k)) (sym e.0) (times-without-le s t (list_at lists level)))
  | inr e ↦ omega (arith, ap (times t) e.1)
]

pub removed : {size : ℕ} {nexts prevs firsts lasts : List ℕ} {lists : List (List ℕ)} (level s : ℕ) → Linked size nexts prevs firsts lasts (chains nexts firsts) → chains nexts firsts ≡ lists → level < size → 1 ≤ times s (list_at lists level)
    → Shows size (nexts_with nexts (slice_index prevs s) (slice_index nexts s)) (nexts_with prevs (slice_index nexts s) (slice_index prevs s))
    (firsts_with firsts level (slice_index prevs s) (slice_index nexts s)) (firsts_with lasts level (slice_index nexts s) (slice_index prevs s))
    (slice_set lists level (without s (list_at lists level)))
removed {size = size} {nexts = nexts} {prevs = prevs} {firsts = firsts} {lasts = lasts} {lists = lists} level s k v b m =
    let h : Linked size nexts prevs firsts lasts lists = subst (Linked size nexts prevs firsts lasts) v k in
    let low : level < length lists = omega (arith, h.lists_long) in
    let o = outs level s h (omega (arith, h.once s level)) in
    let gone : (p l : ℕ) → l ≢ level → 1 ≤ times p (without s (list_at lists level)) → times p (list_at lists l) ≡ 0 = λ p l n u. elim (cases_lt 0 (times p (list_at lists l))) [
      | inl y ↦ absurd (n (h.apart p l level (omega arith) (omega (arith, times-without-le s p (list_at lists level)))))
      | inr z ↦ omega arith
    ] in
    shows (record {
      nexts_long = long nexts (slice_index prevs s) (slice_index nexts s) ∙ h.nexts_long;
      prevs_long = long prevs (slice_index nexts s) (slice_index prevs s) ∙ h.prevs_long;
      firsts_long = long2 firsts (slice_index prevs s) (slice_index nexts s) ∙ h.firsts_long;
      lasts_long = long2 lasts (slice_index nexts s) (slice_index prevs s) ∙ h.lasts_long;
      lists_long = length-set _ _ _ ∙ h.lists_long;
      forward = chain_gone (λ xs. xs) nexts firsts lists level s (slice_index prevs s) (omega (arith, h.firsts_long)) low (λ t xs. refl) o.forward h.forward (gone (slice_index prevs s));
      backward = chain_gone turned prevs lasts lists level s (slice_index nexts s) (omega (arith, h.lasts_long)) low times-turned o.backward h.backward (gone (slice_index nexts s));
      once = λ t l. omega (arith, fewer lists level s t l low, h.once t l);
      apart = λ t l j x y. h.apart t l j (omega (arith, fewer lists level s t l low)) (omega (arith, fewer lists level s t j low));
    })
  where
    long : (xs : List ℕ) (p n : ℕ) → length (nexts_with xs p n) ≡ length xs
    long xs p n = elim (cases_eq p 255) [ inl e ↦ rw (eq-eqb p 255 e) refl | inr d ↦ rw (ne_eqb p 255 d) (length-set _ _ _) ]

    long2 : (xs : List ℕ) (p n : ℕ) → length (firsts_with xs level p n) ≡ length xs
    long2 xs p n = elim (cases_eq p 255) [ inl e ↦ rw (eq-eqb p 255 e) (length-set _ _ _) | inr d ↦ rw (ne_eqb p 255 d) refl ]

-- the links of a slot that is in a list are slots or none
pub prev_low : {size : ℕ} {nexts prevs firsts lasts : List ℕ} {lists : List (List ℕ)} (level s : ℕ) → Linked size nexts prevs firsts lasts lists → 1 ≤ times s (list_at lists level) → slice_index prevs s ≢ 255 → slice_index prevs s < 32
prev_low {size = size} {nexts = nexts} {prevs = prevs} {firsts = firsts} {lasts = lasts} {lists = lists} level s h m n = go (outs level s h (omega (arith, h.once s level))).forward
  where
    go : Out nexts (get_or firsts level 255) s (slice_index prevs s) (without s (list_at lists level)) → slice_index prevs s < 32
    go (inl o) = absurd (n o.0)
    go (inr o) = o.0

pub next_low : {size : ℕ} {nexts prevs firsts lasts : List ℕ} {lists : List (List ℕ)} (level s : ℕ) → Linked size nexts prevs firsts lasts lists → 1 ≤ times s (list_at lists level) → slice_index nexts s ≢ 255 → slice_index nexts s < 32
next_low {lists = lists} level s h m n = prev_low level s (mirrored h) (omega (arith, times-turned_at lists s level)) n

pub shows_same : (size : ℕ) (a b c d a' b' c' d' : List ℕ) (lists : List (List ℕ)) → a ≡ a' → b ≡ b' → c ≡ c' → d ≡ d' → Shows size a' b' c' d' lists → Shows size a b c d lists
shows_same size a b c d a' b' c' d' lists e f g h s =
    subst (λ x. Shows size x b c d lists) (sym e) (subst (λ x. Shows size a' x c d lists) (sym f) (subst (λ x. Shows size a' b' x d lists) (sym g) (subst (λ x. Shows size a' b' c' x lists) (sym h) s)))

-- ---- no slots

pub none_linked : (size : ℕ) → Shows size (replicate 32 255) (replicate 32 255) (replicate size 255) (replicate size 255) (replicate size [])
none_linked size = shows (record {
  nexts_long = refl;
  prevs_long = refl;
  firsts_long = length-replicate size 255;
  lasts_long = length-replicate size 255;
  lists_long = length-replicate size [];
  forward = λ l. subst (IsChain (replicate 32 255) (get_or (replicate size 255) l 255)) (sym (all_same (List ℕ) size l [])) (all_same ℕ size l 255);
  backward = λ l. subst (λ xs. IsChain (replicate 32 255) (get_or (replicate size 255) l 255) (turned xs)) (sym (all_same (List ℕ) size l [])) (all_same ℕ size l 255);
  once = λ s l. omega (arith, ap (times s) (all_same (List ℕ) size l []));
  apart = λ s l k h g. absurd (omega (arith, ap (times s) (all_same (List ℕ) size l [])));
})

-- who is in a list is a slot
pub slot_low : {size : ℕ} {nexts prevs firsts lasts : List ℕ} {lists : List (List ℕ)} (level s : ℕ) → Linked size nexts prevs firsts lasts lists → 1 ≤ times s (list_at lists level) → s < 32
slot_low {nexts = nexts} {firsts = firsts} {lists = lists} level s h m = elim (cases_lt s 32) [
  | inl y ↦ y
  | inr n ↦ absurd (omega (arith, chain-below nexts (get_or firsts level 255) s (list_at lists level) (h.forward level) n))
]
