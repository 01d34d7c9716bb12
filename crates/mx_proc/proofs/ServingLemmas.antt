use Rattle.std.proofs.Common.{◌≡◌, ℕ, ◌+◌, ◌-◌, ◌^◌, ◌<◌, ◌≤◌, ◌==◌, Bool, true, false, cond, map, List, [], ◌∷◌, ◌++◌, length, get_or, slice_set, take, drop, Option, Some, None, IfSome, refl, sym, ap, ◌∙◌, subst, arith, inl, inr, length-set, get_or-set_same, get_or-set_other}
use Rattle.std.proofs.lemmas.List.{length-map, get_or-map, get_or-append_right, set-append_left, set-append_right, length-append, length-take, length-drop}
use Rattle.std.proofs.lemmas.Bool.{cases_lt, cases_eq}
use Rattle.std.proofs.Math.ListN.{get_or-eq_default, get_or-append}
use Rattle.mx_proc.proofs.ListLemmas.{get_or-any}
use Rattle.mx_proc.specs.declared.process.Process.{Process}
use Rattle.mx_proc.specs.declared.devices.Devices.{Devices}
use Rattle.mx_proc.specs.TableState.{TableState, nobody, process_at}
use Rattle.mx_proc.specs.Frame.{FixedOfProcess, Frame, fixed_of, loan_of, frame}
use Rattle.mx_proc.specs.Sound.{Sound, Stands}
use Rattle.std.proofs.Math.Seq.{take-append_seam}
use Rattle.mx_mem.specs.Segment.{with_bytes_at, part}
use Rattle.mx_proc.specs.Serving.{without_bit_of, owner_but, table_after_forgetting, process_after_copy}
use Rattle.mx_proc.proofs.TableLemmas.{alike}
use Rattle.mx_proc.proofs.FrameLemmas.{framed}

-- what the frame of a table with other devices is
pub reframed : (w n : TableState) (d : Devices) → w ≡ n → frame (record w { devices = d }) ≡ record (frame n) { devices = d }
unfolding frame
reframed w n d v = ap (λ (x : TableState). let f : Frame = record (frame x) { devices = d } in f) v

-- and with another uptime
pub clocked : (w n : TableState) (t : ℕ) → w ≡ n → frame (record w { uptime = t }) ≡ record (frame n) { uptime = t }
unfolding frame
clocked w n t v = ap (λ (x : TableState). let f : Frame = record (frame x) { uptime = t } in f) v

-- other devices, whose lines' owners have slots
pub redeviced : (w : TableState) (d : Devices) → Sound w → length d.owners ≡ 16 → ((line : ℕ) → IfSome (get_or d.owners line None) (λ s. s < length w.slots)) → Sound (record w { devices = d })
redeviced w d h n o = record { few = h.few; lists = h.lists; idle = h.idle; each = h.each; named = h.named; acyclic = h.acyclic; lines = n; owned = o }

-- what rings before a time rings before a later one
due_before : (o : Option ℕ) (t u n : ℕ) → t ≤ u → IfSome o (λ due. due < t + n) → IfSome o (λ due. due < u + n)
due_before None t u n b h = _
due_before (Some due) t u n b h = omega (arith, h)

pub reclocked : (w : TableState) (t : ℕ) → w.uptime ≤ t → Sound w → Sound (record w { uptime = t })
reclocked w t b h = record {
  few = h.few;
  lists = h.lists;
  idle = h.idle;
  each = λ s. let k = h.each s in record {
    listed = k.listed;
    waiting = k.waiting;
    process = record {
      generation = k.process.generation;
      pending = k.process.pending;
      windows = k.process.windows;
      alarm = due_before (process_at w s).alarm w.uptime t (2 ^ 32) b k.process.alarm;
      buffer = k.process.buffer;
    };
  };
  named = h.named;
  acyclic = h.acyclic;
  lines = h.lines;
  owned = h.owned;
}

-- a line's owner is another
pub owned_by : (owners : List (Option ℕ)) (line n : ℕ) (o : Option ℕ) → IfSome o (λ s. s < n) → ((l : ℕ) → IfSome (get_or owners l None) (λ s. s < n)) → (l : ℕ) → IfSome (get_or (slice_set owners line o) l None) (λ s. s < n)
owned_by [] line n o h k l = k l
owned_by owners line n o h k l = elim (cases_eq l line) [
  | inl e ↦ elim (cases_lt line (length owners)) [
    | inl lt ↦ subst (λ x. IfSome x (λ s. s < n)) (sym (ap (λ i. get_or (slice_set owners line o) i None) e ∙ get_or-set_same owners line o None lt)) h
    | inr ge ↦ subst (λ x. IfSome x (λ s. s < n)) (sym (get_or-eq_default (slice_set owners line o) None (omega (arith, length-set owners line o)))) _
  ]
  | inr m ↦ subst (λ x. IfSome x (λ s. s < n)) (sym (get_or-set_other owners line l o None m)) (k l)
]

-- the owners but one
owner_less : (s n : ℕ) (o : Option ℕ) → IfSome o (λ t. t < n) → IfSome (owner_but s o) (λ t. t < n)
owner_less s n None h = _
owner_less s n (Some t) h = less (t == s)
  where
    less : (b : Bool) → IfSome (cond b None (Some t)) (λ t. t < n)
    less true = _
    less false = h

pub owned_but : (owners : List (Option ℕ)) (s n : ℕ) → ((l : ℕ) → IfSome (get_or owners l None) (λ t. t < n)) → (l : ℕ) → IfSome (get_or (map (owner_but s) owners) l None) (λ t. t < n)
owned_but owners s n k l = elim (cases_lt l (length owners)) [
  | inl lt ↦ subst (λ x. IfSome x (λ t. t < n)) (sym (get_or-map (owner_but s) owners l None None lt)) (owner_less s n (get_or owners l None) (k l))
  | inr ge ↦ subst (λ x. IfSome x (λ t. t < n)) (sym (get_or-eq_default (map (owner_but s) owners) None (omega (arith, length-map owners (owner_but s))))) _
]

-- nobody has the bits of a slot
pub forgotten_sound : (w : TableState) (s : ℕ) → Sound w → Sound (table_after_forgetting w s)
forgotten_sound w s h = let used : length (map (without_bit_of s) w.slots) ≡ length w.slots = length-map w.slots (without_bit_of s) in record {
  few = omega (arith, h.few, used);
  lists = h.lists;
  idle = h.idle;
  acyclic = h.acyclic;
  named = λ p q k. omega (arith, h.named p q k, used);
  lines = length-map w.devices.owners (owner_but s) ∙ h.lines;
  owned = λ l. subst (λ n. IfSome (get_or (map (owner_but s) w.devices.owners) l None) (λ t. t < n)) (sym used) (owned_but w.devices.owners s (length w.slots) h.owned l);
  each = λ t. elim (cases_lt t (length w.slots)) [
    | inl lt ↦ let k = h.each t in subst (λ q. Stands q w.ready w.waits w.uptime t) (sym (get_or-map (without_bit_of s) w.slots t nobody nobody lt)) (record {
      listed = k.listed;
      waiting = k.waiting;
      process = record {
        generation = k.process.generation;
        pending = length-set _ _ _ ∙ k.process.pending;
        windows = length-set _ _ _ ∙ k.process.windows;
        alarm = k.process.alarm;
        buffer = k.process.buffer;
      };
    })
    | inr ge ↦ subst (λ q. Stands q w.ready w.waits w.uptime t) (get_or-eq_default w.slots nobody ge ∙ sym (get_or-eq_default (map (without_bit_of s) w.slots) nobody (omega (arith, used)))) (h.each t)
  ];
}

map_same : {X Y : Type 0} (f : X → Y) (g : X → X) → ((x : X) → f (g x) ≡ f x) → (xs : List X) → map f (map g xs) ≡ map f xs
map_same f g e [] = refl
map_same f g e (x ∷ xs) = ap (λ y. y ∷ map f (map g xs)) (e x) ∙ ap (λ l. f x ∷ l) (map_same f g e xs)

-- one of the later ones is changed, by what is known of an earlier one
pub changed_later : (f : Process → Process → Process) (ps low high : List Process) (from to : ℕ) (p q : Process) → ps ≡ low ++ high → length low ≡ to → from < to → to < length ps
    → low ++ slice_set high 0 (f (get_or low from p) (get_or high 0 q)) ≡ slice_set ps to (f (get_or ps from nobody) (get_or ps to nobody))
changed_later f ps low high from to p q e n lt b =
    let none : to - to ≡ 0 = omega arith in
    let some : 0 < length high = omega (arith, ap length e, length-append low high) in
    let a : get_or ps from nobody ≡ get_or low from p = ap (λ l. get_or l from nobody) e ∙ get_or-append low high nobody from (omega arith) ∙ get_or-any low from nobody p (omega arith) in
    let d : get_or ps to nobody ≡ get_or high 0 q = ap (λ l. get_or l to nobody) e ∙ get_or-append_right low high to to nobody n (omega arith) ∙ ap (λ i. get_or high i nobody) none ∙ get_or-any high 0 nobody q some in
    sym (ap (λ x. slice_set ps to (f x (get_or ps to nobody))) a ∙ ap (λ x. slice_set ps to (f (get_or low from p) x)) d ∙ ap (λ l. slice_set l to (f (get_or low from p) (get_or high 0 q))) e
    ∙ set-append_right low high to to (f (get_or low from p) (get_or high 0 q)) n (omega arith) ∙ ap (λ i. low ++ slice_set high i (f (get_or low from p) (get_or high 0 q))) none)

-- one of the earlier ones is
pub changed_earlier : (f : Process → Process → Process) (ps low high : List Process) (from to : ℕ) (p q : Process) → ps ≡ low ++ high → length low ≡ from → to < from → from < length ps
    → slice_set low to (f (get_or high 0 p) (get_or low to q)) ++ high ≡ slice_set ps to (f (get_or ps from nobody) (get_or ps to nobody))
changed_earlier f ps low high from to p q e n lt b =
    let none : from - from ≡ 0 = omega arith in
    let some : 0 < length high = omega (arith, ap length e, length-append low high) in
    let a : get_or ps from nobody ≡ get_or high 0 p = ap (λ l. get_or l from nobody) e ∙ get_or-append_right low high from from nobody n (omega arith) ∙ ap (λ i. get_or high i nobody) none ∙ get_or-any high 0 nobody p some in
    let d : get_or ps to nobody ≡ get_or low to q = ap (λ l. get_or l to nobody) e ∙ get_or-append low high nobody to (omega arith) ∙ get_or-any low to nobody q (omega arith) in
    sym (ap (λ x. slice_set ps to (f x (get_or ps to nobody))) a ∙ ap (λ x. slice_set ps to (f (get_or high 0 p) x)) d ∙ ap (λ l. slice_set l to (f (get_or high 0 p) (get_or low to q))) e
    ∙ set-append_left low high to (f (get_or high 0 p) (get_or low to q)) (omega arith))

-- a slice of a whole vector that comes back
pub whole : {X : Type 0} (new old : List X) (n : ℕ) → length new ≡ n → take n (new ++ drop (length new) old) ≡ new
whole new old n e = subst (λ k. take k (new ++ drop (length new) old) ≡ new) e (rw take-append_seam refl)

pub forgotten_is : (w : TableState) (s : ℕ) (ps : List Process) (owners : List (Option ℕ)) → ps ≡ map (without_bit_of s) w.slots → owners ≡ map (owner_but s) w.devices.owners
    → (let r : TableState = record w { slots = ps; devices = record w.devices { owners = owners } } in r) ≡ table_after_forgetting w s
forgotten_is w s ps owners e f = ap (λ x. let r : TableState = record w { slots = x; devices = record w.devices { owners = owners } } in r) e
    ∙ ap (λ x. let r : TableState = record w { slots = map (without_bit_of s) w.slots; devices = record w.devices { owners = x } } in r) f

pub forgotten_framed : (w n : TableState) (s : ℕ) (ps : List Process) (d : Devices) → w ≡ n → ps ≡ map (without_bit_of s) w.slots → frame (record w { slots = ps; devices = d }) ≡ record (frame n) { devices = d }
unfolding frame
forgotten_framed w n s ps d v e = same (map fixed_of ps) (map fixed_of w.slots) (map loan_of ps) (map loan_of w.slots)
    (ap (map fixed_of) e ∙ map_same fixed_of (without_bit_of s) (λ p. refl) w.slots) (ap (map loan_of) e ∙ map_same loan_of (without_bit_of s) (λ p. refl) w.slots)
    ∙ ap (λ (x : TableState). let f : Frame = record (frame x) { devices = d } in f) v
  where
    same : (a b : List FixedOfProcess) (c e : List (Option ℕ)) → a ≡ b → c ≡ e → (let f : Frame = record { fixed = a; loans = c; uptime = w.uptime; devices = d } in f) ≡ record { fixed = b; loans = e; uptime = w.uptime; devices = d }
    same a b c e x y = cc

pub length-part : (bytes : List ℕ) (at count : ℕ) → at + count ≤ length bytes → length (part bytes at count) ≡ count
length-part bytes at count h = omega (arith, length-take count (drop at bytes), length-drop at bytes)

pub length-overwritten : (bytes : List ℕ) (at : ℕ) (source : List ℕ) → at + length source ≤ length bytes → length (with_bytes_at bytes at source) ≡ length bytes
length-overwritten bytes at source h = omega (arith, length-append (take at bytes) (source ++ drop (at + length source) bytes), length-append source (drop (at + length source) bytes), length-append (take at bytes ++ source) (drop (at + length source) bytes), length-append (take at bytes) source, length-take at bytes, length-drop (at + length source) bytes)

-- a process with bytes copied to it
pub copied_sound : (w n : TableState) (s at : ℕ) (bytes : List ℕ) (ps : List Process) → w ≡ n → Sound w → s < length n.slots → at + length bytes ≤ length (get_or w.slots s nobody).image.memory
    → ps ≡ slice_set w.slots s (process_after_copy (get_or w.slots s nobody) at bytes) → Sound (record w { slots = ps })
copied_sound w n s at bytes ps v h b room e =
    let q = get_or w.slots s nobody in
    let used : s < length w.slots = subst (λ (x : TableState). s < length x.slots) (sym v) b in
    subst (λ l. Sound (record w { slots = l })) (sym e) (alike w n s q (process_after_copy q at bytes) v h b (get_or-any w.slots s nobody q used) (record {
      state = refl;
      level = refl;
      generation = refl;
      pending = refl;
      windows = refl;
      alarm = refl;
      buffer = refl;
      memory = length-overwritten q.image.memory at bytes room;
    }))

pub copied_framed : (w n : TableState) (s at : ℕ) (bytes : List ℕ) (ps : List Process) → w ≡ n → s < length n.slots → at + length bytes ≤ length (get_or w.slots s nobody).image.memory
    → ps ≡ slice_set w.slots s (process_after_copy (get_or w.slots s nobody) at bytes) → frame (record w { slots = ps }) ≡ frame n
copied_framed w n s at bytes ps v b room e =
    let q = get_or w.slots s nobody in
    let used : s < length w.slots = subst (λ (x : TableState). s < length x.slots) (sym v) b in
    ap (λ l. frame (record w { slots = l })) e ∙ framed w n s q (process_after_copy q at bytes) w.ready w.waits w.renewed w.deliveries v (get_or-any w.slots s nobody q used) (ap (λ k. record (fixed_of q) { lasting = (q.image.code, k) }) (length-overwritten q.image.memory at bytes room)) refl
