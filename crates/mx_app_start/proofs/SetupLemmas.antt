-- What is read of files, and the first fault of them.
use Rattle.std.proofs.Common.{◌≡◌, ◌<◌, ◌∙◌, ℕ, zero, suc, ◌+◌, true, false, List, [], ◌∷◌, ◌++◌, Option, Some, None, Ok, Err, length, take, drop, get_or, append_assoc, inl, inr, refl, ap, sym, subst, arith}
use Rattle.std.proofs.lemmas.List.{take_more}
use Rattle.mx_aout.specs.declared.program.Program.{Program}
use Rattle.mx_aout.specs.declared.program.FileError.{FileError}
use Rattle.mx_aout.specs.File.{FileIs, ReadsFile, refusal_of}
use Rattle.mx_text.specs.declared.error.BootError.{BootError}
use Rattle.mx_boot.specs.Config.{Config}
use Rattle.mx_boot.specs.ServiceLine.{ServiceLine}
use Rattle.mx_machine.specs.Service.{Service}
use Rattle.mx_boot.specs.Lines.{IsConfig, TellsConfigFault}
use Rattle.mx_app_failure.specs.declared.failure.Failure.{Failure}
use Rattle.mx_app_failure.specs.declared.failure.Failure.TheVariants.{NoMemory}
use Rattle.mx_app_failure.specs.declared.failure.About.TheVariants as about
use Rattle.mx_app_failure.specs.declared.failure.FileProblem.{FileProblem}
use Rattle.mx_app_failure.specs.Failure.{IsMisstated, failure_if, problem_of_refusal}
use Rattle.std.specs.Prelude.{String, slice_get, slice_index_or, string_bytes}
use Rattle.std.specs.declared.alloc.Global.{Global}
use Rattle.std.proofs.lemmas.Option.{slice_get-get_or}
use Rattle.mx_app_start.specs.Asked.{Asked, file_given}
use Rattle.mx_app_start.specs.Setup.{AreServicesRead, IsConfigFault, IsConfigRead, IsFirstFault, IsFirstRefused, IsLineRefused, IsNoTextGiven, IsNotStarted, IsServiceFailure, IsServiceRead, IsSetup, IsSetupFault, IsStart, IsTextGiven}

pub never : false ≡ true → ⊥
never h = absurd cc

-- ---- a service's file

pub program_refused : (line : ServiceLine) (name b slice : List ℕ) (e : FileError) → name ≡ line.file → slice ≡ b → ReadsFile (refusal_of slice) slice (Err e)
    → IsLineRefused line (file_given name b) (problem_of_refusal b e)
program_refused line name b slice e same of h =
    inr (b, e, ap (λ (n : List ℕ). file_given n b) same, subst (λ (t : List ℕ). ReadsFile (refusal_of t) t (Err e)) of h, refl)

is_program : (o : Option FileError) (b : List ℕ) (p : Program) → ReadsFile o b (Ok p) → FileIs b p
is_program (Some d) b p h = absurd cc
is_program None b p h = h

pub program_is : (b slice : List ℕ) (p : Program) → slice ≡ b → ReadsFile (refusal_of slice) slice (Ok p) → FileIs b p
program_is b slice p of h = is_program (refusal_of b) b p (subst (λ (t : List ℕ). ReadsFile (refusal_of t) t (Ok p)) of h)

-- ---- services

split_there : (lines : List ServiceLine) (i : ℕ) (l : ServiceLine) → i < length lines → l ≡ get_or lines i l → lines ≡ take i lines ++ l ∷ drop (suc i) lines
split_there [] i l b h = absurd (omega arith)
split_there (k ∷ ls) zero l b h = ap (λ (x : ServiceLine). x ∷ ls) (sym h)
split_there (k ∷ ls) (suc i) l b h = ap (λ (x : List ServiceLine). k ∷ x) (split_there ls i l (omega arith) h)

pub read_more : (ls : List ServiceLine) (qs : List Asked) (vs : List Service) (l : ServiceLine) (q : Asked) (v : Service)
    → AreServicesRead ls qs vs → IsServiceRead l q v → AreServicesRead (ls ++ l ∷ []) (qs ++ q ∷ []) (vs ++ v ∷ [])
read_more [] [] [] l q v h r = (r, tt)
read_more [] [] (w ∷ vs) l q v h r = absurd h
read_more [] (p ∷ qs) vs l q v h r = absurd h
read_more (k ∷ ls) [] vs l q v h r = absurd h
read_more (k ∷ ls) (p ∷ qs) [] l q v h r = absurd h
read_more (k ∷ ls) (p ∷ qs) (w ∷ vs) l q v h r = (h.0, read_more ls qs vs l q v h.1 r)

pub as_many : (ls : List ServiceLine) (qs : List Asked) (vs : List Service) → AreServicesRead ls qs vs → length vs ≡ length ls
as_many [] [] [] h = refl
as_many [] [] (w ∷ vs) h = absurd h
as_many [] (p ∷ qs) vs h = absurd h
as_many (k ∷ ls) [] vs h = absurd h
as_many (k ∷ ls) (p ∷ qs) [] h = absurd h
as_many (k ∷ ls) (p ∷ qs) (w ∷ vs) h = ap (λ n. suc n) (as_many ls qs vs h.1)

length_above : (lines : List ServiceLine) (i : ℕ) → i < length lines → length (take i lines) ≡ i
length_above [] i b = absurd (omega arith)
length_above (k ∷ ls) zero b = refl
length_above (k ∷ ls) (suc i) b = ap (λ n. suc n) (length_above ls i (omega arith))

-- as many services as lines above are fewer than all lines
pub fewer : (lines : List ServiceLine) (i n : ℕ) (qs : List Asked) (vs : List Service) → i < length lines → n ≡ length vs → AreServicesRead (take i lines) qs vs → n < length lines
fewer lines i n qs vs b e h =
    let same : n ≡ i = e ∙ as_many (take i lines) qs vs h ∙ length_above lines i b in
    subst (λ (k : ℕ). k < length lines) (sym same) b

-- those above the line of a place, and the one that is refused there
pub refused_there : (lines : List ServiceLine) (i n : ℕ) (l : ServiceLine) (qs : List Asked) (q : Asked) (vs : List Service) (p : Option FileProblem)
    → i < length lines → l ≡ get_or lines i l → n ≡ length vs → AreServicesRead (take i lines) qs vs → IsLineRefused l q p → IsFirstRefused lines (qs ++ q ∷ []) n p
refused_there lines i n l qs q vs p b is e h r =
    inl (take i lines, drop (suc i) lines, l, qs, q, vs, split_there lines i l b is, sym (e ∙ as_many (take i lines) qs vs h), refl, h, r)

-- those up to the line of a place, with no room for the service there
pub lost_there : (lines : List ServiceLine) (i n : ℕ) (l : ServiceLine) (qs : List Asked) (q : Asked) (vs : List Service) (v : Service)
    → i < length lines → l ≡ get_or lines i l → AreServicesRead (take i lines) qs vs → IsServiceRead l q v → IsFirstRefused lines (qs ++ q ∷ []) n None
lost_there lines i n l qs q vs v b is h r =
    inr (take i lines ++ l ∷ [], drop (suc i) lines, vs ++ v ∷ [], split_there lines i l b is ∙ sym (append_assoc (take i lines) (l ∷ []) (drop (suc i) lines)), read_more (take i lines) qs vs l q v h r, refl)

-- the failure of a service whose file's name is in it
pub told : (p : Option FileProblem) (name : List ℕ) (s : String Global) (f : Failure) → string_bytes s ≡ name → f ≡ failure_if p (about.Service s) → IsServiceFailure name p f
told None name s f e h = h
told (Some p) name s f e h = (s, e, h)

pub line_there : (lines items : List ServiceLine) (i : ℕ) (l : ServiceLine) → items ≡ lines → i < length lines → l ≡ slice_index_or items i l → slice_get lines i ≡ Some l
line_there lines items i l e b is =
    slice_get-get_or lines i l b ∙ ap (λ (x : ServiceLine). Some x) (sym (is ∙ ap (λ (xs : List ServiceLine). slice_index_or xs i l) e))

pub read_there : (lines : List ServiceLine) (i : ℕ) (l : ServiceLine) (qs : List Asked) (q : Asked) (vs ws : List Service) (v : Service)
    → i < length lines → l ≡ get_or lines i l → ws ≡ vs ++ v ∷ [] → AreServicesRead (take i lines) qs vs → IsServiceRead l q v → AreServicesRead (take (i + 1) lines) (qs ++ q ∷ []) ws
read_there lines i l qs q vs ws v b is e h r =
    let more : take (i + 1) lines ≡ take i lines ++ l ∷ [] = take_more lines i l b ∙ ap (λ (x : ServiceLine). take i lines ++ x ∷ []) (sym is) in
    subst (λ (xs : List Service). AreServicesRead (take (i + 1) lines) (qs ++ q ∷ []) xs) (sym e)
    (subst (λ (ls : List ServiceLine). AreServicesRead ls (qs ++ q ∷ []) (vs ++ v ∷ [])) (sym more) (read_more (take i lines) qs vs l q v h r))

-- ---- what was asked, in two parts

pub asked_on : (a b c qs rs : List Asked) → b ≡ a ++ qs → c ≡ b ++ rs → c ≡ a ++ (qs ++ rs)
asked_on a b c qs rs e h = h ∙ ap (λ (x : List Asked). x ++ rs) e ∙ append_assoc a qs rs

-- ---- a configuration and its services

pub config_faulty : (name text slice : List ℕ) (q : Asked) (e : BootError) (f : Failure) → slice ≡ text → IsTextGiven name q text → TellsConfigFault slice e
    → IsMisstated e about.Config text f → IsConfigFault name q f
config_faulty name text slice q e f of t h m = inr (text, e, t, subst (λ (x : List ℕ). TellsConfigFault x e) of h, m)

pub config_read : (name text slice : List ℕ) (q : Asked) (config : Config) → slice ≡ text → IsTextGiven name q text → IsConfig slice config → IsConfigRead name q config
config_read name text slice q config of t is = (text, t, subst (λ (x : List ℕ). IsConfig x config) of is)

pub setup_missed : (name : List ℕ) (q : Asked) (f : Failure) → IsConfigFault name q f → IsSetupFault name (q ∷ []) f
setup_missed name q f h = inl (q, refl, h)

pub setup_refused : (name : List ℕ) (q : Asked) (qs : List Asked) (config : Config) (lines : List ServiceLine) (n : ℕ) (p : Option FileProblem) (line : ServiceLine) (f : Failure)
    → IsConfigRead name q config → lines ≡ config.lines → IsFirstRefused lines qs n p → slice_get config.lines n ≡ Some line → IsServiceFailure line.file p f
    → IsSetupFault name (q ∷ qs) f
setup_refused name q qs config lines n p line f is same r there told =
    inr (q, qs, is.0, config, refl, is.1, is.2, (n, p, line, subst (λ (ls : List ServiceLine). IsFirstRefused ls qs n p) same r, there, told))

pub setup_read : (name : List ℕ) (q : Asked) (qs : List Asked) (config : Config) (lines : List ServiceLine) (vs : List Service)
    → IsConfigRead name q config → lines ≡ config.lines → AreServicesRead lines qs vs → IsSetup name (q ∷ qs) config vs
setup_read name q qs config lines vs is same r =
    (q, qs, is.0, refl, is.1, is.2, subst (λ (ls : List ServiceLine). AreServicesRead ls qs vs) same r)

pub as_many_services : (name : List ℕ) (qs : List Asked) (config : Config) (vs : List Service) → IsSetup name qs config vs → length vs ≡ length config.lines
as_many_services name qs config vs h = as_many config.lines h.1 vs h.6

-- ---- and the text that drives the machine

pub first_setup : (Tells : List ℕ → Config → BootError → Type 0) (config_name name : List ℕ) (qs : List Asked) (f : Failure)
    → IsSetupFault config_name qs f → IsFirstFault Tells config_name name qs f
first_setup Tells config_name name qs f h = inl h

pub first_no_text : (Tells : List ℕ → Config → BootError → Type 0) (config_name name : List ℕ) (qs : List Asked) (q : Asked) (config : Config) (vs : List Service) (f : Failure)
    → IsSetup config_name qs config vs → IsNoTextGiven about.Course name q f → IsFirstFault Tells config_name name (qs ++ q ∷ []) f
first_no_text Tells config_name name qs q config vs f s h = inr (qs, q, config, vs, refl, s, inl h)

pub first_faulty : (Tells : List ℕ → Config → BootError → Type 0) (config_name name text slice : List ℕ) (qs : List Asked) (q : Asked) (config : Config) (vs : List Service) (e : BootError) (f : Failure)
    → IsSetup config_name qs config vs → slice ≡ text → IsTextGiven name q text → Tells slice config e → IsMisstated e about.Course text f
    → IsFirstFault Tells config_name name (qs ++ q ∷ []) f
first_faulty Tells config_name name text slice qs q config vs e f s of t h m =
    inr (qs, q, config, vs, refl, s, inr (text, e, t, subst (λ (x : List ℕ). Tells x config e) of h, m))

pub not_booted : {L : Type 0} (Says : List ℕ → Config → Config → List L → Type 0) (Tells : List ℕ → Config → BootError → Type 0) (config_name name : List ℕ) (qs : List Asked) (config : Config) (vs : List Service) (said : List L) (f : Failure)
    → IsStart Says config_name name qs config vs said → f ≡ NoMemory → IsNotStarted Says Tells config_name name qs f
not_booted Says Tells config_name name qs config vs said f s lost = inr (config, vs, said, s, lost)

pub started : {L : Type 0} (Says : List ℕ → Config → Config → List L → Type 0) (config_name name text slice : List ℕ) (qs : List Asked) (q : Asked) (read config : Config) (vs : List Service) (said : List L)
    → IsSetup config_name qs read vs → slice ≡ text → IsTextGiven name q text → Says slice read config said
    → IsStart Says config_name name (qs ++ q ∷ []) config vs said
started Says config_name name text slice qs q read config vs said s of t h =
    (qs, q, text, read, refl, s, t, subst (λ (x : List ℕ). Says x read config said) of h)
