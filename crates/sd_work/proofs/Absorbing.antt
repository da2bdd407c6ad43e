-- Settling keeps what is finished, and settling later covers settling before, where the streams that were empty stay so.
use Rattle.std.proofs.Common.{◌≡◌, ℕ, zero, suc, List, [], ◌∷◌, ◌++◌, map, Bool, true, false, not, ◌&&◌, ◌||◌, slice_index_or, refl, sym, ◌∙◌, ap, subst, inl, inr}
use Rattle.std.specs.Bool.{⊤}
use Rattle.sd_work.specs.Memory.{Memory, Memories, waiting}
use Rattle.sd_work.specs.Residual.{Parts, Items, Points, Term, leaf, list, owning, nested, ended, pool, Terms, none, also, Actives, idle, busy, finished, all_finished, none_active, is_ready, ready_from}
use Rattle.sd_work.specs.Settle.{is_empty, all_true, is_first_left, settle, settle_parts, settle_active}
use Rattle.sd_work.specs.Touch.{takes, Touches, SomePartTouches, SomeActiveTouches}
use Rattle.sd_work.proofs.Flags.{both, both_true, or_left, and_up, or_up}

-- ---- what is finished stays so

mutual
  -- a finished term stays finished when it is settled
  pub stays : {P : Type 0} (go : Bool) (cl : List Bool) (s : Memories) (t : Term P) → finished t ≡ true → finished (settle go cl s t) ≡ true
  stays go cl s (leaf place work) h = h
  stays go cl s (list kind before parts) h = stay go cl s kind before [] 0 parts h
  stays go cl s (owning own part) h = stays go (true ∷ cl) (own ∷ s) part h
  stays go cl s (nested body exits own state values part) h = h
  stays go cl s (ended own) h = h
  stays go cl s (pool level container body active closed) h = or_left closed _ h

  -- and so do finished parts of a list
  pub stay : {P : Type 0} (go : Bool) (cl : List Bool) (s : Memories) (kind : Parts) (before : ℕ → ℕ → Bool) (fs : List Bool) (n : ℕ) (parts : Terms P) → all_finished parts ≡ true →
      all_finished (settle_parts go cl s kind before fs n parts) ≡ true
  stay go cl s kind before fs n none h = h
  stay go cl s kind before fs n (also part parts) h =
      let e = both (finished part) (all_finished parts) h in
      both_true _ _ (stays (go && is_ready before fs n) (map (λ flag. is_first_left kind fs && flag) cl) s part e.0)
      (stay go cl s kind before (fs ++ finished (settle (go && is_ready before fs n) (map (λ flag. is_first_left kind fs && flag) cl) s part) ∷ []) (suc n) parts e.1)

-- and finished active terms
pub stay_active : {P : Type 0} (go : Bool) (cl : List Bool) (s : Memories) (active : Actives P) → none_active active ≡ true → none_active (settle_active go cl s active) ≡ true
stay_active go cl s idle h = h
stay_active go cl s (busy value part active) h =
    let e = both (finished part) (none_active active) h in
    both_true _ _ (stays go cl s part e.0) (stay_active go cl s active e.1)

-- ---- flags that only rise

-- each flag of the first list stands in the second
abbrev pub Below : List Bool → List Bool → Type 0
Below [] [] = ⊤
Below [] (b ∷ vs) = ⊥
Below (a ∷ us) [] = ⊥
Below (a ∷ us) (b ∷ vs) = (a ≡ true → b ≡ true) × Below us vs

-- flags stand in themselves
pub below_same : (us : List Bool) → Below us us
below_same [] = tt
below_same (a ∷ us) = ((λ e. e), below_same us)

-- and so with one more flag
pub below_more : (us vs : List Bool) (a b : Bool) → Below us vs → (a ≡ true → b ≡ true) → Below (us ++ a ∷ []) (vs ++ b ∷ [])
below_more [] [] a b h g = (g, tt)
below_more [] (y ∷ vs) a b h g = elim h [ ]
below_more (x ∷ us) [] a b h g = elim h [ ]
below_more (x ∷ us) (y ∷ vs) a b h g = (h.0, below_more us vs a b h.1 g)

-- a part that may go on still may where more flags stand
pub ready_up : (before : ℕ → ℕ → Bool) (j : ℕ) (us vs : List Bool) (n : ℕ) → Below us vs → ready_from before j us n ≡ true → ready_from before j vs n ≡ true
ready_up before j [] [] n h e = refl
ready_up before j [] (b ∷ vs) n h e = elim h [ ]
ready_up before j (a ∷ us) [] n h e = elim h [ ]
ready_up before j (a ∷ us) (b ∷ vs) n h e =
    and_up (a || not (before j n)) (ready_from before (suc j) us n) (b || not (before j n)) (ready_from before (suc j) vs n) (or_up a b (not (before j n)) h.0) (ready_up before (suc j) us vs n h.1) e

all_up : (us vs : List Bool) → Below us vs → all_true us ≡ true → all_true vs ≡ true
all_up [] [] h e = refl
all_up [] (b ∷ vs) h e = elim h [ ]
all_up (a ∷ us) [] h e = elim h [ ]
all_up (a ∷ us) (b ∷ vs) h e = and_up a (all_true us) b (all_true vs) h.0 (all_up us vs h.1) e

first_up : (kind : Parts) (us vs : List Bool) → Below us vs → is_first_left kind us ≡ true → is_first_left kind vs ≡ true
first_up Items us vs h e = refl
first_up Points us vs h e = all_up us vs h e

map_up : (a b : Bool) (us vs : List Bool) → (a ≡ true → b ≡ true) → Below us vs → Below (map (λ flag. a && flag) us) (map (λ flag. b && flag) vs)
map_up a b [] [] g h = tt
map_up a b [] (y ∷ vs) g h = elim h [ ]
map_up a b (x ∷ us) [] g h = elim h [ ]
map_up a b (x ∷ us) (y ∷ vs) g h = (and_up a x b y g h.0, map_up a b us vs g h.1)

index_up : (us vs : List Bool) (l : ℕ) → Below us vs → slice_index_or us l false ≡ true → slice_index_or vs l false ≡ true
index_up [] [] l h e = e
index_up [] (b ∷ vs) l h e = elim h [ ]
index_up (a ∷ us) [] l h e = elim h [ ]
index_up (a ∷ us) (b ∷ vs) zero h e = h.0 e
index_up (a ∷ us) (b ∷ vs) (suc l) h e = index_up us vs l h.1 e

-- one flag of a list in which all were joined with another flag
pub flag_joined : (b : Bool) (cleared : List Bool) (l : ℕ) → slice_index_or (map (λ flag. b && flag) cleared) l false ≡ (b && slice_index_or cleared l false)
flag_joined true [] l = refl
flag_joined false [] l = refl
flag_joined b (c ∷ cleared) zero = refl
flag_joined b (c ∷ cleared) (suc l) = flag_joined b cleared l

-- a flag among others with which one more must stand
pub index_both : (a : Bool) (us : List Bool) (l : ℕ) → slice_index_or (map (λ flag. a && flag) us) l false ≡ true → (a ≡ true) × (slice_index_or us l false ≡ true)
index_both a us l e = both a (slice_index_or us l false) (sym (flag_joined a us l) ∙ e)

-- closed before or closed now
closed_up : (a x y : Bool) → (x ≡ true → y ≡ true) → ((a || x) || y) ≡ (a || y)
closed_up true x y h = refl
closed_up false true y h = sym (h refl)
closed_up false false y h = refl

over_up : (a b c d a' b' c' d' : Bool) → (a ≡ true → a' ≡ true) → (b ≡ true → b' ≡ true) → (a ≡ true → d ≡ true → c ≡ true → c' ≡ true) → (d ≡ true → d' ≡ true) →
    (a && (b && (c && d))) ≡ true → (a' && (b' && (c' && d'))) ≡ true
over_up a b c d a' b' c' d' f g h k e =
    let x = both a (b && (c && d)) e in
    let y = both b (c && d) x.1 in
    let z = both c d y.1 in
    both_true a' _ (f x.0) (both_true b' _ (g y.0) (both_true c' d' (h x.0 z.1 z.0) (k z.1)))

-- ---- settling after settling

-- each of these streams over which a pool may be closed stays empty
abbrev Keeps : (go : Bool) (cl : List Bool) (s s' : Memories) → (ℕ → ℕ → Type 0) → Type 0
Keeps go cl s s' T = (l c : ℕ) → T l c → go ≡ true → slice_index_or cl l false ≡ true → is_empty (waiting l c s) ≡ true → is_empty (waiting l c s') ≡ true

-- the same of each part, whatever the flags of those between are
abbrev pub KeepParts : {P : Type 0} (go : Bool) (cl : List Bool) (s s' : Memories) → Parts → (ℕ → ℕ → Bool) → (fs : List Bool) → ℕ → Terms P → Type 0
KeepParts go cl s s' kind before fs n none = ⊤
KeepParts go cl s s' kind before fs n (also part parts) =
    Keeps (go && is_ready before fs n) (map (λ flag. is_first_left kind fs && flag) cl) s s' (λ l c. Touches part (takes l c))
    × ((b : Bool) → KeepParts go cl s s' kind before (fs ++ b ∷ []) (suc n) parts)

keep_parts : {P : Type 0} (go : Bool) (cl : List Bool) (s s' : Memories) (kind : Parts) (before : ℕ → ℕ → Bool) (fs : List Bool) (n : ℕ) (parts : Terms P) →
    Keeps go cl s s' (λ l c. SomePartTouches parts (takes l c)) → KeepParts go cl s s' kind before fs n parts
keep_parts go cl s s' kind before fs n none h = tt
keep_parts go cl s s' kind before fs n (also part parts) h = (
  λ l c t e f g. h l c (inl t) (both go (is_ready before fs n) e).0 (index_both (is_first_left kind fs) cl l f).1 g,
  λ b. keep_parts go cl s s' kind before (fs ++ b ∷ []) (suc n) parts (λ l c t. h l c (inr t)),
)

-- inside an owner
keep_inside : (go : Bool) (cl : List Bool) (s s' : Memories) (own : Memory) (T : ℕ → ℕ → Type 0) → Keeps go cl s s' (λ l c. T (suc l) c) → Keeps go (true ∷ cl) (own ∷ s) (own ∷ s') T
keep_inside go cl s s' own T h zero c t e f g = g
keep_inside go cl s s' own T h (suc l) c t e f g = h l c t e f g

mutual
  -- a term that was settled before is settled as if it had not been
  pub absorb : {P : Type 0} (go go' : Bool) → (go ≡ true → go' ≡ true) → (cl cl' : List Bool) → Below cl cl' → (s s' : Memories) (t : Term P) →
      Keeps go cl s s' (λ l c. Touches t (takes l c)) → settle go' cl' s' (settle go cl s t) ≡ settle go' cl' s' t
  absorb go go' g cl cl' b s s' (leaf place work) k = refl
  absorb go go' g cl cl' b s s' (list kind before parts) k =
      ap (list kind before) (absorb_parts go go' g cl cl' b s s' kind before [] [] tt 0 parts (keep_parts go cl s s' kind before [] 0 parts k))
  absorb go go' g cl cl' b s s' (owning own part) k =
      ap (owning own) (absorb go go' g (true ∷ cl) (true ∷ cl') ((λ e. e), b) (own ∷ s) (own ∷ s') part (keep_inside go cl s s' own (λ l c. Touches part (takes l c)) k))
  absorb go go' g cl cl' b s s' (nested body exits own state values part) k =
      ap (nested body exits own state values)
      (absorb go go' g (true ∷ cl) (true ∷ cl') ((λ e. e), b) (own ∷ s) (own ∷ s') part (keep_inside go cl s s' own (λ l c. Touches part (takes l c)) (λ l c t. k l c (inl t))))
  absorb go go' g cl cl' b s s' (ended own) k = refl
  absorb {P} go go' g cl cl' b s s' (pool level container body active closed) k =
      let inside : Actives P = settle_active go cl s active in
      let over : Bool = go && (none_active inside && (is_empty (waiting level container s) && slice_index_or cl level false)) in
      let over' : Actives P → Bool = λ a. go' && (none_active a && (is_empty (waiting level container s') && slice_index_or cl' level false)) in
      let e : settle_active go' cl' s' inside ≡ settle_active go' cl' s' active = absorb_active go go' g cl cl' b s s' active (λ l c t. k l c (inr (inl t))) in
      ap (λ a. pool level container body a ((closed || over) || over' a)) e
      ∙ ap (pool level container body (settle_active go' cl' s' active))
      (closed_up closed over (over' (settle_active go' cl' s' active))
      (over_up go (none_active inside) (is_empty (waiting level container s)) (slice_index_or cl level false)
      go' (none_active (settle_active go' cl' s' active)) (is_empty (waiting level container s')) (slice_index_or cl' level false)
      g (λ h. subst (λ a. none_active a ≡ true) e (stay_active go' cl' s' inside h)) (k level container (inl refl)) (index_up cl cl' level b)))

  -- the same of the parts of a list
  pub absorb_parts : {P : Type 0} (go go' : Bool) → (go ≡ true → go' ≡ true) → (cl cl' : List Bool) → Below cl cl' → (s s' : Memories) (kind : Parts) (before : ℕ → ℕ → Bool) (fs fs' : List Bool) → Below fs fs' → (n : ℕ) (parts : Terms P) →
      KeepParts go cl s s' kind before fs n parts →
      settle_parts go' cl' s' kind before fs' n (settle_parts go cl s kind before fs n parts) ≡ settle_parts go' cl' s' kind before fs' n parts
  absorb_parts go go' g cl cl' b s s' kind before fs fs' bf n none k = refl
  absorb_parts {P} go go' g cl cl' b s s' kind before fs fs' bf n (also part parts) k =
      let left : Term P = settle (go && is_ready before fs n) (map (λ flag. is_first_left kind fs && flag) cl) s part in
      let left' : Term P = settle (go' && is_ready before fs' n) (map (λ flag. is_first_left kind fs' && flag) cl') s' part in
      let twice : Term P = settle (go' && is_ready before fs' n) (map (λ flag. is_first_left kind fs' && flag) cl') s' left in
      let e : twice ≡ left' =
      absorb (go && is_ready before fs n) (go' && is_ready before fs' n) (and_up go (is_ready before fs n) go' (is_ready before fs' n) g (ready_up before 0 fs fs' n bf))
      (map (λ flag. is_first_left kind fs && flag) cl) (map (λ flag. is_first_left kind fs' && flag) cl') (map_up (is_first_left kind fs) (is_first_left kind fs') cl cl' (first_up kind fs fs' bf) b)
      s s' part k.0 in
      let inner : Terms P = settle_parts go cl s kind before (fs ++ finished left ∷ []) (suc n) parts in
      ap (λ x. also x (settle_parts go' cl' s' kind before (fs' ++ finished x ∷ []) (suc n) inner)) e
      ∙ ap (also left')
      (absorb_parts go go' g cl cl' b s s' kind before (fs ++ finished left ∷ []) (fs' ++ finished left' ∷ [])
      (below_more fs fs' (finished left) (finished left') bf (λ h. subst (λ x. finished x ≡ true) e (stays (go' && is_ready before fs' n) (map (λ flag. is_first_left kind fs' && flag) cl') s' left h)))
      (suc n) parts (k.1 (finished left)))

  -- the same of active terms
  absorb_active : {P : Type 0} (go go' : Bool) → (go ≡ true → go' ≡ true) → (cl cl' : List Bool) → Below cl cl' → (s s' : Memories) (active : Actives P) →
      Keeps go cl s s' (λ l c. SomeActiveTouches active (takes l c)) → settle_active go' cl' s' (settle_active go cl s active) ≡ settle_active go' cl' s' active
  absorb_active go go' g cl cl' b s s' idle k = refl
  absorb_active go go' g cl cl' b s s' (busy value part active) k =
      λ i. busy value (absorb go go' g cl cl' b s s' part (λ l c t. k l c (inl t)) i) (absorb_active go go' g cl cl' b s s' active (λ l c t. k l c (inr t)) i)
