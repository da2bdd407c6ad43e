-- Moves that take nothing, push nothing and evaluate nothing come to an end, whatever stands in memory.
use Rattle.std.proofs.Common.{◌≡◌, ℕ, zero, suc, ◌+◌, ◌<◌, ◌≤◌, ℤ, List, [], ◌∷◌, ◌++◌, map, length, Some, Ok, Bool, true, false, ◌&&◌, arith, refl, ap, subst, inl, inr, ◌⊎◌}
use Rattle.sd_work.specs.Memory.{Memory, Memories}
use Rattle.sd_work.specs.Leaf.{Leaf, reading, doing}
use Rattle.sd_work.specs.Exit.{Values, Exit, first_exit}
use Rattle.sd_work.specs.Residual.{Parts, Term, leaf, list, owning, nested, ended, pool, Terms, none, also, Actives, idle, busy, finished, is_ready}
use Rattle.sd_work.specs.Settle.{is_first_left, settle, settle_parts, settle_active}
use Rattle.sd_work.specs.WellFormed.{HasRanks, PaysCycles, PayCycles, PayActiveCycles}
use Rattle.sd_work.proofs.ending.Halting.{higher}

-- no pool is closed
abbrev mutual
  pub opened : {P : Type 0} → Term P → Term P
  opened (leaf place work) = leaf place work
  opened (list kind before parts) = list kind before (opened_parts parts)
  opened (owning own part) = owning own (opened part)
  opened (nested body exits own state values part) = nested body exits own state values (opened part)
  opened (ended own) = ended own
  opened (pool level container body active closed) = pool level container body (opened_active active) false

  pub opened_parts : {P : Type 0} → Terms P → Terms P
  opened_parts none = none
  opened_parts (also part parts) = also (opened part) (opened_parts parts)

  pub opened_active : {P : Type 0} → Actives P → Actives P
  opened_active idle = idle
  opened_active (busy value part active) = busy value (opened part) (opened_active active)

mutual
  -- settling only closes pools
  pub opened-settle : {P : Type 0} (go : Bool) (cleared : List Bool) (s : Memories) (t : Term P) → opened (settle go cleared s t) ≡ opened t
  opened-settle go cleared s (leaf place work) = refl
  opened-settle go cleared s (list kind before parts) = ap (list kind before) (opened-settle_parts go cleared s kind before [] 0 parts)
  opened-settle go cleared s (owning own part) = ap (owning own) (opened-settle go (true ∷ cleared) (own ∷ s) part)
  opened-settle go cleared s (nested body exits own state values part) = ap (nested body exits own state values) (opened-settle go (true ∷ cleared) (own ∷ s) part)
  opened-settle go cleared s (ended own) = refl
  opened-settle go cleared s (pool level container body active closed) = ap (λ left. pool level container body left false) (opened-settle_active go cleared s active)

  opened-settle_parts : {P : Type 0} (go : Bool) (cleared : List Bool) (s : Memories) (kind : Parts) (before : ℕ → ℕ → Bool) (flags : List Bool) (k : ℕ) (ts : Terms P) →
      opened_parts (settle_parts go cleared s kind before flags k ts) ≡ opened_parts ts
  opened-settle_parts go cleared s kind before flags k none = refl
  opened-settle_parts {P} go cleared s kind before flags k (also t ts) =
      let left : Term P = settle (go && is_ready before flags k) (map (λ flag. is_first_left kind flags && flag) cleared) s t in
      λ i. also (opened-settle (go && is_ready before flags k) (map (λ flag. is_first_left kind flags && flag) cleared) s t i)
      (opened-settle_parts go cleared s kind before (flags ++ finished left ∷ []) (suc k) ts i)

  opened-settle_active : {P : Type 0} (go : Bool) (cleared : List Bool) (s : Memories) (ts : Actives P) → opened_active (settle_active go cleared s ts) ≡ opened_active ts
  opened-settle_active go cleared s idle = refl
  opened-settle_active go cleared s (busy v t ts) = λ i. busy v (opened-settle go cleared s t i) (opened-settle_active go cleared s ts i)

-- how many things are left to read or to do
abbrev pub size : Leaf → ℕ
size (reading begun left values evaluation) = length left
size (doing left) = length left

-- the transition by this exit wants no turn, whatever stands in memory
abbrev pub IsWay : {P : Type 0} → List (Exit P) → Exit P → Type 0
IsWay exits exit = (s : Memories) × (first_exit exits s ≡ Ok (Some exit)) × (exit.marked ≡ false)

-- what a calm move leaves, with all pools open. A state may be left at any time
abbrev mutual
  pub Calm : {P : Type 0} → Term P → Term P → Type 0
  Calm (leaf place work) y = (w : Leaf) × (size w < size work) × (leaf place w ≡ y)
  Calm {P} (list kind before parts) y = (xs : Terms P) × CalmParts parts xs × (list kind before xs ≡ y)
  Calm {P} (owning own part) y = (m : Memory) × (x : Term P) × Calm part x × (owning m x ≡ y)
  Calm {P} (nested body exits own state values part) y =
      ((m : Memory) × (x : Term P) × Calm part x × (nested body exits m state values x ≡ y))
      ⊎ (((m : Memory) × (ended m ≡ y))
      ⊎ ((m : Memory) × (e : Exit P) × IsWay (exits state values) e × (nested body exits m e.state e.values (opened (body e.state e.values)) ≡ y)))
  Calm (ended own) y = ⊥
  Calm {P} (pool level container body active closed) y = (xs : Actives P) × CalmActives active xs × (pool level container body xs closed ≡ y)

  pub CalmParts : {P : Type 0} → Terms P → Terms P → Type 0
  CalmParts none ys = ⊥
  CalmParts {P} (also part parts) ys =
      ((x : Term P) × Calm part x × (also x parts ≡ ys)) ⊎ ((xs : Terms P) × CalmParts parts xs × (also part xs ≡ ys))

  pub CalmActives : {P : Type 0} → Actives P → Actives P → Type 0
  CalmActives idle ys = ⊥
  CalmActives {P} (busy value part active) ys =
      ((x : Term P) × Calm part x × (busy value x active ≡ ys)) ⊎ ((xs : Actives P) × CalmActives active xs × (busy value part xs ≡ ys))

-- calm moves come to an end
pub data Quiet {P : Type 0} : Term P → Type 0 where
  quiet : {t : Term P} → ((y : Term P) → Calm t y → Quiet y) → Quiet t

data QuietParts {P : Type 0} : Terms P → Type 0 where
  quiets : {ts : Terms P} → ((ys : Terms P) → CalmParts ts ys → QuietParts ys) → QuietParts ts

data QuietActives {P : Type 0} : Actives P → Type 0 where
  quiet_actives : {ts : Actives P} → ((ys : Actives P) → CalmActives ts ys → QuietActives ys) → QuietActives ts

quiet_leaf : {P : Type 0} (place : P) (n : ℕ) (work : Leaf) → size work < n → Quiet (leaf place work)
quiet_leaf place zero work h = absurd (omega (arith, h))
quiet_leaf place (suc n) work h = quiet (λ y c. subst Quiet c.2 (quiet_leaf place n c.0 (omega (arith, h, c.1))))

quiet_owning : {P : Type 0} (t : Term P) → Quiet t → (own : Memory) → Quiet (owning own t)
quiet_owning {P} t (quiet h) own = quiet (go (λ x c m. quiet_owning x (h x c) m))
  where
    go : ((x : Term P) → Calm t x → (m : Memory) → Quiet (owning m x)) → (y : Term P) → Calm (owning own t) y → Quiet y
    go more y c = subst Quiet c.3 (more c.1 c.2 c.0)

quiet_list : {P : Type 0} (kind : Parts) (before : ℕ → ℕ → Bool) (ts : Terms P) → QuietParts ts → Quiet (list kind before ts)
quiet_list {P} kind before ts (quiets h) = quiet (go (λ xs c. quiet_list kind before xs (h xs c)))
  where
    go : ((xs : Terms P) → CalmParts ts xs → Quiet (list kind before xs)) → (y : Term P) → Calm (list kind before ts) y → Quiet y
    go more y c = subst Quiet c.2 (more c.0 c.1)

quiet_pool : {P : Type 0} (level container : ℕ) (body : ℤ → Term P) (ts : Actives P) → QuietActives ts → (closed : Bool) → Quiet (pool level container body ts closed)
quiet_pool {P} level container body ts (quiet_actives h) closed = quiet (go (λ xs c. quiet_pool level container body xs (h xs c) closed))
  where
    go : ((xs : Actives P) → CalmActives ts xs → Quiet (pool level container body xs closed)) → (y : Term P) → Calm (pool level container body ts closed) y → Quiet y
    go more y c = subst Quiet c.2 (more c.0 c.1)

-- a part beside quiet parts
beside_quiet : {P : Type 0} (t : Term P) → ((x : Term P) → Calm t x → (us : Terms P) → QuietParts us → QuietParts (also x us)) → (ts : Terms P) → QuietParts ts → QuietParts (also t ts)
beside_quiet {P} t h ts (quiets g) = quiets (go (λ x c. h x c ts (quiets g)) (λ xs c. beside_quiet t h xs (g xs c)))
  where
    go : ((x : Term P) → Calm t x → QuietParts (also x ts)) → ((xs : Terms P) → CalmParts ts xs → QuietParts (also t xs)) → (ys : Terms P) → CalmParts (also t ts) ys → QuietParts ys
    go a b ys (inl c) = subst QuietParts c.2 (a c.0 c.1)
    go a b ys (inr c) = subst QuietParts c.2 (b c.0 c.1)

quiet_also : {P : Type 0} (t : Term P) → Quiet t → (ts : Terms P) → QuietParts ts → QuietParts (also t ts)
quiet_also t (quiet h) ts q = beside_quiet t (λ x c us r. quiet_also x (h x c) us r) ts q

-- an active term beside quiet ones
active_quiet : {P : Type 0} (v : ℤ) (t : Term P) → ((x : Term P) → Calm t x → (us : Actives P) → QuietActives us → QuietActives (busy v x us)) → (ts : Actives P) → QuietActives ts → QuietActives (busy v t ts)
active_quiet {P} v t h ts (quiet_actives g) = quiet_actives (go (λ x c. h x c ts (quiet_actives g)) (λ xs c. active_quiet v t h xs (g xs c)))
  where
    go : ((x : Term P) → Calm t x → QuietActives (busy v x ts)) → ((xs : Actives P) → CalmActives ts xs → QuietActives (busy v t xs)) → (ys : Actives P) → CalmActives (busy v t ts) ys → QuietActives ys
    go a b ys (inl c) = subst QuietActives c.2 (a c.0 c.1)
    go a b ys (inr c) = subst QuietActives c.2 (b c.0 c.1)

quiet_busy : {P : Type 0} (v : ℤ) (t : Term P) → Quiet t → (ts : Actives P) → QuietActives ts → QuietActives (busy v t ts)
quiet_busy v t (quiet h) ts q = active_quiet v t (λ x c us r. quiet_busy v x (h x c) us r) ts q

-- a run of a graph whose states are quiet
module _ {P : Type 0} (body : ℕ → Values → Term P) (exits : ℕ → Values → List (Exit P)) (quiet_body : (k : ℕ) (w : Values) → Quiet (opened (body k w))) (ranks : HasRanks exits) where
  -- with the states of higher ranks quiet, a part that is quiet stays so to the end of its state
  quiet_part : (state : ℕ) (values : Values) →
      ((k : ℕ) → ranks.rank state < ranks.rank k → ranks.rank k < ranks.bound → (own : Memory) (w : Values) → Quiet (nested body exits own k w (opened (body k w)))) →
      (t : Term P) → Quiet t → (own : Memory) → Quiet (nested body exits own state values t)
  quiet_part state values later t (quiet h) own = quiet (go (λ x c m. quiet_part state values later x (h x c) m))
    where
      go : ((x : Term P) → Calm t x → (m : Memory) → Quiet (nested body exits m state values x)) → (y : Term P) → Calm (nested body exits own state values t) y → Quiet y
      go more y (inl c) = subst Quiet c.3 (more c.1 c.2 c.0)
      go more y (inr (inl c)) = subst Quiet c.1 (quiet (λ z d. elim d [ ]))
      go more y (inr (inr c)) =
          let up = higher ranks.rank ranks.bound state (exits state values) c.2.0 c.1 (ranks.rises state values) c.2.1 c.2.2 in
          subst Quiet c.3 (later c.1.state up.0 up.1 c.0 c.1.values)

  -- d is what the rank lacks to the bound at most
  quiet_states : (d k : ℕ) → ranks.bound ≤ ranks.rank k + d → (own : Memory) (w : Values) → Quiet (nested body exits own k w (opened (body k w)))
  quiet_states zero k h own w = quiet_part k w (λ j a b own' w'. absurd (omega arith)) (opened (body k w)) (quiet_body k w) own
  quiet_states (suc d) k h own w = quiet_part k w (λ j a b own' w'. quiet_states d j (omega arith) own' w') (opened (body k w)) (quiet_body k w) own

  quiet_nested : (state : ℕ) (values : Values) (t : Term P) → Quiet t → (own : Memory) → Quiet (nested body exits own state values t)
  quiet_nested state values t q own = quiet_part state values (λ j a b own' w'. quiet_states ranks.bound j (omega arith) own' w') t q own

mutual
  -- each term is quiet where each cycle of transitions spends a turn
  pub all_quiet : {P : Type 0} (t : Term P) → PaysCycles t → Quiet (opened t)
  all_quiet (leaf place work) h = quiet_leaf place (suc (size work)) work (omega arith)
  all_quiet (list kind before parts) h = quiet_list kind before (opened_parts parts) (all_quiet_parts parts h)
  all_quiet (owning own part) h = quiet_owning (opened part) (all_quiet part h) own
  all_quiet (nested body exits own state values part) h = quiet_nested body exits (λ k e. all_quiet (body k e) (h.1 k e)) h.2 state values (opened part) (all_quiet part h.0) own
  all_quiet (ended own) h = quiet (λ y c. elim c [ ])
  all_quiet (pool level container body active closed) h = quiet_pool level container body (opened_active active) (all_quiet_actives active h.0) false

  all_quiet_parts : {P : Type 0} (ts : Terms P) → PayCycles ts → QuietParts (opened_parts ts)
  all_quiet_parts none h = quiets (λ ys c. elim c [ ])
  all_quiet_parts (also t ts) h = quiet_also (opened t) (all_quiet t h.0) (opened_parts ts) (all_quiet_parts ts h.1)

  all_quiet_actives : {P : Type 0} (ts : Actives P) → PayActiveCycles ts → QuietActives (opened_active ts)
  all_quiet_actives idle h = quiet_actives (λ ys c. elim c [ ])
  all_quiet_actives (busy v t ts) h = quiet_busy v (opened t) (all_quiet t h.0) (opened_active ts) (all_quiet_actives ts h.1)
