-- What a whole term has of begun instances that still read, of values left to push and of values that wait.
use Rattle.std.proofs.Common.{◌≡◌, ℕ, zero, suc, ◌+◌, ◌<◌, ℤ, List, [], ◌∷◌, ◌++◌, length, map, Option, Some, Bool, true, false, ◌&&◌, ap, arith, slice_index_or, slice_get, refl}
use Rattle.sd_num.specs.declared.resolution.Resolution.{Resolution}
use Rattle.sd_num.specs.declared.width.Width.{Width}
use Rattle.sd_num.specs.declared.width.Width.TheVariants.{W64}
use Rattle.sd_work.specs.Memory.{Contents, array, stream, Memory, Memories, Reference, values_of, contents_of, waiting}
use Rattle.sd_work.specs.Change.{write, take, written, changed_at, without, with_elements, with_values, apply}
use Rattle.sd_work.specs.Leaf.{Pending, write_value, transfer, push_to, Leaf, reading, doing}
use Rattle.sd_work.specs.Residual.{Parts, Term, leaf, list, owning, nested, ended, pool, Terms, none, also, Actives, idle, busy, finished, is_ready}
use Rattle.sd_work.specs.Fire.{and_last}
use Rattle.sd_work.specs.Settle.{is_first_left, settle, settle_parts, settle_active}
use Rattle.sd_work.specs.New.{PushesNothing, IsNewLeaf, HasEmptyStreams, IsNew, AreNew}

-- the weights of a list's members together
abbrev pub added : {A : Type 0} → (A → ℕ) → List A → ℕ
added w [] = 0
added w (x ∷ xs) = w x + added w xs

-- the weights of all leaves and of all memories of a term together
abbrev mutual
  pub total : {P : Type 0} → (Leaf → ℕ) → (Memory → ℕ) → Term P → ℕ
  total f g (leaf place work) = f work
  total f g (list kind before parts) = total_parts f g parts
  total f g (owning own part) = g own + total f g part
  total f g (nested body exits own state values part) = g own + total f g part
  total f g (ended own) = g own
  total f g (pool level container body active closed) = total_active f g active

  pub total_parts : {P : Type 0} → (Leaf → ℕ) → (Memory → ℕ) → Terms P → ℕ
  total_parts f g none = 0
  total_parts f g (also part parts) = total f g part + total_parts f g parts

  pub total_active : {P : Type 0} → (Leaf → ℕ) → (Memory → ℕ) → Actives P → ℕ
  total_active f g idle = 0
  total_active f g (busy value part active) = total f g part + total_active f g active

-- a begun instance that still reads
abbrev pub reads : Leaf → ℕ
reads (reading true left values evaluation) = 1
reads (reading false left values evaluation) = 0
reads (doing left) = 0

-- the values to push among things left to do
abbrev pub pushes_of : List Pending → ℕ
pushes_of [] = 0
pushes_of (write_value value to by ∷ left) = pushes_of left
pushes_of (transfer from to by ∷ left) = pushes_of left
pushes_of (push_to level container value ∷ left) = suc (pushes_of left)

abbrev pub pushes : Leaf → ℕ
pushes (reading begun left values evaluation) = 0
pushes (doing left) = pushes_of left

abbrev pub values_in : Contents → ℕ
values_in c = length (values_of c)

-- the values that wait in a memory
abbrev pub held : Memory → ℕ
held m = added values_in m

-- the values that wait in the memories of a stack
abbrev pub stacked : Memories → ℕ
stacked s = added held s

abbrev pub nothing_of : {A : Type 0} → A → ℕ
nothing_of x = 0

-- what a term has of begun instances that still read, of values left to push and of values that wait
abbrev pub reads_in : {P : Type 0} → Term P → ℕ
reads_in t = total reads nothing_of t

abbrev pub pushes_in : {P : Type 0} → Term P → ℕ
pushes_in t = total pushes nothing_of t

abbrev pub waiting_in : {P : Type 0} → Term P → ℕ
waiting_in t = total nothing_of held t

-- ---- memories

added-changed_at : {A : Type 0} (w : A → ℕ) (f : A → A) → ((x : A) → w (f x) ≡ w x) → (i : ℕ) (xs : List A) → added w (changed_at i f xs) ≡ added w xs
added-changed_at w f h i [] = refl
added-changed_at w f h zero (x ∷ xs) = ap (λ n. n + added w xs) (h x)
added-changed_at w f h (suc i) (x ∷ xs) = ap (λ n. w x + n) (added-changed_at w f h i xs)

less_at : {A : Type 0} (w : A → ℕ) (f : A → A) (d : A) → w d ≡ 0 → (i : ℕ) (xs : List A) → w (f (slice_index_or xs i d)) < w (slice_index_or xs i d) → added w (changed_at i f xs) < added w xs
less_at w f d z i [] h = absurd (omega (arith, z, h))
less_at w f d z zero (x ∷ xs) h = omega (arith, h)
less_at w f d z (suc i) (x ∷ xs) h = let r : added w (changed_at i f xs) < added w xs = less_at w f d z i xs h in omega (arith, r)

without_less : (k : ℕ) (vs : List ℤ) (v : ℤ) → slice_get vs k ≡ Some v → length (without k vs) < length vs
without_less k [] v h = cc
without_less zero (x ∷ vs) v h = omega arith
without_less (suc k) (x ∷ vs) v h = let r : length (without k vs) < length vs = without_less k vs v h in omega (arith, r)

taken_less : (k : ℕ) (c : Contents) (v : ℤ) → slice_get (values_of c) k ≡ Some v → values_in (with_values (λ width. without k) c) < values_in c
taken_less k (array width elements) v h = cc
taken_less k (stream width values) v h = without_less k values v h

elements_hold : (f : Width → List ℤ → List ℤ) (c : Contents) → values_in (with_elements f c) ≡ values_in c
elements_hold f (array width elements) = refl
elements_hold f (stream width values) = refl

-- a write leaves the number of values that wait
pub stacked-write : (to : Reference) (by : Option Resolution) (v : ℤ) (s : Memories) → stacked (apply (write to by v) s) ≡ stacked s
stacked-write to by v s =
    added-changed_at held _ (λ m. added-changed_at values_in _ (λ c. elements_hold (λ width. changed_at to.element (written width by v)) c) to.container m) to.level s

-- taking a value that waits leaves fewer
pub stacked-take : (l c k : ℕ) (s : Memories) (v : ℤ) → slice_get (waiting l c s) k ≡ Some v → stacked (apply (take l c k) s) < stacked s
stacked-take l c k s v h =
    less_at held (changed_at c (with_values (λ width. without k))) [] refl l s
    (less_at values_in (with_values (λ width. without k)) (stream W64 []) refl c (slice_index_or s l []) (taken_less k (contents_of l c s) v h))

-- ---- new terms

reads-new : (work : Leaf) → IsNewLeaf work → reads work ≡ 0
reads-new (reading true left values evaluation) h = cc
reads-new (reading false left values evaluation) h = refl
reads-new (doing left) h = refl

pushes_of-new : (left : List Pending) → PushesNothing left → pushes_of left ≡ 0
pushes_of-new [] h = refl
pushes_of-new (write_value value to by ∷ left) h = pushes_of-new left h
pushes_of-new (transfer from to by ∷ left) h = pushes_of-new left h
pushes_of-new (push_to level container value ∷ left) h = elim h [ ]

pushes-new : (work : Leaf) → IsNewLeaf work → pushes work ≡ 0
pushes-new (reading begun left values evaluation) h = refl
pushes-new (doing left) h = pushes_of-new left h

held-new : (m : Memory) → HasEmptyStreams m → held m ≡ 0
held-new [] h = refl
held-new (c ∷ m) h = let a : length (values_of c) ≡ 0 = ap length h.0 in let b : held m ≡ 0 = held-new m h.1 in omega (arith, a, b)

mutual
  -- a new term weighs nothing, where new leaves and memories with empty streams weigh nothing
  total-new : {P : Type 0} (f : Leaf → ℕ) (g : Memory → ℕ) → ((w : Leaf) → IsNewLeaf w → f w ≡ 0) → ((m : Memory) → HasEmptyStreams m → g m ≡ 0) → (t : Term P) → IsNew t → total f g t ≡ 0
  total-new f g a b (leaf place work) h = a work h
  total-new f g a b (list kind before parts) h = total_parts-new f g a b parts h
  total-new f g a b (owning own part) h = let x : g own ≡ 0 = b own h.0 in let y : total f g part ≡ 0 = total-new f g a b part h.1 in omega (arith, x, y)
  total-new f g a b (nested body exits own state values part) h = let x : g own ≡ 0 = b own h.0 in let y : total f g part ≡ 0 = total-new f g a b part h.1 in omega (arith, x, y)
  total-new f g a b (ended own) h = b own h
  total-new f g a b (pool level container body active closed) h = ap (total_active f g) h.0

  total_parts-new : {P : Type 0} (f : Leaf → ℕ) (g : Memory → ℕ) → ((w : Leaf) → IsNewLeaf w → f w ≡ 0) → ((m : Memory) → HasEmptyStreams m → g m ≡ 0) → (ts : Terms P) → AreNew ts → total_parts f g ts ≡ 0
  total_parts-new f g a b none h = refl
  total_parts-new f g a b (also t ts) h =
      let x : total f g t ≡ 0 = total-new f g a b t h.0 in
      let y : total_parts f g ts ≡ 0 = total_parts-new f g a b ts h.1 in
      omega (arith, x, y)

-- a new term has none of the three
pub weightless : {P : Type 0} (t : Term P) → IsNew t → (reads_in t ≡ 0) × (pushes_in t ≡ 0) × (waiting_in t ≡ 0)
weightless t h = (total-new reads nothing_of reads-new (λ m n. refl) t h, total-new pushes nothing_of pushes-new (λ m n. refl) t h, total-new nothing_of held (λ m n. refl) held-new t h)

-- one more active term
pub total-and_last : {P : Type 0} (f : Leaf → ℕ) (g : Memory → ℕ) (active : Actives P) (v : ℤ) (t : Term P) → total_active f g (and_last active v t) ≡ total_active f g active + total f g t
total-and_last f g idle v t = omega arith
total-and_last f g (busy value part active) v t =
    let r : total_active f g (and_last active v t) ≡ total_active f g active + total f g t = total-and_last f g active v t in
    omega (arith, r)

-- ---- settling

mutual
  -- settling changes no weight
  pub total-settle : {P : Type 0} (f : Leaf → ℕ) (g : Memory → ℕ) (go : Bool) (cleared : List Bool) (s : Memories) (t : Term P) → total f g (settle go cleared s t) ≡ total f g t
  total-settle f g go cleared s (leaf place work) = refl
  total-settle f g go cleared s (list kind before parts) = total-settle_parts f g go cleared s kind before [] 0 parts
  total-settle f g go cleared s (owning own part) = ap (λ n. g own + n) (total-settle f g go (true ∷ cleared) (own ∷ s) part)
  total-settle f g go cleared s (nested body exits own state values part) = ap (λ n. g own + n) (total-settle f g go (true ∷ cleared) (own ∷ s) part)
  total-settle f g go cleared s (ended own) = refl
  total-settle f g go cleared s (pool level container body active closed) = total-settle_active f g go cleared s active

  total-settle_parts : {P : Type 0} (f : Leaf → ℕ) (g : Memory → ℕ) (go : Bool) (cleared : List Bool) (s : Memories) (kind : Parts) (before : ℕ → ℕ → Bool) (flags : List Bool) (k : ℕ) (ts : Terms P) →
      total_parts f g (settle_parts go cleared s kind before flags k ts) ≡ total_parts f g ts
  total-settle_parts f g go cleared s kind before flags k none = refl
  total-settle_parts {P} f g go cleared s kind before flags k (also t ts) =
      let left : Term P = settle (go && is_ready before flags k) (map (λ flag. is_first_left kind flags && flag) cleared) s t in
      λ i. total-settle f g (go && is_ready before flags k) (map (λ flag. is_first_left kind flags && flag) cleared) s t i
      + total-settle_parts f g go cleared s kind before (flags ++ finished left ∷ []) (suc k) ts i

  total-settle_active : {P : Type 0} (f : Leaf → ℕ) (g : Memory → ℕ) (go : Bool) (cleared : List Bool) (s : Memories) (ts : Actives P) → total_active f g (settle_active go cleared s ts) ≡ total_active f g ts
  total-settle_active f g go cleared s idle = refl
  total-settle_active f g go cleared s (busy v t ts) = λ i. total-settle f g go cleared s t i + total-settle_active f g go cleared s ts i
