-- The elements of a window, one after another.
use Rattle.std.proofs.Common.{◌≡◌, ℕ, zero, suc, ◌+◌, ◌<◌, ◌≤◌, ℤ, List, [], ◌∷◌, ◌++◌, map, take, drop, length, slice_index_or, Option, Some, None, option_map, ◌⊎◌, inl, inr, refl, sym, ◌∙◌, ap, subst, arith}
use Rattle.std.proofs.Common.{take_all}
use Rattle.std.proofs.lemmas.List.{map-append, length-map}
use Rattle.std.proofs.lemmas.List.Elements.{All-push}
use Rattle.std.specs.List.{All}
use Rattle.sd_range.specs.Points.{product}
use Rattle.sd_range.specs.Subset.{elements, whole}
use Rattle.sd_range.proofs.SubsetLaws.{whole-count}
use Rattle.sd_windows.specs.Windows.{moved}
use Rattle.sd_cut.specs.declared.elements.CutElement.{CutElement}
use Rattle.sd_cut.specs.Cells.{subset_within}
use Rattle.sd_cut.specs.Elements.{told, told_at, IsEven, AreOfWindow}
use Rattle.sd_cut.proofs.WindowOrder.{within-moved}
use Rattle.sd_windows.specs.Windows as windows
use Rattle.sd_cut.specs.declared.window.Window.{Window}
use Rattle.sd_cut.specs.declared.refusal.CutError.{CutError}
use Rattle.sd_cut.specs.declared.refusal.CutError.TheVariants.{Outside, Memory}
use Rattle.sd_cut.specs.Windowed.{window_of, window_at}
use Rattle.sd_cut.specs.Cutting.{IsWithin, IsRefusalOf, IsRefusal, IsCounted}
use Rattle.sd_mem.specs.mem.Shaped.{Shaped}
use Rattle.sd_pieces.proofs.cut_lemmas.NamedMemories.{same_or_two}
use Rattle.std.proofs.lemmas.List.{get_or_default}

-- where a list goes on at a number
seam : {A : Type 0} (all : List A) (n : ℕ) (x : A) (rest : List A) → drop n all ≡ x ∷ rest → (take (suc n) all ≡ take n all ++ x ∷ []) × (drop (suc n) all ≡ rest)
seam [] zero x rest h = cc
seam [] (suc n) x rest h = cc
seam {A} (a ∷ all) zero x rest h = (ap (λ l. first x l ∷ []) h, ap others h)
  where
    first : A → List A → A
    first d [] = d
    first d (b ∷ l) = b

    others : List A → List A
    others [] = []
    others (b ∷ l) = l
seam (a ∷ all) (suc n) x rest h = let s = seam all n x rest h in (ap (λ l. a ∷ l) s.0, s.1)

more-of : {A : Type 0} (xs next : List A) (x : A) → next ≡ xs ++ x ∷ [] → suc (length xs) ≡ length next
more-of xs next x is = count xs x ∙ sym (ap length is)
  where
    count : {A : Type 0} (xs : List A) (x : A) → suc (length xs) ≡ length (xs ++ x ∷ [])
    count [] x = refl
    count (y ∷ xs) x = ap suc (count xs x)

pub told_next : (f : List ℤ → Option ℕ × ℤ) (all left rest : List (List ℤ)) (index : List ℤ) (cuts next : List CutElement) (cut : CutElement) → left ≡ drop (length cuts) all → left ≡ index ∷ rest → next ≡ cuts ++ cut ∷ [] →
    map told cuts ≡ map f (take (length cuts) all) → told cut ≡ f index → map told next ≡ map f (take (length next) all)
told_next f all left rest index cuts next cut at is pushed so one =
    let s = seam all (length cuts) index rest (sym at ∙ is) in
    ap (map told) pushed
    ∙ map-append told cuts (cut ∷ [])
    ∙ (λ i. so i ++ one i ∷ [])
    ∙ sym (map-append f (take (length cuts) all) (index ∷ []))
    ∙ ap (map f) (sym s.0)
    ∙ ap (λ n. map f (take n all)) (more-of cuts next cut pushed)

pub rest_next : (all left rest : List (List ℤ)) (index : List ℤ) (cuts next : List CutElement) (cut : CutElement) → left ≡ drop (length cuts) all → left ≡ index ∷ rest → next ≡ cuts ++ cut ∷ [] → rest ≡ drop (length next) all
rest_next all left rest index cuts next cut at is pushed =
    sym (seam all (length cuts) index rest (sym at ∙ is)).1 ∙ ap (λ n. drop n all) (more-of cuts next cut pushed)

pub there_next : (P : List ℤ → Type 0) (all left rest : List (List ℤ)) (index : List ℤ) (cuts next : List CutElement) (cut : CutElement) → left ≡ drop (length cuts) all → left ≡ index ∷ rest → next ≡ cuts ++ cut ∷ [] →
    All P (take (length cuts) all) → P index → All P (take (length next) all)
there_next P all left rest index cuts next cut at is pushed so one =
    subst (All P) (sym (seam all (length cuts) index rest (sym at ∙ is)).0 ∙ ap (λ n. take n all) (more-of cuts next cut pushed)) (All-push P (take (length cuts) all) index so one)

-- none are left
all-taken : {A : Type 0} (all : List A) (n : ℕ) → drop n all ≡ [] → length all ≤ n
all-taken [] n h = omega arith
all-taken (a ∷ all) zero h = cc
all-taken (a ∷ all) (suc n) h = let less = all-taken all n h in omega (arith, less)

pub whole_taken : (all left : List (List ℤ)) (cuts : List CutElement) → left ≡ drop (length cuts) all → left ≡ [] → take (length cuts) all ≡ all
whole_taken all left cuts at over = take_all (length cuts) all (all-taken all (length cuts) (sym at ∙ over))

-- an element that is not there
pub missing : (P : List ℤ → Type 0) (all left rest : List (List ℤ)) (index : List ℤ) (n : ℕ) → left ≡ drop n all → left ≡ index ∷ rest → (P index → ⊥) → All P all → ⊥
missing P all left rest index n at is not_there every = on all n (sym at ∙ is) every
  where
    on : (all : List (List ℤ)) (n : ℕ) → drop n all ≡ index ∷ rest → All P all → ⊥
    on [] zero h every = cc
    on [] (suc n) h every = cc
    on (a ∷ all) zero h every = not_there (subst P (ap first h) (every 0 a (omega arith)))
      where
        first : List (List ℤ) → List ℤ
        first [] = []
        first (b ∷ l) = b
    on (a ∷ all) (suc n) h every = on all n h (λ k d less. every (suc k) d (omega (arith, less)))

-- there are as many as the extents multiply to
pub window_count : (shift : List ℤ) (extents : List ℕ) → length shift ≡ length extents → length (elements (subset_within shift extents) []) ≡ product extents
window_count shift extents same = ap length (within-moved shift extents same) ∙ length-map (whole extents) (moved _) ∙ whole-count extents

pub counted : (shift : List ℤ) (extents : List ℕ) (f : List ℤ → Option ℕ × ℤ) (cuts : List CutElement) → length shift ≡ length extents → map told cuts ≡ map f (elements (subset_within shift extents) []) → length cuts ≡ product extents
counted shift extents f cuts same is =
    sym (length-map cuts told) ∙ ap length is ∙ length-map (elements (subset_within shift extents) []) f ∙ window_count shift extents same

-- ---- one window after another

pub window_here : (list : List (Option Window)) (n : ℕ) (window : Option Window) → n < length list → window ≡ slice_index_or list n window → option_map window_of window ≡ window_at list n
window_here list n window less is = ap (option_map window_of) (is ∙ get_or_default list n window None less)

pub next_all : (P : ℕ → Type 0) (n : ℕ) → ((k : ℕ) → k < n → P k) → P n → (k : ℕ) → k < n + 1 → P k
next_all P n so one k less = on (same_or_two k n)
  where
    on : (k ≡ n) ⊎ (k ≡ n → ⊥) → P k
    on (inl e) = subst P (sym e) one
    on (inr other) = so k (omega (arith, less, other))

-- the first refusal
pub first_refusal : (memory : Shaped) (windows : ℕ → Option windows.Window) (n : ℕ) (e : CutError) → ((k : ℕ) → k < n → IsWithin memory k (windows k)) → IsRefusalOf memory n (windows n) e → IsRefusal memory windows e
first_refusal memory windows n (Outside other) so h =
    subst (λ c. (IsWithin memory c (windows c) → ⊥) × ((before : ℕ) → before < c → IsWithin memory before (windows before))) (sym h.0) (h.1, so)
first_refusal memory windows n Memory so h = tt

-- a list and one more
index_old : {A : Type 0} (xs : List A) (x d : A) (k : ℕ) → k < length xs → slice_index_or xs k d ≡ slice_index_or (xs ++ x ∷ []) k d
index_old [] x d k less = absurd (omega (arith, less))
index_old (y ∷ xs) x d zero less = refl
index_old (y ∷ xs) x d (suc k) less = index_old xs x d k (omega (arith, less))

index_new : {A : Type 0} (xs : List A) (x d : A) → x ≡ slice_index_or (xs ++ x ∷ []) (length xs) d
index_new [] x d = refl
index_new (y ∷ xs) x d = index_new xs x d

index_behind : {A : Type 0} (xs : List A) (x d : A) (k : ℕ) → length xs < k → d ≡ slice_index_or (xs ++ x ∷ []) k d
index_behind [] x d zero more = absurd (omega (arith, more))
index_behind [] x d (suc k) more = refl
index_behind (y ∷ xs) x d zero more = absurd (omega (arith, more))
index_behind (y ∷ xs) x d (suc k) more = index_behind xs x d k (omega (arith, more))

pub arrays_next : {A : Type 0} (P : ℕ → A → Type 0) (d : A) (xs next : List A) (x : A) (n : ℕ) → next ≡ xs ++ x ∷ [] → length xs ≡ n → ((k : ℕ) → k < n → P k (slice_index_or xs k d)) → P n x →
    (k : ℕ) → k < n + 1 → P k (slice_index_or next k d)
arrays_next P d xs next x n is count so one =
    next_all (λ k. P k (slice_index_or next k d)) n
    (λ k less. subst (P k) (index_old xs x d k (omega (arith, less, count)) ∙ ap (λ l. slice_index_or l k d) (sym is)) (so k less))
    (subst (P n) (index_new xs x d ∙ (λ i. slice_index_or (sym is i) (count i) d)) one)

pub all_next_of : {A : Type 0} (P : A → Type 0) (d : A) (xs next : List A) (x : A) → P d → next ≡ xs ++ x ∷ [] → ((k : ℕ) → P (slice_index_or xs k d)) → P x → (k : ℕ) → P (slice_index_or next k d)
all_next_of P d xs next x none is so one k = on (same_or_two k (length xs))
  where
    on : (k ≡ length xs) ⊎ (k ≡ length xs → ⊥) → P (slice_index_or next k d)
    on (inl e) = subst P (index_new xs x d ∙ (λ i. slice_index_or (sym is i) (sym e i) d)) one
    on (inr other) = past (is_less k (length xs) other)
      where
        past : (k < length xs) ⊎ (length xs < k) → P (slice_index_or next k d)
        past (inl less) = subst P (index_old xs x d k less ∙ ap (λ l. slice_index_or l k d) (sym is)) (so k)
        past (inr more) = subst P (index_behind xs x d k more ∙ ap (λ l. slice_index_or l k d) (sym is)) none

        is_less : (k n : ℕ) → (k ≡ n → ⊥) → (k < n) ⊎ (n < k)
        is_less zero zero h = absurd (h refl)
        is_less zero (suc n) h = inl (omega arith)
        is_less (suc k) zero h = inr (omega arith)
        is_less (suc k) (suc n) h = lift (is_less k n (λ e. h (ap suc e)))
          where
            lift : (k < n) ⊎ (n < k) → (suc k < suc n) ⊎ (suc n < suc k)
            lift (inl a) = inl (omega (arith, a))
            lift (inr a) = inr (omega (arith, a))

-- the elements of a window are as many as it has
pub of_window_counted : (memory : Shaped) (c : ℕ) (o : Option windows.Window) (cuts : List CutElement) → IsEven o → AreOfWindow memory c o cuts → IsCounted o cuts
of_window_counted memory c None cuts even of = tt
of_window_counted memory c (Some w) cuts even of = counted w.shift w.extents (told_at memory c) cuts even of
