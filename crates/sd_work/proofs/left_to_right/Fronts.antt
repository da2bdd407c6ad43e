-- Settling a list whose first unfinished part is known, before and after a move of that part.
use Rattle.std.proofs.Common.{◌≡◌, ℕ, zero, suc, ◌+◌, List, [], ◌∷◌, ◌++◌, map, length, Bool, true, false, not, ◌&&◌, ◌||◌, slice_index_or, refl, sym, ◌∙◌, ap, subst, arith}
use Rattle.sd_num.specs.declared.width.Width.TheVariants.{W64}
use Rattle.sd_work.specs.Memory.{Contents, array, stream, Memory, Memories, values_of, waiting}
use Rattle.sd_work.specs.Change.{Change, nothing, write, push, take, changed_at, with_values, without, apply}
use Rattle.sd_work.specs.Residual.{Parts, Items, Points, Term, list, Terms, none, also, finished, all_finished, is_ready, ready_from, part_at}
use Rattle.sd_work.specs.Settle.{is_empty, all_true, is_first_left, settle, settle_parts}
use Rattle.sd_work.specs.Touch.{takes, Touches}
use Rattle.sd_work.proofs.Absorbing.{stays, Below, below_same, below_more, index_both, KeepParts, absorb_parts}
use Rattle.sd_work.proofs.Changes.{waiting-apply}
use Rattle.sd_work.proofs.left_to_right.Leads.{clear, front, Feeds, Within}
use Rattle.sd_work.proofs.Flags.{both, both_true, not_true, or_other}

-- parts, and then others
abbrev pub ◌⊕◌ : {P : Type 0} → Terms P → Terms P → Terms P
◌⊕◌ none us = us
◌⊕◌ (also t ts) us = also t (◌⊕◌ ts us)

-- how many they are
abbrev pub count_of : {P : Type 0} → Terms P → ℕ
count_of none = 0
count_of (also t ts) = suc (count_of ts)

-- flags, and then one that stands for each of these parts
abbrev pub more : {P : Type 0} → List Bool → Terms P → List Bool
more fs none = fs
more fs (also t ts) = more (fs ++ true ∷ []) ts

-- ---- flags that all stand

pub all_more : (fs : List Bool) → all_true fs ≡ true → all_true (fs ++ true ∷ []) ≡ true
all_more [] h = refl
all_more (f ∷ fs) h = let e = both f (all_true fs) h in both_true f _ e.0 (all_more fs e.1)

more_true : {P : Type 0} (fs : List Bool) (pre : Terms P) → all_true fs ≡ true → all_true (more fs pre) ≡ true
more_true fs none h = h
more_true fs (also t pre) h = more_true (fs ++ true ∷ []) pre (all_more fs h)

pub ready_all : (before : ℕ → ℕ → Bool) (j : ℕ) (fs : List Bool) (n : ℕ) → all_true fs ≡ true → ready_from before j fs n ≡ true
ready_all before j [] n h = refl
ready_all before j (true ∷ fs) n h = ready_all before (suc j) fs n h
ready_all before j (false ∷ fs) n h = cc

pub first_all : (kind : Parts) (fs : List Bool) → all_true fs ≡ true → is_first_left kind fs ≡ true
first_all Items fs h = refl
first_all Points fs h = h

pub map_true : (fs : List Bool) → map (λ flag. true && flag) fs ≡ fs
map_true [] = refl
map_true (f ∷ fs) = ap (λ gs. f ∷ gs) (map_true fs)

-- ---- finished parts in front

settled_front : {P : Type 0} (go : Bool) (cl : List Bool) (s : Memories) (kind : Parts) (before : ℕ → ℕ → Bool) (fs : List Bool) (n : ℕ) (pre us : Terms P) → all_finished pre ≡ true →
    settle_parts go cl s kind before fs n (◌⊕◌ pre us) ≡ ◌⊕◌ (settle_parts go cl s kind before fs n pre) (settle_parts go cl s kind before (more fs pre) (n + count_of pre) us)
settled_front go cl s kind before fs n none us h = let same : n ≡ n + 0 = omega arith in ap (λ k. settle_parts go cl s kind before fs k us) same
settled_front {P} go cl s kind before fs n (also t pre) us h =
    let e = both (finished t) (all_finished pre) h in
    let left : Term P = settle (go && is_ready before fs n) (map (λ flag. is_first_left kind fs && flag) cl) s t in
    let f : finished left ≡ true = stays (go && is_ready before fs n) (map (λ flag. is_first_left kind fs && flag) cl) s t e.0 in
    let same : suc n + count_of pre ≡ n + suc (count_of pre) = omega arith in
    ap (also left) (settled_front go cl s kind before (fs ++ finished left ∷ []) (suc n) pre us e.1)
    ∙ (λ i. also left (◌⊕◌ (settle_parts go cl s kind before (fs ++ finished left ∷ []) (suc n) pre) (settle_parts go cl s kind before (more (fs ++ f i ∷ []) pre) (same i) us)))

-- as many parts as before
pub count_settled : {P : Type 0} (go : Bool) (cl : List Bool) (s : Memories) (kind : Parts) (before : ℕ → ℕ → Bool) (fs : List Bool) (n : ℕ) (pre : Terms P) → count_of (settle_parts go cl s kind before fs n pre) ≡ count_of pre
count_settled go cl s kind before fs n none = refl
count_settled go cl s kind before fs n (also t pre) = ap suc (count_settled go cl s kind before _ (suc n) pre)

below_front : {P : Type 0} (fs gs : List Bool) (pre post : Terms P) → Below fs gs → count_of pre ≡ count_of post → Below (more fs pre) (more gs post)
below_front fs gs none none b e = b
below_front fs gs none (also t post) b e = cc
below_front fs gs (also t pre) none b e = cc
below_front fs gs (also t pre) (also u post) b e = below_front (fs ++ true ∷ []) (gs ++ true ∷ []) pre post (below_more fs gs true true b (λ h. h)) (let same : count_of pre ≡ count_of post = cc in same)

-- the parts in front, settled
abbrev pub lead : {P : Type 0} → Parts → (ℕ → ℕ → Bool) → Memories → (pre : Terms P) → Terms P
lead kind before s pre = settle_parts true (clear s) s kind before [] 0 pre

-- the parts behind the first unfinished one, settled where that is finished or not
abbrev pub rest : {P : Type 0} → Parts → (ℕ → ℕ → Bool) → Memories → (pre : Terms P) → Bool → Terms P → Terms P
rest kind before s pre b ts = settle_parts true (clear s) s kind before (more [] pre ++ b ∷ []) (suc (count_of pre)) ts

-- a list behind finished parts, settled
pub list_front : {P : Type 0} (kind : Parts) (before : ℕ → ℕ → Bool) (s : Memories) (pre : Terms P) (t : Term P) (ts : Terms P) → all_finished pre ≡ true →
    front s (list kind before (◌⊕◌ pre (also t ts))) ≡ list kind before (◌⊕◌ (lead kind before s pre) (also (front s t) (rest kind before s pre (finished (front s t)) ts)))
list_front {P} kind before s pre t ts h =
    let z : 0 + count_of pre ≡ count_of pre = omega arith in
    let all : all_true (more [] pre) ≡ true = more_true [] pre refl in
    let e : is_ready before (more [] pre) (0 + count_of pre) ≡ true = ready_all before 0 (more [] pre) (0 + count_of pre) all in
    let f : map (λ flag. is_first_left kind (more [] pre) && flag) (clear s) ≡ clear s = ap (λ b. map (λ flag. b && flag) (clear s)) (first_all kind (more [] pre) all) ∙ map_true (clear s) in
    ap (list kind before) (settled_front true (clear s) s kind before [] 0 pre (also t ts) h)
    ∙ (λ i. list kind before (◌⊕◌ (lead kind before s pre)
    (also (settle (e i) (f i) s t) (settle_parts true (clear s) s kind before (more [] pre ++ finished (settle (e i) (f i) s t) ∷ []) (suc (z i)) ts))))

-- ---- the streams of the parts behind

-- the flag of this number is down
abbrev IsDown : ℕ → List Bool → Type 0
IsDown k [] = ⊥
IsDown zero (f ∷ fs) = f ≡ false
IsDown (suc k) (f ∷ fs) = IsDown k fs

down_more : (k : ℕ) (fs : List Bool) (b : Bool) → IsDown k fs → IsDown k (fs ++ b ∷ [])
down_more k [] b h = elim h [ ]
down_more zero (f ∷ fs) b h = h
down_more (suc k) (f ∷ fs) b h = down_more k fs b h

down_last : (fs : List Bool) → IsDown (length fs) (fs ++ false ∷ [])
down_last [] = refl
down_last (f ∷ fs) = down_last fs

-- one more flag is one more
pub longer : (fs : List Bool) (b : Bool) → length (fs ++ b ∷ []) ≡ suc (length fs)
longer [] b = refl
longer (f ∷ fs) b = ap suc (longer fs b)

down_front : {P : Type 0} (fs : List Bool) (pre : Terms P) → IsDown (length fs + count_of pre) (more fs pre ++ false ∷ [])
down_front fs none = let same : length fs ≡ length fs + 0 = omega arith in subst (λ k. IsDown k (fs ++ false ∷ [])) same (down_last fs)
down_front fs (also t pre) =
    let l : length (fs ++ true ∷ []) ≡ suc (length fs) = longer fs true in
    let same : length (fs ++ true ∷ []) + count_of pre ≡ length fs + suc (count_of pre) = omega arith in
    subst (λ k. IsDown k (more (fs ++ true ∷ []) pre ++ false ∷ [])) same (down_front (fs ++ true ∷ []) pre)

-- a part that may go on is not behind one whose flag is down
ready_down : (before : ℕ → ℕ → Bool) (j k : ℕ) (fs : List Bool) (n : ℕ) → IsDown k fs → ready_from before j fs n ≡ true → before (j + k) n ≡ false
ready_down before j k [] n h e = elim h [ ]
ready_down before j zero (f ∷ fs) n h e =
    let same : j ≡ j + 0 = omega arith in
    let g : (f || not (before j n)) ≡ true = (both (f || not (before j n)) (ready_from before (suc j) fs n) e).0 in
    subst (λ i. before i n ≡ false) same (not_true (before j n) (or_other f (not (before j n)) g h))
ready_down before j (suc k) (f ∷ fs) n h e =
    let same : suc j + k ≡ j + suc k = omega arith in
    subst (λ i. before i n ≡ false) same (ready_down before (suc j) k fs n h (both (f || not (before j n)) (ready_from before (suc j) fs n) e).1)

not_all : (k : ℕ) (fs : List Bool) → IsDown k fs → all_true fs ≡ true → ⊥
not_all k [] h e = elim h [ ]
not_all zero (true ∷ fs) h e = cc
not_all zero (false ∷ fs) h e = cc
not_all (suc k) (f ∷ fs) h e = not_all k fs h (both f (all_true fs) e).1

-- behind an unfinished part, a pool may be closed only over a stream that stays empty
keep_behind : {P : Type 0} (kind : Parts) (before : ℕ → ℕ → Bool) (cl : List Bool) (s s' : Memories) (k : ℕ) (fs : List Bool) → IsDown k fs → (n : ℕ) (ts : Terms P) →
    (kind ≡ Items → (i : ℕ) → before k (n + i) ≡ false → (l c : ℕ) → Touches (part_at ts i) (takes l c) → is_empty (waiting l c s) ≡ true → is_empty (waiting l c s') ≡ true) →
    KeepParts true cl s s' kind before fs n ts
keep_behind kind before cl s s' k fs d n none h = tt
keep_behind Points before cl s s' k fs d n (also t ts) h = (
  λ l c touch e f g. elim (not_all k fs d (index_both (all_true fs) cl l f).0) [ ],
  λ b. keep_behind Points before cl s s' k (fs ++ b ∷ []) (down_more k fs b d) (suc n) ts (λ e i q. let no : ⊥ = cc in elim no [ ]),
)
keep_behind Items before cl s s' k fs d n (also t ts) h = (
  λ l c touch e f g. h refl 0 (
      let same : n ≡ n + 0 = omega arith in
      let z : 0 + k ≡ k = omega arith in
      let r : before k n ≡ false = subst (λ i. before i n ≡ false) z (ready_down before 0 k fs n d e) in
      subst (λ j. before k j ≡ false) same r
      ) l c touch g,
  λ b. keep_behind Items before cl s s' k (fs ++ b ∷ []) (down_more k fs b d) (suc n) ts
      (λ e i q. h e (suc i) (let same : suc n + i ≡ n + suc i = omega arith in subst (λ j. before k j ≡ false) same q)),
)

-- ---- a change keeps the stack, and the streams empty into which it does not push

clear_changed : (l : ℕ) (f : Memory → Memory) (s : Memories) → clear (changed_at l f s) ≡ clear s
clear_changed l f [] = refl
clear_changed zero f (m ∷ s) = refl
clear_changed (suc l) f (m ∷ s) = ap (λ fs. true ∷ fs) (clear_changed l f s)

-- as many flags as memories
clear_apply : (u : Change) (s : Memories) → clear (apply u s) ≡ clear s
clear_apply nothing s = refl
clear_apply (write to by value) s = clear_changed to.level _ s
clear_apply (push l c value) s = clear_changed l _ s
clear_apply (take l c k) s = clear_changed l _ s

length_changed : (l : ℕ) (f : Memory → Memory) (s : Memories) → length (changed_at l f s) ≡ length s
length_changed l f [] = refl
length_changed zero f (m ∷ s) = refl
length_changed (suc l) f (m ∷ s) = ap suc (length_changed l f s)

-- the stack stays as long as it is
pub length_apply : (u : Change) (s : Memories) → length (apply u s) ≡ length s
length_apply nothing s = refl
length_apply (write to by value) s = length_changed to.level _ s
length_apply (push l c value) s = length_changed l _ s
length_apply (take l c k) s = length_changed l _ s

kept_at : {A : Type 0} (Q : A → Type 0) (d : A) (i j : ℕ) (f : A → A) → ((x : A) → Q x → Q (f x)) → (xs : List A) → Q (slice_index_or xs i d) → Q (slice_index_or (changed_at j f xs) i d)
kept_at Q d i j f h [] q = q
kept_at Q d zero zero f h (x ∷ xs) q = h x q
kept_at Q d zero (suc j) f h (x ∷ xs) q = q
kept_at Q d (suc i) zero f h (x ∷ xs) q = q
kept_at Q d (suc i) (suc j) f h (x ∷ xs) q = kept_at Q d i j f h xs q

still_empty : (k : ℕ) (c : Contents) → is_empty (values_of c) ≡ true → is_empty (values_of (with_values (λ width. without k) c)) ≡ true
still_empty k (array width elements) h = h
still_empty k (stream width []) h = h
still_empty k (stream width (v ∷ vs)) h = cc

-- a stream stays empty into which a change does not push
empty_apply : (W : Feeds) (u : Change) → Within W u → (l c : ℕ) → (W l c → ⊥) → (s : Memories) → is_empty (waiting l c s) ≡ true → is_empty (waiting l c (apply u s)) ≡ true
empty_apply W nothing w l c h s e = e
empty_apply W (write to by value) w l c h s e = ap is_empty (waiting-apply l c (write to by value) tt s) ∙ e
empty_apply W (push m d value) w l c h s e =
    ap is_empty (waiting-apply l c (push m d value) (λ f g. h (subst (λ i. W i c) (sym f) (subst (λ i. W m i) (sym g) w))) s) ∙ e
empty_apply W (take m d k) w l c h s e =
    kept_at (λ memory. is_empty (values_of (slice_index_or memory c (stream W64 []))) ≡ true) [] l m _ (λ memory q. kept_at (λ k. is_empty (values_of k) ≡ true) (stream W64 []) c d _ (still_empty k) memory q) s e

-- ---- after a move of the first unfinished part

-- what a part pushes into is not taken from by those behind it that are not to wait for it
abbrev pub Apart : {P : Type 0} → Parts → (ℕ → ℕ → Bool) → Feeds → (k : ℕ) → Terms P → Type 0
Apart kind before W k ts = kind ≡ Items → (i : ℕ) → before k (suc k + i) ≡ false → (l c : ℕ) → W l c → Touches (part_at ts i) (takes l c) → ⊥

-- those behind it that were settled before are as if they were settled now alone
pub rest_again : {P : Type 0} (kind : Parts) (before : ℕ → ℕ → Bool) (W : Feeds) (s : Memories) (u : Change) → Within W u → (pre post : Terms P) → count_of pre ≡ count_of post → (b : Bool) (ts : Terms P) →
    Apart kind before W (count_of pre) ts → rest kind before (apply u s) post b (rest kind before s pre false ts) ≡ rest kind before (apply u s) post b ts
rest_again {P} kind before W s u w pre post e b ts h =
    let d : IsDown (count_of pre) (more [] pre ++ false ∷ []) = let z : 0 + count_of pre ≡ count_of pre = omega arith in subst (λ k. IsDown k (more [] pre ++ false ∷ [])) z (down_front [] pre) in
    let k : KeepParts true (clear s) s (apply u s) kind before (more [] pre ++ false ∷ []) (suc (count_of pre)) ts =
    keep_behind kind before (clear s) s (apply u s) (count_of pre) (more [] pre ++ false ∷ []) d (suc (count_of pre)) ts (λ f i q l c touch g. empty_apply W u w l c (λ into. h f i q l c into touch) s g) in
    let later : Terms P → Terms P = settle_parts true (clear (apply u s)) (apply u s) kind before (more [] post ++ b ∷ []) (suc (count_of pre)) in
    let r : later (rest kind before s pre false ts) ≡ later ts =
    absorb_parts true true (λ x. x) (clear s) (clear (apply u s)) (subst (λ cl. Below (clear s) cl) (sym (clear_apply u s)) (below_same (clear s))) s (apply u s) kind before
    (more [] pre ++ false ∷ []) (more [] post ++ b ∷ []) (below_more (more [] pre) (more [] post) false b (below_front [] [] pre post tt e) (λ x. cc)) (suc (count_of pre)) ts k in
    subst (λ n. settle_parts true (clear (apply u s)) (apply u s) kind before (more [] post ++ b ∷ []) (suc n) (rest kind before s pre false ts) ≡ settle_parts true (clear (apply u s)) (apply u s) kind before (more [] post ++ b ∷ []) (suc n) ts) e r
