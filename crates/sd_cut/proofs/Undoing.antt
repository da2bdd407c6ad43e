-- Pushes and takes one by one, and pushes taken back.
use Rattle.std.proofs.Common.{◌≡◌, ℕ, zero, suc, ◌+◌, ◌-◌, ◌<◌, ◌≤◌, ℤ, List, [], ◌∷◌, ◌++◌, map, take, drop, length, replicate, slice_index_or, Option, None, Result, Ok, Err, refl, sym, subst, ◌∙◌, ap, arith}
use Rattle.std.proofs.Common.{take-suc, drop-cons, length-take-le, pos}
use Rattle.std.proofs.lemmas.List.{map-append, append_assoc, take_all}
use Rattle.std.specs.Result.{OnOk, OnErr}
use Rattle.sd_num.specs.Width.{wrapped_to}
use Rattle.sd_num.specs.declared.width.Width.TheVariants.{W64}
use Rattle.sd_work.specs.Memory.{Contents, array, stream, Memory, values_of, waiting}
use Rattle.sd_work.specs.Change.{Change, push, take as taking, appended, changed_at, with_values, without}
use Rattle.sd_mem.specs.mem.Shaped.{Shaped, alone, changed}
use Rattle.sd_cut.specs.declared.streams.CutStream.{CutStream}
use Rattle.sd_cut.specs.Elements.{all_changed}
use Rattle.sd_cut.specs.Streams.{pushed_of, taken_of, all_pushes, all_takes}
use Rattle.sd_cut.specs.Undo.{taken_back, all_taken_back}
use Rattle.sd_cut.proofs.Performing.{all_changed-append}

-- ---- one more

pub back_next : (c count i : ℕ) (m next : Shaped) → i < count → next ≡ changed (taking 0 c (length (waiting 0 c (alone m)) - 1)) m → taken_back c (count - (i + 1)) next ≡ taken_back c (count - i) m
back_next c count i m next less is =
    let more : count - i ≡ suc (count - (i + 1)) = omega (arith, less) in
    ap (taken_back c (count - (i + 1))) is ∙ ap (λ n. taken_back c n m) (sym more)

pub oldest_next : (c count i : ℕ) (m next : Shaped) → i < count → next ≡ changed (taking 0 c 0) m → all_changed (replicate (count - (i + 1)) (taking 0 c 0)) next ≡ all_changed (replicate (count - i) (taking 0 c 0)) m
oldest_next c count i m next less is =
    let more : count - i ≡ suc (count - (i + 1)) = omega (arith, less) in
    ap (all_changed (replicate (count - (i + 1)) (taking 0 c 0))) is ∙ ap (λ n. all_changed (replicate n (taking 0 c 0)) m) (sym more)

-- the first values of a list and one more
first_more : {A : Type 0} (xs : List A) (i : ℕ) (d : A) → i < length xs → take (i + 1) xs ≡ take i xs ++ slice_index_or xs i d ∷ []
first_more xs i d less = let more : i + 1 ≡ suc i = omega arith in ap (λ n. take n xs) more ∙ take-suc xs i d less

pub push_next : (c i : ℕ) (xs : List ℤ) (d : ℤ) (old m next : Shaped) → i < length xs → m ≡ all_changed (map (push 0 c) (take i xs)) old → next ≡ changed (push 0 c (slice_index_or xs i d)) m →
    next ≡ all_changed (map (push 0 c) (take (i + 1) xs)) old
push_next c i xs d old m next less so is =
    is
    ∙ ap (changed (push 0 c (slice_index_or xs i d))) so
    ∙ sym (all_changed-append (map (push 0 c) (take i xs)) (push 0 c (slice_index_or xs i d) ∷ []) old)
    ∙ ap (λ l. all_changed l old) (sym (map-append (push 0 c) (take i xs) (slice_index_or xs i d ∷ [])))
    ∙ ap (λ l. all_changed (map (push 0 c) l) old) (sym (first_more xs i d less))

-- ---- one back

without_last : (xs : List ℤ) (x : ℤ) → without (length (xs ++ x ∷ []) - 1) (xs ++ x ∷ []) ≡ xs
without_last [] x = refl
without_last (y ∷ xs) x =
    let more : length (y ∷ xs ++ x ∷ []) - 1 ≡ suc (length (xs ++ x ∷ []) - 1) = omega (arith, some xs) in
    ap (λ n. without n (y ∷ xs ++ x ∷ [])) more ∙ ap (λ l. y ∷ l) (without_last xs x)
  where
    some : (xs : List ℤ) → 0 < length (xs ++ x ∷ [])
    some [] = omega arith
    some (y ∷ xs) = omega arith

newest_of : (k : Contents) (v : ℤ) → with_values (λ width. without (length (values_of (with_values (appended v) k)) - 1)) (with_values (appended v) k) ≡ k
newest_of (array width xs) v = refl
newest_of (stream width xs) v = ap (stream width) (without_last xs (wrapped_to width v))

newest_in : (c : ℕ) (own : Memory) (v : ℤ) →
    changed_at c (with_values (λ width. without (length (values_of (slice_index_or (changed_at c (with_values (appended v)) own) c (stream W64 []))) - 1))) (changed_at c (with_values (appended v)) own) ≡ own
newest_in c [] v = refl
newest_in zero (k ∷ own) v = ap (λ k. k ∷ own) (newest_of k v)
newest_in (suc c) (k ∷ own) v = ap (λ own. k ∷ own) (newest_in c own v)

newest_back : (c : ℕ) (v : ℤ) (m : Shaped) → changed (taking 0 c (length (waiting 0 c (alone (changed (push 0 c v) m))) - 1)) (changed (push 0 c v) m) ≡ m
newest_back c v m = ap (λ own. record { shapes = m.shapes; contents = own }) (newest_in c m.contents v)

-- ---- as many back as were pushed

pub undo_first : (c i : ℕ) (xs : List ℤ) (m : Shaped) → i ≤ length xs → taken_back c i (all_changed (map (push 0 c) (take i xs)) m) ≡ m
undo_first c zero xs m less = refl
undo_first c (suc i) xs m less =
    let within : i < length xs = omega (arith, less) in
    let one = push_next c i xs (pos 0) m (all_changed (map (push 0 c) (take i xs)) m) (changed (push 0 c (slice_index_or xs i (pos 0))) (all_changed (map (push 0 c) (take i xs)) m)) within refl refl in
    let more : suc i ≡ i + 1 = omega arith in
    ap (λ n. taken_back c (suc i) (all_changed (map (push 0 c) (take n xs)) m)) more
    ∙ ap (taken_back c (suc i)) (sym one)
    ∙ ap (taken_back c i) (newest_back c (slice_index_or xs i (pos 0)) (all_changed (map (push 0 c) (take i xs)) m))
    ∙ undo_first c i xs m (omega (arith, within))

undo_list : (c : ℕ) (xs : List ℤ) (m : Shaped) → taken_back c (length xs) (all_changed (map (push 0 c) xs) m) ≡ m
undo_list c xs m = ap (λ l. taken_back c (length xs) (all_changed (map (push 0 c) l) m)) (sym (take_all (length xs) xs (omega arith))) ∙ undo_first c (length xs) xs m (omega arith)

-- ---- all streams

pushes_append : (d : ℕ) (left : Shaped) (xs : List (Option CutStream)) (s : Option CutStream) →
    all_pushes d left (xs ++ s ∷ []) ≡ all_pushes d left xs ++ map (push 0 (d + length xs)) (pushed_of s (waiting 0 (d + length xs) (alone left)))
pushes_append d left [] s =
    let here : d + 0 ≡ d = omega arith in
    append_nil (map (push 0 d) (pushed_of s (waiting 0 d (alone left)))) ∙ ap (λ n. map (push 0 n) (pushed_of s (waiting 0 n (alone left)))) (sym here)
  where
    append_nil : (l : List Change) → l ++ [] ≡ l
    append_nil [] = refl
    append_nil (x ∷ l) = ap (λ l. x ∷ l) (append_nil l)
pushes_append d left (x ∷ xs) s =
    let next : suc d + length xs ≡ d + length (x ∷ xs) = omega arith in
    ap (λ l. map (push 0 d) (pushed_of x (waiting 0 d (alone left))) ++ l) (pushes_append (suc d) left xs s)
    ∙ sym (append_assoc (map (push 0 d) (pushed_of x (waiting 0 d (alone left)))) (all_pushes (suc d) left xs) (map (push 0 (suc d + length xs)) (pushed_of s (waiting 0 (suc d + length xs) (alone left)))))
    ∙ ap (λ n. all_pushes d left (x ∷ xs) ++ map (push 0 n) (pushed_of s (waiting 0 n (alone left)))) next

-- the pushes of one stream more
pub pushed_next : (left old m next : Shaped) (streams : List (Option CutStream)) (s : Option CutStream) (i : ℕ) → i < length streams → s ≡ slice_index_or streams i s → m ≡ all_changed (all_pushes 0 left (take i streams)) old →
    next ≡ all_changed (map (push 0 i) (pushed_of s (waiting 0 i (alone left)))) m → next ≡ all_changed (all_pushes 0 left (take (i + 1) streams)) old
pushed_next left old m next streams s i less here so is =
    let count : 0 + length (take i streams) ≡ i = omega (arith, length-take-le i streams (omega (arith, less))) in
    is
    ∙ ap (all_changed (map (push 0 i) (pushed_of s (waiting 0 i (alone left))))) so
    ∙ sym (all_changed-append (all_pushes 0 left (take i streams)) (map (push 0 i) (pushed_of s (waiting 0 i (alone left)))) old)
    ∙ ap (λ n. all_changed (all_pushes 0 left (take i streams) ++ map (push 0 n) (pushed_of s (waiting 0 n (alone left)))) old) (sym count)
    ∙ ap (λ l. all_changed l old) (sym (pushes_append 0 left (take i streams) s))
    ∙ ap (λ l. all_changed (all_pushes 0 left l) old) (ap (λ x. take i streams ++ x ∷ []) here ∙ sym (first_more streams i s less))

pub undo_all : (left m : Shaped) (streams : List (Option CutStream)) (i : ℕ) → i ≤ length streams → all_taken_back i left streams (all_changed (all_pushes 0 left (take i streams)) m) ≡ m
undo_all left m streams zero less = refl
undo_all left m streams (suc i) less =
    let within : i < length streams = omega (arith, less) in
    let s = slice_index_or streams i None in
    let pushed = pushed_of s (waiting 0 i (alone left)) in
    let before = all_changed (all_pushes 0 left (take i streams)) m in
    let one = pushed_next left m before (all_changed (map (push 0 i) pushed) before) streams s i within (same streams i within) refl refl in
    let more : suc i ≡ i + 1 = omega arith in
    ap (λ n. all_taken_back (suc i) left streams (all_changed (all_pushes 0 left (take n streams)) m)) more
    ∙ ap (all_taken_back (suc i) left streams) (sym one)
    ∙ ap (all_taken_back i left streams) (undo_list i pushed before)
    ∙ undo_all left m streams i (omega (arith, within))
  where
    same : (xs : List (Option CutStream)) (i : ℕ) → i < length xs → slice_index_or xs i None ≡ slice_index_or xs i (slice_index_or xs i None)
    same [] i less = refl
    same (x ∷ xs) zero less = refl
    same (x ∷ xs) (suc i) less = same xs i (omega (arith, less))

-- what holds where a result is so
pub where_ok : {A E P : Type 0} (result : Result A E) (value : A) → result ≡ Ok value → OnOk result P → P
where_ok {A} {E} {P} result value is held = subst (λ (result : Result A E). OnOk result P) is held

pub where_err : {A E P : Type 0} (result : Result A E) (error : E) → result ≡ Err error → OnErr result P → P
where_err {A} {E} {P} result error is held = subst (λ (result : Result A E). OnErr result P) is held

-- the streams before one that is taken back
pub all_back_next : (before count : ℕ) (left m next : Shaped) (streams : List (Option CutStream)) (s : Option CutStream) → 0 < before → before ≤ length streams → s ≡ slice_index_or streams (before - 1) s →
    count ≡ length (pushed_of s (waiting 0 (before - 1) (alone left))) → next ≡ taken_back (before - 1) count m → all_taken_back (before - 1) left streams next ≡ all_taken_back before left streams m
all_back_next zero count left m next streams s some within here many is = absurd (omega (arith, some))
all_back_next (suc k) count left m next streams s some within here many is =
    let one : suc k - 1 ≡ k = omega arith in
    let own : s ≡ slice_index_or streams k None = (here ∙ ap (λ n. slice_index_or streams n s) one) ∙ other streams k s (omega (arith, within)) in
    (λ i. all_taken_back (one i) left streams (is i))
    ∙ ap (λ n. all_taken_back k left streams (taken_back n count m)) one
    ∙ ap (λ n. all_taken_back k left streams (taken_back k n m)) (many ∙ (λ i. length (pushed_of (own i) (waiting 0 (one i) (alone left)))))
  where
    other : (xs : List (Option CutStream)) (i : ℕ) (d : Option CutStream) → i < length xs → slice_index_or xs i d ≡ slice_index_or xs i None
    other [] i d less = absurd (omega (arith, less))
    other (x ∷ xs) zero d less = refl
    other (x ∷ xs) (suc i) d less = other xs i d (omega (arith, less))

-- the takes of one stream more
pub takes_next : (m next : Shaped) (streams : List (Option CutStream)) (s : Option CutStream) (i : ℕ) → i < length streams → s ≡ slice_index_or streams i s → next ≡ all_changed (replicate (taken_of s) (taking 0 i 0)) m →
    all_changed (all_takes (i + 1) (drop (i + 1) streams)) next ≡ all_changed (all_takes i (drop i streams)) m
takes_next m next streams s i less here is =
    let after : suc i ≡ i + 1 = omega arith in
    let rest : drop i streams ≡ s ∷ drop (suc i) streams = drop-cons streams i s less ∙ ap (λ l. l ∷ drop (suc i) streams) (sym here) in
    (λ k. all_changed (all_takes (sym after k) (drop (sym after k) streams)) (is k))
    ∙ sym (all_changed-append (replicate (taken_of s) (taking 0 i 0)) (all_takes (suc i) (drop (suc i) streams)) m)
    ∙ ap (λ l. all_changed (all_takes i l) m) (sym rest)
