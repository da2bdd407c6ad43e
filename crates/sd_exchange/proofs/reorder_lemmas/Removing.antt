-- A value taken out of a stream, at whatever position it stands.
use Rattle.std.proofs.Common.{◌≡◌, ℕ, zero, suc, List, [], ◌∷◌, ◌++◌, Some, ℤ, Bool, true, false, cond, slice_get, slice_index_or, refl, sym, ◌∙◌, ap, subst, arith, inl, inr, ◌⊎◌}
use Rattle.std.specs.Bool.{⊤}
use Rattle.std.specs.Ordering.{int_eq}
use Rattle.sd_num.specs.Width.{wrapped_to}
use Rattle.sd_num.specs.declared.width.Width.TheVariants.{W64}
use Rattle.sd_work.specs.Memory.{Contents, array, stream, Memory, Memories, values_of, contents_of, waiting}
use Rattle.sd_work.specs.Change.{Change, nothing, write, push, take, changed_at, without, with_values, with_contents, appended, apply}
use Rattle.sd_work.specs.Harmless.{AreTwo}
use Rattle.sd_work.specs.Touch.{Touch, takes}
use Rattle.sd_work.proofs.Changes.{apply-apply, look-apply, waiting-apply}
use Rattle.sd_confluence.specs.Alike.{how_often, HoldAlike}
use Rattle.sd_confluence.proofs.bags.Values.{same-true, same-false, waits, count-without}
use Rattle.sd_exchange.proofs.reorder_lemmas.Following.{IsMadeBy, IsBlindTo}
use Rattle.sd_exchange.proofs.reorder_lemmas.Nearly.{ContentsNear, MemoryNear, same-contents, same-memory, same-stack, on-stack, look-near, change-near, everywhere, Near}
use Rattle.sd_exchange.proofs.reorder_lemmas.Passing.{decide-nat, equal-near}

-- ---- lists

-- a value that stands in a list stands at a position of it
pub stands : (xs : List ℤ) (v : ℤ) (n : ℕ) → how_often xs v ≡ suc n → (p : ℕ) × (slice_get xs p ≡ Some v)
stands [] v n e = cc
stands (x ∷ xs) v n e = go (int_eq x v) refl e (λ n e. stands xs v n e)
  where
    go : (b : Bool) → int_eq x v ≡ b → cond b (suc (how_often xs v)) (how_often xs v) ≡ suc n → ((n : ℕ) → how_often xs v ≡ suc n → (p : ℕ) × (slice_get xs p ≡ Some v)) → (p : ℕ) × (slice_get (x ∷ xs) p ≡ Some v)
    go true q e rest = (0, ap Some (same-true x v q))
    go false q e rest = let r = rest n e in (suc r.0, r.1)

-- it stands in each list that holds alike
pub stands-alike : (xs ys : List ℤ) (p : ℕ) (v : ℤ) → HoldAlike xs ys → slice_get xs p ≡ Some v → (q : ℕ) × (slice_get ys q ≡ Some v)
stands-alike xs ys p v h e = let w = waits xs p v e in stands ys v w.0 (sym (h v) ∙ w.1)

-- another value stays
pub stands-without : (xs : List ℤ) (p q : ℕ) (v w : ℤ) → (v ≡ w → ⊥) → slice_get xs p ≡ Some v → slice_get xs q ≡ Some w → (o : ℕ) × (slice_get (without p xs) o ≡ Some w)
stands-without xs p q v w n e f =
    let a = waits xs q w f in
    let c = count-without p xs v w e in
    let b : how_often (v ∷ []) w ≡ 0 = ap (λ b. cond b 1 0) (same-false v w n) in
    let s : how_often (without p xs) w ≡ suc a.0 = (let d = a.1 in omega (arith, c, b, d)) in
    stands (without p xs) w a.0 s

pub without-last : (xs : List ℤ) (p : ℕ) (v w : ℤ) → slice_get xs p ≡ Some v → without p xs ++ w ∷ [] ≡ without p (xs ++ w ∷ [])
without-last [] p v w e = cc
without-last (x ∷ xs) zero v w e = refl
without-last (x ∷ xs) (suc p) v w e = ap (λ ys. x ∷ ys) (without-last xs p v w e)

pub get-last : (xs : List ℤ) (p : ℕ) (v w : ℤ) → slice_get xs p ≡ Some v → slice_get (xs ++ w ∷ []) p ≡ Some v
get-last [] p v w e = cc
get-last (x ∷ xs) zero v w e = e
get-last (x ∷ xs) (suc p) v w e = get-last xs p v w e

-- ---- one container of a stack

in_memory : (k : ℕ) (f : Contents → Contents) (m : Memory) → (slice_index_or (changed_at k f m) k (stream W64 []) ≡ f (slice_index_or m k (stream W64 []))) ⊎ ((slice_index_or (changed_at k f m) k (stream W64 []) ≡ stream W64 []) × (slice_index_or m k (stream W64 []) ≡ stream W64 []))
in_memory k f [] = inr (refl, refl)
in_memory zero f (c ∷ m) = inl refl
in_memory (suc k) f (c ∷ m) = in_memory k f m

-- a container that is changed, or one that is not there
pub contents-changed : (l k : ℕ) (f : Contents → Contents) (s : Memories) → (contents_of l k (with_contents l k f s) ≡ f (contents_of l k s)) ⊎ ((contents_of l k (with_contents l k f s) ≡ stream W64 []) × (contents_of l k s ≡ stream W64 []))
contents-changed l k f [] = inr (refl, refl)
contents-changed zero k f (m ∷ s) = in_memory k f m
contents-changed (suc l) k f (m ∷ s) = contents-changed l k f s

-- what waits once a position is taken
pub waiting-taken : (l k p : ℕ) (s : Memories) → waiting l k (apply (take l k p) s) ≡ without p (waiting l k s)
waiting-taken l k p s = go (contents-changed l k (with_values (λ width. without p)) s)
  where
    inside : (c : Contents) → values_of (with_values (λ width. without p) c) ≡ without p (values_of c)
    inside (array xw xs) = refl
    inside (stream xw xs) = refl

    go : (contents_of l k (apply (take l k p) s) ≡ with_values (λ width. without p) (contents_of l k s)) ⊎ ((contents_of l k (apply (take l k p) s) ≡ stream W64 []) × (contents_of l k s ≡ stream W64 [])) → waiting l k (apply (take l k p) s) ≡ without p (waiting l k s)
    go (inl e) = ap values_of e ∙ inside (contents_of l k s)
    go (inr (e, f)) = ap values_of e ∙ sym (ap (λ c. without p (values_of c)) f)

-- a value stays at its position when another one is pushed
pub get-pushed : (l k p : ℕ) (v x : ℤ) (s : Memories) → slice_get (waiting l k s) p ≡ Some v → slice_get (waiting l k (apply (push l k x) s)) p ≡ Some v
get-pushed l k p v x s e = go (contents-changed l k (with_values (appended x)) s)
  where
    inside : (c : Contents) → slice_get (values_of c) p ≡ Some v → slice_get (values_of (with_values (appended x) c)) p ≡ Some v
    inside (array xw xs) e = cc
    inside (stream xw xs) e = get-last xs p v (wrapped_to xw x) e

    go : (contents_of l k (apply (push l k x) s) ≡ with_values (appended x) (contents_of l k s)) ⊎ ((contents_of l k (apply (push l k x) s) ≡ stream W64 []) × (contents_of l k s ≡ stream W64 [])) → slice_get (waiting l k (apply (push l k x) s)) p ≡ Some v
    go (inl q) = ap (λ c. slice_get (values_of c) p) q ∙ inside (contents_of l k s) e
    go (inr (q, o)) = let n : slice_get (values_of (stream W64 [])) p ≡ Some v = sym (ap (λ c. slice_get (values_of c) p) o) ∙ e in cc

-- ---- the same container of one stack, changed in two ways

memory_ways : (k : ℕ) (f g : Contents → Contents) (m : Memory) → (let c = slice_index_or m k (stream W64 []) in ContentsNear ⊤ (f c) (g c)) → MemoryNear (λ k. ⊤) (changed_at k f m) (changed_at k g m)
memory_ways k f g [] h = tt
memory_ways zero f g (c ∷ m) h = (h, same-memory (λ k. ⊤) m)
memory_ways (suc k) f g (c ∷ m) h = (same-contents ⊤ c, memory_ways k f g m h)

stack_ways : (l k : ℕ) (f g : Contents → Contents) (s : Memories) → (let c = contents_of l k s in ContentsNear ⊤ (f c) (g c)) → Near (with_contents l k f s) (with_contents l k g s)
stack_ways l k f g [] h = tt
stack_ways zero k f g (m ∷ s) h = (memory_ways k f g m h, same-stack everywhere s)
stack_ways (suc l) k f g (m ∷ s) h = (same-memory (λ k. ⊤) m, stack_ways l k f g s h)

twice_in : (k : ℕ) (f g : Contents → Contents) (m : Memory) → changed_at k f (changed_at k g m) ≡ changed_at k (λ c. f (g c)) m
twice_in k f g [] = refl
twice_in zero f g (c ∷ m) = refl
twice_in (suc k) f g (c ∷ m) = ap (λ n. c ∷ n) (twice_in k f g m)

twice : (l k : ℕ) (f g : Contents → Contents) (s : Memories) → with_contents l k f (with_contents l k g s) ≡ with_contents l k (λ c. f (g c)) s
twice l k f g [] = refl
twice zero k f g (m ∷ s) = ap (λ n. n ∷ s) (twice_in k f g m)
twice (suc l) k f g (m ∷ s) = ap (λ u. m ∷ u) (twice l k f g s)

-- one value, from two positions of one stack
pub taken-ways : (l k p q : ℕ) (v : ℤ) (s : Memories) → slice_get (waiting l k s) p ≡ Some v → slice_get (waiting l k s) q ≡ Some v → Near (apply (take l k p) s) (apply (take l k q) s)
taken-ways l k p q v s e f = stack_ways l k (with_values (λ width. without p)) (with_values (λ width. without q)) s (inside (contents_of l k s) e f)
  where
    inside : (c : Contents) → slice_get (values_of c) p ≡ Some v → slice_get (values_of c) q ≡ Some v → ContentsNear ⊤ (with_values (λ width. without p) c) (with_values (λ width. without q) c)
    inside (array xw xs) e f = (refl, refl)
    inside (stream xw xs) e f = (refl, inr (tt, λ w. (let a = count-without p xs v w e in let b = count-without q xs v w f in omega (arith, a, b))))

-- two values, in either order
pub taken-both : (l k p q i j : ℕ) (v w : ℤ) (s : Memories) → slice_get (waiting l k s) p ≡ Some v → slice_get (without p (waiting l k s)) q ≡ Some w → slice_get (waiting l k s) i ≡ Some w → slice_get (without i (waiting l k s)) j ≡ Some v →
    Near (apply (take l k q) (apply (take l k p) s)) (apply (take l k j) (apply (take l k i) s))
taken-both l k p q i j v w s e f g h =
    subst (λ x. Near x (apply (take l k j) (apply (take l k i) s))) (sym (twice l k (with_values (λ width. without q)) (with_values (λ width. without p)) s))
    (subst (λ x. Near (with_contents l k (λ c. with_values (λ width. without q) (with_values (λ width. without p) c)) s) x) (sym (twice l k (with_values (λ width. without j)) (with_values (λ width. without i)) s))
    (stack_ways l k (λ c. with_values (λ width. without q) (with_values (λ width. without p) c)) (λ c. with_values (λ width. without j) (with_values (λ width. without i) c)) s (inside (contents_of l k s) e f g h)))
  where
    inside : (c : Contents) → slice_get (values_of c) p ≡ Some v → slice_get (without p (values_of c)) q ≡ Some w → slice_get (values_of c) i ≡ Some w → slice_get (without i (values_of c)) j ≡ Some v →
        ContentsNear ⊤ (with_values (λ width. without q) (with_values (λ width. without p) c)) (with_values (λ width. without j) (with_values (λ width. without i) c))
    inside (array xw xs) e f g h = (refl, refl)
    inside (stream xw xs) e f g h = (
      refl,
      inr (
        tt,
        λ x. (
            let a = count-without p xs v x e in let b = count-without q (without p xs) w x f in let c = count-without i xs w x g in let d = count-without j (without i xs) v x h in omega (arith, a, b, c, d)),
      ),
    )

-- ---- one value from alike stacks

memory_at : (k : ℕ) (f g : Contents → Contents) (m n : Memory) →
    (ContentsNear ⊤ (slice_index_or m k (stream W64 [])) (slice_index_or n k (stream W64 [])) → ContentsNear ⊤ (f (slice_index_or m k (stream W64 []))) (g (slice_index_or n k (stream W64 [])))) →
    MemoryNear (λ k. ⊤) m n → MemoryNear (λ k. ⊤) (changed_at k f m) (changed_at k g n)
memory_at k f g [] [] q h = tt
memory_at k f g [] (d ∷ n) q h = elim h [ ]
memory_at k f g (c ∷ m) [] q h = elim h [ ]
memory_at zero f g (c ∷ m) (d ∷ n) q h = (q h.0, h.1)
memory_at (suc k) f g (c ∷ m) (d ∷ n) q h = (h.0, memory_at k f g m n q h.1)

stack_at : (l k : ℕ) (f g : Contents → Contents) (s u : Memories) → (ContentsNear ⊤ (contents_of l k s) (contents_of l k u) → ContentsNear ⊤ (f (contents_of l k s)) (g (contents_of l k u))) → Near s u → Near (with_contents l k f s) (with_contents l k g u)
stack_at l k f g [] [] q h = tt
stack_at l k f g [] (n ∷ u) q h = elim h [ ]
stack_at l k f g (m ∷ s) [] q h = elim h [ ]
stack_at zero k f g (m ∷ s) (n ∷ u) q h = (memory_at k f g m n q h.0, h.1)
stack_at (suc l) k f g (m ∷ s) (n ∷ u) q h = (h.0, stack_at l k f g s u q h.1)

pub taken-near : (l k p q : ℕ) (v : ℤ) (s u : Memories) → slice_get (waiting l k s) p ≡ Some v → slice_get (waiting l k u) q ≡ Some v → Near s u → Near (apply (take l k p) s) (apply (take l k q) u)
taken-near l k p q v s u e f n = stack_at l k (with_values (λ width. without p)) (with_values (λ width. without q)) s u (inside (contents_of l k s) (contents_of l k u) e f) n
  where
    alike : (xs ys : List ℤ) → HoldAlike xs ys → slice_get xs p ≡ Some v → slice_get ys q ≡ Some v → HoldAlike (without p xs) (without q ys)
    alike xs ys h e f w = let a = count-without p xs v w e in let b = count-without q ys v w f in let c = h w in omega (arith, a, b, c)

    inside : (c d : Contents) → slice_get (values_of c) p ≡ Some v → slice_get (values_of d) q ≡ Some v → ContentsNear ⊤ c d → ContentsNear ⊤ (with_values (λ width. without p) c) (with_values (λ width. without q) d)
    inside (array xw xs) (array yw ys) e f h = h
    inside (array xw xs) (stream yw ys) e f h = elim h [ ]
    inside (stream xw xs) (array yw ys) e f h = elim h [ ]
    inside (stream xw xs) (stream yw ys) e f (w, inl h) = (w, inr (tt, alike xs ys (λ w. ap (λ zs. how_often zs w) h) e f))
    inside (stream xw xs) (stream yw ys) e f (w, inr h) = (w, inr (tt, alike xs ys h.1 e f))

-- ---- work that takes nothing does not see that a value is missing

-- the second stack is as the first one without this value
abbrev pub Lacks : (l k : ℕ) → ℤ → Memories → Memories → Type 0
Lacks l k v s u = (p : ℕ) × (slice_get (waiting l k s) p ≡ Some v) × Near u (apply (take l k p) s)

pub blind-lack : (T : Touch → Type 0) → ((m j : ℕ) → T (takes m j) → ⊥) → (l k : ℕ) (v : ℤ) → IsBlindTo T (Lacks l k v)
blind-lack T none l k v =
    record {
      same_reads = λ from t s u r. sym (look-near everywhere from u (apply (take l k r.0) s) r.2 ∙ look-apply from (take l k r.0) tt s);
      same_takes = λ m j t s u r. elim (none m j t) [ ];
      stay = changed;
    }
  where
    changed : (c : Change) → IsMadeBy T c → (s u : Memories) → Lacks l k v s u → Lacks l k v (apply c s) (apply c u)
    changed nothing t s u r = r
    changed (write to by x) t s u (p, e, n) = (
      p,
      ap (λ ws. slice_get ws p) (waiting-apply l k (write to by x) tt s) ∙ e,
      on-stack everywhere _ _ _ (change-near everywhere (write to by x) tt u (apply (take l k p) s) n) (equal-near everywhere _ _ (apply-apply (write to by x) (take l k p) tt s)),
    )
    changed (push m j x) t s u (p, e, n) = go (decide-nat l m) (decide-nat k j)
      where
        pushed : Near (apply (push m j x) u) (apply (push m j x) (apply (take l k p) s))
        pushed = change-near everywhere (push m j x) tt u (apply (take l k p) s) n

        apart : AreTwo l k m j → Lacks l k v (apply (push m j x) s) (apply (push m j x) u)
        apart two = (
          p,
          ap (λ ws. slice_get ws p) (waiting-apply l k (push m j x) two s) ∙ e,
          on-stack everywhere _ _ _ pushed (equal-near everywhere _ _ (apply-apply (push m j x) (take l k p) (λ f g. two (sym f) (sym g)) s)),
        )

        one : (c : Contents) → slice_get (values_of c) p ≡ Some v → ContentsNear ⊤ (with_values (appended x) (with_values (λ width. without p) c)) (with_values (λ width. without p) (with_values (appended x) c))
        one (array xw xs) e = (refl, refl)
        one (stream xw xs) e = (refl, inl (without-last xs p v (wrapped_to xw x) e))

        here : Near (apply (push l k x) (apply (take l k p) s)) (apply (take l k p) (apply (push l k x) s))
        here =
            subst (λ y. Near y (apply (take l k p) (apply (push l k x) s))) (sym (twice l k (with_values (appended x)) (with_values (λ width. without p)) s))
            (subst (λ y. Near (with_contents l k (λ c. with_values (appended x) (with_values (λ width. without p) c)) s) y) (sym (twice l k (with_values (λ width. without p)) (with_values (appended x)) s))
            (stack_ways l k _ _ s (one (contents_of l k s) e)))

        go : (l ≡ m) ⊎ (l ≡ m → ⊥) → (k ≡ j) ⊎ (k ≡ j → ⊥) → Lacks l k v (apply (push m j x) s) (apply (push m j x) u)
        go (inr o) q = apart (λ f g. o f)
        go (inl f) (inr o) = apart (λ f g. o g)
        go (inl f) (inl g) =
            subst (λ m. Lacks l k v (apply (push m j x) s) (apply (push m j x) u)) f
            (subst (λ j. Lacks l k v (apply (push l j x) s) (apply (push l j x) u)) g
            (p, get-pushed l k p v x s e, on-stack everywhere _ _ _ (change-near everywhere (push l k x) tt u (apply (take l k p) s) n) here))
    changed (take m j q) t s u r = elim (none m j t) [ ]
