-- Stacks of memories that are equal but for the order of some streams.
use Rattle.std.proofs.Common.{◌≡◌, ℕ, zero, suc, List, [], ◌∷◌, ℤ, pos, cond, slice_index_or, refl, sym, ◌∙◌, ap, inl, inr, ◌⊎◌}
use Rattle.std.specs.Bool.{⊤}
use Rattle.std.specs.Ordering.{int_eq}
use Rattle.sd_num.specs.Width.{wrapped_to}
use Rattle.sd_num.specs.declared.width.Width.{Width}
use Rattle.sd_num.specs.declared.width.Width.TheVariants.{W64}
use Rattle.sd_work.specs.Memory.{Contents, array, stream, Memory, Memories, Reference, elements_of, values_of, contents_of, look, waiting}
use Rattle.sd_work.specs.Change.{Change, nothing, write, push, take, written, changed_at, without, with_elements, with_values, with_contents, appended, apply}
use Rattle.sd_confluence.specs.Alike.{how_often, HoldAlike, AreContentsAlike, AreAlike, AreStacksAlike}
use Rattle.sd_confluence.proofs.bags.Values.{count-last}

-- equal, or streams of which the order is free with the same values
abbrev pub ContentsNear : Type 0 → Contents → Contents → Type 0
ContentsNear free (array xw xs) (array yw ys) = (xw ≡ yw) × (xs ≡ ys)
ContentsNear free (array xw xs) (stream yw ys) = ⊥
ContentsNear free (stream xw xs) (array yw ys) = ⊥
ContentsNear free (stream xw xs) (stream yw ys) = (xw ≡ yw) × ((xs ≡ ys) ⊎ (free × HoldAlike xs ys))

abbrev pub MemoryNear : (ℕ → Type 0) → Memory → Memory → Type 0
MemoryNear free [] [] = ⊤
MemoryNear free [] (d ∷ n) = ⊥
MemoryNear free (c ∷ m) [] = ⊥
MemoryNear free (c ∷ m) (d ∷ n) = ContentsNear (free 0) c d × MemoryNear (λ k. free (suc k)) m n

abbrev pub StackNear : (ℕ → ℕ → Type 0) → Memories → Memories → Type 0
StackNear free [] [] = ⊤
StackNear free [] (n ∷ u) = ⊥
StackNear free (m ∷ s) [] = ⊥
StackNear free (m ∷ s) (n ∷ u) = MemoryNear (free 0) m n × StackNear (λ l. free (suc l)) s u

-- ---- an equivalence

pub same-contents : (free : Type 0) (c : Contents) → ContentsNear free c c
same-contents free (array xw xs) = (refl, refl)
same-contents free (stream xw xs) = (refl, inl refl)

pub same-memory : (free : ℕ → Type 0) (m : Memory) → MemoryNear free m m
same-memory free [] = tt
same-memory free (c ∷ m) = (same-contents (free 0) c, same-memory (λ k. free (suc k)) m)

pub same-stack : (free : ℕ → ℕ → Type 0) (s : Memories) → StackNear free s s
same-stack free [] = tt
same-stack free (m ∷ s) = (same-memory (free 0) m, same-stack (λ l. free (suc l)) s)

back_contents : (free : Type 0) (c d : Contents) → ContentsNear free c d → ContentsNear free d c
back_contents free (array xw xs) (array yw ys) h = (sym h.0, sym h.1)
back_contents free (array xw xs) (stream yw ys) h = elim h [ ]
back_contents free (stream xw xs) (array yw ys) h = elim h [ ]
back_contents free (stream xw xs) (stream yw ys) (w, inl h) = (sym w, inl (sym h))
back_contents free (stream xw xs) (stream yw ys) (w, inr h) = (sym w, inr (h.0, λ v. sym (h.1 v)))

back_memory : (free : ℕ → Type 0) (m n : Memory) → MemoryNear free m n → MemoryNear free n m
back_memory free [] [] h = tt
back_memory free [] (d ∷ n) h = elim h [ ]
back_memory free (c ∷ m) [] h = elim h [ ]
back_memory free (c ∷ m) (d ∷ n) h = (back_contents (free 0) c d h.0, back_memory (λ k. free (suc k)) m n h.1)

pub back-stack : (free : ℕ → ℕ → Type 0) (s u : Memories) → StackNear free s u → StackNear free u s
back-stack free [] [] h = tt
back-stack free [] (n ∷ u) h = elim h [ ]
back-stack free (m ∷ s) [] h = elim h [ ]
back-stack free (m ∷ s) (n ∷ u) h = (back_memory (free 0) m n h.0, back-stack (λ l. free (suc l)) s u h.1)

on_contents : (free : Type 0) (c d e : Contents) → ContentsNear free c d → ContentsNear free d e → ContentsNear free c e
on_contents free (array xw xs) (array yw ys) (array zw zs) h g = (h.0 ∙ g.0, h.1 ∙ g.1)
on_contents free (array xw xs) (array yw ys) (stream zw zs) h g = elim g [ ]
on_contents free (array xw xs) (stream yw ys) e h g = elim h [ ]
on_contents free (stream xw xs) (array yw ys) e h g = elim h [ ]
on_contents free (stream xw xs) (stream yw ys) (array zw zs) h g = elim g [ ]
on_contents free (stream xw xs) (stream yw ys) (stream zw zs) (w, inl h) (u, inl g) = (w ∙ u, inl (h ∙ g))
on_contents free (stream xw xs) (stream yw ys) (stream zw zs) (w, inl h) (u, inr g) = (w ∙ u, inr (g.0, λ v. ap (λ w. how_often w v) h ∙ g.1 v))
on_contents free (stream xw xs) (stream yw ys) (stream zw zs) (w, inr h) (u, inl g) = (w ∙ u, inr (h.0, λ v. h.1 v ∙ ap (λ w. how_often w v) g))
on_contents free (stream xw xs) (stream yw ys) (stream zw zs) (w, inr h) (u, inr g) = (w ∙ u, inr (h.0, λ v. h.1 v ∙ g.1 v))

on_memory : (free : ℕ → Type 0) (m n o : Memory) → MemoryNear free m n → MemoryNear free n o → MemoryNear free m o
on_memory free [] [] [] h g = tt
on_memory free [] [] (e ∷ o) h g = elim g [ ]
on_memory free [] (d ∷ n) o h g = elim h [ ]
on_memory free (c ∷ m) [] o h g = elim h [ ]
on_memory free (c ∷ m) (d ∷ n) [] h g = elim g [ ]
on_memory free (c ∷ m) (d ∷ n) (e ∷ o) h g = (on_contents (free 0) c d e h.0 g.0, on_memory (λ k. free (suc k)) m n o h.1 g.1)

pub on-stack : (free : ℕ → ℕ → Type 0) (s u v : Memories) → StackNear free s u → StackNear free u v → StackNear free s v
on-stack free [] [] [] h g = tt
on-stack free [] [] (o ∷ v) h g = elim g [ ]
on-stack free [] (n ∷ u) v h g = elim h [ ]
on-stack free (m ∷ s) [] v h g = elim h [ ]
on-stack free (m ∷ s) (n ∷ u) [] h g = elim g [ ]
on-stack free (m ∷ s) (n ∷ u) (o ∷ v) h g = (on_memory (free 0) m n o h.0 g.0, on-stack (λ l. free (suc l)) s u v h.1 g.1)

-- ---- where more streams are free

more_contents : (free other : Type 0) → (free → other) → (c d : Contents) → ContentsNear free c d → ContentsNear other c d
more_contents free other f (array xw xs) (array yw ys) h = h
more_contents free other f (array xw xs) (stream yw ys) h = elim h [ ]
more_contents free other f (stream xw xs) (array yw ys) h = elim h [ ]
more_contents free other f (stream xw xs) (stream yw ys) (w, inl h) = (w, inl h)
more_contents free other f (stream xw xs) (stream yw ys) (w, inr h) = (w, inr (f h.0, h.1))

more_memory : (free other : ℕ → Type 0) → ((k : ℕ) → free k → other k) → (m n : Memory) → MemoryNear free m n → MemoryNear other m n
more_memory free other f [] [] h = tt
more_memory free other f [] (d ∷ n) h = elim h [ ]
more_memory free other f (c ∷ m) [] h = elim h [ ]
more_memory free other f (c ∷ m) (d ∷ n) h = (more_contents (free 0) (other 0) (f 0) c d h.0, more_memory (λ k. free (suc k)) (λ k. other (suc k)) (λ k. f (suc k)) m n h.1)

pub more-stack : (free other : ℕ → ℕ → Type 0) → ((l k : ℕ) → free l k → other l k) → (s u : Memories) → StackNear free s u → StackNear other s u
more-stack free other f [] [] h = tt
more-stack free other f [] (n ∷ u) h = elim h [ ]
more-stack free other f (m ∷ s) [] h = elim h [ ]
more-stack free other f (m ∷ s) (n ∷ u) h = (more_memory (free 0) (other 0) (f 0) m n h.0, more-stack (λ l. free (suc l)) (λ l. other (suc l)) (λ l. f (suc l)) s u h.1)

-- ---- what is seen

contents_in : (free : ℕ → Type 0) (k : ℕ) (m n : Memory) → MemoryNear free m n → ContentsNear (free k) (slice_index_or m k (stream W64 [])) (slice_index_or n k (stream W64 []))
contents_in free k [] [] h = (refl, inl refl)
contents_in free k [] (d ∷ n) h = elim h [ ]
contents_in free k (c ∷ m) [] h = elim h [ ]
contents_in free zero (c ∷ m) (d ∷ n) h = h.0
contents_in free (suc k) (c ∷ m) (d ∷ n) h = contents_in (λ k. free (suc k)) k m n h.1

pub contents-near : (free : ℕ → ℕ → Type 0) (l k : ℕ) (s u : Memories) → StackNear free s u → ContentsNear (free l k) (contents_of l k s) (contents_of l k u)
contents-near free l k [] [] h = (refl, inl refl)
contents-near free l k [] (n ∷ u) h = elim h [ ]
contents-near free l k (m ∷ s) [] h = elim h [ ]
contents-near free zero k (m ∷ s) (n ∷ u) h = contents_in (free 0) k m n h.0
contents-near free (suc l) k (m ∷ s) (n ∷ u) h = contents-near (λ l. free (suc l)) l k s u h.1

same_elements : (free : Type 0) (c d : Contents) → ContentsNear free c d → elements_of c ≡ elements_of d
same_elements free (array xw xs) (array yw ys) h = h.1
same_elements free (array xw xs) (stream yw ys) h = elim h [ ]
same_elements free (stream xw xs) (array yw ys) h = elim h [ ]
same_elements free (stream xw xs) (stream yw ys) h = refl

same_values : (free : Type 0) → (free → ⊥) → (c d : Contents) → ContentsNear free c d → values_of c ≡ values_of d
same_values free n (array xw xs) (array yw ys) h = refl
same_values free n (array xw xs) (stream yw ys) h = elim h [ ]
same_values free n (stream xw xs) (array yw ys) h = elim h [ ]
same_values free n (stream xw xs) (stream yw ys) (w, inl h) = h
same_values free n (stream xw xs) (stream yw ys) (w, inr h) = elim (n h.0) [ ]

as_often : (free : Type 0) (c d : Contents) → ContentsNear free c d → HoldAlike (values_of c) (values_of d)
as_often free (array xw xs) (array yw ys) h v = refl
as_often free (array xw xs) (stream yw ys) h v = elim h [ ]
as_often free (stream xw xs) (array yw ys) h v = elim h [ ]
as_often free (stream xw xs) (stream yw ys) (w, inl h) v = ap (λ w. how_often w v) h
as_often free (stream xw xs) (stream yw ys) (w, inr h) v = h.1 v

pub look-near : (free : ℕ → ℕ → Type 0) (r : Reference) (s u : Memories) → StackNear free s u → look r s ≡ look r u
look-near free r s u h = ap (λ es. slice_index_or es r.element (pos 0)) (same_elements (free r.level r.container) _ _ (contents-near free r.level r.container s u h))

pub waiting-near : (free : ℕ → ℕ → Type 0) (l k : ℕ) → (free l k → ⊥) → (s u : Memories) → StackNear free s u → waiting l k s ≡ waiting l k u
waiting-near free l k n s u h = same_values (free l k) n _ _ (contents-near free l k s u h)

pub waiting-alike : (free : ℕ → ℕ → Type 0) (l k : ℕ) (s u : Memories) → StackNear free s u → HoldAlike (waiting l k s) (waiting l k u)
waiting-alike free l k s u h = as_often (free l k) _ _ (contents-near free l k s u h)

-- ---- what is changed

memory_changed : (free : ℕ → Type 0) (k : ℕ) (f g : Contents → Contents) → ((c d : Contents) → ContentsNear (free k) c d → ContentsNear (free k) (f c) (g d)) → (m n : Memory) → MemoryNear free m n → MemoryNear free (changed_at k f m) (changed_at k g n)
memory_changed free k f g q [] [] h = tt
memory_changed free k f g q [] (d ∷ n) h = elim h [ ]
memory_changed free k f g q (c ∷ m) [] h = elim h [ ]
memory_changed free zero f g q (c ∷ m) (d ∷ n) h = (q c d h.0, h.1)
memory_changed free (suc k) f g q (c ∷ m) (d ∷ n) h = (h.0, memory_changed (λ k. free (suc k)) k f g q m n h.1)

pub stack-changed : (free : ℕ → ℕ → Type 0) (l k : ℕ) (f g : Contents → Contents) → ((c d : Contents) → ContentsNear (free l k) c d → ContentsNear (free l k) (f c) (g d)) → (s u : Memories) → StackNear free s u → StackNear free (with_contents l k f s) (with_contents l k g u)
stack-changed free l k f g q [] [] h = tt
stack-changed free l k f g q [] (n ∷ u) h = elim h [ ]
stack-changed free l k f g q (m ∷ s) [] h = elim h [ ]
stack-changed free zero k f g q (m ∷ s) (n ∷ u) h = (memory_changed (free 0) k f g q m n h.0, h.1)
stack-changed free (suc l) k f g q (m ∷ s) (n ∷ u) h = (h.0, stack-changed (λ l. free (suc l)) l k f g q s u h.1)

elements_changed : (free : Type 0) (f : Width → List ℤ → List ℤ) (c d : Contents) → ContentsNear free c d → ContentsNear free (with_elements f c) (with_elements f d)
elements_changed free f (array xw xs) (array yw ys) h = (h.0, (λ i. f (h.0 i) (h.1 i)))
elements_changed free f (array xw xs) (stream yw ys) h = elim h [ ]
elements_changed free f (stream xw xs) (array yw ys) h = elim h [ ]
elements_changed free f (stream xw xs) (stream yw ys) h = h

pushed_near : (free : Type 0) (v : ℤ) (c d : Contents) → ContentsNear free c d → ContentsNear free (with_values (appended v) c) (with_values (appended v) d)
pushed_near free v (array xw xs) (array yw ys) h = h
pushed_near free v (array xw xs) (stream yw ys) h = elim h [ ]
pushed_near free v (stream xw xs) (array yw ys) h = elim h [ ]
pushed_near free v (stream xw xs) (stream yw ys) (w, inl h) = (w, inl (λ i. appended v (w i) (h i)))
pushed_near free v (stream xw xs) (stream yw ys) (same, inr h) = (
  same,
  inr (h.0, λ w. count-last xs (wrapped_to xw v) w ∙ (λ i. cond (int_eq (wrapped_to (same i) v) w) (suc (h.1 w i)) (h.1 w i)) ∙ sym (count-last ys (wrapped_to yw v) w)),
)

values_near : (free : Type 0) → (free → ⊥) → (f : Width → List ℤ → List ℤ) (c d : Contents) → ContentsNear free c d → ContentsNear free (with_values f c) (with_values f d)
values_near free n f (array xw xs) (array yw ys) h = h
values_near free n f (array xw xs) (stream yw ys) h = elim h [ ]
values_near free n f (stream xw xs) (array yw ys) h = elim h [ ]
values_near free n f (stream xw xs) (stream yw ys) (w, inl h) = (w, inl (λ i. f (w i) (h i)))
values_near free n f (stream xw xs) (stream yw ys) (w, inr h) = elim (n h.0) [ ]

-- a change takes from no stream of free order
abbrev pub SparesFree : (ℕ → ℕ → Type 0) → Change → Type 0
SparesFree free (take level container position) = free level container → ⊥
SparesFree free change = ⊤

pub change-near : (free : ℕ → ℕ → Type 0) (c : Change) → SparesFree free c → (s u : Memories) → StackNear free s u → StackNear free (apply c s) (apply c u)
change-near free nothing n s u h = h
change-near free (write to by value) n s u h = stack-changed free to.level to.container _ _ (elements_changed (free to.level to.container) (λ width. changed_at to.element (written width by value))) s u h
change-near free (push l k value) n s u h = stack-changed free l k _ _ (pushed_near (free l k) value) s u h
change-near free (take l k position) n s u h = stack-changed free l k _ _ (values_near (free l k) n (λ width. without position)) s u h

-- ---- all streams free

abbrev pub everywhere : ℕ → ℕ → Type 0
everywhere l k = ⊤

-- equal but for the order of streams
abbrev pub Near : Memories → Memories → Type 0
Near s u = StackNear everywhere s u

near_contents : (c d : Contents) → AreContentsAlike c d → ContentsNear ⊤ c d
near_contents (array xw xs) (array yw ys) h = h
near_contents (array xw xs) (stream yw ys) h = elim h [ ]
near_contents (stream xw xs) (array yw ys) h = elim h [ ]
near_contents (stream xw xs) (stream yw ys) h = (h.0, inr (tt, h.1))

alike_contents : (c d : Contents) → ContentsNear ⊤ c d → AreContentsAlike c d
alike_contents (array xw xs) (array yw ys) h = h
alike_contents (array xw xs) (stream yw ys) h = elim h [ ]
alike_contents (stream xw xs) (array yw ys) h = elim h [ ]
alike_contents (stream xw xs) (stream yw ys) h = (h.0, as_often ⊤ (stream xw xs) (stream yw ys) h)

pub near-memory : (m n : Memory) → AreAlike m n → MemoryNear (λ k. ⊤) m n
near-memory [] [] h = tt
near-memory [] (d ∷ n) h = elim h [ ]
near-memory (c ∷ m) [] h = elim h [ ]
near-memory (c ∷ m) (d ∷ n) h = (near_contents c d h.0, near-memory m n h.1)

pub alike-memory : (m n : Memory) → MemoryNear (λ k. ⊤) m n → AreAlike m n
alike-memory [] [] h = tt
alike-memory [] (d ∷ n) h = elim h [ ]
alike-memory (c ∷ m) [] h = elim h [ ]
alike-memory (c ∷ m) (d ∷ n) h = (alike_contents c d h.0, alike-memory m n h.1)

pub near-stack : (s u : Memories) → AreStacksAlike s u → StackNear (λ l k. ⊤) s u
near-stack [] [] h = tt
near-stack [] (n ∷ u) h = elim h [ ]
near-stack (m ∷ s) [] h = elim h [ ]
near-stack (m ∷ s) (n ∷ u) h = (near-memory m n h.0, near-stack s u h.1)

pub alike-stack : (s u : Memories) → StackNear (λ l k. ⊤) s u → AreStacksAlike s u
alike-stack [] [] h = tt
alike-stack [] (n ∷ u) h = elim h [ ]
alike-stack (m ∷ s) [] h = elim h [ ]
alike-stack (m ∷ s) (n ∷ u) h = (alike-memory m n h.0, alike-stack s u h.1)
