-- Two owners one after the other may be one, where each one's work mentions none of the other's containers.
use Rattle.std.proofs.Common.{◌≡◌, zero, suc, ℕ, ◌+◌, nat_eq, pos, List, [], ◌∷◌, ◌++◌, Bool, true, false, ◌||◌, if◌then◌else◌, slice_index_or, refl, sym, ◌∙◌, ap, subst, arith, inl, inr}
use Rattle.std.specs.Bool.{⊤}
use Rattle.std.proofs.lemmas.Bool.{cases_Bool}
use Rattle.sd_work.specs.Memory.{Contents, stream, absent, Memory, Memories, elements_of, values_of, look, waiting}
use Rattle.sd_work.specs.Change.{Change, nothing, write, push, take, changed_at, with_elements, with_values, appended, written, without, apply, outer, own_after}
use Rattle.sd_num.specs.declared.width.Width.TheVariants.{W64}
use Rattle.sd_work.specs.Touch.{Touch, reads, writes, pushes, takes, SomePartTouches}
use Rattle.sd_work.proofs.Changes.{apply-own}
use Rattle.sd_graph.specs.ContainerParts.{Containers, opening_contents}
use Rattle.sd_graph.specs.Wiring.{has_number, item_uses}
use Rattle.sd_graph.specs.UseTouch.{touched_level, touched_container, IsOf}
use Rattle.sd_graph.specs.PlainTree.{ItemTrees}
use Rattle.sd_graph.specs.Context.{Reach, Context, own_reach, raised, memory_from, private_memory}
use Rattle.sd_graph.specs.Unfold.{unfold_items}
use Rattle.sd_graph.proofs.Among.{follows}
use Rattle.sd_graph.proofs.ItemTouches.{items_touch}
use Rattle.sd_exchange.proofs.reorder_lemmas.Following.{IsMadeBy, IsBlindTo}

-- ---- memories that agree on some containers

-- where tested the two are equal, elsewhere the second is as it was
abbrev pub AgreesAt : Bool → (first second begin : Contents) → Type 0
AgreesAt true first second begin = first ≡ second
AgreesAt false first second begin = second ≡ begin

abbrev pub Agree : (test : ℕ → Bool) → (number : ℕ) → (first second begin : Memory) → Type 0
Agree test number [] [] [] = ⊤
Agree test number [] [] (x ∷ e) = ⊥
Agree test number [] (d ∷ n) e = ⊥
Agree test number (c ∷ m) [] e = ⊥
Agree test number (c ∷ m) (d ∷ n) [] = ⊥
Agree test number (c ∷ m) (d ∷ n) (x ∷ e) = AgreesAt (test number) c d x × Agree test (suc number) m n e

agrees-true : (b : Bool) (c d x : Contents) → b ≡ true → AgreesAt b c d x → c ≡ d
agrees-true true c d x e h = h
agrees-true false c d x e h = cc

true-agrees : (b : Bool) (c d x : Contents) → b ≡ true → c ≡ d → AgreesAt b c d x
true-agrees true c d x e h = h
true-agrees false c d x e h = cc

tested-next : (test : ℕ → Bool) (number k : ℕ) → test (number + suc k) ≡ true → test (suc number + k) ≡ true
tested-next test number k h = let same : suc number + k ≡ number + suc k = omega arith in ap test same ∙ h

tested-here : (test : ℕ → Bool) (number : ℕ) → test (number + 0) ≡ true → test number ≡ true
tested-here test number h = let same : number ≡ number + 0 = omega arith in ap test same ∙ h

agree-at : (test : ℕ → Bool) (number k : ℕ) → test (number + k) ≡ true → (m n e : Memory) → Agree test number m n e → slice_index_or m k (stream W64 []) ≡ slice_index_or n k (stream W64 [])
agree-at test number k t [] [] [] h = refl
agree-at test number k t [] [] (x ∷ e) h = elim h [ ]
agree-at test number k t [] (d ∷ n) e h = elim h [ ]
agree-at test number k t (c ∷ m) [] e h = elim h [ ]
agree-at test number k t (c ∷ m) (d ∷ n) [] h = elim h [ ]
agree-at test number zero t (c ∷ m) (d ∷ n) (x ∷ e) h = agrees-true (test number) c d x (tested-here test number t) h.0
agree-at test number (suc k) t (c ∷ m) (d ∷ n) (x ∷ e) h = agree-at test (suc number) k (tested-next test number k t) m n e h.1

agree-changed : (test : ℕ → Bool) (number k : ℕ) → test (number + k) ≡ true → (f : Contents → Contents) (m n e : Memory) → Agree test number m n e → Agree test number (changed_at k f m) (changed_at k f n) e
agree-changed test number k t f [] [] [] h = tt
agree-changed test number k t f [] [] (x ∷ e) h = elim h [ ]
agree-changed test number k t f [] (d ∷ n) e h = elim h [ ]
agree-changed test number k t f (c ∷ m) [] e h = elim h [ ]
agree-changed test number k t f (c ∷ m) (d ∷ n) [] h = elim h [ ]
agree-changed test number zero t f (c ∷ m) (d ∷ n) (x ∷ e) h =
    let here = tested-here test number t in (true-agrees (test number) (f c) (f d) x here (ap f (agrees-true (test number) c d x here h.0)), h.1)
agree-changed test number (suc k) t f (c ∷ m) (d ∷ n) (x ∷ e) h = (h.0, agree-changed test (suc number) k (tested-next test number k t) f m n e h.1)

-- ---- stacks whose innermost memories do

abbrev pub Owned : (test : ℕ → Bool) → (begin : Memory) → Memories → Memories → Type 0
Owned test begin [] u = ⊥
Owned test begin (m ∷ s) [] = ⊥
Owned test begin (m ∷ s) (n ∷ u) = Agree test 0 m n begin × (s ≡ u)

-- of the innermost memory only tested containers are touched
abbrev pub TouchesTested : (test : ℕ → Bool) → (Touch → Type 0) → Type 0
TouchesTested test T = (touch : Touch) → T touch → touched_level touch ≡ 0 → test (touched_container touch) ≡ true

zero-plus : (test : ℕ → Bool) (k : ℕ) → test k ≡ true → test (0 + k) ≡ true
zero-plus test k h = let same : 0 + k ≡ k = omega arith in ap test same ∙ h

owned-reads : (test : ℕ → Bool) (begin : Memory) (T : Touch → Type 0) → TouchesTested test T → (l k p : ℕ) → T (reads (record { level = l; container = k; element = p })) → (s u : Memories) → Owned test begin s u →
    look (record { level = l; container = k; element = p }) s ≡ look (record { level = l; container = k; element = p }) u
owned-reads test begin T h l k p t [] u r = elim r [ ]
owned-reads test begin T h l k p t (m ∷ s) [] r = elim r [ ]
owned-reads test begin T h zero k p t (m ∷ s) (n ∷ u) r = ap (λ c. slice_index_or (elements_of c) p (pos 0)) (agree-at test 0 k (zero-plus test k (h (reads (record { level = 0; container = k; element = p })) t refl)) m n begin r.0)
owned-reads test begin T h (suc l) k p t (m ∷ s) (n ∷ u) r = ap (look (record { level = l; container = k; element = p })) r.1

owned-takes : (test : ℕ → Bool) (begin : Memory) (T : Touch → Type 0) → TouchesTested test T → (l k : ℕ) → T (takes l k) → (s u : Memories) → Owned test begin s u → waiting l k s ≡ waiting l k u
owned-takes test begin T h l k t [] u r = elim r [ ]
owned-takes test begin T h l k t (m ∷ s) [] r = elim r [ ]
owned-takes test begin T h zero k t (m ∷ s) (n ∷ u) r = ap values_of (agree-at test 0 k (zero-plus test k (h (takes 0 k) t refl)) m n begin r.0)
owned-takes test begin T h (suc l) k t (m ∷ s) (n ∷ u) r = ap (waiting l k) r.1

own-changed : (test : ℕ → Bool) (begin : Memory) (T : Touch → Type 0) → TouchesTested test T → (c : Change) → IsMadeBy T c → (m n : Memory) → Agree test 0 m n begin → Agree test 0 (own_after c m) (own_after c n) begin
own-changed test begin T h nothing t m n a = a
own-changed test begin T h (write to by value) t m n a = at_level to.level to.container to.element t
  where
    at_level : (l k p : ℕ) → T (writes (record { level = l; container = k; element = p }) by) →
        Agree test 0 (own_after (write (record { level = l; container = k; element = p }) by value) m) (own_after (write (record { level = l; container = k; element = p }) by value) n) begin
    at_level zero k p t = agree-changed test 0 k (zero-plus test k (h (writes (record { level = 0; container = k; element = p }) by) t refl)) (with_elements (λ width. changed_at p (written width by value))) m n begin a
    at_level (suc l) k p t = a
own-changed test begin T h (push zero k value) t m n a = agree-changed test 0 k (zero-plus test k (h (pushes 0 k) t refl)) (with_values (appended value)) m n begin a
own-changed test begin T h (push (suc l) k value) t m n a = a
own-changed test begin T h (take zero k position) t m n a = agree-changed test 0 k (zero-plus test k (h (takes 0 k) t refl)) (with_values (λ width. without position)) m n begin a
own-changed test begin T h (take (suc l) k position) t m n a = a

owned-stays : (test : ℕ → Bool) (begin : Memory) (T : Touch → Type 0) → TouchesTested test T → (c : Change) → IsMadeBy T c → (s u : Memories) → Owned test begin s u → Owned test begin (apply c s) (apply c u)
owned-stays test begin T h c t [] u r = elim r [ ]
owned-stays test begin T h c t (m ∷ s) [] r = elim r [ ]
owned-stays test begin T h c t (m ∷ s) (n ∷ u) r =
    subst (λ x. Owned test begin x (apply c (n ∷ u))) (sym (apply-own c m s))
    (subst (λ x. Owned test begin (own_after c m ∷ apply (outer c) s) x) (sym (apply-own c n u))
    (own-changed test begin T h c t m n r.0, ap (apply (outer c)) r.1))

pub blind-owned : (test : ℕ → Bool) (begin : Memory) (T : Touch → Type 0) → TouchesTested test T → IsBlindTo T (Owned test begin)
blind-owned test begin T h =
    record {
      same_reads = λ from t s u r. owned-reads test begin T h from.level from.container from.element t s u r;
      same_takes = λ l k t s u r. owned-takes test begin T h l k t s u r;
      stay = λ c t s u r. owned-stays test begin T h c t s u r;
    }

-- ---- what work in an owner touches of its memory is private to it

pub touches-private : (items : ItemTrees) (own : List ℕ) (context : Context) (reach : ℕ → Reach) → ((number : ℕ) → context.reach number ≡ (if has_number own number then own_reach context.containers number else raised (reach number))) →
    TouchesTested (has_number own) (SomePartTouches (unfold_items items context))
touches-private items own context reach reached touch is none =
    follows (IsOf context touch) (item_uses items context.containers)
    (λ use' of. (
    let number = use'.container in
    elim (cases_Bool (has_number own number)) [
      | inl held ↦
          (let same : context.reach number ≡ own_reach context.containers number = reached number ∙ ap (λ b. if b then own_reach context.containers number else raised (reach number)) held in
          let container : number ≡ touched_container touch = sym (ap (λ (r : Reach). r.container) same) ∙ of.place.1 in
          sym (ap (has_number own) container) ∙ held)
      | inr free ↦
          (let same : context.reach number ≡ raised (reach number) = reached number ∙ ap (λ b. if b then own_reach context.containers number else raised (reach number)) free in
          let level : suc (reach number).level ≡ 0 = sym (ap (λ (r : Reach). r.level) same) ∙ (of.place.0 ∙ none) in
          absurd (omega (arith, level)))
    ]))
    (items_touch items context touch is)

-- ---- private memories

pub has-both : (own others : List ℕ) (number : ℕ) → has_number (own ++ others) number ≡ (has_number own number || has_number others number)
has-both [] others number = refl
has-both (k ∷ own) others number = ap (λ b. nat_eq number k || b) (has-both own others number) ∙ or-assoc (nat_eq number k) (has_number own number) (has_number others number)
  where
    or-assoc : (a b c : Bool) → (a || (b || c)) ≡ ((a || b) || c)
    or-assoc true b c = refl
    or-assoc false b c = refl

first-memory : (own others : List ℕ) (number : ℕ) (containers : Containers) →
    (let both = memory_from (λ number kind. has_number (own ++ others) number) number containers in Agree (has_number own) number (memory_from (λ number kind. has_number own number) number containers) both both)
first-memory own others number [] = tt
first-memory own others number (entry ∷ entries) = (go (has_number own number) (has_number (own ++ others) number) (has-both own others number), first-memory own others (suc number) entries)
  where
    go : (a b : Bool) → b ≡ (a || has_number others number) → (let x = (if b then opening_contents entry.1 else absent) in AgreesAt a (if a then opening_contents entry.1 else absent) x x)
    go true b e = ap (λ b. if b then opening_contents entry.1 else absent) (sym e)
    go false b e = refl

second-memory : (own others : List ℕ) → ((k : ℕ) → has_number others k ≡ true → has_number own k ≡ false) → (number : ℕ) (containers : Containers) (m n : Memory) →
    Agree (has_number own) number m n (memory_from (λ number kind. has_number (own ++ others) number) number containers) → Agree (has_number others) number (memory_from (λ number kind. has_number others number) number containers) n n
second-memory own others apart number [] [] [] h = tt
second-memory own others apart number [] [] (d ∷ n) h = elim h [ ]
second-memory own others apart number [] (c ∷ m) [] h = elim h [ ]
second-memory own others apart number [] (c ∷ m) (d ∷ n) h = elim h [ ]
second-memory own others apart number (entry ∷ entries) [] [] h = elim h [ ]
second-memory own others apart number (entry ∷ entries) [] (d ∷ n) h = elim h [ ]
second-memory own others apart number (entry ∷ entries) (c ∷ m) [] h = elim h [ ]
second-memory own others apart number (entry ∷ entries) (c ∷ m) (d ∷ n) h = (
  go (has_number own number) (has_number others number) (has_number (own ++ others) number) (has-both own others number) (apart number) h.0,
  second-memory own others apart (suc number) entries m n h.1,
)
  where
    go : (a b both : Bool) → both ≡ (a || b) → (b ≡ true → a ≡ false) → AgreesAt a c d (if both then opening_contents entry.1 else absent) → AgreesAt b (if b then opening_contents entry.1 else absent) d d
    go true true both e f h = let no : true ≡ false = f refl in cc
    go false true both e f h = sym (h ∙ ap (λ b. if b then opening_contents entry.1 else absent) e)
    go true false both e f h = refl
    go false false both e f h = refl

-- the first owner's memory agrees with the common one on its containers
pub owned-first : (own others : List ℕ) (containers : Containers) (s : Memories) → Owned (has_number own) (private_memory containers (own ++ others)) (private_memory containers own ∷ s) (private_memory containers (own ++ others) ∷ s)
owned-first own others containers s = (first-memory own others 0 containers, refl)

-- and once its work is done the second one's does
pub owned-second : (own others : List ℕ) → ((k : ℕ) → has_number others k ≡ true → has_number own k ≡ false) → (containers : Containers) (m n : Memory) (s : Memories) → Agree (has_number own) 0 m n (private_memory containers (own ++ others)) →
    Owned (has_number others) n (private_memory containers others ∷ s) (n ∷ s)
owned-second own others apart containers m n s h = (second-memory own others apart 0 containers m n h, refl)
