-- Compatible work passes: what is done first and what is done then may be exchanged.
use Rattle.std.proofs.Common.{◌≡◌, ℕ, zero, suc, pred, List, [], ◌∷◌, ◌++◌, Option, Some, None, ℤ, Bool, true, false, cond, refl, sym, ◌∙◌, ap, subst, inl, inr, ◌⊎◌}
use Rattle.std.specs.Ordering.{int_eq}
use Rattle.sd_num.specs.Width.{wrapped_to}
use Rattle.sd_num.specs.declared.resolution.Resolution.{Resolution}
use Rattle.sd_work.specs.Memory.{Contents, array, stream, Memory, Memories, Reference, look, waiting}
use Rattle.sd_work.specs.Change.{Change, nothing, write, push, take, changed_at, with_values, with_contents, appended, apply}
use Rattle.sd_work.specs.Harmless.{SameCommuting, AreTwo, SparesElement, SparesStream}
use Rattle.sd_num.specs.Resolution.{IsCommuting}
use Rattle.sd_work.specs.Residual.{Term}
use Rattle.sd_work.specs.Touch.{Touch, reads, writes, pushes, takes, AreCompatible, Touches}
use Rattle.sd_work.proofs.Changes.{apply-apply, look-apply, waiting-apply}
use Rattle.sd_confluence.specs.Alike.{how_often}
use Rattle.sd_confluence.specs.Safe.{TouchCompatibly}
use Rattle.sd_confluence.proofs.bags.Values.{count-last}
use Rattle.sd_exchange.proofs.reorder_lemmas.Following.{IsMadeBy, IsBlindTo}
use Rattle.sd_exchange.proofs.reorder_lemmas.Lockstep.{blind-back, apply_all, AreMadeBy, Does, does-follow, does-changes}
use Rattle.sd_exchange.proofs.reorder_lemmas.Nearly.{ContentsNear, MemoryNear, StackNear, same-contents, same-memory, same-stack, back-stack, on-stack, more-stack, look-near, waiting-near, SparesFree, change-near, everywhere, Near}

-- ---- which touches are compatible

abbrev pub AllCompatible : (Touch → Type 0) → (Touch → Type 0) → Type 0
AllCompatible T U = (a b : Touch) → T a → U b → AreCompatible a b

same_commuting : (by other : Option Resolution) → SameCommuting by other → SameCommuting other by
same_commuting None None h = h
same_commuting None (Some q) h = elim h [ ]
same_commuting (Some r) None h = elim h [ ]
same_commuting (Some r) (Some q) h = (sym h.0, subst IsCommuting h.0 h.1)

pub compatible-back : (a b : Touch) → AreCompatible a b → AreCompatible b a
compatible-back (reads r) (reads q) h = tt
compatible-back (reads r) (writes q by) h = λ e. h (sym e)
compatible-back (reads r) (pushes l k) h = tt
compatible-back (reads r) (takes l k) h = tt
compatible-back (writes r by) (reads q) h = λ e. h (sym e)
compatible-back (writes r by) (writes q to) h = λ e. same_commuting by to (h (sym e))
compatible-back (writes r by) (pushes l k) h = tt
compatible-back (writes r by) (takes l k) h = tt
compatible-back (pushes m j) (reads q) h = tt
compatible-back (pushes m j) (writes q by) h = tt
compatible-back (pushes m j) (pushes l k) h = tt
compatible-back (pushes m j) (takes l k) h = λ e f. h (sym e) (sym f)
compatible-back (takes m j) (reads q) h = tt
compatible-back (takes m j) (writes q by) h = tt
compatible-back (takes m j) (pushes l k) h = λ e f. h (sym e) (sym f)
compatible-back (takes m j) (takes l k) h = λ e f. h (sym e) (sym f)

pub all-back : (T U : Touch → Type 0) → AllCompatible T U → AllCompatible U T
all-back T U h a b u t = compatible-back b a (h b a t u)

-- the streams into which both push
abbrev pub Shared : (Touch → Type 0) → (Touch → Type 0) → ℕ → ℕ → Type 0
Shared T U l k = T (pushes l k) × U (pushes l k)

-- ---- two changes

pub decide-nat : (m n : ℕ) → (m ≡ n) ⊎ (m ≡ n → ⊥)
decide-nat zero zero = inl refl
decide-nat zero (suc n) = inr (λ e. cc)
decide-nat (suc m) zero = inr (λ e. cc)
decide-nat (suc m) (suc n) = up (decide-nat m n)
  where
    up : (m ≡ n) ⊎ (m ≡ n → ⊥) → (suc m ≡ suc n) ⊎ (suc m ≡ suc n → ⊥)
    up (inl e) = inl (ap suc e)
    up (inr h) = inr (λ e. h (ap pred e))

memory_both : (free : ℕ → Type 0) (k : ℕ) (f g : Contents → Contents) → ((c : Contents) → ContentsNear (free k) (f (g c)) (g (f c))) → (m : Memory) → MemoryNear free (changed_at k f (changed_at k g m)) (changed_at k g (changed_at k f m))
memory_both free k f g q [] = tt
memory_both free zero f g q (c ∷ m) = (q c, same-memory (λ k. free (suc k)) m)
memory_both free (suc k) f g q (c ∷ m) = (same-contents (free 0) c, memory_both (λ k. free (suc k)) k f g q m)

stack_both : (free : ℕ → ℕ → Type 0) (l k : ℕ) (f g : Contents → Contents) → ((c : Contents) → ContentsNear (free l k) (f (g c)) (g (f c))) → (s : Memories) → StackNear free (with_contents l k f (with_contents l k g s)) (with_contents l k g (with_contents l k f s))
stack_both free l k f g q [] = tt
stack_both free zero k f g q (m ∷ s) = (memory_both (free 0) k f g q m, same-stack (λ l. free (suc l)) s)
stack_both free (suc l) k f g q (m ∷ s) = (same-memory (free 0) m, stack_both (λ l. free (suc l)) l k f g q s)

two_pushed : (free : Type 0) → free → (y z : ℤ) (c : Contents) → ContentsNear free (with_values (appended y) (with_values (appended z) c)) (with_values (appended z) (with_values (appended y) c))
two_pushed free f y z (array xw xs) = (refl, refl)
two_pushed free f y z (stream xw xs) = (
  refl,
  (let v = wrapped_to xw y in let w = wrapped_to xw z in
      inr (
        f,
        λ x. count-last (xs ++ w ∷ []) v x ∙ ap (λ n. cond (int_eq v x) (suc n) n) (count-last xs w x) ∙ both (int_eq v x) (int_eq w x) (how_often xs x)
            ∙ sym (count-last (xs ++ v ∷ []) w x ∙ ap (λ n. cond (int_eq w x) (suc n) n) (count-last xs v x)),
      )),
)
  where
    both : (a b : Bool) (n : ℕ) → cond a (suc (cond b (suc n) n)) (cond b (suc n) n) ≡ cond b (suc (cond a (suc n) n)) (cond a (suc n) n)
    both true true n = refl
    both true false n = refl
    both false true n = refl
    both false false n = refl

pub equal-near : (free : ℕ → ℕ → Type 0) (s u : Memories) → s ≡ u → StackNear free s u
equal-near free s u e = subst (StackNear free s) e (same-stack free s)

pair_near : (T U : Touch → Type 0) → AllCompatible T U → (c d : Change) → IsMadeBy T c → IsMadeBy U d → (s : Memories) → StackNear (Shared T U) (apply c (apply d s)) (apply d (apply c s))
pair_near T U h (push l k x) (push m j y) t u s = go (decide-nat l m) (decide-nat k j)
  where
    apart : AreTwo l k m j → StackNear (Shared T U) (apply (push l k x) (apply (push m j y) s)) (apply (push m j y) (apply (push l k x) s))
    apart two = equal-near (Shared T U) _ _ (apply-apply (push l k x) (push m j y) two s)

    go : (l ≡ m) ⊎ (l ≡ m → ⊥) → (k ≡ j) ⊎ (k ≡ j → ⊥) → StackNear (Shared T U) (apply (push l k x) (apply (push m j y) s)) (apply (push m j y) (apply (push l k x) s))
    go (inr n) o = apart (λ e f. n e)
    go (inl e) (inr n) = apart (λ e f. n f)
    go (inl e) (inl f) =
        subst (λ m. StackNear (Shared T U) (apply (push l k x) (apply (push m j y) s)) (apply (push m j y) (apply (push l k x) s))) e
        (subst (λ j. StackNear (Shared T U) (apply (push l k x) (apply (push l j y) s)) (apply (push l j y) (apply (push l k x) s))) f
        (stack_both (Shared T U) l k _ _ (two_pushed (Shared T U l k) (t, subst (λ m. U (pushes m k)) (sym e) (subst (λ j. U (pushes m j)) (sym f) u)) x y) s))
pair_near T U h nothing d t u s = same-stack (Shared T U) (apply d s)
pair_near T U h (write r by x) nothing t u s = same-stack (Shared T U) (apply (write r by x) s)
pair_near T U h (write r by x) (write q to y) t u s = equal-near (Shared T U) _ _ (apply-apply (write r by x) (write q to y) (h (writes r by) (writes q to) t u) s)
pair_near T U h (write r by x) (push m j y) t u s = equal-near (Shared T U) _ _ (apply-apply (write r by x) (push m j y) tt s)
pair_near T U h (write r by x) (take m j p) t u s = equal-near (Shared T U) _ _ (apply-apply (write r by x) (take m j p) tt s)
pair_near T U h (push l k x) nothing t u s = same-stack (Shared T U) (apply (push l k x) s)
pair_near T U h (push l k x) (write q to y) t u s = equal-near (Shared T U) _ _ (apply-apply (push l k x) (write q to y) tt s)
pair_near T U h (push l k x) (take m j p) t u s = equal-near (Shared T U) _ _ (apply-apply (push l k x) (take m j p) (h (pushes l k) (takes m j) t u) s)
pair_near T U h (take l k o) nothing t u s = same-stack (Shared T U) (apply (take l k o) s)
pair_near T U h (take l k o) (write q to y) t u s = equal-near (Shared T U) _ _ (apply-apply (take l k o) (write q to y) tt s)
pair_near T U h (take l k o) (push m j y) t u s = equal-near (Shared T U) _ _ (apply-apply (take l k o) (push m j y) (h (takes l k) (pushes m j) t u) s)
pair_near T U h (take l k o) (take m j p) t u s = equal-near (Shared T U) _ _ (apply-apply (take l k o) (take m j p) (h (takes l k) (takes m j) t u) s)

-- ---- changes of one work are not seen by the other

spares_read : (T U : Touch → Type 0) → AllCompatible T U → (r : Reference) → U (reads r) → (c : Change) → IsMadeBy T c → SparesElement r c
spares_read T U h r u nothing t = tt
spares_read T U h r u (write q by x) t = λ e. h (writes q by) (reads r) t u (sym e)
spares_read T U h r u (push l k x) t = tt
spares_read T U h r u (take l k p) t = tt

spares_take : (T U : Touch → Type 0) → AllCompatible T U → (l k : ℕ) → U (takes l k) → (c : Change) → IsMadeBy T c → SparesStream l k c
spares_take T U h l k u nothing t = tt
spares_take T U h l k u (write q by x) t = tt
spares_take T U h l k u (push m j x) t = λ e f. h (pushes m j) (takes l k) t u (sym e) (sym f)
spares_take T U h l k u (take m j p) t = λ e f. h (takes m j) (takes l k) t u (sym e) (sym f)

look_all : (T U : Touch → Type 0) → AllCompatible T U → (r : Reference) → U (reads r) → (cs : List Change) → AreMadeBy T cs → (s : Memories) → look r (apply_all cs s) ≡ look r s
look_all T U h r u [] t s = refl
look_all T U h r u (c ∷ cs) t s = look_all T U h r u cs t.1 (apply c s) ∙ look-apply r c (spares_read T U h r u c t.0) s

waiting_all : (T U : Touch → Type 0) → AllCompatible T U → (l k : ℕ) → U (takes l k) → (cs : List Change) → AreMadeBy T cs → (s : Memories) → waiting l k (apply_all cs s) ≡ waiting l k s
waiting_all T U h l k u [] t s = refl
waiting_all T U h l k u (c ∷ cs) t s = waiting_all T U h l k u cs t.1 (apply c s) ∙ waiting-apply l k c (spares_take T U h l k u c t.0) s

-- ---- and neither takes from a stream into which both push

free_first : (T U : Touch → Type 0) → AllCompatible T U → (c : Change) → IsMadeBy T c → SparesFree (Shared T U) c
free_first T U h nothing t = tt
free_first T U h (write q by x) t = tt
free_first T U h (push l k x) t = tt
free_first T U h (take l k p) t = λ shared. h (takes l k) (pushes l k) t shared.1 refl refl

free_second : (T U : Touch → Type 0) → AllCompatible T U → (c : Change) → IsMadeBy U c → SparesFree (Shared T U) c
free_second T U h nothing t = tt
free_second T U h (write q by x) t = tt
free_second T U h (push l k x) t = tt
free_second T U h (take l k p) t = λ shared. h (pushes l k) (takes l k) shared.0 t refl refl

first_near : (T U : Touch → Type 0) → AllCompatible T U → (cs : List Change) → AreMadeBy T cs → (s u : Memories) → StackNear (Shared T U) s u → StackNear (Shared T U) (apply_all cs s) (apply_all cs u)
first_near T U h [] t s u n = n
first_near T U h (c ∷ cs) t s u n = first_near T U h cs t.1 (apply c s) (apply c u) (change-near (Shared T U) c (free_first T U h c t.0) s u n)

second_near : (T U : Touch → Type 0) → AllCompatible T U → (cs : List Change) → AreMadeBy U cs → (s u : Memories) → StackNear (Shared T U) s u → StackNear (Shared T U) (apply_all cs s) (apply_all cs u)
second_near T U h [] t s u n = n
second_near T U h (c ∷ cs) t s u n = second_near T U h cs t.1 (apply c s) (apply c u) (change-near (Shared T U) c (free_second T U h c t.0) s u n)

past_all : (T U : Touch → Type 0) → AllCompatible T U → (cs : List Change) → AreMadeBy T cs → (d : Change) → IsMadeBy U d → (s : Memories) → StackNear (Shared T U) (apply d (apply_all cs s)) (apply_all cs (apply d s))
past_all T U h [] t d u s = same-stack (Shared T U) (apply d s)
past_all T U h (c ∷ cs) t d u s =
    on-stack (Shared T U) _ _ _ (past_all T U h cs t.1 d u (apply c s))
    (first_near T U h cs t.1 (apply d (apply c s)) (apply c (apply d s)) (back-stack (Shared T U) _ _ (pair_near T U h c d t.0 u s)))

all_past_all : (T U : Touch → Type 0) → AllCompatible T U → (cs : List Change) → AreMadeBy T cs → (ds : List Change) → AreMadeBy U ds → (s : Memories) → StackNear (Shared T U) (apply_all ds (apply_all cs s)) (apply_all cs (apply_all ds s))
all_past_all T U h cs t [] u s = same-stack (Shared T U) (apply_all cs s)
all_past_all T U h cs t (d ∷ ds) u s =
    on-stack (Shared T U) _ _ _ (second_near T U h ds u.1 (apply d (apply_all cs s)) (apply_all cs (apply d s)) (past_all T U h cs t d u.0 s))
    (all_past_all T U h cs t ds u.1 (apply d s))

-- work cannot tell a stack from the one after the changes of compatible work
pub blind-past : (T U : Touch → Type 0) → AllCompatible T U → (cs : List Change) → AreMadeBy T cs → IsBlindTo U (λ s u. StackNear (Shared T U) u (apply_all cs s))
blind-past T U h cs t =
    record {
      same_reads = λ r u s v n. sym (look-near (Shared T U) r v (apply_all cs s) n ∙ look_all T U h r u cs t s);
      same_takes = λ l k u s v n. sym (waiting-near (Shared T U) l k (λ shared. h (pushes l k) (takes l k) shared.0 u refl refl) v (apply_all cs s) n ∙ waiting_all T U h l k u cs t s);
      stay = λ d u s v n. on-stack (Shared T U) _ _ _ (change-near (Shared T U) d (free_second T U h d u) v (apply_all cs s) n) (past_all T U h cs t d u s);
    }

pub near-everywhere : (free : ℕ → ℕ → Type 0) (s u : Memories) → StackNear free s u → Near s u
near-everywhere free s u n = more-stack free everywhere (λ l k f. tt) s u n

-- what is done first and what is done then may be exchanged where they are compatible
pub exchange : {P : Type 0} (a b : Term P) → TouchCompatibly a b → (most k j : ℕ) (s u v : Memories) → Does a most s k u → Does b most u j v →
    (w z : Memories) × Does b most s j w × Does a most w k z × Near v z
exchange a b h most k j s u v first second =
    let T : Touch → Type 0 = Touches a in
    let U : Touch → Type 0 = Touches b in
    let g : AllCompatible U T = all-back T U h in
    let c = does-changes a most k s u first in
    let early = does-follow b (λ x y. StackNear (Shared T U) x (apply_all c.0 y)) (blind-back U (λ x y. StackNear (Shared T U) y (apply_all c.0 x)) (blind-past T U h c.0 c.1)) most j u s v second (equal-near (Shared T U) u (apply_all c.0 s) c.2) in
    let w : Memories = early.0 in
    let d = does-changes b most j s w early.1 in
    let late = does-follow a (λ x y. StackNear (Shared U T) y (apply_all d.0 x)) (blind-past U T g d.0 d.1) most k s w u first (equal-near (Shared U T) w (apply_all d.0 s) d.2) in
    let z : Memories = late.0 in (
      w,
      z,
      early.1,
      late.1,
      on-stack everywhere v (apply_all c.0 w) z (near-everywhere (Shared T U) v (apply_all c.0 w) early.2)
          (on-stack everywhere (apply_all c.0 w) (apply_all d.0 u) z
          (subst (λ x. Near (apply_all c.0 x) (apply_all d.0 u)) (sym d.2)
          (subst (λ x. Near (apply_all c.0 (apply_all d.0 s)) (apply_all d.0 x)) (sym c.2)
          (back-stack everywhere _ _ (near-everywhere (Shared T U) _ _ (all_past_all T U h c.0 c.1 d.0 d.1 s)))))
          (back-stack everywhere z (apply_all d.0 u) (near-everywhere (Shared U T) z (apply_all d.0 u) late.2))),
    )
