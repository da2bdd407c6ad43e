-- Moves of two parts of a list that do not conflict commute.
use Rattle.std.proofs.Common.{◌≡◌, ◌≢◌, ℕ, zero, suc, ℤ, List, [], ◌∷◌, ◌++◌, Bool, true, false, cond, refl, sym, ◌∙◌, ap, subst}
use Rattle.std.specs.Bool.{⊤}
use Rattle.std.specs.Ordering.{int_eq}
use Rattle.sd_num.specs.Width.{wrapped_to}
use Rattle.sd_work.specs.Memory.{Contents, array, stream, Memory, Memories}
use Rattle.sd_work.specs.Change.{Change, nothing, write, push, take, apply, changed_at, with_values, appended}
use Rattle.sd_work.specs.Harmless.{AreHarmless}
use Rattle.sd_work.specs.Move.{Move, fails, goes, no_move, map_move}
use Rattle.sd_work.specs.Residual.{Parts, Term, list, Terms, none, also, part_at}
use Rattle.sd_work.specs.Moves.{Path}
use Rattle.sd_work.specs.Fire.{fire, fire_part}
use Rattle.sd_work.specs.Touch.{Touch, reads, writes, pushes, takes, AreCompatible, Touches, SparesTouch, SparesWork}
use Rattle.sd_work.proofs.Changes.{apply-apply}
use Rattle.sd_work.proofs.Spared.{fire-apply}
use Rattle.sd_confluence.specs.Alike.{how_often, HoldAlike, AreContentsAlike, AreAlike, AreStacksAlike}
use Rattle.sd_confluence.specs.Safe.{TouchCompatibly}
use Rattle.sd_confluence.proofs.bags.Values.{count-last}
use Rattle.sd_confluence.proofs.bags.Works.{Answer, makes, act}
use Rattle.sd_confluence.proofs.bags.WorkTouches.{WorkTouches}
use Rattle.sd_confluence.proofs.commuting.Stable.{Covered, apart_sym}
use Rattle.sd_confluence.proofs.commuting.Within.{Gives}
use Rattle.sd_confluence.proofs.commuting.Stays.{covered_of}
use Rattle.sd_confluence.proofs.image.Images.{stack_of, update_of, work_of, route_of}
use Rattle.sd_confluence.proofs.image.Link.{Matches, linked}
use Rattle.sd_confluence.proofs.image.SafeImage.{touches-back}
use Rattle.sd_confluence.proofs.taking.TakesTouched.{Changes, TakesOf, takes-touched}

-- ---- what a move changes

-- what a change touches is among these touches
abbrev pub IsChangeOf : (Touch → Type 0) → Change → Type 0
IsChangeOf T nothing = ⊤
IsChangeOf T (write to by value) = T (writes to by)
IsChangeOf T (push level container value) = T (pushes level container)
IsChangeOf T (take level container position) = T (takes level container)

change_of : {P : Type 0} (t : Term P) (u : Change) (s : Memories) → Covered (update_of u s) (WorkTouches (work_of t)) → TakesOf u (Touches t) → IsChangeOf (Touches t) u
change_of t nothing s c g = tt
change_of t (write to by value) s c g = touches-back t (writes to by) c
change_of t (push level container value) s c g = touches-back t (pushes level container) c
change_of t (take level container position) s c g = g

-- a move changes what its term touches
pub changes-touched : {P : Type 0} (t : Term P) (p : Path) (s : Memories) (turn : Bool) (u : Change) (x : Term P) → fire t p s ≡ goes turn u x → IsChangeOf (Touches t) u
changes-touched {P} t p s turn u x e =
    let m : act (work_of t) (route_of t p s) (stack_of s) ≡ makes turn (update_of u s) (work_of x) = subst (λ m. Matches work_of s m (act (work_of t) (route_of t p s) (stack_of s))) e (linked t p s) in
    change_of t u s
    (subst (λ (m : Answer P _). Gives (λ b v z. Covered v (WorkTouches (work_of t))) m) m (covered_of (work_of t) (route_of t p s) (stack_of s)))
    (subst (λ (m : Move P (Term P)). Changes (λ v z. TakesOf v (Touches t)) m) e (takes-touched t p s))

spares_touch : (u : Change) (a : Touch) → IsChangeOf (λ b. AreCompatible b a) u → SparesTouch a u
spares_touch nothing (reads r) h = tt
spares_touch nothing (writes r by) h = tt
spares_touch nothing (pushes l c) h = tt
spares_touch nothing (takes l c) h = tt
spares_touch (write to by v) (reads r) h = λ e. h (sym e)
spares_touch (write to by v) (writes r to') h = tt
spares_touch (write to by v) (pushes l c) h = tt
spares_touch (write to by v) (takes l c) h = tt
spares_touch (push m d v) (reads r) h = tt
spares_touch (push m d v) (writes r by) h = tt
spares_touch (push m d v) (pushes l c) h = tt
spares_touch (push m d v) (takes l c) h = λ e f. h (sym e) (sym f)
spares_touch (take m d k) (reads r) h = tt
spares_touch (take m d k) (writes r by) h = tt
spares_touch (take m d k) (pushes l c) h = tt
spares_touch (take m d k) (takes l c) h = λ e f. h (sym e) (sym f)

more_changes : (u : Change) (T U : Touch → Type 0) → ((a : Touch) → T a → U a) → IsChangeOf T u → IsChangeOf U u
more_changes nothing T U h c = tt
more_changes (write to by v) T U h c = h (writes to by) c
more_changes (push l k v) T U h c = h (pushes l k) c
more_changes (take l k j) T U h c = h (takes l k) c

-- a move is not seen by work that it does not conflict with
pub unseen : {P : Type 0} (t other x : Term P) (p : Path) (s : Memories) (turn : Bool) (u : Change) → TouchCompatibly t other → fire t p s ≡ goes turn u x → SparesWork other u
unseen t other x p s turn u apart e a d = spares_touch u a (more_changes u (Touches t) (λ b. AreCompatible b a) (λ b c. apart b a c d) (changes-touched t p s turn u x e))

-- ---- two changes

alike_values : (values : List ℤ) → HoldAlike values values
alike_values values v = refl

pub same_contents : (c : Contents) → AreContentsAlike c c
same_contents (array width elements) = (refl, refl)
same_contents (stream width values) = (refl, λ v. refl)

pub same_memory : (memory : Memory) → AreAlike memory memory
same_memory [] = tt
same_memory (c ∷ memory) = (same_contents c, same_memory memory)

pub same_stack : (s : Memories) → AreStacksAlike s s
same_stack [] = tt
same_stack (memory ∷ s) = (same_memory memory, same_stack s)

exchanged : (a b : Bool) (n : ℕ) → cond a (suc (cond b (suc n) n)) (cond b (suc n) n) ≡ cond b (suc (cond a (suc n) n)) (cond a (suc n) n)
exchanged true true n = refl
exchanged true false n = refl
exchanged false true n = refl
exchanged false false n = refl

-- two values at the end of a list
two_last : (v w : ℤ) (values : List ℤ) → HoldAlike ((values ++ v ∷ []) ++ w ∷ []) ((values ++ w ∷ []) ++ v ∷ [])
two_last v w values x =
    count-last (values ++ v ∷ []) w x
    ∙ ap (λ n. cond (int_eq w x) (suc n) n) (count-last values v x)
    ∙ exchanged (int_eq w x) (int_eq v x) (how_often values x)
    ∙ sym (ap (λ n. cond (int_eq v x) (suc n) n) (count-last values w x))
    ∙ sym (count-last (values ++ w ∷ []) v x)

-- two values pushed into one stream
pushed_alike : (v w : ℤ) (c : Contents) → AreContentsAlike (with_values (appended w) (with_values (appended v) c)) (with_values (appended v) (with_values (appended w) c))
pushed_alike v w (array width elements) = (refl, refl)
pushed_alike v w (stream width values) = (refl, two_last (wrapped_to width v) (wrapped_to width w) values)

pushed_memory : (c d : ℕ) (v w : ℤ) (memory : Memory) →
    AreAlike (changed_at d (with_values (appended w)) (changed_at c (with_values (appended v)) memory)) (changed_at c (with_values (appended v)) (changed_at d (with_values (appended w)) memory))
pushed_memory c d v w [] = tt
pushed_memory zero zero v w (k ∷ memory) = (pushed_alike v w k, same_memory memory)
pushed_memory zero (suc d) v w (k ∷ memory) = same_memory (with_values (appended v) k ∷ changed_at d (with_values (appended w)) memory)
pushed_memory (suc c) zero v w (k ∷ memory) = same_memory (with_values (appended w) k ∷ changed_at c (with_values (appended v)) memory)
pushed_memory (suc c) (suc d) v w (k ∷ memory) = (same_contents k, pushed_memory c d v w memory)

pushed_stack : (l c m d : ℕ) (v w : ℤ) (s : Memories) → AreStacksAlike (apply (push m d w) (apply (push l c v) s)) (apply (push l c v) (apply (push m d w) s))
pushed_stack l c m d v w [] = tt
pushed_stack zero c zero d v w (memory ∷ s) = (pushed_memory c d v w memory, same_stack s)
pushed_stack zero c (suc m) d v w (memory ∷ s) = same_stack (changed_at c (with_values (appended v)) memory ∷ apply (push m d w) s)
pushed_stack (suc l) c zero d v w (memory ∷ s) = same_stack (changed_at d (with_values (appended w)) memory ∷ apply (push l c v) s)
pushed_stack (suc l) c (suc m) d v w (memory ∷ s) = (same_memory memory, pushed_stack l c m d v w s)

alike_of : (u v : Change) → AreHarmless v u → (s : Memories) → AreStacksAlike (apply v (apply u s)) (apply u (apply v s))
alike_of u v h s = subst (AreStacksAlike (apply v (apply u s))) (apply-apply v u h s) (same_stack (apply v (apply u s)))

-- changes that do not conflict leave memories alike, in either order
pub changes-alike : (u v : Change) (T U : Touch → Type 0) → IsChangeOf T u → IsChangeOf U v → ((a b : Touch) → T a → U b → AreCompatible a b) → (s : Memories) → AreStacksAlike (apply v (apply u s)) (apply u (apply v s))
changes-alike nothing v T U c d h s = same_stack (apply v s)
changes-alike (write r by x) nothing T U c d h s = same_stack (apply (write r by x) s)
changes-alike (push l k x) nothing T U c d h s = same_stack (apply (push l k x) s)
changes-alike (take l k j) nothing T U c d h s = same_stack (apply (take l k j) s)
changes-alike (write r by x) (write q to y) T U c d h s = alike_of (write r by x) (write q to y) (apart_sym (writes r by) (writes q to) (h (writes r by) (writes q to) c d)) s
changes-alike (write r by x) (push m i y) T U c d h s = alike_of (write r by x) (push m i y) tt s
changes-alike (write r by x) (take m i y) T U c d h s = alike_of (write r by x) (take m i y) tt s
changes-alike (push l k x) (write q to y) T U c d h s = alike_of (push l k x) (write q to y) tt s
changes-alike (push l k x) (push m i y) T U c d h s = pushed_stack l k m i x y s
changes-alike (push l k x) (take m i y) T U c d h s = alike_of (push l k x) (take m i y) (apart_sym (pushes l k) (takes m i) (h (pushes l k) (takes m i) c d)) s
changes-alike (take l k j) (write q to y) T U c d h s = alike_of (take l k j) (write q to y) tt s
changes-alike (take l k j) (push m i y) T U c d h s = alike_of (take l k j) (push m i y) (apart_sym (takes l k) (pushes m i) (h (takes l k) (pushes m i) c d)) s
changes-alike (take l k j) (take m i y) T U c d h s = alike_of (take l k j) (take m i y) (apart_sym (takes l k) (takes m i) (h (takes l k) (takes m i) c d)) s

-- ---- parts

-- parts with another one at a number
abbrev pub put_at : {P : Type 0} → Terms P → ℕ → Term P → Terms P
put_at none k x = none
put_at (also t ts) zero x = also x ts
put_at (also t ts) (suc k) x = also t (put_at ts k x)

pub map_after : {P A B C : Type 0} (f : B → C) (g : A → B) (m : Move P A) → map_move f (map_move g m) ≡ map_move (λ x. f (g x)) m
map_after f g (fails turn fault) = refl
map_after f g (goes turn change left) = refl
map_after f g no_move = refl

-- a move of a part, as one of the list
pub part_move : {P : Type 0} (ts : Terms P) (k : ℕ) (p : Path) (s : Memories) → fire_part ts k p s ≡ map_move (put_at ts k) (fire (part_at ts k) p s)
part_move none k p s = refl
part_move (also t ts) zero p s = refl
part_move (also t ts) (suc k) p s = ap (map_move (also t)) (part_move ts k p s) ∙ map_after (also t) (put_at ts k) (fire (part_at ts k) p s)

pub list_move : {P : Type 0} (kind : Parts) (before : ℕ → ℕ → Bool) (ts : Terms P) (k : ℕ) (p : Path) (s : Memories) → fire (list kind before ts) (k ∷ p) s ≡ map_move (λ x. list kind before (put_at ts k x)) (fire (part_at ts k) p s)
list_move kind before ts k p s = ap (map_move (list kind before)) (part_move ts k p s) ∙ map_after (list kind before) (put_at ts k) (fire (part_at ts k) p s)

pub other_part : {P : Type 0} (ts : Terms P) (k l : ℕ) (x : Term P) → k ≢ l → part_at (put_at ts k x) l ≡ part_at ts l
other_part none k l x n = refl
other_part (also t ts) zero zero x n = absurd (n refl)
other_part (also t ts) zero (suc l) x n = refl
other_part (also t ts) (suc k) zero x n = refl
other_part (also t ts) (suc k) (suc l) x n = other_part ts k l x (λ e. n (ap suc e))

put_put : {P : Type 0} (ts : Terms P) (k l : ℕ) (x y : Term P) → k ≢ l → put_at (put_at ts k x) l y ≡ put_at (put_at ts l y) k x
put_put none k l x y n = refl
put_put (also t ts) zero zero x y n = absurd (n refl)
put_put (also t ts) zero (suc l) x y n = refl
put_put (also t ts) (suc k) zero x y n = refl
put_put (also t ts) (suc k) (suc l) x y n = ap (also t) (put_put ts k l x y (λ e. n (ap suc e)))

-- the move of the part behind one of the whole
pub moved_part : {P A B : Type 0} (f : A → B) (m : Move P A) (turn : Bool) (u : Change) (y : B) → map_move f m ≡ goes turn u y → (x : A) × (m ≡ goes turn u x) × (f x ≡ y)
moved_part f (fails b fault) turn u y e = cc
moved_part f (goes b v x) turn u y e = (x, cc, cc)
moved_part f no_move turn u y e = cc

-- two moves of different parts in the other order
abbrev pub Exchanged : {P : Type 0} → Term P → (first second : Path) → Memories → (turn later : Bool) → (change other : Change) → (both : Term P) → Type 0
Exchanged {P} term first second memories turn later change other both =
    (early : Term P) × (fire term second memories ≡ goes later other early) × (fire early first (apply other memories) ≡ goes turn change both)
    × AreStacksAlike (apply other (apply change memories)) (apply change (apply other memories))

pub beside : {P : Type 0} (kind : Parts) (before : ℕ → ℕ → Bool) (ts : Terms P) (i j : ℕ) (p q : Path) (s : Memories) (turn later : Bool) (u v : Change) (between both : Term P) →
    i ≢ j → TouchCompatibly (part_at ts i) (part_at ts j) →
    fire (list kind before ts) (i ∷ p) s ≡ goes turn u between → fire between (j ∷ q) (apply u s) ≡ goes later v both →
    Exchanged (list kind before ts) (i ∷ p) (j ∷ q) s turn later u v both
beside {P} kind before ts i j p q s turn later u v between both two apart e f =
    let one = moved_part (λ x. list kind before (put_at ts i x)) (fire (part_at ts i) p s) turn u between (sym (list_move kind before ts i p s) ∙ e) in
    let f' : fire (list kind before (put_at ts i one.0)) (j ∷ q) (apply u s) ≡ goes later v both = ap (λ z. fire z (j ∷ q) (apply u s)) one.2 ∙ f in
    let there = moved_part (λ x. list kind before (put_at (put_at ts i one.0) j x)) (fire (part_at (put_at ts i one.0) j) q (apply u s)) later v both (sym (list_move kind before (put_at ts i one.0) j q (apply u s)) ∙ f') in
    let same : fire (part_at ts j) q s ≡ goes later v there.0 =
    sym (fire-apply (part_at ts j) u (unseen (part_at ts i) (part_at ts j) one.0 p s turn u apart one.1) q s) ∙ ap (λ z. fire z q (apply u s)) (sym (other_part ts i j one.0 two)) ∙ there.1 in
    let back : TouchCompatibly (part_at ts j) (part_at ts i) = λ a b x y. apart_sym b a (apart b a y x) in
    let again : fire (part_at (put_at ts j there.0) i) p (apply v s) ≡ goes turn u one.0 =
    ap (λ z. fire z p (apply v s)) (other_part ts j i there.0 (λ w. two (sym w))) ∙ fire-apply (part_at ts i) v (unseen (part_at ts j) (part_at ts i) there.0 q s later v back same) p s ∙ one.1 in (
      list kind before (put_at ts j there.0),
      list_move kind before ts j q s ∙ ap (map_move (λ x. list kind before (put_at ts j x))) same,
      list_move kind before (put_at ts j there.0) i p (apply v s) ∙ ap (map_move (λ x. list kind before (put_at (put_at ts j there.0) i x))) again
          ∙ ap (λ z. goes turn u (list kind before z)) (sym (put_put ts i j one.0 there.0 two)) ∙ ap (goes turn u) there.2,
      changes-alike u v (Touches (part_at ts i)) (Touches (part_at ts j)) (changes-touched (part_at ts i) p s turn u one.0 one.1) (changes-touched (part_at ts j) q s later v there.0 same) apart s,
    )
