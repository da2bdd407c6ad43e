-- Next moves of two parts of a list or a pool commute, wherever it stands.
use Rattle.std.proofs.Common.{◌≡◌, ◌≢◌, ℕ, zero, suc, ◌+◌, [], ◌∷◌, Bool, true, false, cond, not, ◌&&◌, ◌||◌, refl, sym, ◌∙◌, ap, subst, arith, inl, inr}
use Rattle.sd_work.specs.Memory.{Memories}
use Rattle.sd_work.specs.Change.{Change, apply}
use Rattle.sd_work.specs.Exit.{first_exit}
use Rattle.sd_work.specs.Move.{Move, goes}
use Rattle.sd_work.specs.Residual.{Parts, Term, leaf, list, owning, nested, ended, pool, Terms, none, also, part_at, Actives, idle, busy, finished, all_finished, flags_of, is_ready, ready_from}
use Rattle.sd_work.specs.Moves.{Path}
use Rattle.sd_work.specs.Fire.{owned, transition, fire, fire_part, fire_active}
use Rattle.sd_work.proofs.Flags.{both, and_false, or_other, not_true}
use Rattle.sd_work.proofs.Absorbing.{Below, below_same, ready_up}
use Rattle.sd_confluence.specs.Safe.{IsSafe, AreSafe, AreActiveSafe, ArePartsSafe, TouchCompatibly}
use Rattle.sd_confluence.specs.Sides.{AreOfTwoParts, AreOfTwoInPart, AreOfTwoInActive, AreTermsAlike, AreAllAlike, AreActivesAlike}
use Rattle.sd_confluence.proofs.commuting.NextMoves.{order}
use Rattle.sd_confluence.proofs.commuting.Stable.{apart_sym}
use Rattle.sd_confluence.proofs.image.Images.{IsNext, IsNextAt, IsNextIn, IsNextHere}
use Rattle.sd_confluence.proofs.image.NextLinked.{next-unfinished}
use Rattle.sd_confluence.proofs.left.Beside.{put_at, moved_part, list_move, other_part, unseen, beside}
use Rattle.sd_confluence.proofs.left.NextListed.{next-unseen}
use Rattle.sd_confluence.proofs.left.Squares.{same_term, same_terms, same_actives, Square, square_map, square_owned}
use Rattle.sd_confluence.proofs.left.PoolSides.{square_two, square_take, square_taken}

-- ---- parts that may both go on

pub next_part : {P : Type 0} (ts : Terms P) (k : ℕ) (p : Path) (s : Memories) → IsNextAt ts k p s → finished (part_at ts k) ≡ false
next_part none k p s c = absurd c
next_part (also t ts) zero p s c = next-unfinished t p s c
next_part (also t ts) (suc k) p s c = next_part ts k p s c

unfinished_list : {P : Type 0} (ts : Terms P) (k : ℕ) → finished (part_at ts k) ≡ false → all_finished ts ≡ false
unfinished_list none k e = cc
unfinished_list (also t ts) zero e = ap (λ b. b && all_finished ts) e
unfinished_list (also t ts) (suc k) e = and_false (finished t) (all_finished ts) (unfinished_list ts k e)

pub flag_down : {P : Type 0} (before : ℕ → ℕ → Bool) (ts : Terms P) (j i k : ℕ) → ready_from before j (flags_of ts) k ≡ true → finished (part_at ts i) ≡ false → before (i + j) k ≡ false
flag_down before none j i k e f = cc
flag_down before (also t ts) j zero k e f =
    let g : before j k ≡ false = not_true (before j k) (or_other (finished t) (not (before j k)) (both (finished t || not (before j k)) (ready_from before (suc j) (flags_of ts) k) e).0 f) in
    let same : j ≡ 0 + j = omega arith in
    subst (λ m. before m k ≡ false) same g
flag_down before (also t ts) j (suc i) k e f =
    let g : before (i + suc j) k ≡ false = flag_down before ts (suc j) i k (both (finished t || not (before j k)) (ready_from before (suc j) (flags_of ts) k) e).1 f in
    let same : i + suc j ≡ suc i + j = omega arith in
    subst (λ m. before m k ≡ false) same g

pub compatible_parts : {P : Type 0} (kind : Parts) (before : ℕ → ℕ → Bool) (ts : Terms P) (i j : ℕ) → ArePartsSafe kind before ts → is_ready before (flags_of ts) i ≡ true → is_ready before (flags_of ts) j ≡ true →
    finished (part_at ts i) ≡ false → finished (part_at ts j) ≡ false → i ≢ j → TouchCompatibly (part_at ts i) (part_at ts j)
compatible_parts kind before ts i j f ri rj ui uj n = elim (order i j n) [
  | inl less ↦ let same : i ≡ i + 0 = omega arith in f.compatible i j less (ap (λ m. before m j) same ∙ flag_down before ts 0 i j rj ui)
  | inr more ↦ let same : j ≡ j + 0 = omega arith in λ a b x y. apart_sym b a (f.compatible j i more (ap (λ m. before m i) same ∙ flag_down before ts 0 j i ri uj) b a y x)
]

-- a list is not finished after a move of one part, where another one is not
still_left : {P : Type 0} (kind : Parts) (before : ℕ → ℕ → Bool) (ts : Terms P) (i j : ℕ) (p : Path) (s : Memories) (b : Bool) (u : Change) (y : Term P) → i ≢ j → finished (part_at ts j) ≡ false →
    fire (list kind before ts) (i ∷ p) s ≡ goes b u y → finished y ≡ false
still_left kind before ts i j p s b u y n un e =
    let one = moved_part (λ x. list kind before (put_at ts i x)) (fire (part_at ts i) p s) b u y (sym (list_move kind before ts i p s) ∙ e) in
    subst (λ z. finished z ≡ false) one.2 (unfinished_list (put_at ts i one.0) j (ap finished (other_part ts i j one.0 n) ∙ un))

pub at_part : {P : Type 0} (ts : Terms P) (k : ℕ) (p : Path) (s : Memories) → IsNextAt ts k p s → IsNext (part_at ts k) p s
at_part none k p s c = absurd c
at_part (also t ts) zero p s c = c
at_part (also t ts) (suc k) p s c = at_part ts k p s c

part_next : {P : Type 0} (ts : Terms P) (k : ℕ) (p : Path) (s : Memories) → IsNext (part_at ts k) p s → IsNextAt ts k p s
part_next none k p s c = absurd c
part_next (also t ts) zero p s c = c
part_next (also t ts) (suc k) p s c = part_next ts k p s c

flags_put : {P : Type 0} (ts : Terms P) (k : ℕ) (x : Term P) → finished (part_at ts k) ≡ false → Below (flags_of ts) (flags_of (put_at ts k x))
flags_put none k x un = tt
flags_put (also t ts) zero x un = ((λ e. let no : true ≡ false = sym e ∙ un in cc), below_same (flags_of ts))
flags_put (also t ts) (suc k) x un = ((λ e. e), flags_put ts k x un)

-- a part stays next after a move of another one, which it does not see
next_still : {P : Type 0} (kind : Parts) (before : ℕ → ℕ → Bool) (ts : Terms P) (i j : ℕ) (p q : Path) (s : Memories) (b : Bool) (u : Change) (y : Term P) → i ≢ j → finished (part_at ts i) ≡ false →
    TouchCompatibly (part_at ts i) (part_at ts j) → IsNext (list kind before ts) (j ∷ q) s → fire (list kind before ts) (i ∷ p) s ≡ goes b u y → IsNext y (j ∷ q) (apply u s)
next_still kind before ts i j p q s b u y n un apart c e =
    let one = moved_part (λ x. list kind before (put_at ts i x)) (fire (part_at ts i) p s) b u y (sym (list_move kind before ts i p s) ∙ e) in
    let there : IsNext (part_at ts j) q (apply u s) = next-unseen (part_at ts j) q s u (unseen (part_at ts i) (part_at ts j) one.0 p s b u apart one.1) (at_part ts j q s c.1) in
    subst (λ z. IsNext z (j ∷ q) (apply u s)) one.2 (
      ready_up before 0 (flags_of ts) (flags_of (put_at ts i one.0)) j (flags_put ts i one.0 un) c.0,
      part_next (put_at ts i one.0) j q (apply u s) (subst (λ z. IsNext z q (apply u s)) (sym (other_part ts i j one.0 n)) there),
    )

square_split : {P : Type 0} (kind : Parts) (before : ℕ → ℕ → Bool) (ts : Terms P) (i j : ℕ) (p q : Path) (s : Memories) → i ≢ j → finished (part_at ts i) ≡ false → finished (part_at ts j) ≡ false →
    TouchCompatibly (part_at ts i) (part_at ts j) → IsNext (list kind before ts) (i ∷ p) s → IsNext (list kind before ts) (j ∷ q) s → Square fire IsNext AreTermsAlike finished (list kind before ts) (i ∷ p) (j ∷ q) s
square_split kind before ts i j p q s n ui uj apart ci cj = λ b u y e. (
  still_left kind before ts i j p s b u y n uj e,
  next_still kind before ts i j p q s b u y n ui apart cj e,
  λ c v z d.
      let k = beside kind before ts i j p q s b c u v y z n apart e d in (
        k.0,
        z,
        k.1,
        still_left kind before ts j i q s c v k.0 (λ w. n (sym w)) ui k.1,
        k.2,
        same_term z,
        k.3,
        next_still kind before ts j i q p s c v k.0 (λ w. n (sym w)) uj (λ a' b' x y'. apart_sym b' a' (apart b' a' y' x)) ci k.1,
      ),
)

-- ---- wherever the list stands

not_here : {P : Type 0} (t : Term P) → AreOfTwoParts t [] [] → ⊥
not_here (leaf place work) d = d
not_here (list kind before parts) d = d
not_here (owning own part) d = not_here part d
not_here (nested body exits own state values part) d = not_here part d
not_here (ended own) d = d
not_here (pool level container body active closed) d = d

inside_next : {P : Type 0} (b : Bool) (p q : Path) (t : Term P) (C D : Type 0) → AreOfTwoParts t p q → IsNextHere b p C → IsNextHere b q D → (b ≡ false) × C × D
inside_next true p q t C D d c e = absurd (not_here t (subst (AreOfTwoParts t []) e (subst (λ r. AreOfTwoParts t r q) c d)))
inside_next false p q t C D d c e = (refl, c, e)

abbrev pub fire_at : {P : Type 0} → Terms P → ℕ × Path → Memories → Move P (Terms P)
fire_at ts k s = fire_part ts k.0 k.1 s

-- a part stays next, and no flag of the list goes down
abbrev pub NextAt : {P : Type 0} → Terms P → Terms P → ℕ × Path → Memories → Type 0
NextAt ts us k s = IsNextAt us k.0 k.1 s × Below (flags_of ts) (flags_of us)

abbrev pub NextIn : {P : Type 0} → Actives P → ℕ × Path → Memories → Type 0
NextIn us k s = IsNextIn us k.0 k.1 s

pub still_list : {P : Type 0} (kind : Parts) (before : ℕ → ℕ → Bool) (ts : Terms P) (i : ℕ) (p : Path) → is_ready before (flags_of ts) i ≡ true → (x : Terms P) (s : Memories) → NextAt ts x (i, p) s → IsNext (list kind before x) (i ∷ p) s
still_list kind before ts i p r x s c = (ready_up before 0 (flags_of ts) (flags_of x) i c.1 r, c.0)

pub first_flag : {P : Type 0} (t x : Term P) (ts : Terms P) → finished t ≡ false → Below (flags_of (also t ts)) (flags_of (also x ts))
first_flag t x ts un = ((λ e. let no : true ≡ false = sym e ∙ un in cc), below_same (flags_of ts))

pub here_next : (b : Bool) (p : Path) (C : Type 0) → b ≡ false → C → IsNextHere b p C
here_next true p C e c = cc
here_next false p C e c = c

abbrev pub fire_in : {P : Type 0} → Actives P → ℕ × Path → Memories → Move P (Actives P)
fire_in ts k s = fire_active ts k.0 k.1 s

mutual
  -- next moves of safe work that are of two parts of a list commute
  pub square : {P : Type 0} (t : Term P) (p q : Path) (s : Memories) → IsSafe t → IsNext t p s → IsNext t q s → AreOfTwoParts t p q → Square fire IsNext AreTermsAlike finished t p q s
  square (leaf place work) p q s f c d o = absurd o
  square (list kind before ts) [] q s f c d o = absurd o
  square (list kind before ts) (i ∷ p) [] s f c d o = absurd o
  square {P} (list kind before ts) (i ∷ p) (j ∷ q) s f c d o = elim o [
    | inl n ↦ square_split kind before ts i j p q s n (next_part ts i p s c.1) (next_part ts j q s d.1)
        (compatible_parts kind before ts i j f.1 c.0 d.0 (next_part ts i p s c.1) (next_part ts j q s d.1) n) c d
    | inr deep ↦ subst (λ k. Square fire IsNext AreTermsAlike finished (list kind before ts) (i ∷ p) (k ∷ q) s) deep.0
        (square_map (list kind before) fire_at fire (NextAt ts) IsNext AreAllAlike AreTermsAlike all_finished finished (i, p) (i, q) (i ∷ p) (i ∷ q) (λ x s'. refl) (λ x s'. refl)
        (still_list kind before ts i p c.0) (still_list kind before ts i q c.0) (λ x y h. (x, refl, h)) (λ x e. e) ts s
        (square_at ts i p q s f.0 c.1 (subst (λ k. IsNextAt ts k q s) (sym deep.0) d.1) deep.1))
  ]
  square (owning own part) p q s f c d o =
      square_owned owning p q (λ m z s' un. refl) (λ m z s' un. refl) (λ m z r s' un x. x) (λ m g z w a h. (m, z, refl, a, h)) (λ m z un. un) own part s (next-unfinished part p (own ∷ s) c) (square part p q (own ∷ s) f c d o)
  square {P} (nested body exits own state values part) p q s f c d o =
      let in' = inside_next (finished part) p q part (IsNext part p (own ∷ s)) (IsNext part q (own ∷ s)) o c d in
      square_owned (λ m z. nested body exits m state values z) p q
      (λ m z s' un. ap (λ b. cond b (transition body exits m (first_exit (exits state values) (m ∷ s'))) (owned (λ m z. nested body exits m state values z) m (fire z p (m ∷ s')))) un)
      (λ m z s' un. ap (λ b. cond b (transition body exits m (first_exit (exits state values) (m ∷ s'))) (owned (λ m z. nested body exits m state values z) m (fire z q (m ∷ s')))) un)
      (λ m z r s' un x. here_next (finished z) r (IsNext z r (m ∷ s')) un x) (λ m g z w a h. (m, z, refl, a, h)) (λ m z un. refl) own part s in'.0 (square part p q (own ∷ s) f.0 in'.1 in'.2 o)
  square (ended own) p q s f c d o = absurd o
  square (pool l k body active closed) [] q s f c d o = absurd o
  square (pool l k body active closed) (n ∷ []) q s f c d o = absurd o
  square (pool l k body active closed) (n ∷ i ∷ p) [] s f c d o = absurd o
  square (pool l k body active closed) (n ∷ i ∷ p) (m ∷ []) s f c d o = absurd o
  square (pool l k body active closed) (zero ∷ i ∷ p) (zero ∷ j ∷ q) s f c d o = absurd o
  square (pool l k body active closed) (zero ∷ i ∷ p) (suc zero ∷ j ∷ q) s f c d o = square_taken l k body active closed i j p q s f.2 c d
  square (pool l k body active closed) (zero ∷ i ∷ p) (suc (suc m) ∷ j ∷ q) s f c d o = absurd d
  square (pool l k body active closed) (suc zero ∷ i ∷ p) (zero ∷ j ∷ q) s f c d o = square_take l k body active closed i j p q s f.2 c d
  square {P} (pool l k body active closed) (suc zero ∷ i ∷ p) (suc zero ∷ j ∷ q) s f c d o = elim o [
    | inl n ↦ square_two l k body active closed i j p q s n f.2 c d
    | inr deep ↦ subst (λ w. Square fire IsNext AreTermsAlike finished (pool l k body active closed) (1 ∷ i ∷ p) (1 ∷ w ∷ q) s) deep.0
        (square_map (λ x. pool l k body x closed) fire_in fire NextIn IsNext AreActivesAlike AreTermsAlike (λ x. false) finished (i, p) (i, q) (1 ∷ i ∷ p) (1 ∷ i ∷ q) (λ x s'. refl) (λ x s'. refl) (λ x s' z. (c.0, z)) (λ x s' z. (c.0, z)) (λ x y h. (x, refl, h)) (λ x e. c.0) active s
        (square_in active i p q s f.0 c.1 (subst (λ w. IsNextIn active w q s) (sym deep.0) d.1) deep.1))
  ]
  square (pool l k body active closed) (suc zero ∷ i ∷ p) (suc (suc m) ∷ j ∷ q) s f c d o = absurd d
  square (pool l k body active closed) (suc (suc n) ∷ i ∷ p) (m ∷ j ∷ q) s f c d o = absurd c

  square_at : {P : Type 0} (ts : Terms P) (k : ℕ) (p q : Path) (s : Memories) → AreSafe ts → IsNextAt ts k p s → IsNextAt ts k q s → AreOfTwoInPart ts k p q → Square fire_at (NextAt ts) AreAllAlike all_finished ts (k, p) (k, q) s
  square_at none k p q s f c d o = absurd o
  square_at (also t ts) zero p q s f c d o =
      square_map (λ x. also x ts) fire fire_at IsNext (NextAt (also t ts)) AreTermsAlike AreAllAlike finished all_finished p q (0, p) (0, q) (λ x s'. refl) (λ x s'. refl)
      (λ x s' z. (z, first_flag t x ts (next-unfinished t p s c))) (λ x s' z. (z, first_flag t x ts (next-unfinished t p s c))) (λ x y h. (x, ts, refl, h, same_terms ts)) (λ x e. ap (λ b. b && all_finished ts) e) t s
      (square t p q s f.0 c d o)
  square_at (also t ts) (suc k) p q s f c d o =
      square_map (also t) fire_at fire_at (NextAt ts) (NextAt (also t ts)) AreAllAlike AreAllAlike all_finished all_finished (k, p) (k, q) (suc k, p) (suc k, q) (λ x s'. refl) (λ x s'. refl)
      (λ x s' z. (z.0, ((λ e. e), z.1))) (λ x s' z. (z.0, ((λ e. e), z.1))) (λ x y h. (t, x, refl, same_term t, h)) (λ x e. and_false (finished t) (all_finished x) e) ts s
      (square_at ts k p q s f.1 c d o)

  square_in : {P : Type 0} (ts : Actives P) (k : ℕ) (p q : Path) (s : Memories) → AreActiveSafe ts → IsNextIn ts k p s → IsNextIn ts k q s → AreOfTwoInActive ts k p q → Square fire_in NextIn AreActivesAlike (λ x. false) ts (k, p) (k, q) s
  square_in idle k p q s f c d o = absurd o
  square_in (busy v t ts) zero p q s f c d o =
      square_map (λ x. busy v x ts) fire fire_in IsNext NextIn AreTermsAlike AreActivesAlike finished (λ x. false) p q (0, p) (0, q) (λ x s'. refl) (λ x s'. refl) (λ x s' z. z) (λ x s' z. z) (λ x y h. (x, ts, refl, h, same_actives ts)) (λ x e. refl) t s
      (square t p q s f.0 c d o)
  square_in (busy v t ts) (suc k) p q s f c d o =
      square_map (busy v t) fire_in fire_in NextIn NextIn AreActivesAlike AreActivesAlike (λ x. false) (λ x. false) (k, p) (k, q) (suc k, p) (suc k, q) (λ x s'. refl) (λ x s'. refl) (λ x s' z. z) (λ x s' z. z) (λ x y h. (t, x, refl, same_term t, h)) (λ x e. refl) ts s
      (square_in ts k p q s f.1 c d o)
