-- Each next place is listed among the next moves, and stays next where work does not see a change.
use Rattle.std.proofs.Common.{◌≡◌, ℕ, zero, suc, ◌+◌, ◌<◌, ℤ, List, [], ◌∷◌, ◌++◌, Some, Bool, true, false, cond, not, slice_get, refl, sym, ap, subst, arith, Contains}
use Rattle.std.proofs.lemmas.List.Elements.{Contains-append_left, Contains-append_right}
use Rattle.sd_work.specs.Memory.{Memories, waiting}
use Rattle.sd_work.specs.Change.{Change, apply}
use Rattle.sd_work.specs.Leaf.{is_done}
use Rattle.sd_work.specs.Residual.{Term, leaf, list, owning, nested, ended, pool, Terms, none, also, Actives, idle, busy, finished, flags_of, is_ready}
use Rattle.sd_work.specs.Moves.{Path, here_if, moves_in, takes_from, moves, moves_of_parts, moves_of_active}
use Rattle.sd_work.specs.Touch.{SparesWork}
use Rattle.sd_work.proofs.Paths.{AllOf}
use Rattle.sd_work.proofs.Spared.{moves-apply}
use Rattle.sd_confluence.proofs.image.Images.{IsNext, IsNextAt, IsNextIn, IsNextHere}
use Rattle.sd_confluence.proofs.runs.Listed.{all-next}

first_path : (p : Path) (ps : List Path) → Contains (p ∷ ps) p
first_path p ps = (0, omega arith, refl)

in_part : (k : ℕ) (ps : List Path) (p : Path) → Contains ps p → Contains (moves_in k ps) (k ∷ p)
in_part k [] p is = absurd (let less : is.0 < 0 = is.1 in omega (arith, less))
in_part k (q ∷ ps) p (zero, less, is) = (0, omega arith, ap (λ w. k ∷ w) is)
in_part k (q ∷ ps) p (suc i, less, is) = let r = in_part k ps p (i, omega (arith, less), is) in (suc r.0, omega (arith, r.1), r.2)

taken_path : (i : ℕ) (vs : List ℤ) (k : ℕ) (v : ℤ) → slice_get vs k ≡ Some v → Contains (takes_from i vs) (0 ∷ (k + i) ∷ [])
taken_path i [] k v e = cc
taken_path i (w ∷ vs) zero v e =
    let same : i ≡ 0 + i = omega arith in
    subst (λ j. Contains (takes_from i (w ∷ vs)) (0 ∷ j ∷ [])) same (first_path (0 ∷ i ∷ []) (takes_from (suc i) vs))
taken_path i (w ∷ vs) (suc k) v e =
    let r = taken_path (suc i) vs k v e in
    let same : k + suc i ≡ suc k + i = omega arith in
    subst (λ j. Contains (takes_from i (w ∷ vs)) (0 ∷ j ∷ [])) same (Contains-append_right ((0 ∷ i ∷ []) ∷ []) (takes_from (suc i) vs) (0 ∷ (k + suc i) ∷ []) r)

here_path : (b : Bool) (p : Path) → b ≡ false → p ≡ [] → Contains (here_if (not b)) p
here_path true p e f = cc
here_path false p e f = subst (Contains ([] ∷ [])) (sym f) (first_path [] [])

nested_path : (b : Bool) (p : Path) (C : Type 0) (ps : List Path) → (C → Contains ps p) → IsNextHere b p C → Contains (cond b ([] ∷ []) ps) p
nested_path true p C ps h c = subst (Contains ([] ∷ [])) (sym c) (first_path [] [])
nested_path false p C ps h c = h c

ready_path : (b : Bool) (ps : List Path) (p : Path) → b ≡ true → Contains ps p → Contains (cond b ps []) p
ready_path true ps p e is = is
ready_path false ps p e is = cc

open_path : (b : Bool) (ps : List Path) (p : Path) → b ≡ false → Contains ps p → Contains (cond b [] ps) p
open_path true ps p e is = cc
open_path false ps p e is = is

mutual
  pub listed : {P : Type 0} (t : Term P) (p : Path) (s : Memories) → IsNext t p s → Contains (moves t s) p
  listed (leaf place work) p s c = here_path (is_done work) p c.0 c.1
  listed (list kind before parts) [] s c = absurd c
  listed (list kind before parts) (k ∷ p) s c =
      let same : k + 0 ≡ k = omega arith in
      subst (λ w. Contains (moves_of_parts before (flags_of parts) 0 parts s) (w ∷ p)) same
      (listed_part before (flags_of parts) 0 parts k p s (subst (λ w. is_ready before (flags_of parts) w ≡ true) (sym same) c.0) c.1)
  listed (owning own part) p s c = listed part p (own ∷ s) c
  listed (nested body exits own state values part) p s c = nested_path (finished part) p (IsNext part p (own ∷ s)) (moves part (own ∷ s)) (λ d. listed part p (own ∷ s) d) c
  listed (ended own) p s c = absurd c
  listed (pool l k body active closed) [] s c = absurd c
  listed (pool l k body active closed) (zero ∷ []) s c = absurd c
  listed (pool l k body active closed) (zero ∷ i ∷ p) s c =
      let same : i + 0 ≡ i = omega arith in
      open_path closed (moves_in 1 (moves_of_active 0 active s) ++ takes_from 0 (waiting l k s)) (0 ∷ i ∷ p) c.0
      (Contains-append_right (moves_in 1 (moves_of_active 0 active s)) (takes_from 0 (waiting l k s)) (0 ∷ i ∷ p)
      (subst (λ w. Contains (takes_from 0 (waiting l k s)) (0 ∷ i ∷ w)) (sym c.1) (subst (λ w. Contains (takes_from 0 (waiting l k s)) (0 ∷ w ∷ [])) same (taken_path 0 (waiting l k s) i c.2.0 c.2.1))))
  listed (pool l k body active closed) (suc zero ∷ []) s c = absurd c
  listed (pool l k body active closed) (suc zero ∷ i ∷ p) s c =
      let same : i + 0 ≡ i = omega arith in
      open_path closed (moves_in 1 (moves_of_active 0 active s) ++ takes_from 0 (waiting l k s)) (1 ∷ i ∷ p) c.0
      (Contains-append_left (moves_in 1 (moves_of_active 0 active s)) (takes_from 0 (waiting l k s)) (1 ∷ i ∷ p)
      (in_part 1 (moves_of_active 0 active s) (i ∷ p) (subst (λ w. Contains (moves_of_active 0 active s) (w ∷ p)) same (listed_active 0 active i p s c.1))))
  listed (pool l k body active closed) (suc (suc j) ∷ p) s c = absurd c

  listed_part : {P : Type 0} (before : ℕ → ℕ → Bool) (flags : List Bool) (j : ℕ) (ts : Terms P) (k : ℕ) (p : Path) (s : Memories) → is_ready before flags (k + j) ≡ true → IsNextAt ts k p s → Contains (moves_of_parts before flags j ts s) ((k + j) ∷ p)
  listed_part before flags j none k p s r c = absurd c
  listed_part before flags j (also t ts) zero p s r c =
      let same : j ≡ 0 + j = omega arith in
      subst (λ w. Contains (moves_of_parts before flags j (also t ts) s) (w ∷ p)) same (Contains-append_left (cond (is_ready before flags j) (moves_in j (moves t s)) []) (moves_of_parts before flags (suc j) ts s) (j ∷ p)
      (ready_path (is_ready before flags j) (moves_in j (moves t s)) (j ∷ p) (subst (λ w. is_ready before flags w ≡ true) (sym same) r) (in_part j (moves t s) p (listed t p s c))))
  listed_part before flags j (also t ts) (suc k) p s r c =
      let same : k + suc j ≡ suc k + j = omega arith in
      Contains-append_right (cond (is_ready before flags j) (moves_in j (moves t s)) []) (moves_of_parts before flags (suc j) ts s) ((suc k + j) ∷ p)
      (subst (λ w. Contains (moves_of_parts before flags (suc j) ts s) (w ∷ p)) same (listed_part before flags (suc j) ts k p s (subst (λ w. is_ready before flags w ≡ true) (sym same) r) c))

  listed_active : {P : Type 0} (j : ℕ) (ts : Actives P) (k : ℕ) (p : Path) (s : Memories) → IsNextIn ts k p s → Contains (moves_of_active j ts s) ((k + j) ∷ p)
  listed_active j idle k p s c = absurd c
  listed_active j (busy v t ts) zero p s c =
      let same : j ≡ 0 + j = omega arith in
      subst (λ w. Contains (moves_of_active j (busy v t ts) s) (w ∷ p)) same (Contains-append_left (moves_in j (moves t s)) (moves_of_active (suc j) ts s) (j ∷ p) (in_part j (moves t s) p (listed t p s c)))
  listed_active j (busy v t ts) (suc k) p s c =
      let same : k + suc j ≡ suc k + j = omega arith in
      Contains-append_right (moves_in j (moves t s)) (moves_of_active (suc j) ts s) ((suc k + j) ∷ p)
      (subst (λ w. Contains (moves_of_active (suc j) ts s) (w ∷ p)) same (listed_active (suc j) ts k p s c))

-- what holds of each path of a list holds of its members
member : (T : Path → Type 0) (ps : List Path) (p : Path) → AllOf T ps → Contains ps p → T p
member T [] p all is = absurd (let less : is.0 < 0 = is.1 in omega (arith, less))
member T (q ∷ ps) p all (zero, less, is) = subst T is all.0
member T (q ∷ ps) p all (suc k, less, is) = member T ps p all.1 (k, omega (arith, less), is)

pub next-moves : {P : Type 0} (t : Term P) (p : Path) (s : Memories) → Contains (moves t s) p → IsNext t p s
next-moves t p s is = member (λ r. IsNext t r s) (moves t s) p (all-next t s) is

-- what is next stays so after a change that the work does not see
pub next-unseen : {P : Type 0} (t : Term P) (p : Path) (s : Memories) (u : Change) → SparesWork t u → IsNext t p s → IsNext t p (apply u s)
next-unseen t p s u h c = next-moves t p (apply u s) (subst (λ ps. Contains ps p) (sym (moves-apply t u h s)) (listed t p s c))
