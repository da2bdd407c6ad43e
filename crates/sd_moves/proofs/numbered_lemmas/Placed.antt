-- The next move of a number is at its place.
use Rattle.std.proofs.Common.{◌≡◌, ℕ, zero, suc, ◌+◌, ◌-◌, ◌<◌, ◌≤◌, ℤ, List, [], ◌∷◌, ◌++◌, Bool, true, false, cond, not, length, slice_index_or, nat_lt, if◌then◌else◌, refl, sym, ◌∙◌, ap, arith}
use Rattle.std.proofs.lemmas.Bool.{ltb-true, ltb-false}
use Rattle.sd_work.specs.Memory.{Memories, waiting}
use Rattle.sd_work.specs.Leaf.{is_done}
use Rattle.sd_work.specs.Residual.{Term, leaf, list, owning, nested, ended, pool, Terms, none, also, Actives, idle, busy, finished, flags_of, is_ready}
use Rattle.sd_work.specs.Moves.{Path, here_if, moves_in, takes_from, moves, moves_of_parts, moves_of_active}
use Rattle.sd_moves.specs.numbered.Counts.{one_if, count, count_parts, count_active}
use Rattle.sd_moves.specs.numbered.Places.{here_or_later, place_of, place_in_parts, place_in_active}
use Rattle.sd_moves.proofs.numbered_lemmas.Counted.{in_count, part_count, counted, counted_active}

-- ---- places of lists

at_first : (ps qs : List Path) (k : ℕ) (d e : Path) → k < length ps → slice_index_or (ps ++ qs) k d ≡ slice_index_or ps k e
at_first [] qs k d e h = absurd (omega (arith, h))
at_first (p ∷ ps) qs zero d e h = refl
at_first (p ∷ ps) qs (suc k) d e h = at_first ps qs k d e (omega (arith, h))

at_second : (ps qs : List Path) (k : ℕ) (d : Path) → length ps ≤ k → slice_index_or (ps ++ qs) k d ≡ slice_index_or qs (k - length ps) d
at_second [] qs k d h = let same : k ≡ k - 0 = omega arith in ap (λ n. slice_index_or qs n d) same
at_second (p ∷ ps) qs zero d h = absurd (omega (arith, h))
at_second (p ∷ ps) qs (suc k) d h = let less : suc k - suc (length ps) ≡ k - length ps = omega arith in at_second ps qs k d (omega (arith, h)) ∙ ap (λ n. slice_index_or qs n d) (sym less)

at_in : (number : ℕ) (ps : List Path) (k : ℕ) (d : Path) → k < length ps → slice_index_or (moves_in number ps) k d ≡ number ∷ slice_index_or ps k d
at_in number [] k d h = absurd (omega (arith, h))
at_in number (p ∷ ps) zero d h = refl
at_in number (p ∷ ps) (suc k) d h = at_in number ps k d (omega (arith, h))

at_take : (position : ℕ) (values : List ℤ) (k : ℕ) (d : Path) → k < length values → slice_index_or (takes_from position values) k d ≡ 0 ∷ (position + k) ∷ []
at_take position [] k d h = absurd (omega (arith, h))
at_take position (value ∷ values) zero d h = let same : position ≡ position + 0 = omega arith in ap (λ n. 0 ∷ n ∷ []) same
at_take position (value ∷ values) (suc k) d h =
    let same : suc position + k ≡ position + suc k = omega arith in at_take (suc position) values k d (omega (arith, h)) ∙ ap (λ n. 0 ∷ n ∷ []) same

-- ---- two lists, one after the other

either : (first : Bool) (here : Path) (later : ℕ → Path) (move counted : ℕ) (path : Path) → nat_lt move counted ≡ first
    → (move < counted → path ≡ here) → (counted ≤ move → path ≡ later (move - counted)) → path ≡ (if first then here else later (move - counted))
either true here later move counted path test h g = h (ltb-true move counted test)
either false here later move counted path test h g = g (ltb-false move counted test)

pub one_of : (here : Path) (later : ℕ → Path) (move counted : ℕ) (path : Path)
    → (move < counted → path ≡ here) → (counted ≤ move → path ≡ later (move - counted)) → path ≡ here_or_later move counted here later
one_of here later move counted path h g = either (nat_lt move counted) here later move counted path refl h g

-- ---- parts that may go on

ready_place : (ready : Bool) (number : ℕ) (ps : List Path) (counted k : ℕ) (d here : Path) → length ps ≡ counted → k < cond ready counted 0
    → (k < counted → slice_index_or ps k d ≡ here) → slice_index_or (cond ready (moves_in number ps) []) k d ≡ number ∷ here
ready_place true number ps counted k d here long h g = at_in number ps k d (omega (arith, long, h)) ∙ ap (λ path. number ∷ path) (g h)
ready_place false number ps counted k d here long h g = absurd (omega (arith, h))

run_place : (over : Bool) (ps : List Path) (counted k : ℕ) (d here : Path) → k < cond over 1 counted → (k < counted → slice_index_or ps k d ≡ here)
    → slice_index_or (cond over ([] ∷ []) ps) k d ≡ cond over [] here
run_place true ps counted zero d here h g = refl
run_place true ps counted (suc k) d here h g = absurd (omega (arith, h))
run_place false ps counted k d here h g = g h

leaf_place : (here : Bool) (k : ℕ) (d : Path) → k < one_if here → slice_index_or (here_if here) k d ≡ []
leaf_place true zero d h = refl
leaf_place true (suc k) d h = absurd (omega (arith, h))
leaf_place false k d h = absurd (omega (arith, h))

open_place : (closed : Bool) (ps : List Path) (counted k : ℕ) (d here : Path) → k < cond closed 0 counted → (k < counted → slice_index_or ps k d ≡ here)
    → slice_index_or (cond closed [] ps) k d ≡ here
open_place true ps counted k d here h g = absurd (omega (arith, h))
open_place false ps counted k d here h g = g h

mutual
  pub placed : {P : Type 0} (term : Term P) (memories : Memories) (k : ℕ) (d : Path) → k < count term memories → slice_index_or (moves term memories) k d ≡ place_of term memories k
  placed (leaf place work) memories k d h = leaf_place (not (is_done work)) k d h
  placed (list kind before parts) memories k d h = placed_parts before (flags_of parts) 0 parts memories k d h
  placed (owning own part) memories k d h = placed part (own ∷ memories) k d h
  placed (nested body exits own state values part) memories k d h =
      run_place (finished part) (moves part (own ∷ memories)) (count part (own ∷ memories)) k d (place_of part (own ∷ memories) k) h (placed part (own ∷ memories) k d)
  placed (ended own) memories k d h = absurd (omega (arith, h))
  placed (pool level container body active closed) memories k d h =
      let inner = moves_of_active 0 active memories in
      let values = waiting level container memories in
      let busy_ones = count_active active memories in
      let long : length (moves_in 1 inner) ≡ busy_ones = in_count 1 inner ∙ counted_active 0 active memories in
      let short : length inner ≡ busy_ones = counted_active 0 active memories in
      open_place closed (moves_in 1 inner ++ takes_from 0 values) (busy_ones + length values) k d (place_of (pool level container body active closed) memories k) h
      (λ below. one_of (1 ∷ place_in_active 0 active memories k) (λ position. 0 ∷ position ∷ []) k busy_ones (slice_index_or (moves_in 1 inner ++ takes_from 0 values) k d)
      (λ here. at_first (moves_in 1 inner) (takes_from 0 values) k d d (omega (arith, long, here)) ∙ at_in 1 inner k d (omega (arith, short, here)) ∙ ap (λ path. 1 ∷ path) (placed_active 0 active memories k d here))
      (λ behind. at_second (moves_in 1 inner) (takes_from 0 values) k d (omega (arith, long, behind)) ∙ ap (λ n. slice_index_or (takes_from 0 values) (k - n) d) long
      ∙ at_take 0 values (k - busy_ones) d (omega (arith, below, behind)) ∙ ap (λ n. 0 ∷ n ∷ []) (omega arith)))

  pub placed_parts : {P : Type 0} (before : ℕ → ℕ → Bool) (flags : List Bool) (number : ℕ) (parts : Terms P) (memories : Memories) (k : ℕ) (d : Path)
      → k < count_parts before flags number parts memories → slice_index_or (moves_of_parts before flags number parts memories) k d ≡ place_in_parts before flags number parts memories k
  placed_parts before flags number none memories k d h = absurd (omega (arith, h))
  placed_parts before flags number (also part parts) memories k d h =
      let ready = is_ready before flags number in
      let here = cond ready (moves_in number (moves part memories)) [] in
      let others = moves_of_parts before flags (suc number) parts memories in
      let few = cond ready (count part memories) 0 in
      let long : length here ≡ few = part_count ready number (moves part memories) (count part memories) (counted part memories) in
      one_of (number ∷ place_of part memories k) (place_in_parts before flags (suc number) parts memories) k few (slice_index_or (here ++ others) k d)
      (λ below. at_first here others k d d (omega (arith, long, below))
      ∙ ready_place ready number (moves part memories) (count part memories) k d (place_of part memories k) (counted part memories) below (placed part memories k d))
      (λ behind. at_second here others k d (omega (arith, long, behind)) ∙ ap (λ n. slice_index_or others (k - n) d) long
      ∙ placed_parts before flags (suc number) parts memories (k - few) d (omega (arith, h, behind)))

  pub placed_active : {P : Type 0} (number : ℕ) (active : Actives P) (memories : Memories) (k : ℕ) (d : Path)
      → k < count_active active memories → slice_index_or (moves_of_active number active memories) k d ≡ place_in_active number active memories k
  placed_active number idle memories k d h = absurd (omega (arith, h))
  placed_active number (busy value part active) memories k d h =
      let here = moves_in number (moves part memories) in
      let others = moves_of_active (suc number) active memories in
      let few = count part memories in
      let short : length (moves part memories) ≡ few = counted part memories in
      let long : length here ≡ few = in_count number (moves part memories) ∙ short in
      one_of (number ∷ place_of part memories k) (place_in_active (suc number) active memories) k few (slice_index_or (here ++ others) k d)
      (λ below. at_first here others k d d (omega (arith, long, below)) ∙ at_in number (moves part memories) k d (omega (arith, short, below))
      ∙ ap (λ path. number ∷ path) (placed part memories k d below))
      (λ behind. at_second here others k d (omega (arith, long, behind)) ∙ ap (λ n. slice_index_or others (k - n) d) long
      ∙ placed_active (suc number) active memories (k - few) d (omega (arith, h, behind)))
