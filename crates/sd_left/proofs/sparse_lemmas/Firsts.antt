-- The moves of the first point at which something is left.
use Rattle.std.proofs.Common.{◌≡◌, ℕ, zero, suc, ◌+◌, nat_eq, nat_lt, List, [], ◌∷◌, ◌++◌, replicate, None, Bool, true, false, cond, ◌&&◌, refl, sym, ap, ap₂, ◌∙◌, arith}
use Rattle.std.proofs.lemmas.Bool.{lt-ltb}
use Rattle.std.specs.List.{sum}
use Rattle.std.specs.declared.option.Option.{Option}
use Rattle.sd_moves.specs.numbered.Counts.{one_if}
use Rattle.sd_left.specs.declared.sparse.point.Begun.{Begun}
use Rattle.sd_left.specs.declared.sparse.point.Tasks.{Tasks}
use Rattle.sd_left.specs.declared.sparse.stretch.Counts.{Counts}
use Rattle.sd_left.specs.declared.sparse.stretch.Stretch.{Stretch}
use Rattle.sd_left.specs.declared.sparse.stretch.Stretch.TheVariants.{Fresh, Each, Halves'}
use Rattle.sd_left.specs.left.Telling.{count_of_first}
use Rattle.sd_left.specs.sparse.Point.{point_tells}
use Rattle.sd_left.specs.sparse.Stretch.{points_in, moves_each, left_each, is_summed, first_in, is_told}
use Rattle.sd_left.proofs.left_lemmas.Sameness.{sum-cons}
use Rattle.sd_left.proofs.sparse_lemmas.Counts.{moves-both, left-both, fresh-left, told-moves}
use Rattle.sd_left.proofs.sparse_lemmas.Stretches.{halves, counts-true}

module _ (tasks : Tasks) where
  first-both : (xs ys : List (Option Begun))
      → count_of_first (moves_each tasks xs ++ moves_each tasks ys) (left_each tasks xs ++ left_each tasks ys)
      ≡ cond (nat_lt 0 (sum (left_each tasks xs))) (count_of_first (moves_each tasks xs) (left_each tasks xs)) (count_of_first (moves_each tasks ys) (left_each tasks ys))
  first-both [] ys = refl
  first-both (x ∷ xs) ys = go (point_tells tasks x).is_unfinished refl (first-both xs ys)
    where
      move : ℕ
      move = (point_tells tasks x).moves

      rest : ℕ
      rest = sum (left_each tasks xs)

      other : ℕ
      other = count_of_first (moves_each tasks ys) (left_each tasks ys)

      go : (u : Bool) → (point_tells tasks x).is_unfinished ≡ u
          → count_of_first (moves_each tasks xs ++ moves_each tasks ys) (left_each tasks xs ++ left_each tasks ys) ≡ cond (nat_lt 0 rest) (count_of_first (moves_each tasks xs) (left_each tasks xs)) other
          → count_of_first (moves_each tasks (x ∷ xs) ++ moves_each tasks ys) (left_each tasks (x ∷ xs) ++ left_each tasks ys)
          ≡ cond (nat_lt 0 (sum (left_each tasks (x ∷ xs)))) (count_of_first (moves_each tasks (x ∷ xs)) (left_each tasks (x ∷ xs))) other
      go true is behind =
          let some : sum (left_each tasks (x ∷ xs)) ≡ 1 + rest = sum-cons (one_if (point_tells tasks x).is_unfinished) (left_each tasks xs) ∙ ap (λ (b : Bool). one_if b + rest) is in
          ap (λ (b : Bool). cond (nat_eq (one_if b) 0) (count_of_first (moves_each tasks xs ++ moves_each tasks ys) (left_each tasks xs ++ left_each tasks ys)) move) is
          ∙ sym (ap (λ (b : Bool). cond b (count_of_first (moves_each tasks (x ∷ xs)) (left_each tasks (x ∷ xs))) other) (lt-ltb 0 (sum (left_each tasks (x ∷ xs))) (omega (arith, some)))
          ∙ ap (λ (b : Bool). cond (nat_eq (one_if b) 0) (count_of_first (moves_each tasks xs) (left_each tasks xs)) move) is)
      go false is behind =
          let none : sum (left_each tasks (x ∷ xs)) ≡ 0 + rest = sum-cons (one_if (point_tells tasks x).is_unfinished) (left_each tasks xs) ∙ ap (λ (b : Bool). one_if b + rest) is in
          let same : sum (left_each tasks (x ∷ xs)) ≡ rest = omega (arith, none) in
          ap (λ (b : Bool). cond (nat_eq (one_if b) 0) (count_of_first (moves_each tasks xs ++ moves_each tasks ys) (left_each tasks xs ++ left_each tasks ys)) move) is
          ∙ behind
          ∙ sym (ap₂ (λ (n : ℕ) (b : Bool). cond (nat_lt 0 n) (cond (nat_eq (one_if b) 0) (count_of_first (moves_each tasks xs) (left_each tasks xs)) move) other) same is)

  first-fresh : is_told tasks ≡ true → (count : ℕ)
      → cond (nat_lt 0 count && nat_lt 0 tasks.count) tasks.moves 0 ≡ count_of_first (moves_each tasks (replicate count None)) (left_each tasks (replicate count None))
  first-fresh told zero = refl
  first-fresh told (suc count) = go (nat_lt 0 tasks.count) (fresh-left tasks) (first-fresh told count)
    where
      behind : ℕ
      behind = count_of_first (moves_each tasks (replicate count None)) (left_each tasks (replicate count None))

      go : (u : Bool) → (point_tells tasks None).is_unfinished ≡ u → cond (nat_lt 0 count && nat_lt 0 tasks.count) tasks.moves 0 ≡ behind
          → cond (nat_lt 0 (suc count) && u) tasks.moves 0 ≡ cond (nat_eq (one_if (point_tells tasks None).is_unfinished) 0) behind (point_tells tasks None).moves
      go true is rest =
          ap (λ (b : Bool). cond (b && true) tasks.moves 0) (lt-ltb 0 (suc count) (omega arith)) ∙ told-moves tasks told
          ∙ sym (ap (λ (b : Bool). cond (nat_eq (one_if b) 0) behind (point_tells tasks None).moves) is)
      go false is rest =
          none (nat_lt 0 (suc count)) ∙ sym (none (nat_lt 0 count)) ∙ ap (λ (b : Bool). cond (nat_lt 0 count && b) tasks.moves 0) (sym is ∙ fresh-left tasks) ∙ rest
          ∙ sym (ap (λ (b : Bool). cond (nat_eq (one_if b) 0) behind (point_tells tasks None).moves) is)
        where
          none : (b : Bool) → cond (b && false) tasks.moves 0 ≡ 0
          none true = refl
          none false = refl

  -- what a stretch tells of its first point
  pub first-true : (stretch : Stretch) → is_told tasks ≡ true → is_summed tasks stretch ≡ true → first_in tasks stretch ≡ count_of_first (moves_each tasks (points_in stretch)) (left_each tasks (points_in stretch))
  first-true (Fresh count) told summed = first-fresh told count
  first-true (Each points) told summed = refl
  first-true (Halves' p first counts q others) told summed =
      let are = halves tasks counts first others summed in
      ap (λ (n : Counts). cond n.is_unfinished (first_in tasks first) (first_in tasks others)) (counts-true tasks first told are.first_summed)
      ∙ ap₂ (λ (one other : ℕ). cond (nat_lt 0 (sum (left_each tasks (points_in first)))) one other) (first-true first told are.first_summed) (first-true others told are.others_summed)
      ∙ sym (first-both (points_in first) (points_in others))
      ∙ sym (ap₂ count_of_first (moves-both tasks (points_in first) (points_in others)) (left-both tasks (points_in first) (points_in others)))
