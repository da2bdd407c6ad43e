-- What is counted of points, of two lists together and of points that have not begun.
use Rattle.std.proofs.Common.{◌≡◌, ℕ, zero, suc, ◌+◌, ◌*◌, nat_eq, nat_lt, List, ◌++◌, map, replicate, None, Bool, true, false, ◌&&◌, ◌||◌, refl, sym, ap, ap₂, ◌∙◌, arith, rules}
use Rattle.std.proofs.lemmas.Bool.{lt-ltb, eqb-true}
use Rattle.std.proofs.lemmas.List.{map-append, length-append, length-replicate}
use Rattle.std.proofs.lemmas.List.Sums.{sum_by-append}
use Rattle.std.specs.List.{sum}
use Rattle.std.specs.declared.option.Option.{Option}
use Rattle.sd_moves.specs.numbered.Counts.{one_if}
use Rattle.sd_left.specs.declared.sparse.point.Begun.{Begun}
use Rattle.sd_left.specs.declared.sparse.point.Tasks.{Tasks}
use Rattle.sd_left.specs.declared.sparse.stretch.Counts.{Counts}
use Rattle.sd_left.specs.left.Telling.{Telling, moves_told, unfinished_told}
use Rattle.sd_left.specs.sparse.Point.{task_tells, point_tells}
use Rattle.sd_left.specs.sparse.Stretch.{moves_each, left_each, counted, fresh_counts, together, are_same, is_told}
use Rattle.sd_left.proofs.left_lemmas.Sameness.{both-true, sum-cons}

-- two counts that agree in all
pub counts-are : (first others : Counts) → first.points ≡ others.points → first.moves ≡ others.moves → first.is_unfinished ≡ others.is_unfinished → first ≡ others
counts-are first others points moves unfinished =
    ap (λ (n : ℕ). record { points = n; moves = first.moves; is_unfinished = first.is_unfinished }) points
    ∙ ap (λ (n : ℕ). record { points = others.points; moves = n; is_unfinished = first.is_unfinished }) moves
    ∙ ap (λ (b : Bool). record { points = others.points; moves = others.moves; is_unfinished = b }) unfinished

flags-are : (one other : Bool) → nat_eq (one_if one) (one_if other) ≡ true → one ≡ other
flags-are true true same = refl
flags-are true false same = absurd (let no : false ≡ true = same in cc)
flags-are false true same = absurd (let no : false ≡ true = same in cc)
flags-are false false same = refl

pub same-counts : (first others : Counts) → are_same first others ≡ true → first ≡ others
same-counts first others same =
    let one = both-true (nat_eq first.points others.points) (nat_eq first.moves others.moves && nat_eq (one_if first.is_unfinished) (one_if others.is_unfinished)) same in
    let two = both-true (nat_eq first.moves others.moves) (nat_eq (one_if first.is_unfinished) (one_if others.is_unfinished)) one.1 in
    counts-are first others (eqb-true first.points others.points one.0) (eqb-true first.moves others.moves two.0) (flags-are first.is_unfinished others.is_unfinished two.1)

same-number : (n : ℕ) → nat_eq n n ≡ true
same-number n = search rules

same-flag : (b : Bool) → nat_eq (one_if b) (one_if b) ≡ true
same-flag b = same-number (one_if b)

pub same-self : (counts : Counts) → are_same counts counts ≡ true
same-self counts = ap₂ (λ (a b : Bool). a && b) (same-number counts.points) (ap₂ (λ (a b : Bool). a && b) (same-number counts.moves) (same-flag counts.is_unfinished))

pub sum-append : (xs ys : List ℕ) → sum (xs ++ ys) ≡ sum xs + sum ys
sum-append = sum_by-append (λ x. x)

zero-more : (n : ℕ) → 0 + n ≡ n
zero-more n = omega arith

-- something in one list, or in the other
pub either-some : (one other : ℕ) → nat_lt 0 (one + other) ≡ (nat_lt 0 one || nat_lt 0 other)
either-some zero other = ap (λ (n : ℕ). nat_lt 0 n) (zero-more other)
either-some (suc one) other = lt-ltb 0 (suc one + other) (omega arith) ∙ sym (ap (λ (b : Bool). b || nat_lt 0 other) (lt-ltb 0 (suc one) (omega arith)))

none-true : (b : Bool) → (b && false) ≡ false
none-true true = refl
none-true false = refl

module _ (tasks : Tasks) where
  moves-of-both : (xs ys : List (Option Begun)) → moves_each tasks (xs ++ ys) ≡ moves_each tasks xs ++ moves_each tasks ys
  moves-of-both xs ys =
      ap moves_told (map-append (point_tells tasks) xs ys) ∙ map-append (λ (part : Telling). part.moves) (map (point_tells tasks) xs) (map (point_tells tasks) ys)

  pub moves-both : (xs ys : List (Option Begun)) → moves_each tasks (xs ++ ys) ≡ moves_each tasks xs ++ moves_each tasks ys
  moves-both = moves-of-both

  pub left-both : (xs ys : List (Option Begun)) → left_each tasks (xs ++ ys) ≡ left_each tasks xs ++ left_each tasks ys
  left-both xs ys =
      ap unfinished_told (map-append (point_tells tasks) xs ys) ∙ map-append (λ (part : Telling). one_if part.is_unfinished) (map (point_tells tasks) xs) (map (point_tells tasks) ys)

  -- two lists one after another
  pub counted-both : (xs ys : List (Option Begun)) → together (counted tasks xs) (counted tasks ys) ≡ counted tasks (xs ++ ys)
  counted-both xs ys =
      let left : sum (left_each tasks (xs ++ ys)) ≡ sum (left_each tasks xs) + sum (left_each tasks ys) = ap sum (left-both xs ys) ∙ sum-append (left_each tasks xs) (left_each tasks ys) in
      counts-are (together (counted tasks xs) (counted tasks ys)) (counted tasks (xs ++ ys))
      (sym (length-append xs ys))
      (sym (ap sum (moves-both xs ys) ∙ sum-append (moves_each tasks xs) (moves_each tasks ys)))
      (sym (ap (λ (n : ℕ). nat_lt 0 n) left ∙ either-some (sum (left_each tasks xs)) (sum (left_each tasks ys))))

  -- points that have not begun
  all-left : (count : ℕ) → sum (unfinished_told (map task_tells (replicate count None))) ≡ count
  all-left zero = refl
  all-left (suc count) =
      let more : 1 + count ≡ suc count = omega arith in
      sum-cons 1 (unfinished_told (map task_tells (replicate count None))) ∙ ap (λ (n : ℕ). 1 + n) (all-left count) ∙ more

  pub fresh-left : (point_tells tasks None).is_unfinished ≡ nat_lt 0 tasks.count
  fresh-left = ap (λ (n : ℕ). nat_lt 0 n) (all-left tasks.count)

  pub fresh-moves : (count : ℕ) → sum (moves_each tasks (replicate count None)) ≡ count * (point_tells tasks None).moves
  fresh-moves zero = omega arith
  fresh-moves (suc count) =
      sum-cons (point_tells tasks None).moves (moves_each tasks (replicate count None)) ∙ ap (λ (n : ℕ). (point_tells tasks None).moves + n) (fresh-moves count)
      ∙ one-more count (point_tells tasks None).moves
    where
      one-more : (n m : ℕ) → m + n * m ≡ suc n * m
      one-more n m = omega arith

  some-left : (count : ℕ) (one : Bool) → (point_tells tasks None).is_unfinished ≡ one → nat_lt 0 (sum (left_each tasks (replicate count None))) ≡ (nat_lt 0 count && one)
  some-left zero one is = refl
  some-left (suc count) true is =
      let more : sum (left_each tasks (replicate (suc count) None)) ≡ 1 + sum (left_each tasks (replicate count None)) =
      sum-cons (one_if (point_tells tasks None).is_unfinished) (left_each tasks (replicate count None)) ∙ ap (λ (b : Bool). one_if b + sum (left_each tasks (replicate count None))) is in
      lt-ltb 0 (sum (left_each tasks (replicate (suc count) None))) (omega (arith, more)) ∙ sym (ap (λ (b : Bool). b && true) (lt-ltb 0 (suc count) (omega arith)))
  some-left (suc count) false is =
      let more : sum (left_each tasks (replicate (suc count) None)) ≡ 0 + sum (left_each tasks (replicate count None)) =
      sum-cons (one_if (point_tells tasks None).is_unfinished) (left_each tasks (replicate count None)) ∙ ap (λ (b : Bool). one_if b + sum (left_each tasks (replicate count None))) is in
      ap (λ (n : ℕ). nat_lt 0 n) (more ∙ zero-more (sum (left_each tasks (replicate count None)))) ∙ some-left count false is ∙ none-true (nat_lt 0 count) ∙ sym (none-true (nat_lt 0 (suc count)))

  pub told-moves : is_told tasks ≡ true → tasks.moves ≡ (point_tells tasks None).moves
  told-moves = eqb-true tasks.moves (point_tells tasks None).moves

  pub counted-fresh : (count : ℕ) → is_told tasks ≡ true → counted tasks (replicate count None) ≡ fresh_counts tasks count
  counted-fresh count told = counts-are (counted tasks (replicate count None)) (fresh_counts tasks count)
      (length-replicate count None)
      (fresh-moves count ∙ ap (λ (n : ℕ). count * n) (sym (told-moves told)))
      (some-left count (nat_lt 0 tasks.count) fresh-left)

  pub fresh-both : (one other : ℕ) → together (fresh_counts tasks one) (fresh_counts tasks other) ≡ fresh_counts tasks (one + other)
  fresh-both one other = counts-are (together (fresh_counts tasks one) (fresh_counts tasks other)) (fresh_counts tasks (one + other))
      refl
      (shared one other tasks.moves)
      (some one other (nat_lt 0 tasks.count))
    where
      shared : (a b c : ℕ) → a * c + b * c ≡ (a + b) * c
      shared a b c = search rules

      some : (a b : ℕ) (c : Bool) → ((nat_lt 0 a && c) || (nat_lt 0 b && c)) ≡ (nat_lt 0 (a + b) && c)
      some zero b c = sym (ap (λ (n : ℕ). nat_lt 0 n && c) (zero-more b))
      some (suc a) b true =
          ap (λ (x : Bool). (x && true) || (nat_lt 0 b && true)) (lt-ltb 0 (suc a) (omega arith))
          ∙ sym (ap (λ (x : Bool). x && true) (lt-ltb 0 (suc a + b) (omega arith)))
      some (suc a) b false =
          ap₂ (λ (x y : Bool). x || y) (none-true (nat_lt 0 (suc a))) (none-true (nat_lt 0 b))
          ∙ sym (none-true (nat_lt 0 (suc a + b)))
