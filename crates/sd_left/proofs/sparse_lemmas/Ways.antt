-- Ways to the moves of points that stand one after another.
use Rattle.std.proofs.Common.{◌≡◌, ℕ, ◌+◌, ◌-◌, ◌*◌, ◌/◌, ◌%◌, ◌<◌, ◌≤◌, List, ◌++◌, map, take, length, get_or, replicate, None, true, sym, ap, ◌∙◌, subst, arith}
use Rattle.std.proofs.Math.Nat.{mod-lt, div-lt_iff_lt-mul}
use Rattle.std.proofs.Math.Seq.{take-append-add}
use Rattle.std.proofs.lemmas.Nat.{div-add-mod'}
use Rattle.std.proofs.lemmas.List.{take-append-le, get_or_append_left, get_or-append-add, get_or-replicate, length-replicate, take-map, take-replicate}
use Rattle.std.specs.List.{sum}
use Rattle.std.specs.declared.option.Option.{Option}
use Rattle.sd_list.specs.tally.Found.{IsFound}
use Rattle.sd_list.specs.declared.tally.nodes.Found.{Found}
use Rattle.sd_left.specs.declared.sparse.point.Begun.{Begun}
use Rattle.sd_left.specs.declared.sparse.point.Tasks.{Tasks}
use Rattle.sd_left.specs.declared.sparse.stretch.Way.{Way}
use Rattle.sd_left.specs.left.Telling.{Telling, moves_told}
use Rattle.sd_left.specs.sparse.Point.{point_tells, ready_at}
use Rattle.sd_left.specs.sparse.Stretch.{moves_each, is_told, IsWay}
use Rattle.sd_left.proofs.left_lemmas.Readiness.{one-member}
use Rattle.sd_left.proofs.next_moves_lemmas.Held.{counted-there, as-long}
use Rattle.sd_left.proofs.next_moves_lemmas.Found.{moves-at}
use Rattle.sd_left.proofs.sparse_lemmas.Counts.{moves-both, sum-append, fresh-moves, told-moves}

module _ (tasks : Tasks) where
  as-many : (points : List (Option Begun)) → length (moves_each tasks points) ≡ length points
  as-many points = as-long (λ (part : Telling). part.moves) (map (point_tells tasks) points) ∙ as-long (point_tells tasks) points

  -- a way leads to a point that is there
  pub way-there : (points : List (Option Begun)) (unit : ℕ) (way : Way) → IsWay tasks points unit way → way.point < length points
  way-there points unit way is = omega (arith, counted-there (moves_each tasks points) way.point is.rest is.inside, as-many points)

  -- among the first of two lists, and among the others
  pub way-first : (xs ys : List (Option Begun)) (unit : ℕ) (way : Way) → IsWay tasks xs unit way → IsWay tasks (xs ++ ys) unit way
  way-first xs ys unit way is =
      let there : way.point < length xs = way-there xs unit way is in
      let within : way.point < length (moves_each tasks xs) = omega (arith, there, as-many xs) in
      let most : way.point ≤ length (moves_each tasks xs) = omega (arith, within) in
      record {
        rest = is.rest;
        after = is.after;
        before = ap (λ (m : List ℕ). sum (take way.point m) + is.rest) (moves-both tasks xs ys)
            ∙ ap (λ (m : List ℕ). sum m + is.rest) (take-append-le way.point (moves_each tasks xs) (moves_each tasks ys) most) ∙ is.before;
        inside = subst (λ (m : ℕ). is.rest < m) (sym (ap (λ (m : List ℕ). get_or m way.point 0) (moves-both tasks xs ys)
            ∙ get_or_append_left (moves_each tasks xs) (moves_each tasks ys) 0 way.point within)) is.inside;
        task = λ point is_point. is.task point (is_point ∙ get_or_append_left xs ys point way.point there);
      }

  pub way-others : (xs ys : List (Option Begun)) (unit point task : ℕ) (way : Way) → sum (moves_each tasks xs) ≤ unit → IsWay tasks ys (unit - sum (moves_each tasks xs)) way
      → point ≡ way.point + length xs → task ≡ way.task → IsWay tasks (xs ++ ys) unit (record { point = point; task = task })
  way-others xs ys unit point task way most is at same =
      let mx = moves_each tasks xs in
      let my = moves_each tasks ys in
      let on : point ≡ length xs + way.point = omega (arith, at) in
      let on_moves : point ≡ length mx + way.point = omega (arith, on, as-many xs) in
      let taken : take point (mx ++ my) ≡ mx ++ take way.point my = ap (λ (n : ℕ). take n (mx ++ my)) on_moves ∙ take-append-add mx my way.point in
      let earlier : sum (take point (moves_each tasks (xs ++ ys))) ≡ sum mx + sum (take way.point my) =
      ap (λ (m : List ℕ). sum (take point m)) (moves-both tasks xs ys) ∙ ap sum taken ∙ sum-append mx (take way.point my) in
      let here : get_or (moves_each tasks (xs ++ ys)) point 0 ≡ get_or my way.point 0 =
      ap (λ (m : List ℕ). get_or m point 0) (moves-both tasks xs ys) ∙ ap (λ (n : ℕ). get_or (mx ++ my) n 0) on_moves ∙ get_or-append-add mx my way.point 0 in
      record {
        rest = is.rest;
        after = is.after;
        before = omega (arith, earlier, is.before, most);
        inside = subst (λ (m : ℕ). is.rest < m) (sym here) is.inside;
        task = λ one is_one. subst (λ (n : ℕ). IsFound (ready_at tasks one) is.rest (record { number = n; rest = is.after })) (sym same)
            (is.task one (is_one ∙ ap (λ (n : ℕ). get_or (xs ++ ys) n one) on ∙ get_or-append-add xs ys way.point one));
      }

  -- by a count of the moves of each
  pub way-each : (points : List (Option Begun)) (unit : ℕ) (found : Found) (task : ℕ) (point : Option Begun) → IsFound (moves_each tasks points) unit found
      → point ≡ get_or points found.number point
      → (found.rest < (point_tells tasks point).moves → (after : ℕ) × IsFound (ready_at tasks point) found.rest (record { number = task; rest = after }))
      → IsWay tasks points unit (record { point = found.number; task = task })
  way-each points unit found task point is member way =
      let there : found.number < length points = omega (arith, counted-there (moves_each tasks points) found.number found.rest is.inside, as-many points) in
      let less : found.rest < (point_tells tasks point).moves = omega (arith, is.inside, moves-at (point_tells tasks) points found.number point there member) in
      record {
        rest = found.rest;
        after = (way less).0;
        before = is.before;
        inside = is.inside;
        task = λ one is_one. subst (λ (p : Option Begun). IsFound (ready_at tasks p) found.rest (record { number = task; rest = (way less).0 })) (one-there points found.number point one there member is_one) (way less).1;
      }
    where
      one-there : {A : Type 0} (all : List A) (number : ℕ) (first second : A) → number < length all → first ≡ get_or all number first → second ≡ get_or all number second → first ≡ second
      one-there = one-member

  -- among points that have not begun
  pub way-fresh : (count unit task : ℕ) → is_told tasks ≡ true → 0 < tasks.moves → unit < count * tasks.moves
      → (unit % tasks.moves < (point_tells tasks None).moves → (after : ℕ) × IsFound (ready_at tasks None) (unit % tasks.moves) (record { number = task; rest = after }))
      → IsWay tasks (replicate count None) unit (record { point = unit / tasks.moves; task = task })
  way-fresh count unit task told some less way =
      let m = (point_tells tasks None).moves in
      let same : tasks.moves ≡ m = told-moves tasks told in
      let there : unit / tasks.moves < count = (div-lt_iff_lt-mul some).1 less in
      let most : unit / tasks.moves ≤ count = omega (arith, there) in
      let inside : unit % tasks.moves < m = subst (λ (n : ℕ). unit % tasks.moves < n) same (mod-lt unit some) in
      let here : get_or (moves_each tasks (replicate count None)) (unit / tasks.moves) 0 ≡ m = moves-at (point_tells tasks) (replicate count None) (unit / tasks.moves) None
      (omega (arith, there, length-of count)) (sym (get_or-replicate count (unit / tasks.moves) None None there)) in
      let earlier : sum (take (unit / tasks.moves) (moves_each tasks (replicate count None))) ≡ unit / tasks.moves * tasks.moves =
      ap sum (take-each (unit / tasks.moves) (replicate count None)) ∙ ap (λ (ps : List (Option Begun)). sum (moves_each tasks ps)) (take-replicate (unit / tasks.moves) count None most)
      ∙ fresh-moves tasks (unit / tasks.moves) ∙ ap (λ (n : ℕ). unit / tasks.moves * n) (sym same) in
      record {
        rest = unit % tasks.moves;
        after = (way inside).0;
        before = ap (λ (n : ℕ). n + unit % tasks.moves) earlier ∙ div-add-mod' unit tasks.moves;
        inside = subst (λ (n : ℕ). unit % tasks.moves < n) (sym here) inside;
        task = λ one is_one. subst (λ (p : Option Begun). IsFound (ready_at tasks p) (unit % tasks.moves) (record { number = task; rest = (way inside).0 }))
            (sym (is_one ∙ get_or-replicate count (unit / tasks.moves) None one there)) (way inside).1;
      }
    where
      length-of : (count : ℕ) → length (replicate {A = Option Begun} count None) ≡ count
      length-of count = length-replicate count None

      take-each : (n : ℕ) (points : List (Option Begun)) → take n (moves_each tasks points) ≡ moves_each tasks (take n points)
      take-each n points = take-map (λ (part : Telling). part.moves) n (map (point_tells tasks) points) ∙ ap moves_told (take-map (point_tells tasks) n points)
