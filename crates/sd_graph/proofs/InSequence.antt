-- Parts that come one after another: each waits for all before it.
use Rattle.std.proofs.Common.{◌≡◌, ℕ, zero, suc, ◌+◌, ◌≤◌, ◌<◌, List, [], ◌∷◌, ◌++◌, length, take, Bool, true, false, not, ◌&&◌, ◌||◌, cond, refl, ap, sym, ◌∙◌, arith}
use Rattle.std.proofs.lemmas.Bool.{lt-ltb, ltb-true, le-ltb}
use Rattle.sd_work.specs.Memory.{Memories}
use Rattle.sd_work.specs.Residual.{Terms, none, also, list, Points, finished, flags_of, ready_from, is_ready, IsOrder}
use Rattle.sd_work.specs.Moves.{Path, moves, moves_in, moves_of_parts}
use Rattle.sd_work.specs.Settle.{all_true}
use Rattle.sd_work.proofs.Finished.{moves-finished}
use Rattle.sd_work.proofs.Flags.{or_right, both_true}
use Rattle.sd_graph.specs.Unfold.{one_after_another, order_of_points}
use Rattle.sd_graph.specs.InSequence.{moves_of_first}

-- points have an order, whether they come one after another or not
pub points_have_an_order : (sequential : Bool) → IsOrder (order_of_points sequential)
points_have_an_order true = record {
  rises = λ from to is. ltb-true from to is;
  passes = λ from middle to first second. lt-ltb from to (passed from middle to (ltb-true from middle first) (ltb-true middle to second));
} where
  passed : (from middle to : ℕ) → from < middle → middle < to → from < to
  passed from middle to first second = omega (arith, first, second)
points_have_an_order false = record { rises = λ from to path. cc; passes = λ from middle to path on. path }

-- parts from a number on do not hold up a part that is not behind them
behind : (flags : List Bool) (from number : ℕ) → number ≤ from → ready_from one_after_another from flags number ≡ true
behind [] from number over = refl
behind (flag ∷ flags) from number over =
    both_true _ _ (or_right flag _ (ap not (le-ltb from number over))) (behind flags (suc from) number (omega (arith, over)))

-- so many parts from a number on hold up the part behind them
held_up : (flags : List Bool) (from count number : ℕ) → number ≡ from + count → ready_from one_after_another from flags number ≡ all_true (take count flags)
held_up [] from zero number is = refl
held_up [] from (suc count) number is = refl
held_up (flag ∷ flags) from zero number is = behind (flag ∷ flags) from number (omega (arith, is))
held_up (flag ∷ flags) from (suc count) number is =
    ap (λ less. (flag || not less) && ready_from one_after_another (suc from) flags number) (lt-ltb from number (omega (arith, is)))
    ∙ alone flag _
    ∙ ap (λ rest. flag && rest) (held_up flags (suc from) count number (omega (arith, is)))
  where
    alone : (flag rest : Bool) → ((flag || false) && rest) ≡ (flag && rest)
    alone true rest = refl
    alone false rest = refl

-- a part may go on where all before it are finished
pub ready_in_sequence : (flags : List Bool) (number : ℕ) → is_ready one_after_another flags number ≡ all_true (take number flags)
ready_in_sequence flags number = held_up flags 0 number number (omega arith)

-- so it is told of the flags before it
ready_behind : (earlier later : List Bool) (number : ℕ) → number ≡ length earlier → is_ready one_after_another (earlier ++ later) number ≡ all_true earlier
ready_behind earlier later number is = ready_in_sequence (earlier ++ later) number ∙ ap (λ n. all_true (take n (earlier ++ later))) is ∙ taken earlier later
  where
    taken : (earlier later : List Bool) → all_true (take (length earlier) (earlier ++ later)) ≡ all_true earlier
    taken [] later = refl
    taken (flag ∷ earlier) later = ap (λ rest. flag && rest) (taken earlier later)

-- one more flag
one_more : (earlier later : List Bool) (flag : Bool) → earlier ++ flag ∷ later ≡ (earlier ++ flag ∷ []) ++ later
one_more [] later flag = refl
one_more (first ∷ earlier) later flag = ap (λ rest. first ∷ rest) (one_more earlier later flag)

one_longer : (earlier : List Bool) (flag : Bool) → suc (length earlier) ≡ length (earlier ++ flag ∷ [])
one_longer [] flag = refl
one_longer (first ∷ earlier) flag = ap suc (one_longer earlier flag)

one_true : (earlier : List Bool) → all_true earlier ≡ true → all_true (earlier ++ true ∷ []) ≡ true
one_true [] so = refl
one_true (true ∷ earlier) so = one_true earlier so
one_true (false ∷ earlier) so = cc

stays_false : (earlier : List Bool) (flag : Bool) → all_true earlier ≡ false → all_true (earlier ++ flag ∷ []) ≡ false
stays_false [] flag so = cc
stays_false (true ∷ earlier) flag so = stays_false earlier flag so
stays_false (false ∷ earlier) flag so = refl

one_false : (earlier : List Bool) → all_true (earlier ++ false ∷ []) ≡ false
one_false [] = refl
one_false (true ∷ earlier) = one_false earlier
one_false (false ∷ earlier) = refl

-- behind a part of which something is left no part moves
none_moves : {P : Type 0} (earlier : List Bool) (parts : Terms P) (flags : List Bool) (number : ℕ) (memories : Memories) → all_true earlier ≡ false →
    flags ≡ earlier ++ flags_of parts → number ≡ length earlier → moves_of_parts one_after_another flags number parts memories ≡ []
none_moves earlier none flags number memories so are is = refl
none_moves earlier (also part parts) flags number memories so are is =
    let held : is_ready one_after_another flags number ≡ false =
    ap (λ all. is_ready one_after_another all number) are ∙ ready_behind earlier (finished part ∷ flags_of parts) number is ∙ so in
    ap (λ ready. cond ready (moves_in number (moves part memories)) [] ++ moves_of_parts one_after_another flags (suc number) parts memories) held
    ∙ none_moves (earlier ++ finished part ∷ []) parts flags (suc number) memories (stays_false earlier (finished part) so)
    (are ∙ one_more earlier (flags_of parts) (finished part)) (ap suc is ∙ one_longer earlier (finished part))

-- the first part of which something is left moves, and no other one
first_moves : {P : Type 0} (earlier : List Bool) (parts : Terms P) (flags : List Bool) (number : ℕ) (memories : Memories) → all_true earlier ≡ true →
    flags ≡ earlier ++ flags_of parts → number ≡ length earlier → moves_of_parts one_after_another flags number parts memories ≡ moves_of_first number parts memories
first_moves earlier none flags number memories so are is = refl
first_moves earlier (also part parts) flags number memories so are is =
    ap (λ ready. cond ready (moves_in number (moves part memories)) [] ++ moves_of_parts one_after_another flags (suc number) parts memories)
    (ap (λ all. is_ready one_after_another all number) are ∙ ready_behind earlier (finished part ∷ flags_of parts) number is ∙ so)
    ∙ by_part (finished part) refl (λ e. first_moves (earlier ++ true ∷ []) parts flags (suc number) memories (one_true earlier so)
    (are ∙ ap (λ flag. earlier ++ flag ∷ flags_of parts) e ∙ one_more earlier (flags_of parts) true) (ap suc is ∙ one_longer earlier true))
  where
    nothing_behind : (paths : List Path) → paths ++ [] ≡ paths
    nothing_behind [] = refl
    nothing_behind (path ∷ paths) = ap (λ rest. path ∷ rest) (nothing_behind paths)

    by_part : (over : Bool) → finished part ≡ over → (finished part ≡ true → moves_of_parts one_after_another flags (suc number) parts memories ≡ moves_of_first (suc number) parts memories) →
        moves_in number (moves part memories) ++ moves_of_parts one_after_another flags (suc number) parts memories
        ≡ cond (finished part) (moves_of_first (suc number) parts memories) (moves_in number (moves part memories))
    by_part true e rest =
        ap (λ paths. moves_in number paths ++ moves_of_parts one_after_another flags (suc number) parts memories) (moves-finished part memories e)
        ∙ rest e
        ∙ ap (λ flag. cond flag (moves_of_first (suc number) parts memories) (moves_in number (moves part memories))) (sym e)
    by_part false e rest =
        ap (λ others. moves_in number (moves part memories) ++ others) (none_moves (earlier ++ false ∷ []) parts flags (suc number) memories (one_false earlier)
        (are ∙ ap (λ flag. earlier ++ flag ∷ flags_of parts) e ∙ one_more earlier (flags_of parts) false) (ap suc is ∙ one_longer earlier false))
        ∙ nothing_behind (moves_in number (moves part memories))
        ∙ ap (λ flag. cond flag (moves_of_first (suc number) parts memories) (moves_in number (moves part memories))) (sym e)

-- the next moves of parts that come one after another
pub moves_in_sequence : {P : Type 0} (parts : Terms P) (memories : Memories) → moves (list Points one_after_another parts) memories ≡ moves_of_first 0 parts memories
moves_in_sequence parts memories = first_moves [] parts (flags_of parts) 0 memories refl refl refl
