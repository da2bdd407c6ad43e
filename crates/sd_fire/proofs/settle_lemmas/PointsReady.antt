-- Which points of a map may go on, by the counts of what is unfinished.
use Rattle.std.proofs.Common.{◌≡◌, ℕ, zero, suc, nat_eq, List, [], ◌∷◌, take, map, Bool, true, false, not, ◌||◌, refl, ap, ◌∙◌}
use Rattle.sd_work.specs.Residual.{is_ready}
use Rattle.sd_work.specs.Settle.{all_true}
use Rattle.sd_graph.specs.Unfold.{order_of_points}
use Rattle.sd_graph.proofs.InSequence.{ready_in_sequence}
use Rattle.sd_left.proofs.tree_lemmas.Points.{any-ready}
use Rattle.sd_fire.proofs.settle_lemmas.FirstUnfinished.{all-done}

-- a point may go on in any order, and in a sequence behind finished ones
ready-in-order : (sequential : Bool) (flags : List Bool) (number : ℕ) → is_ready (order_of_points sequential) flags number ≡ (not sequential || all_true (take number flags))
ready-in-order true flags number = ready_in_sequence flags number
ready-in-order false flags number = any-ready flags 0 number

told-twice : (number : ℕ) (counts : List ℕ) → take number (map (λ count. nat_eq count 0) (take number counts)) ≡ map (λ count. nat_eq count 0) (take number counts)
told-twice zero [] = refl
told-twice zero (count ∷ counts) = refl
told-twice (suc number) [] = refl
told-twice (suc number) (count ∷ counts) = ap (λ (rest : List Bool). nat_eq count 0 ∷ rest) (told-twice number counts)

pub point-ready : (sequential : Bool) (number : ℕ) (counts : List ℕ)
    → is_ready (order_of_points sequential) (map (λ count. nat_eq count 0) (take number counts)) number ≡ (not sequential || all-done (take number counts))
point-ready sequential number counts =
    ready-in-order sequential (map (λ count. nat_eq count 0) (take number counts)) number
    ∙ ap (λ (flags : List Bool). not sequential || all_true flags) (told-twice number counts)
