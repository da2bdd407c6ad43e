-- Numbers that are added for one transition after another.
use Rattle.std.proofs.Common.{◌≡◌, ℕ, suc, ◌+◌, ◌<◌, List, ◌++◌, map, length, drop, slice_index_or, ap, sym, ◌∙◌, append_assoc, add-one, drop-cons}
use Rattle.std.specs.List.{flat_map}
use Rattle.sd_graph.specs.PlainTree.{ExitTree}
use Rattle.sd_graph.specs.TreeFold.{exit_tree}
use Rattle.sd_graph.specs.declared.exit.Exit.{Exit}

-- those of the transitions from one on
pub exits_more : (numbers : ExitTree → List ℕ) (exits : List Exit) (i : ℕ) (exit : Exit) → i < length exits → exit ≡ slice_index_or exits i exit →
    flat_map numbers (map exit_tree (drop i exits)) ≡ numbers (exit_tree exit) ++ flat_map numbers (map exit_tree (drop (i + 1) exits))
exits_more numbers exits i exit below is =
    rw (add-one, drop-cons exits i exit below)
    (ap (λ (first : Exit). numbers (exit_tree first) ++ flat_map numbers (map exit_tree (drop (suc i) exits))) (sym is))

-- what is added first, with the rest
pub pushed : (next so_far first rest left start all : List ℕ) → next ≡ so_far ++ first → left ≡ first ++ rest → so_far ++ left ≡ start ++ all → next ++ rest ≡ start ++ all
pushed next so_far first rest left start all is parts known =
    ap (λ (list : List ℕ). list ++ rest) is ∙ append_assoc so_far first rest ∙ ap (λ (list : List ℕ). so_far ++ list) (sym parts) ∙ known
