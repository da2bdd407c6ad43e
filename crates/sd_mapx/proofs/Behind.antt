-- The nodes behind the first.
use Rattle.std.proofs.Common.{◌≡◌, ℕ, suc, List, [], ◌∷◌, drop, refl, sym}
use Rattle.std.proofs.Math.Seq.{drop-nil}
use Rattle.sd_prop.specs.propagation.ItemNodes.{nodes_behind}

-- so many numbers behind the first
pub behind_first : (count : ℕ) (nodes : List ℕ) → drop (suc count) nodes ≡ drop count (nodes_behind nodes)
behind_first count [] = sym (drop-nil count)
behind_first count (node ∷ nodes) = refl

-- those behind one node
pub behind_one : (nodes : List ℕ) → drop 1 nodes ≡ nodes_behind nodes
behind_one [] = refl
behind_one (node ∷ nodes) = refl
