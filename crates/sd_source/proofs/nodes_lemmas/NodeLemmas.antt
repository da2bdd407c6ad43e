-- Nodes that are made one after another, and those of a consume scope with one tasklet.
use Rattle.std.proofs.Common.{◌≡◌, refl, ap, ◌∙◌, ℕ, ◌+◌, List, [], ◌∷◌, ◌++◌, append_assoc, replicate, None}
use Rattle.std.proofs.lemmas.List.{append-nil, replicate_more}
use Rattle.sd_source.specs.nodes.Items.{Name, single, no_item, and_item}
use Rattle.sd_source.specs.nodes.Names.{noted_own}
use Rattle.sd_source.specs.nodes.Nodes.{plain_node, with_nodes}
use Rattle.sd_source.specs.declared.nodes.node.Node.{Node}

-- one node more
pub grown : (made : List Node) (count : ℕ) (node : Node) → (made ++ replicate count node) ++ node ∷ [] ≡ made ++ replicate (count + 1) node
grown made count node = append_assoc made (replicate count node) (node ∷ []) ∙ ap (λ nodes. made ++ nodes) (replicate_more count node)

-- where no container is a list's own, none is noted
pub none_own : (known names : List Name) → noted_own [] known names ≡ known
none_own known [] = refl
none_own known (name ∷ names) = none_own known names

pub tasklet_nodes : (made : List Node) (line : ℕ) (reads writes : List Name) → with_nodes [] [] (made ++ plain_node line ∷ []) (and_item (single line None reads writes) no_item) ++ plain_node line ∷ [] ≡ made ++ replicate 3 (plain_node line)
tasklet_nodes made line reads writes = rw (none_own [] reads) (rw (none_own [] writes) (simp (append-nil, append_assoc)))
