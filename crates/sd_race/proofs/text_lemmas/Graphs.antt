-- The lines of scopes, one after another, and of those of a graph, by its parts.
use Rattle.std.specs.List.{flat_map}
use Rattle.std.specs.Prelude.{String, string_bytes}
use Rattle.std.specs.declared.alloc.Global.{Global}
use Rattle.std.proofs.Common.{◌≡◌, ℕ, ◌+◌, ◌<◌, List, ◌++◌, length, map, take, slice_index_or, ap, sym, ◌∙◌}
use Rattle.std.proofs.lemmas.List.{flat_map_more}
use Rattle.sd_subset.proofs.boxes_lemmas.Walks.{take-next}
use Rattle.sd_graph.specs.PlainTree.{GraphTree}
use Rattle.sd_graph.specs.TreeFold.{named_container, state_trees, graph_tree}
use Rattle.sd_graph.specs.declared.graph.Sdfg.{Sdfg, out-Sdfg}
use Rattle.sd_graph.specs.declared.graph.State.{State}
use Rattle.sd_graph.proofs.TreeLemmas.{graph_opened}
use Rattle.sd_race.specs.text.CheckText.{WholeScope, scope_lines, scopes_text}

pub scopes_made : (g : Sdfg) (names : List (String Global)) (states : List State) (scopes : List WholeScope) → names ≡ (out-Sdfg g).variables.items → states ≡ (out-Sdfg g).states.items →
    flat_map (scope_lines (map string_bytes names) (map named_container (out-Sdfg g).containers.entries) (state_trees states)) scopes ≡ scopes_text (graph_tree g) scopes
scopes_made g names states scopes names_is states_is =
    (λ i. flat_map (scope_lines (map string_bytes (names_is i)) (map named_container (out-Sdfg g).containers.entries) (state_trees (states_is i))) scopes)
    ∙ ap (λ (tree : GraphTree). scopes_text tree scopes) (sym (graph_opened g))

-- one more behind those so far
pub lines_more : {X : Type 0} (f : X → List ℕ) (all : List X) (i : ℕ) (one : X) (old middle text : List ℕ) → i < length all → one ≡ slice_index_or all i one →
    middle ≡ old ++ flat_map f (take i all) → text ≡ middle ++ f one → text ≡ old ++ flat_map f (take (i + 1) all)
lines_more f all i one old middle text below is middle_is text_is =
    text_is ∙ ap (λ front. front ++ f one) middle_is ∙ flat_map_more f old (take i all) one ∙ ap (λ front. old ++ flat_map f front) (sym (take-next all i one below is))
