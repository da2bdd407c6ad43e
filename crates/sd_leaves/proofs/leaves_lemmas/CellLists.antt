-- What is to do with lists of elements that were looked up.
use Rattle.std.proofs.Common.{◌≡◌, ℕ, ℤ, List, [], ◌∷◌, ◌++◌, map, Option, Some, None, option_map, refl, sym, ap, ◌∙◌}
use Rattle.std.specs.List.{zip}
use Rattle.std.proofs.lemmas.Simd.{map-map}
use Rattle.sd_range.specs.Subset.{elements, whole}
use Rattle.sd_num.specs.declared.resolution.Resolution.{Resolution}
use Rattle.sd_work.specs.Memory.{Reference}
use Rattle.sd_work.specs.Leaf.{write_value, transfer, identities}
use Rattle.sd_graph.specs.Context.{Context, reference_at, link_elements, link_element, link_extents}
use Rattle.sd_graph.specs.Unfold.{reduction_pairs, target_place}
use Rattle.sd_graph.specs.declared.link.Link.{Link}
use Rattle.sd_mem.specs.machine.Stack.{reference_of}
use Rattle.sd_mem.specs.declared.machine.address.Address.{Address}
use Rattle.sd_leaves.specs.leaves.Done.{copied, copied_at, reducing, resolving}
use Rattle.sd_leaves.specs.leaves.Cells.{writing, transferring}

-- a value written to each
written_told : (value : ℤ) (targets : List (Option Address)) →
    map (writing value) targets ≡ map (λ target. write_value value target None) (map (option_map reference_of) targets)
written_told value [] = refl
written_told value (target ∷ targets) = ap (λ rest. writing value target ∷ rest) (written_told value targets)

-- each first one written to the second one
transferred : (by : Option Resolution) (sources targets : List (Option Address)) →
    map (transferring by) (zip sources targets) ≡ map (λ pair. transfer pair.0 pair.1 by) (zip (map (option_map reference_of) sources) (map (option_map reference_of) targets))
transferred by [] targets = refl
transferred by (source ∷ sources) [] = refl
transferred by (source ∷ sources) (target ∷ targets) = ap (λ rest. transferring by (source, target) ∷ rest) (transferred by sources targets)

-- the same where the elements are these
pub written_to : (value : ℤ) (targets : List (Option Address)) (to : List (Option Reference)) → map (option_map reference_of) targets ≡ to →
    map (writing value) targets ≡ map (λ target. write_value value target None) to
written_to value targets to is = written_told value targets ∙ ap (map (λ target. write_value value target None)) is

pub copied_to : (sources targets : List (Option Address)) (from to : List (Option Reference)) → map (option_map reference_of) sources ≡ from → map (option_map reference_of) targets ≡ to →
    map (transferring None) (zip sources targets) ≡ map (λ pair. transfer pair.0 pair.1 None) (zip from to)
copied_to sources targets from to from_is to_is =
    transferred None sources targets
    ∙ ap (λ from. map (λ pair. transfer pair.0 pair.1 None) (zip from (map (option_map reference_of) targets))) from_is
    ∙ ap (λ to. map (λ pair. transfer pair.0 pair.1 None) (zip from to)) to_is

-- a copy is what it does with the elements at each pair of indices
copied_pairs : (context : Context) (from to : Link) (firsts seconds : List (List ℤ)) →
    map (λ pair. transfer pair.0 pair.1 None) (zip (map (reference_at (context.reach from.memlet.container)) firsts) (map (reference_at (context.reach to.memlet.container)) seconds))
    ≡ map (copied_at context from to) (zip firsts seconds)
copied_pairs context from to [] seconds = refl
copied_pairs context from to (first ∷ firsts) [] = refl
copied_pairs context from to (first ∷ firsts) (second ∷ seconds) = ap (λ rest. copied_at context from to (first, second) ∷ rest) (copied_pairs context from to firsts seconds)

pub copied_is : (context : Context) (from to : Link) → copied context from to ≡ map (copied_at context from to) (zip (elements from.memlet.subset context.values) (elements to.memlet.subset context.values))
copied_is context from to = copied_pairs context from to (elements from.memlet.subset context.values) (elements to.memlet.subset context.values)

-- what is done at a pair of indices, with the elements that were looked up
pub transferred_at : (context : Context) (from to : Link) (indices : List ℤ × List ℤ) (source target : Option Address) →
    option_map reference_of source ≡ reference_at (context.reach from.memlet.container) indices.0 → option_map reference_of target ≡ reference_at (context.reach to.memlet.container) indices.1 →
    transferring None (source, target) ≡ copied_at context from to indices
transferred_at context from to indices source target source_is target_is = λ i. transfer (source_is i) (target_is i) None

-- a value written to each element of a link is what is written at each index
pub written_is : (context : Context) (link : Link) (value : ℤ) →
    identities (Some value) (link_elements context link) ≡ map (λ index. write_value value (reference_at (context.reach link.memlet.container) index) None) (elements link.memlet.subset context.values)
written_is context link value = map-map (λ target. write_value value target None) (reference_at (context.reach link.memlet.container)) (elements link.memlet.subset context.values)

-- pairs of lists, where one of them is at its end
pub no_pairs : {A B : Type 0} (firsts : List A) (seconds : List B) → seconds ≡ [] → zip firsts seconds ≡ []
no_pairs [] seconds none = refl
no_pairs (first ∷ firsts) seconds none = ap (zip (first ∷ firsts)) none

-- a reduction at each place of its source is what it does with each pair of elements
pub reduction_is : (context : Context) (resolution : Resolution) (axis : Option ℕ) (identity : Option ℤ) (from to : Link) →
    reducing context resolution axis identity from to
    ≡ identities identity (link_elements context to) ++ map (λ pair. transfer pair.0 pair.1 (Some resolution)) (reduction_pairs context axis from to)
reduction_is context resolution axis identity from to =
    ap (λ rest. identities identity (link_elements context to) ++ rest)
    (sym (map-map (λ (pair : Option Reference × Option Reference). transfer pair.0 pair.1 (Some resolution)) (λ at. (link_element context from at, link_element context to (target_place axis at))) (whole (link_extents context from))))

-- what is done at a place of a reduction's source, with the elements that were looked up
pub resolved_at : (context : Context) (resolution : Resolution) (axis : Option ℕ) (from to : Link) (at place : List ℤ) (source target : Option Address) →
    option_map reference_of source ≡ link_element context from at → place ≡ target_place axis at → option_map reference_of target ≡ link_element context to place →
    transferring (Some resolution) (source, target) ≡ resolving context resolution axis from to at
resolved_at context resolution axis from to at place source target source_is place_is target_is =
    ap (λ first. transfer first (option_map reference_of target) (Some resolution)) source_is
    ∙ ap (λ second. transfer (link_element context from at) second (Some resolution)) (target_is ∙ ap (link_element context to) place_is)
