-- The memories that graphs open with are of their containers' widths.
use Rattle.std.proofs.Common.{◌≡◌, ℕ, ℤ, List, [], ◌∷◌, map, Option, Some, None, Ok, Err, ap, subst}
use Rattle.std.specs.Option.{option_map_or}
use Rattle.sd_work.specs.Memory.{Memory}
use Rattle.sd_pieces.specs.cut.Merged.{AreElementsOfWidth}
use Rattle.sd_graph.specs.PlainTree.{GraphTree}
use Rattle.sd_graph.specs.TreeParts.{containers_of}
use Rattle.sd_graph.specs.Unfold.{opening_memory}
use Rattle.sd_cut.specs.Fits.{AreValuesOfWidth}
use Rattle.sd_mem.specs.mem.Shaped.{Shaped}
use Rattle.sd_mem.specs.mem.GraphContents.{opened_with}
use Rattle.sd_part.specs.Whole.{IsOfWidths}
use Rattle.sd_part.proofs.Widths.{opens}
use Rattle.sd_part.proofs.StreamWidths.{opens-values}
use Rattle.sd_json.specs.GivenMemory.{wrong_shape, memory_given}
use Rattle.sd_json.specs.declared.array.Array.{Array}
use Rattle.sd_json.specs.declared.error.InputError.TheVariants.{WrongShape}

pub opening_widths : (tree : GraphTree) (given : List (List ℤ)) (memory : Shaped) → opening_memory tree given ≡ memory.contents → IsOfWidths memory
opening_widths tree given memory opened =
    subst (λ (contents : Memory). AreElementsOfWidth (contents ∷ []) × AreValuesOfWidth (contents ∷ [])) opened (opens tree given, opens-values tree given)

given-from : (opened memory : Shaped) (wrong : Option (List ℕ)) → option_map_or (λ (name : List ℕ). Err (WrongShape name)) wrong (Ok opened) ≡ Ok memory → opened ≡ memory
given-from opened memory None e = cc
given-from opened memory (Some name) e = cc

pub given_widths : (tree : GraphTree) (arrays : List Array) (memory : Shaped) → memory_given tree arrays ≡ Ok memory → IsOfWidths memory
given_widths tree arrays memory is =
    let given : List (List ℤ) = map (λ array. array.elements) arrays in
    opening_widths tree given memory (ap (λ (m : Shaped). m.contents) (given-from (opened_with tree given) memory (wrong_shape (containers_of tree) arrays) is))
