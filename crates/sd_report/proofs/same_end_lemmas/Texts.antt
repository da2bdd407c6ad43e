-- Memories that are alike have the same text.
use Rattle.std.proofs.Common.{◌≡◌, ℕ, zero, suc, List, [], ◌∷◌, refl, slice_index_or}
use Rattle.std.specs.List.{flat_map, range_with_len}
use Rattle.sd_num.specs.declared.width.Width.TheVariants.{W64}
use Rattle.sd_work.specs.Memory.{Contents, array, stream, Memory, elements_of}
use Rattle.sd_confluence.specs.Alike.{AreContentsAlike, AreAlike}
use Rattle.sd_graph.specs.PlainTree.{GraphTree}
use Rattle.sd_graph.specs.InPlace.{arguments_of}
use Rattle.sd_mem.specs.mem.Shaped.{Shaped}
use Rattle.sd_json.specs.AnswerText.{container_line, text_of_arrays}

contents_same : (contents others : Contents) → AreContentsAlike contents others → elements_of contents ≡ elements_of others
contents_same (array width elements) (array other others) alike = alike.1
contents_same (stream width values) (stream other others) alike = refl
contents_same (array width elements) (stream other others) alike = absurd alike
contents_same (stream width values) (array other others) alike = absurd alike

elements_same : (memory other : Memory) (container : ℕ) → AreAlike memory other →
    elements_of (slice_index_or memory container (stream W64 [])) ≡ elements_of (slice_index_or other container (stream W64 []))
elements_same [] [] container alike = refl
elements_same [] (contents ∷ other) container alike = absurd alike
elements_same (contents ∷ memory) [] container alike = absurd alike
elements_same (contents ∷ memory) (others ∷ other) zero alike = contents_same contents others alike.0
elements_same (contents ∷ memory) (others ∷ other) (suc container) alike = elements_same memory other container alike.1

module _ (tree : GraphTree) (shapes : List (List ℕ)) (memory other : Memory) (alike : AreAlike memory other) where
  abbrev with_memory : Memory → Shaped
  with_memory contents = record { shapes = shapes; contents = contents }

  lines_same : (containers : List ℕ) → flat_map (container_line tree (with_memory memory)) containers ≡ flat_map (container_line tree (with_memory other)) containers
  lines_same [] = refl
  lines_same (container ∷ containers) = rw (elements_same memory other container alike, lines_same containers) refl

  pub text_same : text_of_arrays tree (with_memory memory) ≡ text_of_arrays tree (with_memory other)
  text_same = lines_same (range_with_len 0 (arguments_of tree))
