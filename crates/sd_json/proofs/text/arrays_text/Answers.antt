use Rattle.std.proofs.Common.{◌≡◌, ℕ, List, ◌+◌, ap, sym, ◌∙◌, arith, ◌++◌, ◌∷◌, [], map, append-nil}
use Rattle.std.specs.List.{flat_map, range_with_len}
use Rattle.std.proofs.lemmas.List.Folds.{flat_map-map}
use Rattle.std.proofs.lemmas.Grind.{flat_map-append}
use Rattle.std.proofs.lemmas.List.FromFn.{map-range_with_len_more}
use Rattle.sd_graph.specs.TreeFold.{graph_tree}
use Rattle.sd_json.specs.AnswerText.{container_line}
use Rattle.sd_json.proofs.text.arrays_text.Goals as goal

-- one line more
more_lines : (line : ℕ → List ℕ) (n : ℕ) → flat_map line (range_with_len 0 n) ++ line n ≡ flat_map line (range_with_len 0 (n + 1))
more_lines line n =
    (λ i. sym (flat_map-map (λ (l : List ℕ). l) line (range_with_len 0 n)) i ++ sym (append-nil (line n)) i)
    ∙ sym (flat_map-append (λ (l : List ℕ). l) (map line (range_with_len 0 n)) (line n ∷ []))
    ∙ ap (flat_map (λ (l : List ℕ). l)) (sym (map-range_with_len_more line 0 n n (omega arith)))
    ∙ flat_map-map (λ (l : List ℕ). l) line (range_with_len 0 (n + 1))

pub loop-argument-preserved : goal.loop-argument-preserved
loop-argument-preserved c =
    let line = c.as_str.ensures.value ∙ c.in_ok-line.ensures in
    c.in_ok-push_str.ensures.bytes ∙ (λ i. c.loop-argument.invariant i ++ line i)
    ∙ more_lines (container_line (graph_tree c.args.bound.now.graph) c.args.memory.now) c.loop-argument.argument
