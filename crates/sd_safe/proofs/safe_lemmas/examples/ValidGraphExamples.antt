-- A small graph that is valid and accepted, with its expressions in normal form: the premises of the laws can be met.
use Rattle.std.proofs.Common.{◌≡◌, inl, pos, [], ◌∷◌, None, false, refl, arith}
use Rattle.std.proofs.lemmas.Int.{ints}
use Rattle.sd_range.specs.declared.subset.Dim.TheVariants.{Index}
use Rattle.sd_subset.proofs.boxes_lemmas.examples.BoxExamples.{own_elements_are_harmless}
use Rattle.sd_work.specs.Memory.{Memory}
use Rattle.sd_confluence.specs.Safe.{MayInterleave}
use Rattle.sd_graph.specs.PlainTree.{input, no_value, task, map_scope, no_state, and_state, GraphTree, graph}
use Rattle.sd_graph.specs.Unfold.{run_of}
use Rattle.sd_graph.specs.declared.container.ContainerKind.TheVariants.{Argument}
use Rattle.sd_safe.specs.normal.NormalForm.{IsGraphNormal}
use Rattle.sd_validity.specs.rules.Ranks.{ranks_of}
use Rattle.sd_validity.specs.rules.Valid.{invalidity}
use Rattle.sd_validity.proofs.rules_lemmas.ValidLemmas.{valid_where_none}
use Rattle.sd_validity.proofs.rules_lemmas.examples.ExampleParts.{number, plus, range, container, link, giving, one_item}
use Rattle.sd_race.specs.race.Pairs.{IsGraphAccepted}
use Rattle.sd_safe.proofs.fit_lemmas.Fitting.{graph-fit}
use Rattle.sd_safe.proofs.safe_lemmas.Whole.{may_interleave}

-- for i from 0 to 3: A[i] = A[i + 4]
abbrev shift : GraphTree
shift = graph [] (container (pos 8 ∷ []) Argument ∷ []) 1 ([] ∷ []) 0 (and_state (one_item (map_scope false ((0, range (number (pos 0)) (number (pos 3))) ∷ []) [] (one_item (
    task (giving (0 ∷ []) 1 [] (input 0 no_value)) (link 0 (Index (plus 0 (pos 4)) ∷ []) ∷ []) (link 0 (Index (plus 0 (pos 0)) ∷ []) ∷ []))))) [] no_state)

all_rules_hold : invalidity shift ≡ None
unfolding ranks_of
all_rules_hold = refl

is_normal : IsGraphNormal shift
is_normal = (((tt, tt), tt), ((((((tt, (tt, tt)), tt), (((((λ is. cc, tt, tt), tt), tt), (((λ is. cc, tt, tt), tt), tt)), tt)), tt), tt), tt))

is_accepted : IsGraphAccepted shift
is_accepted = (
  λ unmarked. (λ same conflict. cc, (λ same conflict. inl (inl (inl (record { constant = refl; above = omega (arith, ints) }))), (λ same conflict. own_elements_are_harmless, tt))),
  tt,
)

a_valid_shift_may_interleave : (memory : Memory) → MayInterleave (run_of shift memory)
a_valid_shift_may_interleave memory = may_interleave shift memory (graph-fit shift (valid_where_none shift all_rules_hold) is_normal) is_accepted
