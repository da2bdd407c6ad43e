-- Small graphs: which are accepted, and which race is told.
use Rattle.std.proofs.Common.{inl, inr, pos, [], ◌∷◌, Some, None, true, false, codes, refl, arith}
use Rattle.std.proofs.lemmas.Int.{ints}
use Rattle.sd_num.specs.declared.resolution.Resolution.TheVariants.{Sum, Last}
use Rattle.sd_subset.specs.boxes.Apart.{AreHarmless}
use Rattle.sd_subset.proofs.boxes_lemmas.examples.BoxExamples.{i, not_single, own_elements_are_harmless}
use Rattle.sd_range.specs.declared.subset.Dim.TheVariants.{Index}
use Rattle.sd_graph.specs.Mode.{Read, Write, Push}
use Rattle.sd_graph.specs.PlainTree.{KindTree, task, map_scope, consume_scope, no_item, and_item, no_state, and_state, GraphTree, graph}
use Rattle.sd_graph.specs.declared.container.ContainerKind.TheVariants.{Argument, Private, Stream}
use Rattle.sd_graph.proofs.examples.ExampleParts.{constant, link_of, container_of}
use Rattle.sd_prop.specs.propagation.Accesses.{Access}
use Rattle.sd_graph.specs.TreeParts.{containers_of}
use Rattle.sd_prop.specs.propagation.Scopes.{points, elements, Scope}
use Rattle.sd_prop.proofs.propagation_lemmas.examples.AccessExamples.{access_by, any_code, element_at, shifted, shift, shift_of, drain}
use Rattle.sd_race.specs.race.Pairs.{IsGraphAccepted}
use Rattle.sd_race.specs.race.Race.{IsRaceOf}

-- A[i] = A[i + 4]: all that is read lies above all that is written
pub a_shift_by_four_is_accepted : IsGraphAccepted (shift (pos 4))
a_shift_by_four_is_accepted = (
  λ unmarked. (λ same conflict. cc, (λ same conflict. inl (inl (inl (record { constant = refl; above = omega (arith, ints) }))), (λ same conflict. own_elements_are_harmless, tt))),
  tt,
)

-- A[i] = A[i + 1]: the element that a point reads is the one that the next one writes
abbrev read : Access
read = access_by 2 0 Read (element_at (shifted (pos 1) ∷ []))

abbrev write : Access
write = access_by 2 0 Write (element_at (shifted (pos 0) ∷ []))

neighbours : AreHarmless [] (i (pos 1) ∷ []) read.box write.box → ⊥
neighbours (inl (inl (inl above))) = omega (arith, ints, above.above)
neighbours (inl (inl (inr above))) = omega (arith, ints, above.above)
neighbours (inl (inr none)) = absurd none
neighbours (inr (inl single, rest)) = not_single single
neighbours (inr (inr (inl separates), rest)) = omega (arith, ints, separates.wide.wide)
neighbours (inr (inr (inr none), rest)) = absurd none

-- its scope
abbrev the_scope : Scope
the_scope = record {
  path = 1 ∷ 1 ∷ [];
  containers = containers_of (shift (pos 1));
  around = [];
  over = points false (i (pos 1) ∷ []);
  accesses = read ∷ write ∷ [];
}

-- race at 1.1: read A by 2, write A by 2
a_shift_by_one_has_a_race : IsRaceOf (shift (pos 1)) (record { at = 1 ∷ 1 ∷ []; first = read; second = write })
a_shift_by_one_has_a_race = record {
  pair = record { scope = the_scope; first = read; second = write };
  first = record {
    passed = record { scope = the_scope; first = read; second = read } ∷ [];
    rest = record { scope = the_scope; first = write; second = write } ∷ [];
    split = refl;
    accepted = (λ same conflict. cc, tt);
    refused = λ accepted. neighbours (accepted refl refl);
  };
  told = refl;
}

-- marked as sequential, the same map is accepted
a_sequential_shift_is_accepted : IsGraphAccepted (shift_of true (pos 1))
a_sequential_shift_is_accepted = (λ unmarked. cc, tt)

-- a sum in a consume body is accepted
a_sum_is_accepted : IsGraphAccepted (drain Sum)
a_sum_is_accepted = (λ unmarked. (λ same conflict. cc, (λ same conflict. cc, (λ same conflict. cc, tt))), tt)

-- the last value is written: race at 2.1: write res by 2, write res by 2
abbrev push_by_the_body : Access
push_by_the_body = access_by 2 2 Push []

abbrev write_of_the_last : Access
write_of_the_last = access_by 2 1 Write (element_at (constant (pos 0) ∷ []))

abbrev consume_body : Scope
consume_body = record {
  path = 2 ∷ 1 ∷ [];
  containers = containers_of (drain Last);
  around = [];
  over = elements;
  accesses = push_by_the_body ∷ write_of_the_last ∷ [];
}

the_last_value_has_a_race : IsRaceOf (drain Last) (record { at = 2 ∷ 1 ∷ []; first = write_of_the_last; second = write_of_the_last })
the_last_value_has_a_race = record {
  pair = record { scope = consume_body; first = write_of_the_last; second = write_of_the_last };
  first = record {
    passed = record { scope = consume_body; first = push_by_the_body; second = push_by_the_body } ∷ record { scope = consume_body; first = push_by_the_body; second = write_of_the_last } ∷ [];
    rest = [];
    split = refl;
    accepted = (λ same conflict. cc, (λ same conflict. cc, tt));
    refused = λ accepted. accepted refl refl;
  };
  told = refl;
}

-- a consume body that reads R[1] and adds to R[0] is refused: in no two modes that conflict may it use a container, whatever the boxes are
abbrev adding : KindTree
adding = consume_scope 1 2 [] (and_item 6 (task any_code (link_of (codes "in") 0 (Index (constant (pos 1)) ∷ []) None ∷ []) (link_of (codes "out") 0 (Index (constant (pos 0)) ∷ []) (Some Sum) ∷ [])) no_item)

abbrev alone : KindTree → GraphTree
alone kind =
    graph (codes "ad") ((codes "R", container_of (constant (pos 2) ∷ []) Argument) ∷ (codes "S", container_of [] Stream) ∷ (codes "e", container_of (constant (pos 1) ∷ []) Private) ∷ []) 1 (codes "i" ∷ []) 0
    (and_state (and_item 5 kind no_item) [] no_state)

adding_is_refused : IsGraphAccepted (alone adding) → ⊥
adding_is_refused accepted = (accepted.0 refl).1.0 refl refl

-- so it is in a sequential map
adding_in_sequence_is_refused : IsGraphAccepted (alone (map_scope true (i (pos 1) ∷ []) [] (and_item 6 adding no_item))) → ⊥
adding_in_sequence_is_refused accepted = (accepted.1.0 refl).1.0 refl refl
