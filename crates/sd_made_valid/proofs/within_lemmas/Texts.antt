-- The bound graph of a program that was read keeps the rule on limits.
use Rattle.std.proofs.Common.{◌≡◌, ℕ, List, [], ◌∷◌, Ok, true}
use Rattle.std.specs.List.{AllByRecursion}
use Rattle.sd_lex.specs.PlainTree.{ProgramTree}
use Rattle.sd_source.specs.source.SourceReading.{reads}
use Rattle.sd_read.proofs.readable_lemmas.Fields.{well_formed}
use Rattle.sd_graph.specs.PlainTree.{GraphTree}
use Rattle.sd_graph.specs.TreeParts.{containers_of}
use Rattle.sd_elab.specs.elab.Elaboration.{graph_of}
use Rattle.sd_valid.specs.SizeValues.{NamedSizes}
use Rattle.sd_valid.specs.Binding.{binding}
use Rattle.sd_validity.specs.rules.Places.{Place, all_places}
use Rattle.sd_validity.specs.rules.Parts.{is_thing_passed}
use Rattle.sd_validity.specs.rules.Failing.{Holds}
use Rattle.sd_validity.specs.rules.WithinLimits.{rule_7}
use Rattle.sd_validity.proofs.bound_elements_lemmas.Elements.{elements_few}
use Rattle.sd_made_valid.specs.graphs.Nesting.{is_nested_little}
use Rattle.sd_made_valid.proofs.graphs_lemmas.Places.{nested_little}
use Rattle.sd_made.specs.limits.Containers.{are_containers_few}
use Rattle.sd_made.specs.limits.Expressions.{expression_tests}
use Rattle.sd_made.proofs.limits_lemmas.Containers.{containers_few}
use Rattle.sd_made.proofs.limits_lemmas.Expressions.{expressions_small}
use Rattle.sd_made.proofs.nodes_lemmas.Kept.{nodes_few}
use Rattle.sd_made_valid.specs.ends.Ends.{are_ends_small}
use Rattle.sd_made_valid.proofs.ends_lemmas.Ends.{ends_small}
use Rattle.sd_made.specs.depths.About.{has_few_about}
use Rattle.sd_made.proofs.depths_lemmas.Few.{few_about}
use Rattle.sd_made_valid.specs.maps.Parameters.{are_parameters_few}
use Rattle.sd_made_valid.proofs.maps_lemmas.Parameters.{parameters_few}
use Rattle.sd_made_valid.specs.code.Code.{code_tests}
use Rattle.sd_made_valid.proofs.code_lemmas.Small.{code_small}
use Rattle.sd_made_valid.specs.ranks.Ranks.{are_variables_ranked}
use Rattle.sd_made_valid.proofs.ranks_lemmas.Programs.{variables_ranked}
use Rattle.sd_made_valid.proofs.within_lemmas.Places.{IsKept, none_fails}

-- the parts that ask of a place alone, at each of some places
record AreKept (places : List Place) : Type 0 where
  nested : AllByRecursion (λ place. is_nested_little place ≡ true) places
  containers : AllByRecursion (λ place. are_containers_few (containers_of place.graph) ≡ true) places
  ends : AllByRecursion (λ place. are_ends_small place place.thing ≡ true) places
  about : AllByRecursion (λ place. has_few_about place place.thing ≡ true) places
  parameters : AllByRecursion (λ place. are_parameters_few place.thing ≡ true) places
  ranks : AllByRecursion (λ place. are_variables_ranked place place.thing ≡ true) places
  expressions : AllByRecursion (λ place. is_thing_passed expression_tests place.thing ≡ true) places
  code : AllByRecursion (λ place. is_thing_passed code_tests place.thing ≡ true) places

each_kept : (places : List Place) → AreKept places → AllByRecursion IsKept places
each_kept [] all = tt
each_kept (place ∷ places) all =
    let others : AreKept places =
    record {
      nested = all.nested.1;
      containers = all.containers.1;
      ends = all.ends.1;
      about = all.about.1;
      parameters = all.parameters.1;
      ranks = all.ranks.1;
      expressions = all.expressions.1;
      code = all.code.1;
    } in (
      record {
        nested = all.nested.0;
        containers = all.containers.0;
        ends = all.ends.0;
        about = all.about.0;
        parameters = all.parameters.0;
        ranks = all.ranks.0;
        expressions = all.expressions.0;
        code = all.code.0;
      },
      each_kept places others,
    )

pub text_within : (text : List ℕ) (program : ProgramTree) (known : NamedSizes) (bound : GraphTree) → reads text ≡ Ok program → binding (graph_of program) known ≡ Ok bound → Holds rule_7 bound
text_within text program known bound read is =
    let well = well_formed text program read in
    let kept : AreKept (all_places bound) =
    record {
      nested = nested_little text program known bound read is;
      containers = containers_few program known bound well is;
      ends = ends_small program known bound well is;
      about = few_about program known bound well is;
      parameters = parameters_few text program known bound read is;
      ranks = variables_ranked text program known bound read is;
      expressions = expressions_small program known bound well is;
      code = code_small text program known bound read is;
    } in
    none_fails [] (all_places bound) (elements_few (graph_of program) bound known is) (nodes_few program known bound well is) (each_kept (all_places bound) kept)
