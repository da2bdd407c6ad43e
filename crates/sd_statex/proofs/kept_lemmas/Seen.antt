-- Nested graphs that look the same from outside: what they write may stand in another order.
use Rattle.std.proofs.Common.{◌≡◌, ℕ, suc, List, [], ◌∷◌, ◌++◌, length, nat_eq, Bool, true, not, ◌&&◌, ◌||◌, if◌then◌else◌, refl}
use Rattle.std.specs.List.{list_all}
use Rattle.sd_graph.specs.PlainTree.{nested_graph, ItemTrees, GraphTree, ExitTree}
use Rattle.sd_graph.specs.TreeParts.{containers_of}
use Rattle.sd_graph.specs.InPlace.{arguments_of}
use Rattle.sd_graph.specs.Wiring.{has_number}
use Rattle.sd_graph.specs.declared.link.Link.{Link}
use Rattle.sd_validity.specs.rules.GraphParts.{symbols_in}
use Rattle.sd_validity.specs.rules.Places.{whole, leaving, doing, Scopes}
use Rattle.sd_validity.specs.rules.Parts.{container_of, Tests, is_exit_passed}
use Rattle.sd_validity.specs.rules.Dimensions.{dimensions_tests, is_condition_sound}
use Rattle.sd_validity.specs.rules.StreamUse.{is_condition_of_arrays}
use Rattle.sd_validity.specs.rules.NestedLinks.{written_through, written_of, have_shapes, is_unshared, are_unshared}
use Rattle.sd_validity.specs.rules.SizesGone.{sizes_tests}
use Rattle.sd_validity.specs.rules.NamesInForce.{names_tests, is_there}
use Rattle.sd_alike.proofs.kept_lemmas.Held.{Asked}
use Rattle.sd_alike.proofs.kept_lemmas.LocalRules.{dimensions_asked, streams_asked, nesting_asked, shapes_asked, sizes_asked}
use Rattle.sd_alike.proofs.kept_lemmas.NamesAsked.{names_asked, standing}
use Rattle.sd_statex.specs.states.FusedStates.{exit_lowered, exits_lowered}
use Rattle.sd_statex.proofs.kept_lemmas.Summed.{set_lowered}

-- their containers, how many of them are arguments, and which are written
pub record AreSeenSame (inner other : GraphTree) : Type 0 where
  pub containers : containers_of other ≡ containers_of inner
  pub arguments : arguments_of other ≡ arguments_of inner
  pub written : (number : ℕ) → has_number (written_of other) number ≡ has_number (written_of inner) number

-- what is asked of a thing sees of a nested graph no more than this, and of a transition not where it leads
pub record IsSeen (asked : Asked) : Type 0 where
  pub nested : (tree : GraphTree) (loops : List ℕ) (scopes : Scopes) (inner other : GraphTree) (links : List Link) → AreSeenSame inner other →
      asked tree loops scopes (doing (nested_graph other links)) ≡ asked tree loops scopes (doing (nested_graph inner links))
  pub low : (gone : ℕ) (tree : GraphTree) (loops : List ℕ) (scopes : Scopes) (items : ItemTrees) (exits : List ExitTree) →
      asked tree loops scopes (leaving items (exits_lowered gone exits)) ≡ asked tree loops scopes (leaving items exits)

-- a test of transitions that does not see where they lead
all_low : (test : ExitTree → Bool) → ((gone : ℕ) (exit : ExitTree) → test (exit_lowered gone exit) ≡ test exit) → (gone : ℕ) (exits : List ExitTree) → list_all test (exits_lowered gone exits) ≡ list_all test exits
all_low test same gone [] = refl
all_low test same gone (exit ∷ exits) = λ i. same gone exit i && all_low test same gone exits i

passed_low : (tests : Tests) (gone : ℕ) (exits : List ExitTree) → list_all (is_exit_passed tests) (exits_lowered gone exits) ≡ list_all (is_exit_passed tests) exits
passed_low tests gone exits = all_low (is_exit_passed tests) (λ gone exit. refl) gone exits

pub dimensions_seen : IsSeen dimensions_asked
dimensions_seen = record {
  nested = λ tree loops scopes inner other links same. refl;
  low = λ gone tree loops scopes items exits. λ i.
      passed_low (dimensions_tests (containers_of tree)) gone exits i && all_low (λ exit. is_condition_sound exit.when) (λ gone exit. refl) gone exits i;
}

pub streams_seen : IsSeen streams_asked
streams_seen = record {
  nested = λ tree loops scopes inner other links same. refl;
  low = λ gone tree loops scopes items exits. all_low (λ exit. is_condition_of_arrays (containers_of tree) exit.when) (λ gone exit. refl) gone exits;
}

pub shapes_seen : IsSeen shapes_asked
shapes_seen = record {
  nested = λ tree loops scopes inner other links same. refl;
  low = λ gone tree loops scopes items exits. refl;
}

pub sizes_seen : IsSeen sizes_asked
sizes_seen = record {
  nested = λ tree loops scopes inner other links same. refl;
  low = λ gone tree loops scopes items exits. λ i. true && passed_low (sizes_tests (symbols_in tree)) gone exits i;
}

module _ (written other : List ℕ) (same : (number : ℕ) → has_number other number ≡ has_number written number) where
  unshared_one : (first : ℕ) (link : Link) (number : ℕ) (links : List Link) → is_unshared other first link number links ≡ is_unshared written first link number links
  unshared_one first link number [] = refl
  unshared_one first link number (next ∷ links) = λ i.
      (not (nat_eq (container_of link) (container_of next)) || not (same first i || same number i)) && unshared_one first link (suc number) links i

  unshared_same : (number : ℕ) (links : List Link) → are_unshared other number links ≡ are_unshared written number links
  unshared_same number [] = refl
  unshared_same number (link ∷ links) = λ i. unshared_one number link (suc number) links i && unshared_same (suc number) links i

  -- the same containers are written round them
  pub through_same : (number : ℕ) (links : List Link) → written_through other number links ≡ written_through written number links
  through_same number [] = refl
  through_same number (link ∷ links) = λ i. (if same number i then container_of link ∷ [] else []) ++ through_same (suc number) links i

pub nesting_seen : IsSeen nesting_asked
nesting_seen = record {
  nested = λ tree loops scopes inner other links same. λ i.
      (nat_eq (length links) (same.arguments i) && have_shapes (same.containers i) 0 links) && unshared_same (written_of inner) (written_of other) same.written 0 links i;
  low = λ gone tree loops scopes items exits. refl;
}

pub names_seen : IsSeen names_asked
names_seen = record {
  nested = λ tree loops scopes inner other links same. refl;
  low = λ gone tree loops scopes items exits. λ i.
      (((passed_low (names_tests (standing tree loops scopes whole)) gone exits i && true) && (true && list_all (is_there tree) (set_lowered.low gone items exits i))) && true) && true;
}
