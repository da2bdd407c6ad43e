-- In the bound graph of a program few scopes and loops are about an item.
use Rattle.std.proofs.Common.{◌≡◌, inl, inr, ℕ, ◌+◌, ◌≤◌, ℤ, List, [], ◌∷◌, Ok, true, refl, sym, subst, arith}
use Rattle.std.specs.List.{AllByRecursion}
use Rattle.sd_lex.specs.PlainTree.{Block, no_statement, and_statement, ProgramTree}
use Rattle.sd_lex.specs.StatementKind.{has_connector}
use Rattle.sd_graph.specs.PlainTree.{KindTree, GraphTree}
use Rattle.sd_graph.specs.TreeParts.{states_of_graph}
use Rattle.sd_program.specs.Names.{Name}
use Rattle.sd_program.specs.Limits.{HasFewAbout}
use Rattle.sd_program.specs.Place.{Place, in_consume, EveryFrom}
use Rattle.sd_program.specs.WellFormed.{IsWellFormed}
use Rattle.sd_elab.specs.elab.Elaboration.{graph_of}
use Rattle.sd_made.proofs.elab_lemmas.ContainersMade.{holds_here}
use Rattle.sd_wire.specs.loops.About.{loops_about}
use Rattle.sd_valid.specs.BoundTree.{bound_graph}
use Rattle.sd_valid.specs.SizeValues.{NamedSizes, sizes_in}
use Rattle.sd_valid.specs.Binding.{binding}
use Rattle.sd_validity.specs.rules.Places.{Thing, whole, leaving, doing, Place as GraphPlace, Scopes, all_places, places_of}
use Rattle.sd_validity.specs.bound_places.BoundPlace.{bound_thing, bound_place}
use Rattle.sd_validity.proofs.bound_places_lemmas.EachPlace.{AtThing, AtPlace, graph_places}
use Rattle.sd_validity.proofs.bound_places_lemmas.Asked.{all_mapped}
use Rattle.sd_validity.proofs.bound_places_lemmas.BoundPlaces.{graph_bound}
use Rattle.sd_made.proofs.places_lemmas.Bound.{bound_is}
use Rattle.sd_made.specs.depths.About.{has_few_about}
use Rattle.sd_made.proofs.depths_lemmas.Made.{IsItem}
use Rattle.sd_made.proofs.depths_lemmas.Told.{Whole, Leaving, Doing, IsTold, program_told}
use Rattle.sd_made.proofs.depths_lemmas.Places.{IsCounted, AtCounted, graph_counted}

-- a block with a connector has a statement, which stands one deeper
one_deeper : (place : Place) (element : Name) (body : Block) → has_connector body ≡ true → EveryFrom HasFewAbout (in_consume true element place) body → place.depth + 1 ≤ 7
one_deeper place element no_statement connects given = cc
one_deeper place element (and_statement first rest) connects given = holds_here HasFewAbout (in_consume true element place) first given.0

item_few : (loops : ℕ) (scopes : Scopes) (kind : KindTree) → IsItem HasFewAbout loops scopes kind → scopes.count + loops ≤ 7
item_few loops scopes kind (inl is) = omega (arith, is.deep, holds_here HasFewAbout is.place is.statement is.given)
item_few loops scopes kind (inr is) = omega (arith, is.deep, one_deeper is.place is.element is.body is.connects is.given)

abbrev IsFew : GraphPlace → Type 0
IsFew place = has_few_about place place.thing ≡ true

both : {A : Type 0} (P Q : A → Type 0) (members : List A) → AllByRecursion P members → AllByRecursion Q members → AllByRecursion (λ member. P member × Q member) members
both P Q [] all others = tt
both P Q (member ∷ members) all others = ((all.0, others.0), both P Q members all.1 others.1)

module _ (sizes : List ℤ) where
  abbrev At : GraphPlace → Type 0
  At place = AtPlace (Whole HasFewAbout) (Leaving HasFewAbout) (Doing HasFewAbout) place

  thing_few : (place : GraphPlace) (thing : Thing) → AtThing (Whole HasFewAbout) (Leaving HasFewAbout) (Doing HasFewAbout) thing place → IsCounted thing place →
      has_few_about (bound_place sizes place) (bound_thing sizes thing) ≡ true
  thing_few place whole is counts = refl
  thing_few place (leaving items exits) is counts = refl
  thing_few place (doing kind) is counts =
      let few : place.scopes.count + place.loop_count ≤ 7 = omega (arith, counts, item_few (loops_about (states_of_graph place.graph) place.state) place.scopes kind is.1) in
      grind (arith, few)

  all_few : (tree : GraphTree) → IsTold HasFewAbout tree → AllByRecursion IsFew (all_places (bound_graph sizes tree))
  all_few tree told =
      subst (AllByRecursion IsFew) (sym (graph_bound sizes tree [] 0))
      (all_mapped (bound_place sizes) (λ place. At place × AtCounted place) IsFew (λ place is. thing_few place place.thing is.0.1 is.1) (places_of tree [] 0)
      (both At AtCounted (places_of tree [] 0) (graph_places (Whole HasFewAbout) (Leaving HasFewAbout) (Doing HasFewAbout) tree [] 0 told) (graph_counted tree [] 0)))

pub few_about : (program : ProgramTree) (known : NamedSizes) (bound : GraphTree) → IsWellFormed program → binding (graph_of program) known ≡ Ok bound →
    AllByRecursion (λ place. has_few_about place place.thing ≡ true) (all_places bound)
few_about program known bound well is =
    subst (λ bound. AllByRecursion IsFew (all_places bound)) (bound_is (graph_of program) bound known is)
    (all_few (sizes_in known (graph_of program)) (graph_of program) (program_told HasFewAbout program well.depth))
