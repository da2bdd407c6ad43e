-- In the bound graph of a program that was read each subset fits its container.
use Rattle.std.proofs.Common.{◌≡◌, ◌⊎◌, inl, inr, ℕ, ℤ, List, [], ◌∷◌, map, length, Ok, true, reverse, refl, ap, sym, subst}
use Rattle.std.specs.Prelude.{⊤}
use Rattle.std.specs.List.{AllByRecursion, list_all}
use Rattle.sd_lex.specs.PlainTree.{Expression, named, two, StatementTree, Block, no_statement, and_statement, FunctionTree, ProgramTree}
use Rattle.sd_lex.specs.declared.syntax.operator.TwoSign.TheVariants.{Less}
use Rattle.sd_graph.specs.PlainTree.{KindTree, GraphTree, ExitTree}
use Rattle.sd_graph.specs.TreeParts.{containers_of}
use Rattle.sd_graph.specs.ContainerParts.{Containers, is_stream}
use Rattle.sd_program.specs.Names.{Name}
use Rattle.sd_program.specs.Place.{Place, in_consume, EveryFrom, EveryPlace}
use Rattle.sd_source.specs.source.SourceReading.{reads}
use Rattle.sd_task.specs.task.ElementCode.{links_with}
use Rattle.sd_elab.specs.items.Scopes.{taking_task}
use Rattle.sd_elab.specs.elab.Elaboration.{graph_of}
use Rattle.sd_made.proofs.elab_lemmas.ContainersMade.{holds_here}
use Rattle.sd_made.proofs.elab_lemmas.NamesKnown.{affine_knows}
use Rattle.sd_valid.specs.BoundTree.{bound_kind, bound_exit, bound_graph}
use Rattle.sd_valid.specs.SizeValues.{NamedSizes, sizes_in}
use Rattle.sd_valid.specs.Binding.{binding}
use Rattle.sd_validity.specs.rules.Places.{Thing, whole, leaving, doing, Place as GraphPlace, Scopes, no_scopes, loops_at, all_places, places_of}
use Rattle.sd_validity.specs.rules.Parts.{is_exit_passed, is_kind_passed, is_thing_passed}
use Rattle.sd_validity.specs.bound_places.BoundPlace.{bound_thing, bound_place}
use Rattle.sd_validity.proofs.bound_places_lemmas.EachPlace.{AtThing, AtPlace, graph_places}
use Rattle.sd_validity.proofs.bound_places_lemmas.Asked.{all_mapped}
use Rattle.sd_validity.proofs.bound_places_lemmas.BoundPlaces.{graph_bound}
use Rattle.sd_read.proofs.readable_lemmas.Fields.{well_formed, parts_of_program}
use Rattle.sd_made.proofs.places_lemmas.Made.{Fitting, IsWhole, IsItem, IsTaking, IsExit}
use Rattle.sd_made.proofs.places_lemmas.ProgramMade.{IsTold, program_told}
use Rattle.sd_made.proofs.places_lemmas.Givens.{fitting, both_places}
use Rattle.sd_made.proofs.places_lemmas.Extents.{extents_in_force}
use Rattle.sd_made.proofs.places_lemmas.LinksMade.{ArePositive}
use Rattle.sd_made.proofs.places_lemmas.ItemLinks.{HasSoundLinks, statement_links, taking_links, reads_sound, knows_condition}
use Rattle.sd_made.proofs.places_lemmas.Bound.{AnyFunction, bound_is}
use Rattle.sd_made_valid.specs.dimensions.Subsets.{subset_tests}
use Rattle.sd_made_valid.proofs.dimensions_lemmas.Positive.{ArePositiveAt, positive_places}
use Rattle.sd_made_valid.proofs.dimensions_lemmas.Fits.{array_links, kind_fits}

-- ---- what is given of each statement

abbrev IsSizedFitting : Place → StatementTree → Type 0
IsSizedFitting place statement = Fitting place statement × ArePositiveAt place statement

fits : (place : Place) (statement : StatementTree) → IsSizedFitting place statement → Fitting place statement
fits place statement given = given.0

any_function : (symbols : List Name) (functions : List FunctionTree) → AllByRecursion (AnyFunction symbols) functions
any_function symbols [] = tt
any_function symbols (function ∷ functions) = (tt, any_function symbols functions)

-- a tasklet on an element has no line, or the arrays in force there have dimensions
taking_positive : (place : Place) (element : Name) (body : Block) → EveryFrom IsSizedFitting (in_consume true element place) body → (body ≡ no_statement) ⊎ ArePositive place.containers
taking_positive place element no_statement given = inl refl
taking_positive place element (and_statement first rest) given = inr (holds_here IsSizedFitting (in_consume true element place) first given.0).1

module _ (sizes : List ℤ) (tree : GraphTree) (about : IsWhole IsSizedFitting AnyFunction tree) (state : ℕ) where
  abbrev there : Containers
  there = containers_of (bound_graph sizes tree)

  -- one without lines has the link of its element
  element_alone : (scopes : Scopes) (kind : KindTree) (is : IsTaking IsSizedFitting AnyFunction tree state scopes kind) → is.body ≡ no_statement → HasSoundLinks tree scopes (loops_at tree state) ⊤ kind
  element_alone scopes kind is none =
      subst (HasSoundLinks tree scopes (loops_at tree state) ⊤) (sym is.made)
      (subst (λ body. HasSoundLinks tree scopes (loops_at tree state) ⊤ (taking_task is.table is.element is.container body)) (sym none) (
        (
          (
            record { there = (is.there, inr is.private); dims = λ sized. ap (λ container. length container.extents) (sym is.held); ends = refl; names = (tt, tt) },
            ap (λ container. is_stream container.kind) is.held,
          ),
          tt,
        ),
        tt,
      ))

  item_fits : (scopes : Scopes) (kind : KindTree) → IsItem IsSizedFitting AnyFunction tree state scopes kind → is_kind_passed (subset_tests there) (bound_kind sizes kind) ≡ true
  item_fits scopes kind (inl is) =
      let extents = extents_in_force IsSizedFitting AnyFunction tree scopes.params (loops_at tree state) about in
      kind_fits sizes tree scopes (loops_at tree state) (ArePositive is.place.containers) (holds_here IsSizedFitting is.place is.statement is.given).1 kind
      (statement_links IsSizedFitting AnyFunction fits tree state scopes extents kind is)
  item_fits scopes kind (inr is) = elim (taking_positive is.place is.element is.body is.given) [
    | inl none ↦ kind_fits sizes tree scopes (loops_at tree state) ⊤ tt kind (element_alone scopes kind is none)
    | inr are ↦ kind_fits sizes tree scopes (loops_at tree state) (ArePositive is.place.containers) are kind
        (taking_links IsSizedFitting AnyFunction fits tree state scopes (extents_in_force IsSizedFitting AnyFunction tree scopes.params (loops_at tree state) about) kind is)
  ]

  abbrev IsRight : ExitTree → Type 0
  IsRight exit = is_exit_passed (subset_tests there) (bound_exit sizes exit) ≡ true

  exit_fits : (exit : ExitTree) → IsExit IsSizedFitting AnyFunction tree state exit → IsRight exit
  exit_fits exit (inl (to, inl plain)) = subst IsRight (sym plain) refl
  exit_fits exit (inl (to, inr plain)) = subst IsRight (sym plain) refl
  exit_fits exit (inr (inl is)) =
      let extents = extents_in_force IsSizedFitting AnyFunction tree [] (loops_at tree state) about in
      let reads = reads_sound IsSizedFitting AnyFunction fits tree state extents is.place is.table is.when is.stands
      (knows_condition IsSizedFitting AnyFunction fits tree state extents is.place is.statement is.line is.when is.given is.asked) in
      let passed = array_links sizes tree no_scopes (loops_at tree state) (ArePositive is.place.containers) (holds_here IsSizedFitting is.place is.statement is.given).1 (links_with is.table [] is.when) reads in
      subst IsRight (sym is.made) (rw passed refl)
  exit_fits exit (inr (inr (inl is))) = subst IsRight (sym is.made) refl
  exit_fits exit (inr (inr (inr (inl is)))) =
      let extents = extents_in_force IsSizedFitting AnyFunction tree [] (loops_at tree state) about in
      let end : Expression = two Less (named is.loop.name) is.loop.end in
      let reads = reads_sound IsSizedFitting AnyFunction fits tree state extents is.loop.place is.table end is.stands
      (tt, affine_knows is.loop.place.containers is.loop.end is.loop.given.0.0.affine.1) in
      let passed = array_links sizes tree no_scopes (loops_at tree state) (ArePositive is.loop.place.containers) is.loop.given.0.1 (links_with is.table [] end) reads in
      subst IsRight (sym is.made) (rw passed refl)
  exit_fits exit (inr (inr (inr (inr is)))) = subst IsRight (sym is.made) refl

  exits_fit : (exits : List ExitTree) → AllByRecursion (IsExit IsSizedFitting AnyFunction tree state) exits → list_all (is_exit_passed (subset_tests there)) (map (bound_exit sizes) exits) ≡ true
  exits_fit [] all = refl
  exits_fit (exit ∷ exits) all = rw (exit_fits exit all.0) (exits_fit exits all.1)

-- ---- at each place

abbrev IsFit : GraphPlace → Type 0
IsFit place = is_thing_passed (subset_tests (containers_of place.graph)) place.thing ≡ true

module _ (sizes : List ℤ) where
  abbrev Wholes : GraphTree → Type 0
  Wholes tree = IsWhole IsSizedFitting AnyFunction tree

  abbrev Exits : GraphTree → (state : ℕ) → ExitTree → Type 0
  Exits tree state exit = IsExit IsSizedFitting AnyFunction tree state exit

  abbrev Items : GraphTree → (state : ℕ) → Scopes → KindTree → Type 0
  Items tree state scopes kind = IsItem IsSizedFitting AnyFunction tree state scopes kind

  thing_fits : (place : GraphPlace) (thing : Thing) → Wholes place.graph → AtThing Wholes Exits Items thing place →
      is_thing_passed (subset_tests (containers_of (bound_graph sizes place.graph))) (bound_thing sizes thing) ≡ true
  thing_fits place whole about is = refl
  thing_fits place (leaving items exits) about is = exits_fit sizes place.graph about place.state exits is.1
  thing_fits place (doing kind) about is = item_fits sizes place.graph about place.state place.scopes kind is.1

  all_fit : (tree : GraphTree) → IsTold IsSizedFitting AnyFunction fits tree → AllByRecursion IsFit (all_places (bound_graph sizes tree))
  all_fit tree told =
      subst (AllByRecursion IsFit) (sym (graph_bound sizes tree [] 0))
      (all_mapped (bound_place sizes) (AtPlace Wholes Exits Items) IsFit (λ place is. thing_fits place place.thing is.0 is.1) (places_of tree [] 0) (graph_places Wholes Exits Items tree [] 0 told))

pub subsets_fit : (text : List ℕ) (program : ProgramTree) (known : NamedSizes) (bound : GraphTree) → reads text ≡ Ok program → binding (graph_of program) known ≡ Ok bound → AllByRecursion IsFit (all_places bound)
subsets_fit text program known bound read is =
    let given : EveryPlace IsSizedFitting program =
    both_places Fitting ArePositiveAt IsSizedFitting (λ place statement first second. (first, second)) program (fitting program (well_formed text program read))
    (positive_places program (parts_of_program text program read)) in
    let told : IsTold IsSizedFitting AnyFunction fits (graph_of program) =
    program_told IsSizedFitting AnyFunction fits program (any_function program.symbols (reverse program.functions)) given in
    subst (λ bound. AllByRecursion IsFit (all_places bound)) (bound_is (graph_of program) bound known is) (all_fit (sizes_in known (graph_of program)) (graph_of program) told)
