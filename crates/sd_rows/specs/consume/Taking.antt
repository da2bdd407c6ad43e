-- What a consume scope comes to from where it stands.
use Rattle.std.specs.Prelude.{ℕ, ℤ, List}
use Rattle.sd_work.specs.Residual.{Term, owning}
use Rattle.sd_work.specs.BigStep.{Coming, Reached, big_step, big_takes}
use Rattle.sd_graph.specs.PlainTree.{ItemTrees}
use Rattle.sd_graph.specs.Context.{Context}
use Rattle.sd_graph.specs.Unfold.{at_element, element_memory, unfold_items, list_of}
use Rattle.sd_graph.specs.declared.place.Place.{Place}

-- what a consume scope does with a value
abbrev pub element_term : ItemTrees → (element : ℕ) → (private : List ℕ) → Context → (value : ℤ) → Term Place
element_term body element private context value =
    let inside = at_element context element private value in
    owning (element_memory context element private value) (list_of inside body (unfold_items body inside))

-- what it comes to from here, with so many takes, where each inner run and pool is allowed so many
abbrev pub takes_coming : ItemTrees → (stream element : ℕ) → (private : List ℕ) → Context → Reached → (most takes : ℕ) → Coming Place
takes_coming body stream element private context now most takes =
    big_takes takes (context.reach stream).level (context.reach stream).container
    (λ value. big_step (element_term body element private context value) most) now.memories now.turns

-- with as many takes
abbrev pub consume_coming : ItemTrees → (stream element : ℕ) → (private : List ℕ) → Context → Reached → (most : ℕ) → Coming Place
consume_coming body stream element private context now most = takes_coming body stream element private context now most most
