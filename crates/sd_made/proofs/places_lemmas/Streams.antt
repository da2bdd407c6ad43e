-- Streams are only pushed into by tasklets and consumed.
use Rattle.std.proofs.Common.{◌≡◌, ◌∙◌, inl, inr, ℕ, ℤ, List, [], ◌∷◌, map, true, not, refl, ap, sym, subst}
use Rattle.std.specs.List.{AllByRecursion, list_all}
use Rattle.sd_lex.specs.PlainTree.{Expression, named, two, StatementTree, FunctionTree}
use Rattle.sd_lex.specs.declared.syntax.operator.TwoSign.TheVariants.{Less}
use Rattle.sd_graph.specs.PlainTree as plain
use Rattle.sd_graph.specs.PlainTree.{KindTree, GraphTree, graph, ExitTree}
use Rattle.sd_graph.specs.TreeParts.{containers_of}
use Rattle.sd_graph.specs.ContainerParts.{container_at, is_stream}
use Rattle.sd_graph.specs.declared.link.Link.{Link}
use Rattle.sd_program.specs.Names.{Name}
use Rattle.sd_program.specs.Place.{Place}
use Rattle.sd_task.specs.task.ElementCode.{links_with}
use Rattle.sd_made.proofs.elab_lemmas.NamesKnown.{affine_knows}
use Rattle.sd_valid.specs.BoundExpression.{bound_link}
use Rattle.sd_valid.specs.BoundTree.{bound_kind, bound_exit, bound_graph}
use Rattle.sd_valid.proofs.SizedUses.{same_kinds}
use Rattle.sd_validity.specs.rules.Places.{Thing, whole, leaving, doing, Place as GraphPlace, Scopes, no_scopes, loops_at, all_places, places_of}
use Rattle.sd_validity.specs.rules.StreamUse.{is_of_array, are_of_arrays, is_condition_of_arrays, are_streams_in_place, rule_4}
use Rattle.sd_validity.specs.rules.Failing.{Holds}
use Rattle.sd_validity.specs.bound_places.BoundPlace.{bound_thing, bound_place}
use Rattle.sd_validity.proofs.bound_places_lemmas.EachPlace.{AtThing, AtPlace, graph_places}
use Rattle.sd_validity.proofs.bound_places_lemmas.Asked.{HoldsAt, none_fails, all_mapped}
use Rattle.sd_validity.proofs.bound_places_lemmas.BoundPlaces.{graph_bound}
use Rattle.sd_made.proofs.places_lemmas.Made.{Fitting, IsWhole, IsItem, IsExit}
use Rattle.sd_made.proofs.places_lemmas.ProgramMade.{IsTold}
use Rattle.sd_made.proofs.places_lemmas.Extents.{extents_in_force}
use Rattle.sd_made.proofs.places_lemmas.LinksMade.{IsOfArray}
use Rattle.sd_made.proofs.places_lemmas.ItemLinks.{ArrayLinks, HasSoundLinks, statement_links, taking_links, reads_sound, condition_links}

module _ (sizes : List ℤ) (tree : GraphTree) where
  kind_bound : (number : ℕ) → is_stream (container_at (containers_of (bound_graph sizes tree)) number).kind ≡ is_stream (container_at (containers_of tree) number).kind
  kind_bound number = of_tree tree
    where
      of_tree : (tree : GraphTree) → is_stream (container_at (containers_of (bound_graph sizes tree)) number).kind ≡ is_stream (container_at (containers_of tree) number).kind
      of_tree (graph name containers arguments variables symbols states) = ap is_stream (same_kinds sizes containers number)

  one_array : (link : Link) → IsOfArray tree link → is_of_array (containers_of (bound_graph sizes tree)) (bound_link sizes link) ≡ true
  one_array link is = ap not (kind_bound link.memlet.container ∙ is)

  module _ (scopes : Scopes) (loops : List ℕ) (Sized : Type 0) where
    links_arrays : (links : List Link) → ArrayLinks tree scopes loops Sized links → are_of_arrays (containers_of (bound_graph sizes tree)) (map (bound_link sizes) links) ≡ true
    links_arrays [] all = refl
    links_arrays (link ∷ links) all = rw (one_array link all.0.1) (links_arrays links all.1)

    kind_streams : (kind : KindTree) → HasSoundLinks tree scopes loops Sized kind → are_streams_in_place (containers_of (bound_graph sizes tree)) (doing (bound_kind sizes kind)) ≡ true
    kind_streams (plain.task code ins outs) sound = links_arrays ins sound.0
    kind_streams (plain.map_scope sequential params private body) sound = refl
    kind_streams (plain.consume_scope stream element private body) sound = kind_bound stream ∙ sound.1
    kind_streams (plain.nested_graph inner links) sound = links_arrays links sound
    kind_streams (plain.reduction resolution axis identity from to) sound = rw (one_array from sound.0.1) (one_array to sound.1.1)
    kind_streams (plain.copy from to) sound = rw (one_array from sound.0.1) (one_array to sound.1.1)

  abbrev IsRight : ExitTree → Type 0
  IsRight exit = is_condition_of_arrays (containers_of (bound_graph sizes tree)) (bound_exit sizes exit).when ≡ true

module _ (sizes : List ℤ) (Given : Place → StatementTree → Type 0) (Is : List Name → FunctionTree → Type 0) (fits : (place : Place) (statement : StatementTree) → Given place statement → Fitting place statement) where
  exit_streams : (tree : GraphTree) (state : ℕ) (exit : ExitTree) → IsWhole Given Is tree → IsExit Given Is tree state exit → IsRight sizes tree exit
  exit_streams tree state exit about (inl (to, inl plain)) = subst (IsRight sizes tree) (sym plain) refl
  exit_streams tree state exit about (inl (to, inr plain)) = subst (IsRight sizes tree) (sym plain) refl
  exit_streams tree state exit about (inr (inl is)) =
      subst (IsRight sizes tree) (sym is.made)
      (links_arrays sizes tree no_scopes (loops_at tree state) _ (links_with is.table [] is.when) (condition_links Given Is fits tree state (extents_in_force Given Is tree [] (loops_at tree state) about) exit is))
  exit_streams tree state exit about (inr (inr (inl is))) = subst (IsRight sizes tree) (sym is.made) refl
  exit_streams tree state exit about (inr (inr (inr (inl is)))) =
      let end : Expression = two Less (named is.loop.name) is.loop.end in
      subst (IsRight sizes tree) (sym is.made)
      (links_arrays sizes tree no_scopes (loops_at tree state) _ (links_with is.table [] end)
      (reads_sound Given Is fits tree state (extents_in_force Given Is tree [] (loops_at tree state) about) is.loop.place is.table end is.stands
      (tt, affine_knows is.loop.place.containers is.loop.end (fits is.loop.place _ is.loop.given.0).affine.1)))
  exit_streams tree state exit about (inr (inr (inr (inr is)))) = subst (IsRight sizes tree) (sym is.made) refl

  exits_streams : (tree : GraphTree) (state : ℕ) (exits : List ExitTree) → IsWhole Given Is tree → AllByRecursion (IsExit Given Is tree state) exits →
      list_all (λ (exit : ExitTree). is_condition_of_arrays (containers_of (bound_graph sizes tree)) exit.when) (map (bound_exit sizes) exits) ≡ true
  exits_streams tree state [] about all = refl
  exits_streams tree state (exit ∷ exits) about all = rw (exit_streams tree state exit about all.0) (exits_streams tree state exits about all.1)

  item_streams : (tree : GraphTree) (state : ℕ) (scopes : Scopes) (kind : KindTree) → IsWhole Given Is tree → IsItem Given Is tree state scopes kind →
      are_streams_in_place (containers_of (bound_graph sizes tree)) (doing (bound_kind sizes kind)) ≡ true
  item_streams tree state scopes kind about (inl is) =
      kind_streams sizes tree scopes (loops_at tree state) _ kind (statement_links Given Is fits tree state scopes (extents_in_force Given Is tree scopes.params (loops_at tree state) about) kind is)
  item_streams tree state scopes kind about (inr is) =
      kind_streams sizes tree scopes (loops_at tree state) _ kind (taking_links Given Is fits tree state scopes (extents_in_force Given Is tree scopes.params (loops_at tree state) about) kind is)

  abbrev At : GraphPlace → Type 0
  At place = AtPlace (IsWhole Given Is) (IsExit Given Is) (IsItem Given Is) place

  thing_streams : (place : GraphPlace) (thing : Thing) → IsWhole Given Is place.graph → AtThing (IsWhole Given Is) (IsExit Given Is) (IsItem Given Is) thing place →
      are_streams_in_place (containers_of (bound_graph sizes place.graph)) (bound_thing sizes thing) ≡ true
  thing_streams place whole about is = refl
  thing_streams place (leaving items exits) about is = exits_streams place.graph place.state exits about is.1
  thing_streams place (doing kind) about is = item_streams place.graph place.state place.scopes kind about is.1

  pub streams_in_place : (tree : GraphTree) → IsTold Given Is fits tree → Holds rule_4 (bound_graph sizes tree)
  streams_in_place tree told =
      none_fails rule_4 [] (all_places (bound_graph sizes tree))
      (subst (AllByRecursion (HoldsAt rule_4)) (sym (graph_bound sizes tree [] 0))
      (all_mapped (bound_place sizes) At (HoldsAt rule_4) (λ place is before. thing_streams place place.thing is.0 is.1) (places_of tree [] 0) (graph_places _ _ _ tree [] 0 told)))
