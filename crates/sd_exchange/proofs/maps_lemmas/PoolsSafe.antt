-- The pools of a valid graph whose consume scopes are accepted are safe.
use Rattle.std.specs.List.{Contains}
use Rattle.std.proofs.Common.{zero, suc, ℕ, ℤ, pos, List, [], ◌∷◌, ◌++◌, length, replicate, refl}
use Rattle.std.proofs.lemmas.List.Elements.{Contains-append_left, Contains-append_right}
use Rattle.sd_range.specs.Points.{points, ranges_of}
use Rattle.sd_range.proofs.Members.{Contains-first, Contains-later}
use Rattle.sd_work.specs.Residual.{Term}
use Rattle.sd_subset.specs.boxes.Box.{Parameter}
use Rattle.sd_subset.specs.boxes.InForce.{AreInForce}
use Rattle.sd_graph.specs.declared.place.Place.{Place}
use Rattle.sd_graph.specs.PlainTree.{KindTree, task, map_scope, consume_scope, nested_graph, reduction, copy, ItemTrees, no_item, and_item, StateTrees, no_state, and_state, graph}
use Rattle.sd_graph.specs.Wiring.{Use, outside, exit_uses, kind_uses, item_uses, state_uses}
use Rattle.sd_graph.specs.Context.{Reach, Context, frames_at}
use Rattle.sd_graph.specs.Unfold.{at_point, point_terms, at_element, at_state, reach_inside, unfold_kind, unfold_items, unfold_state}
use Rattle.sd_safe.specs.safe.Reached.{FindOnce, AreApartFor}
use Rattle.sd_exchange.proofs.maps_lemmas.Keeping.{modes-accepted}
use Rattle.sd_graph.specs.Mode.{Take}
use Rattle.sd_race.proofs.cover_lemmas.Covered.{in_force-at}
use Rattle.sd_safe.proofs.safe_lemmas.Distinct.{inside-once, inside-apart, nested-once, nested-apart}
use Rattle.sd_safe.proofs.safe_lemmas.GraphSafe.{elements-compatible}
use Rattle.sd_exchange.specs.reorder.SafePools.{HasSafePools, HaveSafePools}
use Rattle.sd_exchange.specs.maps.AcceptedPools.{HasAcceptedPools, HaveAcceptedPools, StatesHaveAcceptedPools}
use Rattle.sd_race.specs.cover.Fit.{IsFit, AreFit, AreStatesFit}
use Rattle.sd_exchange.specs.ends.Points.{point_of}

-- fewer uses are reached apart
pub apart-left : (reach : ℕ → Reach) (uses others : List Use) → AreApartFor reach (uses ++ others) → AreApartFor reach uses
apart-left reach uses others apart use' other member member' = apart use' other (Contains-append_left uses others use' member) (Contains-append_left uses others other member')

pub apart-right : (reach : ℕ → Reach) (uses others : List Use) → AreApartFor reach (uses ++ others) → AreApartFor reach others
apart-right reach uses others apart use' other member member' = apart use' other (Contains-append_right uses others use' member) (Contains-append_right uses others other member')

pub point_terms-pools : (part : List ℤ → Term Place) (all : List (List ℤ)) → ((a : List ℤ) → Contains all a → HasSafePools (part a)) → HaveSafePools (point_terms part all)
point_terms-pools part [] safe = tt
point_terms-pools part (a ∷ all) safe = (safe a (Contains-first a all), point_terms-pools part all (λ other member. safe other (Contains-later a all other member)))

mutual
  pub kind-pools : (kind : KindTree) (around : List Parameter) (line : ℕ) (context : Context) → IsFit kind around → AreInForce context.values around → FindOnce context.reach → AreApartFor context.reach (kind_uses kind context.containers) →
      HasAcceptedPools kind context.containers → HasSafePools (unfold_kind kind line context)
  kind-pools (task code ins outs) around line context valid in_force once apart accepted = tt
  kind-pools (map_scope sequential parameters private body) around line context valid in_force once apart accepted =
      point_terms-pools (point_of parameters private body context) (points (ranges_of parameters) context.values)
      (λ point member.
      items-pools body (around ++ parameters) (at_point context parameters private point) valid.1 (in_force-at around parameters context.values point valid.0 in_force member)
      (inside-once private context.containers context.reach once) (inside-apart private context.containers context.reach (item_uses body context.containers) apart) accepted)
  kind-pools (consume_scope source element private body) around line context valid in_force once apart accepted =
      let own = element ∷ private in
      let outer = apart-right context.reach (record { container = source; mode = Take } ∷ []) (outside own (item_uses body context.containers)) apart in (
        refl,
        elements-compatible around element private body [] context valid in_force once outer (modes-accepted own body context.containers [] accepted.0),
        λ value. items-pools body around (at_element context element private value) valid in_force
            (inside-once own context.containers context.reach once) (inside-apart own context.containers context.reach (item_uses body context.containers) outer) accepted.1,
      )
  kind-pools (nested_graph (graph name containers arguments variables symbols states) links) around line context valid in_force once apart accepted =
      let reach = reach_inside context links containers in
      let once' = nested-once context links containers valid.1.0 once in
      let apart' = nested-apart context links containers (state_uses states containers) valid.2 apart in (
        state-pools states 0 (at_state containers variables states reach (frames_at context line) 0 (replicate (length variables) (pos 0))) valid.1.1 once' apart' accepted,
        λ state values. state-pools states state (at_state containers variables states reach (frames_at context line) state values) valid.1.1 once' apart' accepted,
      )
  kind-pools (reduction resolution axis identity from to) around line context valid in_force once apart accepted = tt
  kind-pools (copy from to) around line context valid in_force once apart accepted = tt

  pub items-pools : (items : ItemTrees) (around : List Parameter) (context : Context) → AreFit items around → AreInForce context.values around → FindOnce context.reach → AreApartFor context.reach (item_uses items context.containers) →
      HaveAcceptedPools items context.containers → HaveSafePools (unfold_items items context)
  items-pools no_item around context valid in_force once apart accepted = tt
  items-pools (and_item line kind items) around context valid in_force once apart accepted = (
    kind-pools kind around line context valid.0 in_force once (apart-left context.reach (kind_uses kind context.containers) (item_uses items context.containers) apart) accepted.0,
    items-pools items around context valid.1 in_force once (apart-right context.reach (kind_uses kind context.containers) (item_uses items context.containers) apart) accepted.1,
  )

  pub state-pools : (states : StateTrees) (number : ℕ) (context : Context) → AreStatesFit states → FindOnce context.reach → AreApartFor context.reach (state_uses states context.containers) →
      StatesHaveAcceptedPools states context.containers → HasSafePools (unfold_state states number context)
  state-pools no_state number context valid once apart accepted = tt
  state-pools (and_state items exits states) zero context valid once apart accepted =
      items-pools items [] context valid.0.0 tt once (apart-left context.reach (item_uses items context.containers) (exit_uses exits ++ state_uses states context.containers) apart) accepted.0
  state-pools (and_state items exits states) (suc number) context valid once apart accepted =
      state-pools states number context valid.1 once (apart-right context.reach (exit_uses exits) (state_uses states context.containers) (apart-right context.reach (item_uses items context.containers) (exit_uses exits ++ state_uses states context.containers) apart)) accepted.1
