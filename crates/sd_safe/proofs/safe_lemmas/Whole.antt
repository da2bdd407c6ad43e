-- A whole graph that is fit and accepted may be done in any order.
use Rattle.std.proofs.Common.{◌≡◌, inl, inr, ℕ, ℤ, pos, List, [], length, replicate, false, refl, ap, sym, subst}
use Rattle.sd_work.specs.Memory.{Memory}
use Rattle.sd_work.specs.Residual.{pool, idle}
use Rattle.sd_work.specs.WellFormed.{IsOrdered}
use Rattle.sd_work.specs.Touch.{Touch, takes, inner, Touches}
use Rattle.sd_confluence.specs.Safe.{IsSafe, MayInterleave, pool_over}
use Rattle.sd_subset.specs.boxes.Box.{Parameter}
use Rattle.sd_graph.specs.PlainTree.{ItemTrees, consume_scope, StateTrees, GraphTree, graph}
use Rattle.sd_graph.specs.ContainerParts.{Containers}
use Rattle.sd_graph.specs.Wiring.{Use, state_uses}
use Rattle.sd_graph.specs.Context.{Context, own_reach}
use Rattle.sd_graph.specs.Unfold.{at_state, run_of}
use Rattle.sd_graph.proofs.UnfoldedOrder.{kind_is_ordered, run_is_ordered}
use Rattle.sd_prop.specs.propagation.Scopes.{scopes_itself, scopes_inside}
use Rattle.sd_race.specs.race.Pairs.{AreScopesAccepted, IsGraphAccepted}
use Rattle.sd_race.specs.cover.Fit.{IsFit, IsGraphFit}
use Rattle.sd_safe.proofs.safe_lemmas.Rows.{finds_once-own}
use Rattle.sd_race.proofs.cover_lemmas.Owners.{touch-own}
use Rattle.sd_race.proofs.cover_lemmas.Covered.{IsUsed, kind-covered, state-used, all_exits-used}
use Rattle.sd_safe.proofs.safe_lemmas.Distinct.{own-differ}
use Rattle.sd_safe.proofs.safe_lemmas.GraphSafe.{element_term, kind-safe, state-safe}
use Rattle.sd_safe.specs.safe.Reached.{FindsOnce, FindOnce, AreApartFor, MayStand}
use Rattle.sd_safe.specs.safe.Standing.{StandsAlone}

pub top-once : (containers : Containers) → FindOnce (own_reach containers)
top-once containers number = finds_once-own containers number

pub top-apart : (containers : Containers) (states : StateTrees) → AreApartFor (own_reach containers) (state_uses states containers)
top-apart containers states use' other member member' different conflict =
    own-differ (own_reach containers use'.container) (own_reach containers other.container) containers use'.container other.container different refl refl

-- nothing outside of a whole graph is touched
top-outside : (containers : Containers) (states : StateTrees) (values : List ℤ) (touch : Touch) → IsUsed values (own_reach containers) (state_uses states containers) (inner touch) → ⊥
top-outside containers states values touch (access, member, is) = touch-own values (own_reach containers) access touch refl is

pub touches-nothing : (tree : GraphTree) (memory : Memory) (touch : Touch) → IsGraphFit tree [] → Touches (run_of tree memory) touch → ⊥
touches-nothing (graph name containers arguments variables symbols states) memory touch fit (inl is) =
    let values : List ℤ = replicate (length variables) (pos 0) in
    top-outside containers states values touch (state-used states 0 (at_state containers variables states (own_reach containers) [] 0 values) (inner touch) fit.1 is)
touches-nothing (graph name containers arguments variables symbols states) memory touch fit (inr (inl (state, values, is))) =
    top-outside containers states values touch (state-used states state (at_state containers variables states (own_reach containers) [] state values) (inner touch) fit.1 is)
touches-nothing (graph name containers arguments variables symbols states) memory touch fit (inr (inr (state, values, is))) =
    top-outside containers states values touch (all_exits-used (at_state containers variables states (own_reach containers) [] state values) states state (inner touch) fit.1 is)

-- the run of a whole graph may be done in any order
pub may_interleave : (tree : GraphTree) (memory : Memory) → IsGraphFit tree [] → IsGraphAccepted tree → MayInterleave (run_of tree memory)
may_interleave (graph name containers arguments variables symbols states) memory fit accepted =
    let tree = graph name containers arguments variables symbols states in
    let once = top-once containers in
    let apart = top-apart containers states in record {
      ordered = run_is_ordered tree memory;
      safe = (
        state-safe states 0 [] 0 (at_state containers variables states (own_reach containers) [] 0 (replicate (length variables) (pos 0))) fit.1 once apart accepted,
        λ state values. state-safe states state [] 0 (at_state containers variables states (own_reach containers) [] state values) fit.1 once apart accepted,
      );
      inside = λ level container is. touches-nothing tree memory (takes level container) fit is;
    }

-- over a memory of its graph an item may stand where no map is around it
pub own-stands : (context : Context) (uses : List Use) → ((number : ℕ) → context.reach number ≡ own_reach context.containers number) → MayStand context [] uses
own-stands context uses own = record {
  in_force = tt;
  once = λ number. subst FindsOnce (sym (own number)) (finds_once-own context.containers number);
  apart = λ use' other member member' different conflict.
      own-differ (context.reach use'.container) (context.reach other.container) context.containers use'.container other.container different (own use'.container) (own other.container);
}

-- a pool alone over a memory, in which all that it reaches lies, may be done in any order
pub pool-may_interleave : (memory : Memory) (source element : ℕ) (private : List ℕ) (body : ItemTrees) (path nodes : List ℕ) (around : List Parameter) (context : Context) → StandsAlone context (consume_scope source element private body) around →
    IsFit (consume_scope source element private body) around → AreScopesAccepted (scopes_itself (consume_scope source element private body) context.containers path around nodes) →
    AreScopesAccepted (scopes_inside (consume_scope source element private body) context.containers path around nodes) →
    MayInterleave (pool_over memory (context.reach source).container (element_term element private body context))
pool-may_interleave memory source element private body path nodes around context alone fit itself within =
    let kind = consume_scope source element private body in
    let container = (context.reach source).container in
    let works = element_term element private body context in
    let here : pool (context.reach source).level container works idle false ≡ pool 0 container works idle false = ap (λ level. pool level container works idle false) (alone.here source) in
    let safe : IsSafe (pool 0 container works idle false) = subst IsSafe here (kind-safe kind around 0 path nodes context fit alone.stands.in_force alone.stands.once alone.stands.apart itself within) in
    let ordered : IsOrdered (pool 0 container works idle false) = subst IsOrdered here (kind_is_ordered kind 0 context) in
    let nothing : (touch : Touch) → Touches (pool 0 container works idle false) (inner touch) → ⊥ = λ touch is.
    (let (access, member, covers) = kind-covered kind around 0 nodes context (inner touch) fit alone.stands.in_force (subst (λ term. Touches term (inner touch)) (sym here) is) in
    touch-own context.values context.reach access touch (alone.here access.container) covers) in record {
      ordered = (ordered, λ state values. ordered);
      safe = (safe, λ state values. safe);
      inside = λ level place is. elim is [
        | inl part ↦ nothing (takes level place) part
        | inr later ↦ elim later [ inl (state, values, at) ↦ nothing (takes level place) at | inr (state, values, at) ↦ at ]
      ];
    }
