-- Parts without open pools, whose numbers of waiting values are right.
use Rattle.std.specs.Bool.{⊤}
use Rattle.std.proofs.Common.{◌≡◌, ℕ, nat_eq, ℤ, List, [], ◌∷◌, map, length, Bool, true, false, ◌&&◌, ◌||◌, refl, ap}
use Rattle.sd_work.specs.Memory.{Memory, Memories, waiting}
use Rattle.sd_moves.specs.numbered.OpenPools.{HasNoOpenPool, HaveNoOpenPool}
use Rattle.sd_graph.specs.PlainTree.{KindTree, ItemTrees, GraphTree}
use Rattle.sd_graph.specs.TreeParts.{states_of_graph, items_at, containers_of}
use Rattle.sd_graph.specs.Context.{Context, Reach, frames_at}
use Rattle.sd_graph.specs.Unfold.{reach_inside}
use Rattle.sd_graph.specs.declared.place.Frame.{Frame}
use Rattle.sd_mem.specs.machine.Coming.{state_context}
use Rattle.sd_left.specs.tree.Standing.{ItemLeft, BodyLeft, RunLeft, first_line, first_kind, others, body_of, point_inside, body_left, parts_left, points_left, run_left, nested_left, inner_graph, links_of}
use Rattle.sd_left.specs.left.Waits.{Told, all_hold}
use Rattle.sd_left.proofs.left_lemmas.Sameness.{both-are}

abbrev pub ItemWaits : ItemLeft → Told → Type 0
ItemWaits left counted = (kind : KindTree) (line : ℕ) (context : Context) (memories : Memories) → HasNoOpenPool (left kind line context) → counted memories ≡ true

abbrev pub BodyWaits : BodyLeft → Told → Type 0
BodyWaits body counted = (items : ItemTrees) (context : Context) (memories : Memories) → HasNoOpenPool (body_left body items context) → counted memories ≡ true

abbrev pub BodiesWait : List BodyLeft → Told → Type 0
BodiesWait bodies counted = (kind : KindTree) (context : Context) (memories : Memories) → HaveNoOpenPool (points_left bodies kind context) → counted memories ≡ true

abbrev pub RunWaits : RunLeft → Told → Type 0
RunWaits run counted = (tree : GraphTree) (reach : ℕ → Reach) (around : List Frame) (memories : Memories) → HasNoOpenPool (run_left run tree reach around) → counted memories ≡ true

module _ {A : Type 0} (kept : A → BodyLeft) (counted : A → Told) where
  abbrev pub AllBodiesWait : List A → Type 0
  AllBodiesWait [] = ⊤
  AllBodiesWait (body ∷ bodies) = BodyWaits (kept body) (counted body) × AllBodiesWait bodies

  pub bodies-wait : (bodies : List A) → AllBodiesWait bodies → BodiesWait (map kept bodies) (all_hold (map counted bodies))
  bodies-wait [] wait kind context memories free = refl
  bodies-wait (body ∷ bodies) wait kind context memories free =
      both-are (counted body memories) (all_hold (map counted bodies) memories)
      (wait.0 (body_of kind) (point_inside kind context (kept body).at) memories free.0) (bodies-wait bodies wait.1 kind context memories free.1)

module _ {A : Type 0} (kept : A → ItemLeft) (counted : A → Told) where
  abbrev pub AllItemsWait : List A → Type 0
  AllItemsWait [] = ⊤
  AllItemsWait (part ∷ parts) = ItemWaits (kept part) (counted part) × AllItemsWait parts

  parts-wait : (parts : List A) → AllItemsWait parts → (items : ItemTrees) (context : Context) (memories : Memories) → HaveNoOpenPool (parts_left (map kept parts) items context)
      → all_hold (map counted parts) memories ≡ true
  parts-wait [] wait items context memories free = refl
  parts-wait (part ∷ parts) wait items context memories free =
      both-are (counted part memories) (all_hold (map counted parts) memories)
      (wait.0 (first_kind items) (first_line items) context memories free.0) (parts-wait parts wait.1 (others items) context memories free.1)

  pub items-wait : (at : List ℤ) (own : Memory) (order : ℕ → ℕ → Bool) (parts : List A) → AllItemsWait parts
      → BodyWaits (record { at = at; own = own; order = order; parts = map kept parts }) (λ memories. all_hold (map counted parts) (own ∷ memories))
  items-wait at own order parts wait items context memories free = parts-wait parts wait items context (own ∷ memories) free

pub closed-waits : (level container kept : ℕ) (closed : Bool) (counted : Told) (memories : Memories) → closed ≡ true
    → (closed || (nat_eq kept (length (waiting level container memories)) && counted memories)) ≡ true
closed-waits level container kept closed counted memories over = ap (λ (end : Bool). end || (nat_eq kept (length (waiting level container memories)) && counted memories)) over

pub going-waits : (state : ℕ) (ended : Bool) (body : BodyLeft) (counted : Told) → BodyWaits body counted → RunWaits (record { state = state; ended = ended; body = body }) (λ memories. ended || counted memories)
going-waits state true body counted wait tree reach around memories free = refl
going-waits state false body counted wait tree reach around memories free =
    wait (items_at (states_of_graph tree) state) (state_context tree reach around state body.at) memories free

pub inner-waits : (run : RunLeft) (counted : Told) → RunWaits run counted → ItemWaits (nested_left run) counted
inner-waits run counted wait kind line context memories free =
    wait (inner_graph kind) (reach_inside context (links_of kind) (containers_of (inner_graph kind))) (frames_at context line) memories free
