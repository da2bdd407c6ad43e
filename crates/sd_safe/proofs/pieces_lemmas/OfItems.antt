-- What pieces of a list of items touch is apart from the accesses of pieces that are not ordered with them.
use Rattle.std.proofs.Common.{◌≡◌, ◌≢◌, ◌⊎◌, inl, inr, zero, suc, ℕ, ◌+◌, List, [], length, map, false, Some, slice_get, refl, ap, sym, ◌∙◌, subst, arith}
use Rattle.sd_range.proofs.Normal.{by_same}
use Rattle.sd_work.specs.Residual.{part_at}
use Rattle.sd_work.specs.Touch.{Touch, Touches}
use Rattle.sd_pieces.proofs.history_lemmas.CutSafe.{IsOf, pieces-of, all-at}
use Rattle.sd_graph.specs.PlainTree.{KindTree, map_scope, ItemTrees, no_item, and_item, StateTrees, no_state, and_state, GraphTree, graph}
use Rattle.sd_graph.specs.TreeParts.{containers_of, states_of_graph, items_at}
use Rattle.sd_graph.specs.ContainerParts.{Containers}
use Rattle.sd_graph.specs.Wiring.{before}
use Rattle.sd_graph.specs.Context.{Context}
use Rattle.sd_graph.specs.Unfold.{unfold_kind, unfold_items}
use Rattle.sd_prop.specs.propagation.ItemNodes.{item_nodes, past}
use Rattle.sd_prop.specs.propagation.Accesses.{kind_accesses}
use Rattle.sd_prop.specs.propagation.Scopes.{further, scopes_itself, item_scopes, state_scopes}
use Rattle.sd_race.specs.race.Pairs.{IsScopeAccepted, AreScopesAccepted, IsGraphAccepted}
use Rattle.sd_race.proofs.race_lemmas.Members.{all-parts}
use Rattle.sd_race.specs.cover.Fit.{IsFit, AreFit, AreStatesFit, IsGraphFit}
use Rattle.sd_windows.specs.MapPieces.{kind_pieces, pieces_of_items, CutsAll, CutAllItems}
use Rattle.sd_windows.proofs.CutItems.{cut-items}
use Rattle.sd_safe.specs.pieces.ItemPieces.{ItemPiece, item_pieces, piece_work, HaveSomeValues}
use Rattle.sd_safe.proofs.safe_lemmas.Accepting.{of_items}
use Rattle.sd_safe.proofs.pieces_lemmas.PiecePlaces.{get-append, get-map, map-get, parts-work, AreOfMap, of-map, placed}
use Rattle.sd_safe.proofs.pieces_lemmas.Separate.{IsApart}
use Rattle.sd_safe.proofs.pieces_lemmas.Beside.{pieces-apart, items-apart}

-- ---- the items of a state

-- items are fit, and their scopes accepted, with some path and nodes
pub record AreAccepted (containers : Containers) (items : ItemTrees) : Type 0 where
  pub path : List ℕ
  pub nodes : List ℕ
  pub fit : AreFit items []
  pub accepted : AreScopesAccepted (item_scopes items containers path [] nodes)

states-accepted : (states : StateTrees) (containers : Containers) (path : List ℕ) (number state : ℕ) → AreStatesFit states → AreScopesAccepted (state_scopes states containers path number) → AreAccepted containers (items_at states state)
states-accepted no_state containers path number state fit accepted = record { path = []; nodes = []; fit = tt; accepted = tt }
states-accepted (and_state items exits states) containers path number zero fit accepted =
    let all = all-parts IsScopeAccepted (item_scopes items containers (further path number) [] (item_nodes containers items)) (state_scopes states containers path (suc number)) accepted in
    record { path = further path number; nodes = item_nodes containers items; fit = fit.0.0; accepted = all.0 }
states-accepted (and_state items exits states) containers path number (suc state) fit accepted =
    let all = all-parts IsScopeAccepted (item_scopes items containers (further path number) [] (item_nodes containers items)) (state_scopes states containers path (suc number)) accepted in
    states-accepted states containers path (suc number) state fit.1 all.1

pub state-accepted : (tree : GraphTree) (state : ℕ) → IsGraphFit tree [] → IsGraphAccepted tree → AreAccepted (containers_of tree) (items_at (states_of_graph tree) state)
state-accepted (graph name containers arguments variables symbols states) state fit accepted = states-accepted states containers [] 0 state fit.1 accepted

-- ---- two pieces of one item

-- the item of two pieces
record IsItemOf (context : Context) (counts : ℕ → List ℕ) (part other : ItemPiece) : Type 0 where
  pub kind : KindTree
  pub at : ℕ
  pub path : List ℕ
  pub nodes : List ℕ
  pub fit : IsFit kind []
  pub accepted : AreScopesAccepted (scopes_itself kind context.containers path [] nodes)
  pub cuts : CutsAll context.values (counts at) kind
  pub is_map : AreOfMap context.values (counts at) kind part.kind other.kind

two-placed : (context : Context) (counts : ℕ → List ℕ) (item : ℕ) (items : ItemTrees) (path nodes : List ℕ) (i j : ℕ) (part other : ItemPiece) → AreFit items [] → AreScopesAccepted (item_scopes items context.containers path [] nodes) →
    CutAllItems context.values counts item items → HaveSomeValues counts → i ≢ j → slice_get (item_pieces context.values counts item items) i ≡ Some part → slice_get (item_pieces context.values counts item items) j ≡ Some other →
    part.item ≡ other.item → IsItemOf context counts part other
two-placed context counts item no_item path nodes i j part other fit accepted cuts some different is is' same = cc
two-placed context counts item (and_item line kind items) path nodes i j part other fit accepted cuts some different is is' same =
    on (get-append firsts rest i part is) (get-append firsts rest j other is')
    (λ k l two at at'. two-placed context counts (suc item) items path (past kind nodes) k l part other fit.1 all.others cuts.1 some two at at' same)
  where
    make : KindTree → ItemPiece
    make part = record { item = item; line = line; kind = part }

    firsts : List ItemPiece
    firsts = map make (kind_pieces context.values (counts item) kind)

    rest : List ItemPiece
    rest = item_pieces context.values counts (suc item) items

    all : Rattle.sd_safe.proofs.safe_lemmas.Accepting.OfItems kind items context.containers path [] nodes
    all = of_items kind items context.containers path [] nodes accepted

    on : (slice_get firsts i ≡ Some part) ⊎ ((k : ℕ) × (i ≡ length firsts + k) × (slice_get rest k ≡ Some part)) → (slice_get firsts j ≡ Some other) ⊎ ((k : ℕ) × (j ≡ length firsts + k) × (slice_get rest k ≡ Some other)) →
        ((k l : ℕ) → k ≢ l → slice_get rest k ≡ Some part → slice_get rest l ≡ Some other → IsItemOf context counts part other) → IsItemOf context counts part other
    on (inl a) (inl b) later =
        let r = get-map make (kind_pieces context.values (counts item) kind) i part a in
        let q = get-map make (kind_pieces context.values (counts item) kind) j other b in
        record {
          kind = kind;
          at = item;
          path = path;
          nodes = nodes;
          fit = fit.0;
          accepted = all.itself;
          cuts = cuts.0;
          is_map = subst (λ (p : ItemPiece). AreOfMap context.values (counts item) kind p.kind other.kind) r.2
              (subst (λ (p : ItemPiece). AreOfMap context.values (counts item) kind r.0 p.kind) q.2 (of-map context.values (counts item) kind r.0 q.0 i j (some item) different r.1 q.1));
        }
    on (inl a) (inr b) later =
        let r = get-map make (kind_pieces context.values (counts item) kind) i part a in
        let q = placed context.values counts (suc item) items context.containers b.0 other b.2 in
        let here : item ≡ part.item = ap (λ (p : ItemPiece). p.item) r.2 in
        let there = q.is in
        absurd (omega (arith, here, there, same))
    on (inr a) (inl b) later =
        let q = get-map make (kind_pieces context.values (counts item) kind) j other b in
        let r = placed context.values counts (suc item) items context.containers a.0 part a.2 in
        let here : item ≡ other.item = ap (λ (p : ItemPiece). p.item) q.2 in
        let there = r.is in
        absurd (omega (arith, here, there, same))
    on (inr a) (inr b) later = later a.0 b.0 (λ e. different (a.1 ∙ ap (λ n. length firsts + n) e ∙ sym b.1)) a.2 b.2

map-apart : (context : Context) (counts : ℕ → List ℕ) (part other : ItemPiece) (any : List ℕ) (touch : Touch) → IsItemOf context counts part other → Touches (unfold_kind other.kind other.line context) touch →
    IsApart context.values context.reach (kind_accesses part.kind context.containers any) touch
map-apart context counts part other any touch o is =
    let m = o.is_map in
    let fit : IsFit (map_scope false m.params m.private m.body) [] = subst (λ k. IsFit k []) m.is_map o.fit in
    let accepted : AreScopesAccepted (scopes_itself (map_scope false m.params m.private m.body) context.containers o.path [] o.nodes) = subst (λ k. AreScopesAccepted (scopes_itself k context.containers o.path [] o.nodes)) m.is_map o.accepted in
    let cuts : CutsAll context.values (counts o.at) (map_scope false m.params m.private m.body) = subst (CutsAll context.values (counts o.at)) m.is_map o.cuts in
    pieces-apart m.params m.private m.body (counts o.at) part.kind other.kind other.line context o.path o.nodes any touch fit accepted cuts m.runs is

-- ---- any two pieces

-- a piece of the list, by its number
pub piece-is : (context : Context) (counts : ℕ → List ℕ) (items : ItemTrees) (i : ℕ) (piece : ItemPiece) → slice_get (item_pieces context.values counts 0 items) i ≡ Some piece → slice_get (pieces_of_items counts 0 items context) i ≡ Some (piece_work context piece)
piece-is context counts items i piece is = ap (λ all. slice_get all i) (parts-work context counts 0 items) ∙ map-get (piece_work context) (item_pieces context.values counts 0 items) i piece is

-- what one piece touches is apart from another one that is not ordered with it
pub apart-from : (context : Context) (counts : ℕ → List ℕ) (items : ItemTrees) (i j : ℕ) (part other : ItemPiece) (any : List ℕ) (touch : Touch) → AreAccepted context.containers items →
    CutAllItems context.values counts 0 items → HaveSomeValues counts → i ≢ j → slice_get (item_pieces context.values counts 0 items) i ≡ Some part → slice_get (item_pieces context.values counts 0 items) j ≡ Some other →
    before context.containers items part.item other.item ≡ false → before context.containers items other.item part.item ≡ false → Touches (unfold_kind other.kind other.line context) touch →
    IsApart context.values context.reach (kind_accesses part.kind context.containers any) touch
apart-from context counts items i j part other any touch a cuts some different is is' free free' touched =
    by_same part.item other.item
    (λ same. map-apart context counts part other any touch (two-placed context counts 0 items a.path a.nodes i j part other a.fit a.accepted cuts some different is is' same) touched)
    (λ two.
    let p = placed context.values counts 0 items context.containers i part is in
    let of = all-at (IsOf 0 (unfold_items items context)) (pieces_of_items counts 0 items context) j (piece_work context other) (piece-is context counts items j other is') (pieces-of 0 (cut-items items counts 0 context cuts)) in
    let number : of.0 ≡ other.item = (let e = of.1 in omega (arith, e)) in
    items-apart items context part part.item other.item any touch a.fit p refl two free free' (subst (λ n. Touches (part_at (unfold_items items context) n) touch) number (of.2 touch touched)))
