-- Pieces of one item, and of two items without a path, have separate accesses.
use Rattle.std.specs.List.{AllZip, Contains}
use Rattle.std.proofs.Common.{◌≡◌, ◌≢◌, ◌⊎◌, inl, inr, zero, suc, ℕ, ◌+◌, ◌≤◌, ◌<◌, ℤ, List, [], ◌∷◌, length, sum, take, drop, true, false, refl, ap, sym, ◌∙◌, subst, arith}
use Rattle.sd_range.specs.Range.{IsRange, range_values}
use Rattle.sd_range.specs.Points.{tuples, values_of_ranges, ranges_of, piece_of}
use Rattle.sd_range.specs.declared.range.Range.{Range}
use Rattle.sd_range.proofs.Members.{Contains-first, Contains-later, Contains-from_map}
use Rattle.sd_range.proofs.Normal.{by_order}
use Rattle.sd_range.proofs.TupleLaws.{one_of_each, each_choice}
use Rattle.sd_work.specs.Residual.{Term, Points, list, part_at}
use Rattle.sd_work.specs.Touch.{Touch, Touches, SomePartTouches}
use Rattle.sd_subset.specs.boxes.Box.{Parameter, Box, replaced}
use Rattle.sd_subset.specs.boxes.InForce.{AreFresh, IsNormalBox, at_point, IsPoint}
use Rattle.sd_subset.specs.boxes.Apart.{AreHarmless}
use Rattle.sd_subset.proofs.boxes_lemmas.Disjoint.{of_member}
use Rattle.sd_graph.specs.declared.place.Place.{Place}
use Rattle.sd_graph.specs.PlainTree.{KindTree, map_scope, ItemTrees}
use Rattle.sd_graph.specs.Mode.{do_conflict}
use Rattle.sd_graph.specs.Wiring.{uses_of_each, uses_at, is_before, before}
use Rattle.sd_graph.specs.Context.{Context}
use Rattle.sd_graph.specs.Unfold.{point_terms, in_any_order, unfold_kind, unfold_items}
use Rattle.sd_graph.proofs.WiringLaws.{edges_are_paths}
use Rattle.sd_prop.specs.propagation.ItemNodes.{nodes_behind}
use Rattle.sd_prop.specs.propagation.Accesses.{Access, access_replaced, outside_accesses, kind_accesses, item_accesses}
use Rattle.sd_prop.specs.propagation.Scopes.{scopes_itself}
use Rattle.sd_race.specs.race.Pairs.{AreScopesAccepted}
use Rattle.sd_race.specs.cover.Fit.{IsFit, AreFit}
use Rattle.sd_race.proofs.race_lemmas.Modes.{do_conflict-turned}
use Rattle.sd_race.proofs.cover_lemmas.UsesOf.{of_access, uses-kind, normal-items, normal-outside}
use Rattle.sd_windows.specs.MapPieces.{range_piece, kind_piece, at_each, CutsAll}
use Rattle.sd_windows.proofs.PiecePoints.{piece-terms}
use Rattle.sd_safe.specs.pieces.ItemPieces.{ItemPiece}
use Rattle.sd_safe.proofs.safe_lemmas.Accepting.{AreMapHarmless, map-harmless}
use Rattle.sd_safe.proofs.safe_lemmas.Compatible.{AreSeparate}
use Rattle.sd_safe.proofs.safe_lemmas.Edges.{conflict-edge}
use Rattle.sd_safe.proofs.safe_lemmas.GraphSafe.{point_of, point-covered}
use Rattle.sd_safe.proofs.safe_lemmas.Parts.{not_past, part-used}
use Rattle.sd_safe.proofs.pieces_lemmas.AnyNodes.{bare, other-nodes}
use Rattle.sd_safe.proofs.pieces_lemmas.PieceBoxes.{IsApartFrom, part-none, part-stream}
use Rattle.sd_safe.proofs.pieces_lemmas.PieceValues.{IsOfPiece, apart-of, of-piece}
use Rattle.sd_safe.proofs.pieces_lemmas.PiecePlaces.{AreRuns, IsPlaced}
use Rattle.sd_safe.proofs.pieces_lemmas.Separate.{IsApart}

-- ---- accesses

no-dimension : (params : List Parameter) (box : Box) → replaced params box ≡ [] → box ≡ []
no-dimension params [] is = refl
no-dimension params (bounds ∷ box) is = cc

-- the access of a piece, and one at a point beside it
piece-separate : (values : List ℤ) (variable : ℕ) (r : Range) (own : List Parameter) (access other : Access) (first more : ℕ) (at : ℤ) (rest : List ℤ) → AreFresh [] ((variable, r) ∷ own) → IsNormalBox access.box → IsNormalBox other.box →
    (access.container ≡ other.container → do_conflict access.mode other.mode ≡ true → AreHarmless [] ((variable, r) ∷ own) access.box other.box) →
    IsApartFrom values variable r (range_piece values first (suc more) r) at → IsPoint ((variable, r) ∷ own) values (at ∷ rest) →
    AreSeparate values (at_point ((variable, r) ∷ own) (at ∷ rest) values) (access_replaced ((variable, range_piece values first (suc more) r) ∷ own) access) other
piece-separate values variable r own access other first more at rest fresh normal normal' harmless away member = record {
  elements = λ index same conflict inside inside'.
      part-none values variable r (range_piece values first (suc more) r) own access.box other.box at rest index fresh normal normal' (harmless same conflict) away member inside inside';
  streams = λ same conflict none.
      part-stream values variable r (range_piece values first (suc more) r) own access.box other.box at (harmless same conflict)
      (elim none [ inl is ↦ inl (no-dimension ((variable, range_piece values first (suc more) r) ∷ own) access.box is) | inr is ↦ inr is ]) away;
}

-- the node makes no difference
separate-bare : (values others : List ℤ) (access other second : Access) → bare access ≡ bare other → AreSeparate values others access second → AreSeparate values others other second
separate-bare values others access other second same s =
    let plain : AreSeparate values others (bare access) second = record { elements = s.elements; streams = s.streams } in
    let turned : AreSeparate values others (bare other) second = subst (λ a. AreSeparate values others a second) same plain in
    record { elements = turned.elements; streams = turned.streams }

-- ---- pieces of one map

-- what a list of points touches one of them does
some-point : (f : List ℤ → Term Place) (all : List (List ℤ)) (touch : Touch) → SomePartTouches (point_terms f all) touch → (point : List ℤ) × Contains all point × Touches (f point) touch
some-point f [] touch is = absurd is
some-point f (point ∷ all) touch (inl here) = (point, Contains-first point all, here)
some-point f (point ∷ all) touch (inr later) = let r = some-point f all touch later in (r.0, Contains-later point all r.0 r.1, r.2)

-- a map whose first parameter has this variable and range
pub record IsCutMap (values : List ℤ) (variable : ℕ) (r : Range) (own : List Parameter) (private : List ℕ) (body : ItemTrees) (context : Context) (path nodes : List ℕ) (to : ℕ) : Type 0 where
  pub fresh : AreFresh [] ((variable, r) ∷ own)
  pub fit : AreFit body ((variable, r) ∷ own)
  pub accepted : AreMapHarmless [] ((variable, r) ∷ own) (outside_accesses private (item_accesses body context.containers (nodes_behind nodes)))
  pub all : to ≡ length (range_values values r)

-- a touch at a point of one piece is apart from the other one
at-point : (variable : ℕ) (r : Range) (own : List Parameter) (private : List ℕ) (body : ItemTrees) (context : Context) (path nodes any : List ℕ) (to first more later count : ℕ) (point : List ℤ) (touch : Touch) →
    IsCutMap context.values variable r own private body context path nodes to → first + suc more ≤ to → later + count ≤ to → (first + suc more ≤ later) ⊎ (later + count ≤ first) →
    Contains (tuples (piece_of later count (values_of_ranges (ranges_of ((variable, r) ∷ own)) context.values))) point → Touches (point_of ((variable, r) ∷ own) private body context point) touch →
    IsApart context.values context.reach (kind_accesses (map_scope false ((variable, range_piece context.values first (suc more) r) ∷ own) private body) context.containers any) touch
at-point variable r own private body context path nodes any to first more later count point touch m within within' apart member is =
    on point (one_of_each (take count (drop later (range_values context.values r)) ∷ values_of_ranges (ranges_of own) context.values) point member) is
  where
    values : List ℤ
    values = context.values

    params : List Parameter
    params = (variable, r) ∷ own

    accesses : List Access
    accesses = outside_accesses private (item_accesses body context.containers (nodes_behind nodes))

    range : IsRange r
    range = m.fresh.normal.0.range

    away : (at : ℤ) → IsOfPiece values r later count at → IsApartFrom values variable r (range_piece values first (suc more) r) at
    away at of =
        let from = of.from in
        let below = of.below in
        apart-of values variable r first more at of.place range (subst (λ n. first + suc more ≤ n) m.all within) of.member of.is
        (elim apart [ inl before ↦ inr (omega (arith, before, from)) | inr behind ↦ inl (omega (arith, behind, below)) ])

    on : (point : List ℤ) → AllZip Contains (take count (drop later (range_values values r)) ∷ values_of_ranges (ranges_of own) values) point → Touches (point_of params private body context point) touch →
        IsApart values context.reach (kind_accesses (map_scope false ((variable, range_piece values first (suc more) r) ∷ own) private body) context.containers any) touch
    on [] zip is = absurd zip
    on (at ∷ rest) zip is =
        let of = of-piece values r later count at range (subst (λ n. later + count ≤ n) m.all within') zip.0 in
        let here : IsPoint params values (at ∷ rest) = each_choice (range_values values r ∷ values_of_ranges (ranges_of own) values) (at ∷ rest) (of.member, zip.1) in
        let covered = point-covered [] params private body (nodes_behind nodes) context (at ∷ rest) touch m.fresh m.fit tt here is in
        let normal = normal-outside private (item_accesses body context.containers (nodes_behind nodes)) (normal-items body context.containers (nodes_behind nodes) params m.fit) in
        record {
          access = covered.0;
          there = at_point params (at ∷ rest) values;
          covers = covered.2;
          separate = λ other second.
              let inside = Contains-from_map (access_replaced ((variable, range_piece values first (suc more) r) ∷ own)) (outside_accesses private (item_accesses body context.containers (nodes_behind any))) other second in
              let named = other-nodes private body context.containers (nodes_behind any) (nodes_behind nodes) inside.0 inside.1 in
              let one = piece-separate values variable r own named.0 covered.0 first more at rest m.fresh (of_member (λ (a : Access). IsNormalBox a.box) accesses named.0 normal named.1) (of_member (λ (a : Access). IsNormalBox a.box) accesses covered.0 normal covered.1)
              (m.accepted named.0 covered.0 named.1 covered.1) (away at of) here in
              separate-bare values (at_point params (at ∷ rest) values) (access_replaced ((variable, range_piece values first (suc more) r) ∷ own) named.0) other covered.0
              (ap (access_replaced ((variable, range_piece values first (suc more) r) ∷ own)) named.2 ∙ ap bare inside.2) one;
        }

positive : (n : ℕ) → 0 < n → (m : ℕ) × (n ≡ suc m)
positive zero some = absurd (omega arith)
positive (suc n) some = (n, refl)

-- what one piece of a map touches is apart from another one
pub pieces-apart : (params : List Parameter) (private : List ℕ) (body : ItemTrees) (counts : List ℕ) (part other : KindTree) (line : ℕ) (context : Context) (path nodes any : List ℕ) (touch : Touch) →
    IsFit (map_scope false params private body) [] → AreScopesAccepted (scopes_itself (map_scope false params private body) context.containers path [] nodes) → CutsAll context.values counts (map_scope false params private body) →
    AreRuns context.values (map_scope false params private body) part other (0 + sum counts) → Touches (unfold_kind other line context) touch → IsApart context.values context.reach (kind_accesses part context.containers any) touch
pieces-apart [] private body counts part other line context path nodes any touch fit accepted cuts runs is = absurd cuts
pieces-apart (param ∷ own) private body counts part other line context path nodes any touch fit accepted cuts runs is =
    let values = context.values in
    let more = positive runs.one.count runs.one.some in
    let none : 0 + sum counts ≡ sum counts = omega arith in
    let all : 0 + sum counts ≡ length (range_values values param.1) = none ∙ cuts.1 in
    let touched : Touches (unfold_kind (kind_piece values runs.two.first runs.two.count (map_scope false (param ∷ own) private body)) line context) touch = subst (λ k. Touches (unfold_kind k line context) touch) runs.two.is is in
    let listed : Touches (list Points in_any_order (point_terms (at_each context (param ∷ own) private body) (tuples (piece_of runs.two.first runs.two.count (values_of_ranges (ranges_of (param ∷ own)) values))))) touch =
    subst (λ t. Touches t touch) (piece-terms (param ∷ own) private body line context runs.two.first runs.two.count (cuts.0, (let w = runs.two.within in subst (λ n. runs.two.first + runs.two.count ≤ n) all w))) touched in
    let point = some-point (at_each context (param ∷ own) private body) (tuples (piece_of runs.two.first runs.two.count (values_of_ranges (ranges_of (param ∷ own)) values))) touch listed in
    let m : IsCutMap values param.0 param.1 own private body context path nodes (0 + sum counts) =
    record { fresh = fit.0; fit = fit.1; accepted = map-harmless false (param ∷ own) private body context.containers path [] nodes (accepted.0 refl); all = all } in
    let one : IsApart values context.reach (kind_accesses (map_scope false ((param.0, range_piece values runs.one.first (suc more.0) param.1) ∷ own) private body) context.containers any) touch =
    at-point param.0 param.1 own private body context path nodes any (0 + sum counts) runs.one.first more.0 runs.two.first runs.two.count point.0 touch m
    (subst (λ n. runs.one.first + n ≤ 0 + sum counts) more.1 runs.one.within) runs.two.within
    (subst (λ n. (runs.one.first + n ≤ runs.two.first) ⊎ (runs.two.first + runs.two.count ≤ runs.one.first)) more.1 runs.apart) point.1 point.2 in
    subst (λ k. IsApart values context.reach (kind_accesses k context.containers any) touch) (ap (λ n. kind_piece values runs.one.first n (map_scope false (param ∷ own) private body)) (sym more.1) ∙ sym runs.one.is) one

-- ---- pieces of two items

-- what an item touches is apart from a piece of an item without a path to it
pub items-apart : (items : ItemTrees) (context : Context) (piece : ItemPiece) (a b : ℕ) (any : List ℕ) (touch : Touch) → AreFit items [] → (p : IsPlaced items context.containers 0 piece) → piece.item ≡ a → a ≢ b →
    before context.containers items a b ≡ false → before context.containers items b a ≡ false → Touches (part_at (unfold_items items context) b) touch →
    IsApart context.values context.reach (kind_accesses piece.kind context.containers any) touch
items-apart items context piece a b any touch fit p is different free free' touched =
    let all = uses_of_each items context.containers in
    let (access, member, used, at) = part-used items [] context b touch fit tt touched in
    record {
      access = access;
      there = context.values;
      covers = at;
      separate = λ other second.
          let mine : Contains (uses_at all a) (of_access other) =
          subst (λ n. Contains (uses_at all n) (of_access other)) (let e = p.is in let same : p.number ≡ a = omega (arith, e, is) in same) (p.uses (of_access other) (uses-kind piece.kind context.containers any other second)) in
          let never : other.container ≡ access.container → do_conflict other.mode access.mode ≡ true → ⊥ = λ same conflict.
          by_order a b
          (λ less. let both : is_before all a b ≡ true = edges_are_paths all a b less (not_past all b (of_access access) member) (conflict-edge (uses_at all a) (uses_at all b) (of_access other) (of_access access) mine member same conflict) in
          let clash : false ≡ true = sym free ∙ both in cc)
          (λ same. absurd (different same))
          (λ more. let both : is_before all b a ≡ true = edges_are_paths all b a more (not_past all a (of_access other) mine) (conflict-edge (uses_at all b) (uses_at all a) (of_access access) (of_access other) member mine (sym same) (do_conflict-turned other.mode access.mode ∙ conflict)) in
          let clash : false ≡ true = sym free' ∙ both in cc) in
          record { elements = λ index same conflict inside inside'. never same conflict; streams = λ same conflict none. never same conflict };
    }
