-- A map of two points and an item behind it, in three pieces, of which the second is done first.
use Rattle.std.proofs.Common.{◌≡◌, ℕ, zero, suc, ◌<◌, ℤ, pos, List, [], ◌∷◌, Some, None, slice_get, true, false, refl, sym, subst, inl, inr, arith}
use Rattle.std.specs.Int.{int_wrap}
use Rattle.sd_num.specs.declared.width.Width.TheVariants.{W64}
use Rattle.sd_work.specs.Memory.{Memory, array}
use Rattle.sd_work.specs.Residual.{Items, Points, Term, list, Terms, none, also, part_at, IsOrder}
use Rattle.sd_work.specs.Step.{Done}
use Rattle.sd_work.specs.Run.{Left, Sequential}
use Rattle.sd_work.specs.Touch.{writes, takes, AreCompatible, SomePartTouches}
use Rattle.sd_work.specs.WellFormed.{IsOrdered}
use Rattle.sd_work.specs.OrderedPools.{HasOrderedPools}
use Rattle.sd_work.proofs.examples.ExampleParts.{cell, sets, two, unordered, in_turn, points}
use Rattle.sd_confluence.specs.Safe.{TouchCompatibly, TakesNothingOutside, ArePartsSafe, IsSafe, MayInterleave}
use Rattle.sd_confluence.specs.Alike.{AreAlike}
use Rattle.sd_confluence.proofs.examples.TouchExamples.{at, replaces, replacements_of_two_elements_do_not_conflict}
use Rattle.sd_pieces.specs.history.Pieces.{Piece, Work, IsCut, no_items, as_it_is, in_pieces, graph_of_items}
use Rattle.sd_pieces.specs.history.History.{is_in_history, MayFollow, History, nothing_done, and_piece, HasAll}
use Rattle.sd_pieces.proofs.history_lemmas.Cutting.{history-sequential}

abbrev first_point : Term ℕ
first_point = sets 1 (cell 0 0 0) (pos 5)

abbrev second_point : Term ℕ
second_point = sets 1 (cell 0 0 1) (pos 6)

abbrev behind : Term ℕ
behind = sets 2 (cell 0 0 2) (pos 7)

abbrev items : Terms ℕ
items = two (points (two first_point second_point)) behind

-- each point is a piece, and the item behind the map is one
abbrev work : Work ℕ
work = record {
  pieces = record { item = 0; term = points (also first_point none) } ∷ record { item = 0; term = points (also second_point none) } ∷ record { item = 1; term = behind } ∷ [];
  before = in_turn;
}

a_map_is_cut_at_its_points : IsCut 0 items work.pieces
a_map_is_cut_at_its_points = in_pieces unordered (also first_point none ∷ also second_point none ∷ []) (λ from to. refl) (as_it_is behind no_items)

abbrev zeros : Memory
zeros = array W64 (pos 0 ∷ pos 0 ∷ pos 0 ∷ []) ∷ []

abbrev left_there : Memory
left_there = array W64 (pos 5 ∷ pos 6 ∷ pos 7 ∷ []) ∷ []

-- ---- what may follow

never : {A : Type 0} → false ≡ true → A
never e = cc

-- before the map there is no item
map_pieces_may_follow : (history : List ℕ) (other : ℕ) (earlier : Piece ℕ) → slice_get work.pieces other ≡ Some earlier → in_turn earlier.item 0 ≡ true → ⊥
map_pieces_may_follow history other earlier found e = grind (arith, e)

the_item_behind_may_not_begin : MayFollow work [] 2 (record { item = 1; term = behind }) → ⊥
the_item_behind_may_not_begin f = never (f.is_ready 0 (record { item = 0; term = points (also first_point none) }) refl refl)

nor_after_one_point : MayFollow work (1 ∷ []) 2 (record { item = 1; term = behind }) → ⊥
nor_after_one_point f = never (f.is_ready 0 (record { item = 0; term = points (also first_point none) }) refl refl)

no_piece_follows_twice : MayFollow work (1 ∷ []) 1 (record { item = 0; term = points (also second_point none) }) → ⊥
no_piece_follows_twice f = never (sym f.is_new)

second_may_begin : MayFollow work [] 1 (record { item = 0; term = points (also second_point none) })
second_may_begin = record { is_piece = refl; is_new = refl; is_ready = λ other earlier found e. absurd (map_pieces_may_follow [] other earlier found e) }

first_may_follow : MayFollow work (1 ∷ []) 0 (record { item = 0; term = points (also first_point none) })
first_may_follow = record { is_piece = refl; is_new = refl; is_ready = λ other earlier found e. absurd (map_pieces_may_follow (1 ∷ []) other earlier found e) }

behind_may_follow : MayFollow work (1 ∷ 0 ∷ []) 2 (record { item = 1; term = behind })
behind_may_follow = record { is_piece = refl; is_new = refl; is_ready = ready }
  where
    ready : (other : ℕ) (earlier : Piece ℕ) → slice_get work.pieces other ≡ Some earlier → in_turn earlier.item 1 ≡ true → is_in_history other (1 ∷ 0 ∷ []) ≡ true
    ready zero earlier found e = refl
    ready (suc zero) earlier found e = refl
    ready (suc (suc zero)) earlier found e = let same : 1 ≡ earlier.item = cc in absurd (grind (arith, e, same))
    ready (suc (suc (suc other))) earlier found e = cc

-- ---- a history

the_later_point_first : History work 1 (zeros ∷ []) (1 ∷ 0 ∷ 2 ∷ []) (left_there ∷ []) 3
unfolding int_wrap
the_later_point_first =
    and_piece 2 (record { item = 1; term = behind }) 1 (left_there ∷ [])
    (and_piece 0 (record { item = 0; term = points (also first_point none) }) 1 ((array W64 (pos 5 ∷ pos 6 ∷ pos 0 ∷ []) ∷ []) ∷ [])
    (and_piece 1 (record { item = 0; term = points (also second_point none) }) 1 ((array W64 (pos 0 ∷ pos 6 ∷ pos 0 ∷ []) ∷ []) ∷ []) nothing_done second_may_begin refl)
    first_may_follow refl)
    behind_may_follow refl

it_has_all : HasAll work (1 ∷ 0 ∷ 2 ∷ [])
it_has_all zero piece found = refl
it_has_all (suc zero) piece found = refl
it_has_all (suc (suc zero)) piece found = refl
it_has_all (suc (suc (suc number))) piece found = cc

-- ---- the items may interleave

in_turn_is_an_order : IsOrder in_turn
in_turn_is_an_order = record { rises = λ j k e. grind (arith, e); passes = λ i j k e f. grind (arith, e, f) }

unordered_is_an_order : IsOrder unordered
unordered_is_an_order = record { rises = λ j k e. never e; passes = λ i j k e f. e }

points_do_not_conflict : TouchCompatibly first_point second_point
points_do_not_conflict a b ta tb =
    let e = replaces 1 0 0 (pos 5) a ta in
    let f = replaces 1 0 1 (pos 6) b tb in
    subst (λ x. AreCompatible x b) (sym e) (subst (λ y. AreCompatible (writes (at 0) None) y) (sym f) replacements_of_two_elements_do_not_conflict)

takes_nothing : (line element : ℕ) (value : ℤ) → TakesNothingOutside (sets line (cell 0 0 element) value)
takes_nothing line element value level container h = let clash : takes level container ≡ writes (record { level = 0; container = 0; element = element }) None = replaces line 0 element value (takes level container) h in cc

points_are_safe : ArePartsSafe Points unordered (two first_point second_point)
points_are_safe = record { compatible = λ i j up e. pair i j up; points = λ kind i j up e. later i j up }
  where
    pair : (i j : ℕ) → i < j → TouchCompatibly (part_at (two first_point second_point) i) (part_at (two first_point second_point) j)
    pair i zero up = absurd (omega (arith, up))
    pair zero (suc zero) up = points_do_not_conflict
    pair (suc i) (suc zero) up = absurd (omega (arith, up))
    pair i (suc (suc j)) up = λ a b ta tb. elim tb [ ]

    later : (i j : ℕ) → i < j → TakesNothingOutside (part_at (two first_point second_point) j)
    later i zero up = absurd (omega (arith, up))
    later i (suc zero) up = takes_nothing 1 1 (pos 6)
    later i (suc (suc j)) up = λ level container h. elim h [ ]

items_take_nothing : (level container : ℕ) → SomePartTouches items (takes level container) → ⊥
items_take_nothing level container (inl (inl h)) = takes_nothing 1 0 (pos 5) level container h
items_take_nothing level container (inl (inr (inl h))) = takes_nothing 1 1 (pos 6) level container h
items_take_nothing level container (inl (inr (inr h))) = elim h [ ]
items_take_nothing level container (inr (inl h)) = takes_nothing 2 2 (pos 7) level container h
items_take_nothing level container (inr (inr h)) = elim h [ ]

items_may_interleave : MayInterleave (graph_of_items in_turn items zeros)
items_may_interleave = record { ordered = (ordered, λ state values. ordered); safe = (safe, λ state values. safe); inside = outside }
  where
    ordered : IsOrdered (list Items in_turn items)
    ordered = (in_turn_is_an_order, ((unordered_is_an_order, (tt, (tt, tt))), (tt, tt)))

    safe : IsSafe (list Items in_turn items)
    safe = (
      (((tt, (tt, tt)), points_are_safe), (tt, tt)),
      record {
        compatible = λ i j up e. absurd (grind (arith, up, e));
        points = λ e. let clash : Items ≡ Points = e in cc;
      },
    )

    outside : TakesNothingOutside (graph_of_items in_turn items zeros)
    outside level container (inl h) = items_take_nothing (suc level) container h
    outside level container (inr (inl h)) = items_take_nothing (suc level) container h.2
    outside level container (inr (inr h)) = elim h.2 [ ]

items_have_ordered_pools : HasOrderedPools 0 (graph_of_items in_turn items zeros)
items_have_ordered_pools = (pools, λ state values. pools)
  where
    pools : HasOrderedPools 1 (list Items in_turn items)
    pools = ((((tt, (tt, tt)), λ e. let clash : Points ≡ Items = e in cc), (tt, tt)), λ kind i j up e. absurd (grind (arith, up, e)))

-- so the sequential run is done, with all that the law asks for
it_ends_as_the_sequential_run : (end : Left) × Sequential (graph_of_items in_turn items zeros) 4 (Done end) × AreAlike left_there end.memory × (end.turns ≡ 1)
it_ends_as_the_sequential_run =
    history-sequential work items 1 zeros left_there (1 ∷ 0 ∷ 2 ∷ []) 3 1 a_map_is_cut_at_its_points items_may_interleave items_have_ordered_pools it_has_all the_later_point_first
