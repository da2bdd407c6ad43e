-- What a table tells of items, one column after another.
use Rattle.std.proofs.Common.{◌≡◌, ◌≢◌, ◌⊎◌, inl, inr, ℕ, zero, suc, ◌+◌, ◌*◌, ◌<◌, ◌≤◌, nat_lt, List, ◌∷◌, length, drop, get_or, slice_index_or, slice_set, Option, None, Bool, true, false, ◌&&◌, if◌then◌else◌, refl, sym, ap, ◌∙◌, subst, arith}
use Rattle.std.proofs.lemmas.Bool.{ltb-true, ltb-false}
use Rattle.std.proofs.lemmas.List.{drop_more, get_or-set_same, get_or-set_other, length-set}
use Rattle.sd_graph.specs.Mode.{Mode}
use Rattle.sd_graph.specs.Wiring.{Use, items_conflict, leads, is_before}
use Rattle.sd_order.specs.table.Told.{told}
use Rattle.sd_order.specs.declared.table.order.Order.{Order}
use Rattle.sd_order.specs.items.Joined.{joined_behind, meets_one}
use Rattle.sd_order.proofs.items_lemmas.Meeting.{modes-meet, joined-append}
use Rattle.sd_order.proofs.items_lemmas.Leading.{reached_behind, leads-more, before-begins, not-before, before-beyond}
use Rattle.sd_order.proofs.items_lemmas.Places.{place-within, one-column, one-row}

below-or-last : (item to : ℕ) → item < to + 1 → (item < to) ⊎ (item ≡ to)
below-or-last zero zero below = inr refl
below-or-last zero (suc to) below = inl (omega arith)
below-or-last (suc item) zero below = absurd (omega (arith, below))
below-or-last (suc item) (suc to) below = elim (below-or-last item to (omega (arith, below))) [
  | inl earlier ↦ inl (omega (arith, earlier))
  | inr same ↦ inr (ap suc same)
]

-- ---- one column

-- what the items before this one do that a path from an item has reached, in one mode for each container
pub record IsReached (each : List (List Use)) (from to : ℕ) (modes : ℕ → Option Mode) : Type 0 where
  pub reached : List Use
  pub joined : (container : ℕ) → modes container ≡ joined_behind container None reached
  pub led : (number : ℕ) → is_before each from (to + number) ≡ leads reached (drop to each) number

-- the column of an item tells of the items before this one, and the others are as they were
pub record IsTold (each : List (List Use)) (from to : ℕ) (modes : ℕ → Option Mode) (old new : List Bool) : Type 0 where
  pub reached : IsReached each from to modes
  pub sized : length new ≡ length old
  pub tells : (item : ℕ) → from < item → item < to → slice_index_or new (item * length each + from) false ≡ is_before each from item
  pub others : (item column : ℕ) → column < length each → column ≢ from → slice_index_or new (item * length each + column) false ≡ slice_index_or old (item * length each + column) false

pub told-first : (each : List (List Use)) (from : ℕ) (first : List Use) (modes : ℕ → Option Mode) (table : List Bool) → from < length each → first ≡ get_or each from first →
    ((container : ℕ) → modes container ≡ joined_behind container None first) → IsTold each from (from + 1) modes table table
told-first each from first modes table within is joined = record {
  reached = record { reached = first; joined = joined; led = before-begins each from first within is };
  sized = refl;
  tells = λ item behind before. absurd (omega (arith, behind, before));
  others = λ item column inside other. refl;
}

module _ (each : List (List Use)) (from to : ℕ) (modes : ℕ → Option Mode) (old new : List Bool) (next : List Use) (is_led : Bool)
    (behind : from < to) (within : to < length each) (is : next ≡ get_or each to next) (size : length old ≡ length each * length each)
    (meets : is_led ≡ meets_one modes next) (so_far : IsTold each from to modes old new) where
  abbrev place : ℕ
  place = to * length each + from

  opened : drop to each ≡ next ∷ drop (to + 1) each
  opened = drop_more each to next within ∙ ap (λ (uses : List Use). uses ∷ drop (to + 1) each) (sym is)

  conflicts : items_conflict so_far.reached.reached next ≡ is_led
  conflicts = sym (meets ∙ modes-meet modes so_far.reached.reached next so_far.reached.joined)

  there : place < length new
  there = subst (λ (n : ℕ). place < n) (sym (so_far.sized ∙ size)) (place-within (length each) (length each) to from within (omega (arith, behind, within)))

  -- it is told of the next item
  here : is_before each from to ≡ is_led
  here =
      let this : to ≡ to + 0 = omega arith in
      ap (λ (item : ℕ). is_before each from item) this
      ∙ so_far.reached.led 0
      ∙ ap (λ (items : List (List Use)). leads so_far.reached.reached items 0) opened
      ∙ conflicts

  told-next : (item : ℕ) → from < item → item < to + 1 → slice_index_or (slice_set new place is_led) (item * length each + from) false ≡ is_before each from item
  told-next item later before = elim (below-or-last item to before) [
    | inl earlier ↦ get_or-set_other new place (item * length each + from) is_led false
        (λ same. let one : item ≡ to = one-row (length each) item to from from (omega (arith, behind, within)) (omega (arith, behind, within)) same in omega (arith, one, earlier))
        ∙ so_far.tells item later earlier
    | inr same ↦ ap (λ (row : ℕ). slice_index_or (slice_set new place is_led) (row * length each + from) false) same
        ∙ get_or-set_same new place is_led false there ∙ sym here ∙ ap (λ (row : ℕ). is_before each from row) (sym same)
  ]

  others-next : (item column : ℕ) → column < length each → column ≢ from → slice_index_or (slice_set new place is_led) (item * length each + column) false ≡ slice_index_or old (item * length each + column) false
  others-next item column inside other =
      get_or-set_other new place (item * length each + column) is_led false
      (λ same. other (one-column (length each) item to column from inside (omega (arith, behind, within)) same))
      ∙ so_far.others item column inside other

  led-next : (number : ℕ) → is_before each from (to + 1 + number) ≡ leads (reached_behind is_led so_far.reached.reached next) (drop (to + 1) each) number
  led-next number =
      let further : to + 1 + number ≡ to + suc number = omega arith in
      ap (λ (item : ℕ). is_before each from item) further
      ∙ so_far.reached.led (suc number)
      ∙ ap (λ (items : List (List Use)). leads so_far.reached.reached items (suc number)) opened
      ∙ leads-more is_led so_far.reached.reached next (drop (to + 1) each) number conflicts

  pub told-more : (after : ℕ → Option Mode) → ((container : ℕ) → after container ≡ joined_behind container None (reached_behind is_led so_far.reached.reached next)) →
      IsTold each from (to + 1) after old (slice_set new place is_led)
  told-more after joined = record {
    reached = record { reached = reached_behind is_led so_far.reached.reached next; joined = joined; led = led-next };
    sized = length-set new place is_led ∙ so_far.sized;
    tells = told-next;
    others = others-next;
  }

-- a path leads to the next item
pub told-led : (each : List (List Use)) (from to : ℕ) (modes after : ℕ → Option Mode) (old new : List Bool) (next : List Use) (is_led : Bool) →
    from < to → to < length each → next ≡ get_or each to next → length old ≡ length each * length each → is_led ≡ meets_one modes next → is_led ≡ true →
    ((container : ℕ) → after container ≡ joined_behind container (modes container) next) → IsTold each from to modes old new →
    IsTold each from (to + 1) after old (slice_set new (to * length each + from) is_led)
told-led each from to modes after old new next is_led behind within is size meets led joined so_far =
    told-more each from to modes old new next is_led behind within is size meets so_far after (λ container.
    joined container
    ∙ ap (λ (mode : Option Mode). joined_behind container mode next) (so_far.reached.joined container)
    ∙ sym (joined-append container None so_far.reached.reached next)
    ∙ ap (λ (b : Bool). joined_behind container None (reached_behind b so_far.reached.reached next)) (sym led))

-- no path leads to it
pub told-passed : (each : List (List Use)) (from to : ℕ) (modes : ℕ → Option Mode) (old new : List Bool) (next : List Use) (is_led : Bool) →
    from < to → to < length each → next ≡ get_or each to next → length old ≡ length each * length each → is_led ≡ meets_one modes next → is_led ≡ false →
    IsTold each from to modes old new → IsTold each from (to + 1) modes old (slice_set new (to * length each + from) is_led)
told-passed each from to modes old new next is_led behind within is size meets passed so_far =
    told-more each from to modes old new next is_led behind within is size meets so_far modes (λ container.
    so_far.reached.joined container
    ∙ ap (λ (b : Bool). joined_behind container None (reached_behind b so_far.reached.reached next)) (sym passed))

-- ---- all columns

-- the columns of the items before this one tell of all items
pub record ArePast (each : List (List Use)) (from : ℕ) (table : List Bool) : Type 0 where
  pub sized : length table ≡ length each * length each
  pub tells : (column item : ℕ) → column < from → column < item → item < length each → slice_index_or table (item * length each + column) false ≡ is_before each column item

pub past-none : (each : List (List Use)) (table : List Bool) → length table ≡ length each * length each → ArePast each 0 table
past-none each table size = record { sized = size; tells = λ column item before later inside. absurd (omega (arith, before)) }

pub past-more : (each : List (List Use)) (from : ℕ) (old new : List Bool) → from < length each → ArePast each from old → length new ≡ length old →
    ((item : ℕ) → from < item → item < length each → slice_index_or new (item * length each + from) false ≡ is_before each from item) →
    ((item column : ℕ) → column < length each → column ≢ from → slice_index_or new (item * length each + column) false ≡ slice_index_or old (item * length each + column) false) →
    ArePast each (from + 1) new
past-more each from old new within past size here others = record {
  sized = size ∙ past.sized;
  tells = λ column item before later inside. elim (below-or-last column from before) [
    | inl earlier ↦ others item column (omega (arith, earlier, within)) (λ same. omega (arith, same, earlier)) ∙ past.tells column item earlier later inside
    | inr same ↦ ap (λ (at : ℕ). slice_index_or new (item * length each + at) false) same ∙ here item (omega (arith, same, later)) inside ∙ ap (λ (at : ℕ). is_before each at item) (sym same)
  ];
}

pub all-told : (each : List (List Use)) (order : Order) → order.count ≡ length each → ArePast each (length each) order.table.items → (from to : ℕ) → told order from to ≡ is_before each from to
all-told each order same past from to = go (nat_lt from to) (nat_lt to order.count) refl refl where
  go : (later inside : Bool) → nat_lt from to ≡ later → nat_lt to order.count ≡ inside → told order from to ≡ is_before each from to
  go false inside is is_inside =
      ap (λ (b : Bool). if b && nat_lt to order.count then slice_index_or order.table.items (to * order.count + from) false else false) is
      ∙ sym (not-before each from to (ltb-false from to is))
  go true false is is_inside =
      ap (λ (b : Bool). if nat_lt from to && b then slice_index_or order.table.items (to * order.count + from) false else false) is_inside
      ∙ ap (λ (b : Bool). if b && false then slice_index_or order.table.items (to * order.count + from) false else false) is
      ∙ sym (before-beyond each from to (subst (λ (count : ℕ). count ≤ to) same (ltb-false to order.count is_inside)))
  go true true is is_inside =
      let later : from < to = ltb-true from to is in
      let inside : to < length each = subst (λ (count : ℕ). to < count) same (ltb-true to order.count is_inside) in
      ap (λ (b : Bool). if nat_lt from to && b then slice_index_or order.table.items (to * order.count + from) false else false) is_inside
      ∙ ap (λ (b : Bool). if b && true then slice_index_or order.table.items (to * order.count + from) false else false) is
      ∙ ap (λ (count : ℕ). slice_index_or order.table.items (to * count + from) false) same
      ∙ past.tells from to (omega (arith, later, inside)) later inside

pub past-all : (each : List (List Use)) (from : ℕ) (table : List Bool) → length each ≤ from → ArePast each from table → ArePast each (length each) table
past-all each from table over past = record { sized = past.sized; tells = λ column item before later inside. past.tells column item (omega (arith, before, over)) later inside }

pub table-tells : (each all : List (List Use)) (order : Order) → order.count ≡ length each → ArePast each (length each) order.table.items → each ≡ all → told order ≡ is_before all
table-tells each all order same past is = λ i from to. (all-told each order same past from to ∙ ap (λ (uses : List (List Use)). is_before uses from to) is) i
