-- A table that grows along transitions until it stays the same has the states to which its first one leads.
use Rattle.std.proofs.Common.{◌≡◌, ◌⊎◌, inl, inr, ℕ, zero, suc, ◌+◌, ◌-◌, ◌<◌, ◌≤◌, List, [], ◌∷◌, length, Bool, true, false, not, ◌&&◌, ◌||◌, nat_eq, if◌then◌else◌, slice_index_or, slice_set, replicate, refl, ap, sym, subst, ◌∙◌, arith}
use Rattle.std.specs.List.{list_any}
use Rattle.sd_graph.specs.PlainTree.{StateTrees, no_state, and_state, ExitTree}
use Rattle.sd_graph.specs.TreeParts.{count_states, exits_at}
use Rattle.sd_graph.specs.LoopScope.{leads_within, leads_to}
use Rattle.sd_graph.proofs.Among.{false_not_true, nat_eq_same, or_first, or_second}
use Rattle.sd_graph.proofs.LoopPaths.{paths_are_found}
use Rattle.sd_wire.specs.loops.Spread.{with_next, spread}

-- what the first tells, the second tells too
abbrev pub Tells : (first second : ℕ → Bool) → Type 0
Tells first second = (state : ℕ) → first state ≡ true → second state ≡ true

-- a table has a state; beyond its end it has all, or none
abbrev pub has : (beyond : Bool) → List Bool → (state : ℕ) → Bool
has beyond table state = slice_index_or table state beyond

pub or_cases : (first second : Bool) → (first || second) ≡ true → (first ≡ true) ⊎ (second ≡ true)
or_cases true second h = inl refl
or_cases false second h = inr h

and_both : (first second : Bool) → (first && second) ≡ true → (first ≡ true) × (second ≡ true)
and_both true second h = (refl, h)
and_both false second h = cc

and_more : (first second third : Bool) → (second ≡ true → third ≡ true) → (first && second) ≡ true → (first && third) ≡ true
and_more true second third more h = more h
and_more false second third more h = cc

-- a member that passes a test, and by which others pass too
any_found : {A C : Type 0} (test : A → Bool) (members : List A) → list_any test members ≡ true →
    ((member : A) → test member ≡ true → ((other : A → Bool) → other member ≡ true → list_any other members ≡ true) → C) → C
any_found test [] h use' = cc
any_found test (member ∷ members) h use' = elim (or_cases (test member) (list_any test members) h) [
  | inl here ↦ use' member here (λ other is. or_first (other member) (list_any other members) is)
  | inr there ↦ any_found test members there (λ found is by. use' found is (λ other passes. or_second (other member) (list_any other members) (by other passes)))
]

-- ---- one more state

pub set_length : (table : List Bool) (number : ℕ) → length (slice_set table number true) ≡ length table
set_length [] number = refl
set_length (first ∷ table) zero = refl
set_length (first ∷ table) (suc number) = ap suc (set_length table number)

set_keeps : (beyond : Bool) (table : List Bool) (number : ℕ) → Tells (has beyond table) (has beyond (slice_set table number true))
set_keeps beyond [] number state h = h
set_keeps beyond (first ∷ table) zero zero h = refl
set_keeps beyond (first ∷ table) zero (suc state) h = h
set_keeps beyond (first ∷ table) (suc number) zero h = h
set_keeps beyond (first ∷ table) (suc number) (suc state) h = set_keeps beyond table number state h

set_there : (table : List Bool) (number : ℕ) → has true (slice_set table number true) number ≡ true
set_there [] number = refl
set_there (first ∷ table) zero = refl
set_there (first ∷ table) (suc number) = set_there table number

set_only : (table : List Bool) (number state : ℕ) → has false (slice_set table number true) state ≡ true → (state ≡ number) ⊎ (has false table state ≡ true)
set_only [] number state h = inr h
set_only (first ∷ table) zero zero h = inl refl
set_only (first ∷ table) zero (suc state) h = inr h
set_only (first ∷ table) (suc number) zero h = inr h
set_only (first ∷ table) (suc number) (suc state) h = elim (set_only table number state h) [
  | inl same ↦ inl (ap suc same)
  | inr there ↦ inr there
]

-- ---- where transitions lead

abbrev leads : (avoided to : ℕ) → ExitTree → Bool
leads avoided to exit = not (nat_eq exit.to avoided) && nat_eq exit.to to

abbrev unless : Bool → (to : ℕ) → List Bool → List Bool
unless test to table = if test then table else slice_set table to true

unless_length : (test : Bool) (to : ℕ) (table : List Bool) → length (unless test to table) ≡ length table
unless_length true to table = refl
unless_length false to table = set_length table to

unless_keeps : (beyond test : Bool) (to : ℕ) (table : List Bool) → Tells (has beyond table) (has beyond (unless test to table))
unless_keeps beyond true to table state h = h
unless_keeps beyond false to table state h = set_keeps beyond table to state h

unless_there : (test : Bool) (to state : ℕ) (table : List Bool) → (not test && nat_eq to state) ≡ true → has true (unless test to table) state ≡ true
unless_there true to state table h = cc
unless_there false to state table h =
    let same : to ≡ state = grind (arith, h) in
    subst (λ (n : ℕ). has true (slice_set table to true) n ≡ true) same (set_there table to)

unless_only : (test : Bool) (to : ℕ) (table : List Bool) (tells : ℕ → Bool) → ((state : ℕ) → (not test && nat_eq to state) ≡ true → tells state ≡ true) →
    Tells (has false table) tells → Tells (has false (unless test to table)) tells
unless_only true to table tells next told state h = told state h
unless_only false to table tells next told state h = elim (set_only table to state h) [
  | inl same ↦ next state (nat_eq_same to state (sym same))
  | inr there ↦ told state there
]

next_length : (avoided : ℕ) (exits : List ExitTree) (table : List Bool) → length (with_next avoided exits table) ≡ length table
next_length avoided [] table = refl
next_length avoided (exit ∷ exits) table =
    next_length avoided exits (unless (nat_eq exit.to avoided) exit.to table) ∙ unless_length (nat_eq exit.to avoided) exit.to table

next_keeps : (beyond : Bool) (avoided : ℕ) (exits : List ExitTree) (table : List Bool) → Tells (has beyond table) (has beyond (with_next avoided exits table))
next_keeps beyond avoided [] table state h = h
next_keeps beyond avoided (exit ∷ exits) table state h =
    next_keeps beyond avoided exits (unless (nat_eq exit.to avoided) exit.to table) state (unless_keeps beyond (nat_eq exit.to avoided) exit.to table state h)

next_there : (avoided to : ℕ) (exits : List ExitTree) (table : List Bool) → list_any (leads avoided to) exits ≡ true → has true (with_next avoided exits table) to ≡ true
next_there avoided to [] table h = cc
next_there avoided to (exit ∷ exits) table h = elim (or_cases (leads avoided to exit) (list_any (leads avoided to) exits) h) [
  | inl here ↦ next_keeps true avoided exits (unless (nat_eq exit.to avoided) exit.to table) to (unless_there (nat_eq exit.to avoided) exit.to to table here)
  | inr there ↦ next_there avoided to exits (unless (nat_eq exit.to avoided) exit.to table) there
]

next_only : (avoided : ℕ) (exits : List ExitTree) (table : List Bool) (tells : ℕ → Bool) → ((to : ℕ) → list_any (leads avoided to) exits ≡ true → tells to ≡ true) →
    Tells (has false table) tells → Tells (has false (with_next avoided exits table)) tells
next_only avoided [] table tells next told = told
next_only avoided (exit ∷ exits) table tells next told =
    next_only avoided exits (unless (nat_eq exit.to avoided) exit.to table) tells
    (λ to there. next to (or_second (leads avoided to exit) (list_any (leads avoided to) exits) there))
    (unless_only (nat_eq exit.to avoided) exit.to table tells
    (λ to here. next to (or_first (leads avoided to exit) (list_any (leads avoided to) exits) here)) told)

-- ---- where states lead

abbrev followed : Bool → (avoided : ℕ) → List ExitTree → List Bool → List Bool
followed test avoided exits table = if test then with_next avoided exits table else table

where_length : (test : Bool) (avoided : ℕ) (exits : List ExitTree) (table : List Bool) → length (followed test avoided exits table) ≡ length table
where_length true avoided exits table = next_length avoided exits table
where_length false avoided exits table = refl

where_keeps : (beyond test : Bool) (avoided : ℕ) (exits : List ExitTree) (table : List Bool) → Tells (has beyond table) (has beyond (followed test avoided exits table))
where_keeps beyond true avoided exits table state h = next_keeps beyond avoided exits table state h
where_keeps beyond false avoided exits table state h = h

where_there : (test : Bool) (avoided to : ℕ) (exits : List ExitTree) (table : List Bool) → test ≡ true → list_any (leads avoided to) exits ≡ true →
    has true (followed test avoided exits table) to ≡ true
where_there true avoided to exits table is h = next_there avoided to exits table h
where_there false avoided to exits table is h = cc

where_only : (test : Bool) (avoided : ℕ) (exits : List ExitTree) (table : List Bool) (tells : ℕ → Bool) →
    (test ≡ true → (to : ℕ) → list_any (leads avoided to) exits ≡ true → tells to ≡ true) →
    Tells (has false table) tells → Tells (has false (followed test avoided exits table)) tells
where_only true avoided exits table tells next told = next_only avoided exits table tells (next refl) told
where_only false avoided exits table tells next told = told

pub spread_length : (avoided from : ℕ) (states : StateTrees) (table : List Bool) → length (spread avoided from states table) ≡ length table
spread_length avoided from no_state table = refl
spread_length avoided from (and_state items exits states) table =
    spread_length avoided (suc from) states (followed (has false table from) avoided exits table) ∙ where_length (has false table from) avoided exits table

spread_keeps : (beyond : Bool) (avoided from : ℕ) (states : StateTrees) (table : List Bool) → Tells (has beyond table) (has beyond (spread avoided from states table))
spread_keeps beyond avoided from no_state table state h = h
spread_keeps beyond avoided from (and_state items exits states) table state h =
    spread_keeps beyond avoided (suc from) states (followed (has false table from) avoided exits table) state (where_keeps beyond (has false table from) avoided exits table state h)

-- a state that stands in a table
within_end : (table : List Bool) (state : ℕ) → state < length table → has true table state ≡ has false table state
within_end [] state h = absurd (omega arith)
within_end (first ∷ table) zero h = refl
within_end (first ∷ table) (suc state) h = within_end table state (omega (arith, h))

spread_there : (avoided from : ℕ) (states : StateTrees) (table : List Bool) (number state to : ℕ) → state ≡ from + number → from + count_states states ≤ length table →
    has true table state ≡ true → list_any (leads avoided to) (exits_at states number) ≡ true → has true (spread avoided from states table) to ≡ true
spread_there avoided from no_state table number state to is room h there = cc
spread_there avoided from (and_state items exits states) table zero state to is room h there =
    let same : state ≡ from = omega (arith, is) in
    let inside : from < length table = omega (arith, room) in
    let has_it : has false table from ≡ true = sym (within_end table from inside) ∙ subst (λ (n : ℕ). has true table n ≡ true) same h in
    spread_keeps true avoided (suc from) states (followed (has false table from) avoided exits table) to (where_there (has false table from) avoided to exits table has_it there)
spread_there avoided from (and_state items exits states) table (suc number) state to is room h there =
    let longer = where_length (has false table from) avoided exits table in
    spread_there avoided (suc from) states (followed (has false table from) avoided exits table) number state to (omega (arith, is)) (omega (arith, room, longer))
    (where_keeps true (has false table from) avoided exits table state h) there

spread_only : (avoided from : ℕ) (states : StateTrees) (table : List Bool) (tells : ℕ → Bool) →
    ((number state to : ℕ) → state ≡ from + number → tells state ≡ true → list_any (leads avoided to) (exits_at states number) ≡ true → tells to ≡ true) →
    Tells (has false table) tells → Tells (has false (spread avoided from states table)) tells
spread_only avoided from no_state table tells next told = told
spread_only avoided from (and_state items exits states) table tells next told =
    spread_only avoided (suc from) states (followed (has false table from) avoided exits table) tells
    (λ number state to is. next (suc number) state to (omega (arith, is)))
    (where_only (has false table from) avoided exits table tells (λ here to. next zero from to (omega arith) (told from here)) told)

-- ---- paths

module _ (states : StateTrees) (avoided : ℕ) where
  abbrev Leads : (most from to : ℕ) → Type 0
  Leads most from to = leads_within states avoided most from to ≡ true

  abbrev next_leads : (most to : ℕ) → ExitTree → Bool
  next_leads most to exit = not (nat_eq exit.to avoided) && leads_within states avoided most exit.to to

  pub stays : (most from to : ℕ) → nat_eq from to ≡ true → Leads most from to
  stays zero from to e = e
  stays (suc most) from to e = or_first (nat_eq from to) (list_any (next_leads most to) (exits_at states from)) e

  -- a path that goes on by one transition
  one_longer : (most from middle to : ℕ) → Leads most from middle → list_any (leads avoided to) (exits_at states middle) ≡ true → Leads (suc most) from to
  one_longer zero from middle to h there =
      let same : middle ≡ from = grind (arith, h) in
      or_second (nat_eq from to) (list_any (next_leads zero to) (exits_at states from)) (subst (λ (n : ℕ). list_any (leads avoided to) (exits_at states n) ≡ true) same there)
  one_longer (suc most) from middle to h there = elim (or_cases (nat_eq from middle) (list_any (next_leads most middle) (exits_at states from)) h) [
    | inl here ↦ (let same : middle ≡ from = grind (arith, here) in
        or_second (nat_eq from to) (list_any (next_leads (suc most) to) (exits_at states from))
        (any_found (leads avoided to) (exits_at states from) (subst (λ (n : ℕ). list_any (leads avoided to) (exits_at states n) ≡ true) same there)
        (λ exit is by. by (next_leads (suc most) to) (and_more (not (nat_eq exit.to avoided)) (nat_eq exit.to to) (leads_within states avoided (suc most) exit.to to) (stays (suc most) exit.to to) is))))
    | inr on ↦ or_second (nat_eq from to) (list_any (next_leads (suc most) to) (exits_at states from))
        (any_found (next_leads most middle) (exits_at states from) on
        (λ exit is by. by (next_leads (suc most) to)
        (and_more (not (nat_eq exit.to avoided)) (leads_within states avoided most exit.to middle) (leads_within states avoided (suc most) exit.to to) (λ h. one_longer most exit.to middle to h there) is)))
  ]

  -- a table that has all that one has, and to which its states lead, has what paths of one transition more lead to
  one_further : (first second : ℕ → Bool) → Tells first second →
      ((middle to : ℕ) → first middle ≡ true → list_any (leads avoided to) (exits_at states middle) ≡ true → second to ≡ true) →
      (most from to : ℕ) → Tells (leads_within states avoided most from) first → Leads (suc most) from to → second to ≡ true
  one_further first second keeps next zero from to all h = elim (or_cases (nat_eq from to) (list_any (next_leads zero to) (exits_at states from)) h) [
    | inl here ↦ keeps to (all to here)
    | inr there ↦ next from to (all from (nat_eq_same from from refl)) there
  ]
  one_further first second keeps next (suc most) from to all h = elim (or_cases (nat_eq from to) (list_any (next_leads (suc most) to) (exits_at states from)) h) [
    | inl here ↦ keeps to (all to (stays (suc most) from to here))
    | inr there ↦ any_found (next_leads (suc most) to) (exits_at states from) there (λ exit is by.
        let parts = and_both (not (nat_eq exit.to avoided)) (leads_within states avoided (suc most) exit.to to) is in
        one_further first second keeps next most exit.to to
        (λ middle on. all middle (or_second (nat_eq from middle) (list_any (next_leads most middle) (exits_at states from))
        (by (next_leads most middle) (and_more (not (nat_eq exit.to avoided)) true (leads_within states avoided most exit.to middle) (λ e. on) (ap (λ (b : Bool). b && true) parts.0)))))
        parts.1)
  ]

-- ---- the table

-- the table has nothing else, and what paths of so many transitions lead to
abbrev pub IsSound : StateTrees → (begin : ℕ) → List Bool → Type 0
IsSound states begin table = Tells (has false table) (leads_to states begin begin)

abbrev pub IsFull : StateTrees → (begin most : ℕ) → List Bool → Type 0
IsFull states begin most table = Tells (leads_within states begin most begin) (has true table)

none_there : (count state : ℕ) → has false (replicate count false) state ≡ false
none_there zero state = refl
none_there (suc count) zero = refl
none_there (suc count) (suc state) = none_there count state

pub sound_begun : (states : StateTrees) (begin count : ℕ) → IsSound states begin (slice_set (replicate count false) begin true)
sound_begun states begin count state h = elim (set_only (replicate count false) begin state h) [
  | inl same ↦ stays states begin (count_states states) begin state (nat_eq_same begin state (sym same))
  | inr there ↦ absurd (false_not_true (sym (none_there count state) ∙ there))
]

pub full_begun : (states : StateTrees) (begin : ℕ) (table : List Bool) → IsFull states begin 0 (slice_set table begin true)
full_begun states begin table state h =
    let same : begin ≡ state = grind (arith, h) in
    subst (λ (n : ℕ). has true (slice_set table begin true) n ≡ true) same (set_there table begin)

pub sound_spread : (states : StateTrees) (begin : ℕ) (table : List Bool) → IsSound states begin table → IsSound states begin (spread begin 0 states table)
sound_spread states begin table sound = spread_only begin 0 states table (leads_to states begin begin) next sound
  where
    next : (number state to : ℕ) → state ≡ 0 + number → leads_to states begin begin state ≡ true → list_any (leads begin to) (exits_at states number) ≡ true → leads_to states begin begin to ≡ true
    next number state to is h there =
        let same : number ≡ state = omega (arith, is) in
        paths_are_found states begin (suc (count_states states)) begin to
        (one_longer states begin (count_states states) begin state to h (subst (λ (n : ℕ). list_any (leads begin to) (exits_at states n) ≡ true) same there))

pub full_spread : (states : StateTrees) (begin most : ℕ) (table : List Bool) → count_states states ≤ length table → IsFull states begin most table → IsFull states begin (suc most) (spread begin 0 states table)
full_spread states begin most table room full = λ to.
    one_further states begin (has true table) (has true (spread begin 0 states table)) (spread_keeps true begin 0 states table)
    (λ middle to h there. spread_there begin 0 states table middle middle to (omega arith) (omega (arith, room)) h there) most begin to full

-- a table that stays the same has what paths of any length lead to
full_settled : (states : StateTrees) (begin most : ℕ) (table : List Bool) → count_states states ≤ length table → spread begin 0 states table ≡ table → IsFull states begin most table →
    (more : ℕ) → IsFull states begin (more + most) table
full_settled states begin most table room same full zero =
    let none : most ≡ 0 + most = omega arith in
    subst (λ (n : ℕ). IsFull states begin n table) none full
full_settled states begin most table room same full (suc more) =
    let next : suc (more + most) ≡ suc more + most = omega arith in
    subst (λ (n : ℕ). IsFull states begin n table) next
    (subst (IsFull states begin (suc (more + most))) same (full_spread states begin (more + most) table room (full_settled states begin most table room same full more)))

pub settled_whole : (states : StateTrees) (begin most all : ℕ) (table : List Bool) → count_states states ≤ length table → spread begin 0 states table ≡ table → most ≤ all → IsFull states begin most table →
    IsFull states begin all table
settled_whole states begin most all table room same within full =
    let reached : (all - most) + most ≡ all = omega (arith, within) in
    subst (λ (n : ℕ). IsFull states begin n table) reached (full_settled states begin most table room same full (all - most))

both_tell : (first second : Bool) → (first ≡ true → second ≡ true) → (second ≡ true → first ≡ true) → first ≡ second
both_tell true true there back = refl
both_tell true false there back = sym (there refl)
both_tell false true there back = back refl
both_tell false false there back = refl

pub table_tells : (states : StateTrees) (begin : ℕ) (table : List Bool) → IsSound states begin table → IsFull states begin (count_states states) table →
    (to : ℕ) → to < length table → slice_index_or table to false ≡ leads_to states begin begin to
table_tells states begin table sound full to inside =
    both_tell (has false table to) (leads_to states begin begin to) (sound to) (λ h. sym (within_end table to inside) ∙ full to h)
