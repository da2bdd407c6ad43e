-- Tables with one naming more.
use Rattle.std.proofs.Common.{◌≡◌, ℕ, zero, suc, ◌+◌, ◌≤◌, ◌<◌, List, [], ◌∷◌, ◌++◌, map, length, Bool, true, false, not, ◌&&◌, ◌||◌, ◌⊎◌, inl, inr, length-append, nat_eq, if◌then◌else◌, slice_set, replicate, slice_index_or, take, refl, ap, sym, subst, ◌∙◌, arith, add-one}
use Rattle.std.specs.List.{list_all}
use Rattle.std.proofs.lemmas.List.Folds.{list_all-append}
use Rattle.std.proofs.lemmas.List.{set-append_left, length-map, length-replicate, map-append}
use Rattle.std.proofs.Math.Seq.{set-append_seam, set_out, take-suc}
use Rattle.sd_graph.specs.LoopScope.{numbers_below}
use Rattle.sd_validity.specs.rules.Ranks.{Naming, is_ranked, is_naming_ranked, raised, ranked}
use Rattle.sd_places.specs.ranks.Lowered.{lowered}

numbers_counted : (count : ℕ) → length (numbers_below count) ≡ count
numbers_counted zero = refl
numbers_counted (suc count) = omega (arith, length-append (numbers_below count) (count ∷ []), numbers_counted count)

-- a table of the numbers below one
abbrev table_of : (ℕ → Bool) → (count : ℕ) → List Bool
table_of test count = map test (numbers_below count)

table_counted : (test : ℕ → Bool) (count : ℕ) → length (table_of test count) ≡ count
table_counted test count = length-map (numbers_below count) test ∙ numbers_counted count

table_more : (test : ℕ → Bool) (count : ℕ) → table_of test (suc count) ≡ table_of test count ++ test count ∷ []
table_more test count = map-append test (numbers_below count) (count ∷ [])

-- one number more, behind the others, and not the one that is set
set_before : (table other : List Bool) (variable : ℕ) (last same : Bool) → table ≡ slice_set other variable false → last ≡ same → variable < length other →
    table ++ last ∷ [] ≡ slice_set (other ++ same ∷ []) variable false
set_before table other variable last same before is less = (λ i. before i ++ is i ∷ []) ∙ sym (set-append_left other (same ∷ []) variable false less)

set_beyond : (table other : List Bool) (variable : ℕ) (last same : Bool) → table ≡ slice_set other variable false → last ≡ same → suc (length other) ≤ variable →
    table ++ last ∷ [] ≡ slice_set (other ++ same ∷ []) variable false
set_beyond table other variable last same before is more =
    (λ i. (before ∙ set_out other variable false (omega arith)) i ++ is i ∷ [])
    ∙ sym (set_out (other ++ same ∷ []) variable false (omega (arith, length-append other (same ∷ []))))

set_here : (table other : List Bool) (last same : Bool) → table ≡ slice_set other (length other) false → last ≡ false →
    table ++ last ∷ [] ≡ slice_set (other ++ same ∷ []) (length other) false
set_here table other last same before is =
    (λ i. (before ∙ set_out other (length other) false (omega arith)) i ++ is i ∷ []) ∙ sym (set-append_seam other same [] false)

by_order : (table other : List Bool) (variable : ℕ) (last same : Bool) → table ≡ slice_set other variable false → last ≡ same →
    (variable < length other) ⊎ (suc (length other) ≤ variable) → table ++ last ∷ [] ≡ slice_set (other ++ same ∷ []) variable false
by_order table other variable last same before is (inl less) = set_before table other variable last same before is less
by_order table other variable last same before is (inr more) = set_beyond table other variable last same before is more

order_of : (variable count : ℕ) → nat_eq variable count ≡ false → (variable < count) ⊎ (suc count ≤ variable)
order_of variable count is = grind (arith, is)

-- a test that says what another says, but of one number, of which it says no
by_place : (f g : ℕ → Bool) (variable : ℕ) → g variable ≡ false → ((number : ℕ) → nat_eq variable number ≡ false → g number ≡ f number) →
    (count : ℕ) → table_of g count ≡ slice_set (table_of f count) variable false → (is : Bool) → nat_eq variable count ≡ is →
    table_of g count ++ g count ∷ [] ≡ slice_set (table_of f count ++ f count ∷ []) variable false
by_place f g variable out same count before true is =
    let here : variable ≡ count = grind (arith, is) in
    let at : variable ≡ length (table_of f count) = here ∙ sym (table_counted f count) in
    subst (λ (place : ℕ). table_of g count ++ g count ∷ [] ≡ slice_set (table_of f count ++ f count ∷ []) place false) (sym at)
    (set_here (table_of g count) (table_of f count) (g count) (f count)
    (subst (λ (place : ℕ). table_of g count ≡ slice_set (table_of f count) place false) at before) (ap g (sym here) ∙ out))
by_place f g variable out same count before false is =
    by_order (table_of g count) (table_of f count) variable (g count) (f count) before (same count is)
    (subst (λ (length : ℕ). (variable < length) ⊎ (suc length ≤ variable)) (sym (table_counted f count)) (order_of variable count is))

set_in_table : (f g : ℕ → Bool) (variable : ℕ) → g variable ≡ false → ((number : ℕ) → nat_eq variable number ≡ false → g number ≡ f number) →
    (count : ℕ) → table_of g count ≡ slice_set (table_of f count) variable false
set_in_table f g variable out same zero = refl
set_in_table f g variable out same (suc count) =
    table_more g count
    ∙ by_place f g variable out same count (set_in_table f g variable out same count) (nat_eq variable count) refl
    ∙ ap (λ (table : List Bool). slice_set table variable false) (sym (table_more f count))

and_all : (a : Bool) → (a && true) ≡ a
and_all true = refl
and_all false = refl

-- the test of a table behind one naming more
behind : (table : List Bool) (all : List Naming) (naming : Naming) (named : Bool) → list_all (is_ranked table) naming.named ≡ named → (number : ℕ) →
    list_all (is_naming_ranked table number) (all ++ naming ∷ []) ≡ (list_all (is_naming_ranked table number) all && (not (nat_eq naming.variable number) || named))
behind table all naming named is number =
    list_all-append (is_naming_ranked table number) all (naming ∷ [])
    ∙ (λ i. list_all (is_naming_ranked table number) all && ((not (nat_eq naming.variable number) || is i) && true))
    ∙ ap (λ (b : Bool). list_all (is_naming_ranked table number) all && b) (and_all (not (nat_eq naming.variable number) || named))

or_named : (a b : Bool) → (a && (b || true)) ≡ a
or_named true true = refl
or_named true false = refl
or_named false b = refl

at_it : (a b : Bool) → b ≡ true → (a && (not b || false)) ≡ false
at_it true true is = refl
at_it false true is = refl
at_it a false is = cc

elsewhere : (a b : Bool) → b ≡ false → (a && (not b || false)) ≡ a
elsewhere true false is = refl
elsewhere false false is = refl
elsewhere a true is = cc

same_number : (number : ℕ) → nat_eq number number ≡ true
same_number number = grind arith

by_named : (table : List Bool) (all : List Naming) (naming : Naming) (count : ℕ) (named : Bool) → list_all (is_ranked table) naming.named ≡ named →
    raised (all ++ naming ∷ []) count table ≡ (if named then raised all count table else slice_set (raised all count table) naming.variable false)
by_named table all naming count true is =
    ap (λ (test : ℕ → Bool). table_of test count)
    (λ i. λ number. (behind table all naming true is number ∙ or_named (list_all (is_naming_ranked table number) all) (not (nat_eq naming.variable number))) i)
by_named table all naming count false is =
    ap (λ (test : ℕ → Bool). table_of test count) (λ i. λ number. behind table all naming false is number i)
    ∙ set_in_table (λ number. list_all (is_naming_ranked table number) all) (λ number. list_all (is_naming_ranked table number) all && (not (nat_eq naming.variable number) || false))
    naming.variable
    (at_it (list_all (is_naming_ranked table naming.variable) all) (nat_eq naming.variable naming.variable) (same_number naming.variable))
    (λ number other. elsewhere (list_all (is_naming_ranked table number) all) (nat_eq naming.variable number) other)
    count

pub raise_more : (table : List Bool) (all : List Naming) (naming : Naming) (count : ℕ) → raised (all ++ naming ∷ []) count table ≡ lowered table (raised all count table) naming
raise_more table all naming count = by_named table all naming count (list_all (is_ranked table) naming.named) refl

more_same : (count : ℕ) → replicate count true ++ true ∷ [] ≡ replicate (suc count) true
more_same zero = refl
more_same (suc count) = ap (λ (rest : List Bool). true ∷ rest) (more_same count)

-- without a naming all have a rank
pub raise_none : (table : List Bool) (count : ℕ) → raised [] count table ≡ replicate count true
raise_none table zero = refl
raise_none table (suc count) = table_more (λ number. true) count ∙ ap (λ (table : List Bool). table ++ true ∷ []) (raise_none table count) ∙ more_same count

pub raised_counted : (all : List Naming) (count : ℕ) (table : List Bool) → length (raised all count table) ≡ count
raised_counted all count table = table_counted (λ number. list_all (is_naming_ranked table number) all) count

-- ---- one table

chosen_same : (next : List Bool) (variable : ℕ) (named : Bool) → named ≡ true → (if named then next else slice_set next variable false) ≡ next
chosen_same next variable true is = refl
chosen_same next variable false is = cc

chosen_out : (next : List Bool) (variable : ℕ) (named : Bool) → length next ≤ variable → (if named then next else slice_set next variable false) ≡ next
chosen_out next variable true out = refl
chosen_out next variable false out = set_out next variable false out

chosen_set : (next : List Bool) (variable : ℕ) (named : Bool) → named ≡ false → (if named then next else slice_set next variable false) ≡ slice_set next variable false
chosen_set next variable true is = cc
chosen_set next variable false is = refl

pub lowered_same : (table next : List Bool) (naming : Naming) → list_all (is_ranked table) naming.named ≡ true → lowered table next naming ≡ next
lowered_same table next naming is = chosen_same next naming.variable (list_all (is_ranked table) naming.named) is

pub lowered_out : (table next : List Bool) (naming : Naming) → length next ≤ naming.variable → lowered table next naming ≡ next
lowered_out table next naming out = chosen_out next naming.variable (list_all (is_ranked table) naming.named) out

pub lowered_set : (table next : List Bool) (naming : Naming) → list_all (is_ranked table) naming.named ≡ false → lowered table next naming ≡ slice_set next naming.variable false
lowered_set table next naming is = chosen_set next naming.variable (list_all (is_ranked table) naming.named) is

-- the table by one naming more of a list
pub raise_next : (table : List Bool) (all : List Naming) (i : ℕ) (naming : Naming) → i < length all → naming ≡ slice_index_or all i naming →
    raised (take (i + 1) all) (length table) table ≡ lowered table (raised (take i all) (length table) table) naming
raise_next table all i naming below is =
    ap (λ (some : List Naming). raised some (length table) table)
    (ap (λ (number : ℕ). take number all) (add-one i) ∙ take-suc all i naming below ∙ ap (λ (last : Naming). take i all ++ last ∷ []) (sym is))
    ∙ raise_more table (take i all) naming (length table)

-- a table has a place for each variable
pub ranked_counted : (all : List Naming) (count most : ℕ) → length (ranked all count most) ≡ count
ranked_counted all count zero = omega (arith, length-replicate count false)
ranked_counted all count (suc most) = raised_counted all count (ranked all count most)
