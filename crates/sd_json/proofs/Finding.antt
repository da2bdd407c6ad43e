-- What is found among names, one name after another.
use Rattle.std.proofs.Common.{◌≡◌, ℕ, zero, suc, arith, ◌+◌, ◌<◌, List, [], ◌∷◌, ◌++◌, length, take, drop, get_or, map, Bool, true, false, cond, ◌||◌, not, refl, ap, sym, ◌∙◌, bytes_eq, Option, Some}
use Rattle.std.specs.List.{find, filter_map, list_any, AllByRecursion, IsDistinct}
use Rattle.std.proofs.lemmas.List.{map-append}
use Rattle.std.proofs.lemmas.List.Folds.{list_any_more, list_any-append}
use Rattle.std.proofs.lemmas.List.{drop_more, take_more}
use Rattle.std.proofs.lemmas.List.Elements.{filter_map-append}
use Rattle.std.proofs.lemmas.Cmp.{nat_list_eq_equiv}
use Rattle.sd_json.specs.Names.{is_extra}
use Rattle.sd_json.specs.declared.names.Names.{Names}

either : (old some this other : Bool) → this ≡ other → cond this true (old || some) ≡ (old || (some || other))
either true some true other same = refl
either true some false other same = refl
either false true true other same = refl
either false true false other same = refl
either false false true other same = same
either false false false other same = same

-- one name more in a set
pub one_more_name : (now was old : List ℕ → Bool) (names : List (List ℕ)) (i : ℕ) (added : List ℕ) → i < length names → added ≡ get_or names i added →
    ((name : List ℕ) → was name ≡ (old name || list_any (bytes_eq name) (take i names))) →
    ((name : List ℕ) → now name ≡ cond (bytes_eq added name) true (was name)) →
    (name : List ℕ) → now name ≡ (old name || list_any (bytes_eq name) (take (i + 1) names))
one_more_name now was old names i added less is before after name =
    after name ∙ ap (cond (bytes_eq added name) true) (before name)
    ∙ either (old name) (list_any (bytes_eq name) (take i names)) (bytes_eq added name) (bytes_eq name (get_or names i added)) (nat_list_eq_equiv.symm added name ∙ ap (bytes_eq name) is)
    ∙ ap (λ any. old name || any) (sym (list_any_more (bytes_eq name) names i added less))

-- what is in neither of two lists that were added to an empty set is extra
pub neither_is_extra : (names : Names) (none first both : Bool) (name : List ℕ) → none ≡ false → first ≡ (none || list_any (bytes_eq name) names.symbols) →
    both ≡ (first || list_any (bytes_eq name) names.arguments) → is_extra names name ≡ not both
neither_is_extra names none first both name empty one other =
    ap not (list_any-append (bytes_eq name) names.symbols names.arguments ∙ ap (λ found. found || list_any (bytes_eq name) names.arguments) (sym (one ∙ ap (λ n. n || list_any (bytes_eq name) names.symbols) empty)) ∙ sym other)

-- the search ends at the next item
pub found_here : {X : Type 0} (test : X → Bool) (items : List X) (i : ℕ) (here : X) → i < length items → here ≡ get_or items i here → test here ≡ true → find test (drop i items) ≡ Some here
found_here test items i here less is passes =
    ap (find test) (drop_more items i here less ∙ ap (λ item. item ∷ drop (i + 1) items) (sym is)) ∙ ap (λ b. cond b (Some here) (find test (drop (i + 1) items))) passes

-- the search goes on behind the next item
pub found_later : {X : Type 0} (test : X → Bool) (items : List X) (i : ℕ) (here : X) → i < length items → here ≡ get_or items i here → test here ≡ false → find test (drop i items) ≡ find test (drop (i + 1) items)
found_later test items i here less is fails =
    ap (find test) (drop_more items i here less ∙ ap (λ item. item ∷ drop (i + 1) items) (sym is)) ∙ ap (λ b. cond b (Some here) (find test (drop (i + 1) items))) fails

-- what the next item gives stands behind what the earlier ones gave
pub gives_more : {X Y : Type 0} (gives : X → Option Y) (items : List X) (i : ℕ) (here : X) (old new : List Y) → i < length items → here ≡ get_or items i here →
    old ≡ filter_map gives (take i items) → new ≡ old ++ filter_map gives (here ∷ []) → new ≡ filter_map gives (take (i + 1) items)
gives_more gives items i here old new less is before after =
    after ∙ ap (λ made. made ++ filter_map gives (here ∷ [])) before ∙ sym (filter_map-append gives (take i items) (here ∷ []))
    ∙ ap (filter_map gives) (ap (λ item. take i items ++ item ∷ []) is ∙ sym (take_more items i here less))

-- one more made of the next item
pub makes_more : {X Y : Type 0} (makes : X → Y) (items : List X) (i : ℕ) (here : X) (old new : List Y) → i < length items → here ≡ get_or items i here →
    old ≡ map makes (take i items) → new ≡ old ++ makes here ∷ [] → new ≡ map makes (take (i + 1) items)
makes_more makes items i here old new less is before after =
    after ∙ ap (λ made. made ++ makes here ∷ []) before ∙ sym (map-append makes (take i items) (here ∷ []))
    ∙ ap (map makes) (ap (λ item. take i items ++ item ∷ []) is ∙ sym (take_more items i here less))

differs_at : (name : List ℕ) (names : List (List ℕ)) (k : ℕ) (none : List ℕ) → AllByRecursion (λ other. bytes_eq name other ≡ false) names → k < length names → bytes_eq name (get_or names k none) ≡ false
differs_at name [] k none all less = absurd (omega arith)
differs_at name (first ∷ names) zero none all less = all.0
differs_at name (first ∷ names) (suc k) none all less = differs_at name names k none all.1 (omega arith)

-- two of names that differ
pub two_differ : (names : List (List ℕ)) (i k : ℕ) (none other : List ℕ) → IsDistinct bytes_eq names → i < k → k < length names → bytes_eq (get_or names i other) (get_or names k none) ≡ false
unfolding IsDistinct
two_differ [] i k none other all before less = absurd (omega arith)
two_differ (first ∷ names) i zero none other all before less = absurd (omega arith)
two_differ (first ∷ names) zero (suc k) none other all before less = differs_at first names k none all.0 (omega arith)
two_differ (first ∷ names) (suc i) (suc k) none other all before less = two_differ names i k none other all.1 (omega arith) (omega arith)
