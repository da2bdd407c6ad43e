-- Which items a path leads to, one later item after another.
use Rattle.std.proofs.Common.{◌≡◌, ℕ, zero, suc, ◌+◌, ◌<◌, ◌≤◌, List, [], ◌∷◌, ◌++◌, length, drop, get_or, Bool, true, false, ◌&&◌, ◌||◌, refl, sym, ap, ap₂, ◌∙◌, arith}
use Rattle.sd_graph.specs.Wiring.{Use, uses_conflict, items_conflict, leads, is_before}
use Rattle.std.specs.List.{list_any}
use Rattle.sd_order.proofs.items_lemmas.Meeting.{or-none, any-append}

-- ---- paths from several items

both-ways : (a b c d rest : Bool) → ((a || b) || ((c || d) && rest)) ≡ ((a || (c && rest)) || (b || (d && rest)))
both-ways true b c d rest = refl
both-ways false true true d true = refl
both-ways false true true d false = refl
both-ways false true false d rest = refl
both-ways false false true d true = refl
both-ways false false true true false = refl
both-ways false false true false false = refl
both-ways false false false true rest = refl
both-ways false false false false rest = refl

-- a path leads from items together where it leads from one of them
pub leads-append : (from others : List Use) (behind : List (List Use)) (number : ℕ) → leads (from ++ others) behind number ≡ (leads from behind number || leads others behind number)
leads-append from others [] number = refl
leads-append from others (next ∷ behind) zero = any-append (λ use'. list_any (uses_conflict use') next) from others
leads-append from others (next ∷ behind) (suc number) =
    ap₂ (λ (led conflict : Bool). led || (conflict && leads next behind number)) (leads-append from others behind number) (any-append (λ use'. list_any (uses_conflict use') next) from others)
    ∙ both-ways (leads from behind number) (leads others behind number) (items_conflict from next) (items_conflict others next) (leads next behind number)

-- the uses that are reached behind an item: with its own where it is reached
abbrev pub reached_behind : (is_led : Bool) → (reached next : List Use) → List Use
reached_behind true reached next = reached ++ next
reached_behind false reached next = reached

pub leads-more : (is_led : Bool) (reached next : List Use) (behind : List (List Use)) (number : ℕ) → items_conflict reached next ≡ is_led →
    leads reached (next ∷ behind) (suc number) ≡ leads (reached_behind is_led reached next) behind number
leads-more true reached next behind number is =
    ap (λ (conflict : Bool). leads reached behind number || (conflict && leads next behind number)) is ∙ sym (leads-append reached next behind number)
leads-more false reached next behind number is =
    ap (λ (conflict : Bool). leads reached behind number || (conflict && leads next behind number)) is ∙ or-none (leads reached behind number)

-- ---- an item and later ones

-- from an item, to those behind it
pub before-begins : (each : List (List Use)) (from : ℕ) (first : List Use) → from < length each → first ≡ get_or each from first → (number : ℕ) →
    is_before each from (from + 1 + number) ≡ leads first (drop (from + 1) each) number
before-begins [] from first within is number = absurd (omega (arith, within))
before-begins (item ∷ each) zero first within is number =
    let next : zero + 1 + number ≡ suc number = omega arith in
    ap (λ (to : ℕ). is_before (item ∷ each) zero to) next ∙ ap (λ (uses : List Use). leads uses each number) (sym is)
before-begins (item ∷ each) (suc from) first within is number =
    let next : suc from + 1 + number ≡ suc (from + 1 + number) = omega arith in
    let behind : suc (from + 1) ≡ suc from + 1 = omega arith in
    ap (λ (to : ℕ). is_before (item ∷ each) (suc from) to) next
    ∙ before-begins each from first (omega (arith, within)) is number
    ∙ ap (λ (n : ℕ). leads first (drop n (item ∷ each)) number) behind

-- not to itself, nor to earlier ones
pub not-before : (each : List (List Use)) (from to : ℕ) → to ≤ from → is_before each from to ≡ false
not-before [] from to over = refl
not-before (item ∷ each) zero zero over = refl
not-before (item ∷ each) zero (suc to) over = absurd (omega (arith, over))
not-before (item ∷ each) (suc from) zero over = refl
not-before (item ∷ each) (suc from) (suc to) over = not-before each from to (omega (arith, over))

and-none : (test : Bool) → (test && false) ≡ false
and-none true = refl
and-none false = refl

leads-beyond : (from : List Use) (behind : List (List Use)) (number : ℕ) → length behind ≤ number → leads from behind number ≡ false
leads-beyond from [] number over = refl
leads-beyond from (next ∷ behind) zero over = absurd (omega (arith, over))
leads-beyond from (next ∷ behind) (suc number) over =
    ap₂ (λ (led more : Bool). led || (items_conflict from next && more)) (leads-beyond from behind number (omega (arith, over))) (leads-beyond next behind number (omega (arith, over)))
    ∙ and-none (items_conflict from next)

-- nor to items that are not there
pub before-beyond : (each : List (List Use)) (from to : ℕ) → length each ≤ to → is_before each from to ≡ false
before-beyond [] from to over = refl
before-beyond (item ∷ each) from zero over = absurd (omega (arith, over))
before-beyond (item ∷ each) zero (suc to) over = leads-beyond item each to (omega (arith, over))
before-beyond (item ∷ each) (suc from) (suc to) over = before-beyond each from to (omega (arith, over))
