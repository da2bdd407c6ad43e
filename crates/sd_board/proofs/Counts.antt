-- How many pieces of the items before an item are not finished.
use Rattle.std.proofs.Common.{◌≡◌, ◌⊎◌, ℕ, zero, suc, ◌+◌, ◌-◌, ◌*◌, ◌<◌, ◌≤◌, List, [], ◌∷◌, length, slice_get, slice_set, slice_index_or, Some, None, Bool, true, false, ◌&&◌, if◌then◌else◌, nat_lt, min, refl, sym, ◌∙◌, ap, subst, inl, inr, arith}
use Rattle.std.proofs.lemmas.List.{get_or_past}
use Rattle.sd_order.specs.table.Told.{told}
use Rattle.sd_order.specs.declared.table.order.Order.{Order}
use Rattle.sd_board.specs.declared.mark.Mark.{Mark}
use Rattle.sd_board.specs.declared.mark.Mark.TheVariants.{ToBegin, InWork, Finished}
use Rattle.sd_board.specs.Progress.{Standing, standing_of, Is, IsReady, MayBegin, marked, one_if_left, count_left, AreCounted}
use Rattle.sd_board.proofs.Marks.{no, none_some, some_same}

-- ---- none is left exactly where an item is ready

finished-none : (b : Bool) (mark : Mark) → b ≡ true → (if b then one_if_left mark else 0) ≡ 0 → mark ≡ Finished
finished-none true ToBegin e none = cc
finished-none true InWork e none = cc
finished-none true Finished e none = refl
finished-none false mark e none = no e

none-finished : (b : Bool) (mark : Mark) → (b ≡ true → mark ≡ Finished) → (if b then one_if_left mark else 0) ≡ 0
none-finished true mark h = ap one_if_left (h refl)
none-finished false mark h = refl

pub none-ready : (order : Order) (item : ℕ) (items : List ℕ) (marks : List Mark) → length marks ≡ length items → count_left order item items marks ≡ 0 → IsReady (standing_of items order marks) item
none-ready order item [] marks len none number earlier of before = none_some of
none-ready order item (x ∷ items) [] len none number earlier of before = absurd (omega (arith, len))
none-ready order item (x ∷ items) (mark ∷ marks) len none zero earlier of before =
    ap Some (finished-none (told order x item) mark (ap (λ from. told order from item) (some_same x earlier of) ∙ before) (omega (arith, none)))
none-ready order item (x ∷ items) (mark ∷ marks) len none (suc number) earlier of before =
    none-ready order item items marks (omega (arith, len)) (omega (arith, none)) number earlier of before

pub ready-none : (order : Order) (item : ℕ) (items : List ℕ) (marks : List Mark) → IsReady (standing_of items order marks) item → count_left order item items marks ≡ 0
ready-none order item [] marks ready = refl
ready-none order item (x ∷ items) [] ready = refl
ready-none order item (x ∷ items) (mark ∷ marks) ready =
    let first = none-finished (told order x item) mark (λ before. some_same mark Finished (ready 0 x refl before)) in
    let rest = ready-none order item items marks (λ number earlier of before. ready (suc number) earlier of before) in
    omega arith

-- ---- other marks

left-same : (order : Order) (item : ℕ) (items : List ℕ) (marks : List Mark) (k : ℕ) (x y : Mark) → slice_get marks k ≡ Some y → one_if_left x ≡ one_if_left y →
    count_left order item items (slice_set marks k x) ≡ count_left order item items marks
left-same order item [] marks k x y at e = refl
left-same order item (i ∷ items) [] k x y at e = none_some at
left-same order item (i ∷ items) (mark ∷ marks) zero x y at e =
    ap (λ n. (if told order i item then n else 0) + count_left order item items marks) (e ∙ ap one_if_left (sym (some_same mark y at)))
left-same order item (i ∷ items) (mark ∷ marks) (suc k) x y at e =
    ap (λ n. (if told order i item then one_if_left mark else 0) + n) (left-same order item items marks k x y at e)

counted-turned : (s : Standing) (counts : List ℕ) (k : ℕ) (x y : Mark) → Is s k y → one_if_left x ≡ one_if_left y → AreCounted s counts → AreCounted (marked k x s) counts
counted-turned s counts k x y at e counted item = counted item ∙ sym (left-same s.order item s.items s.marks k x y at e)

pub counted-begun : (s : Standing) (counts : List ℕ) (k : ℕ) → MayBegin s k → AreCounted s counts → AreCounted (marked k InWork s) counts
counted-begun s counts k may counted = counted-turned s counts k InWork ToBegin may.to_begin refl counted

pub counted-given : (s : Standing) (counts : List ℕ) (k : ℕ) → Is s k InWork → AreCounted s counts → AreCounted (marked k ToBegin s) counts
counted-given s counts k at counted = counted-turned s counts k ToBegin InWork at refl counted

one-less : (order : Order) (item : ℕ) (items : List ℕ) (marks : List Mark) (k of : ℕ) → slice_get marks k ≡ Some InWork → slice_get items k ≡ Some of →
    count_left order item items (slice_set marks k Finished) + (if told order of item then 1 else 0) ≡ count_left order item items marks
one-less order item [] marks k of at is_of = none_some is_of
one-less order item (i ∷ items) [] k of at is_of = none_some at
one-less order item (i ∷ items) (mark ∷ marks) zero of at is_of =
    ap (λ from. ((if told order i item then 0 else 0) + count_left order item items marks) + (if told order from item then 1 else 0)) (sym (some_same i of is_of))
    ∙ one (told order i item) (count_left order item items marks)
    ∙ ap (λ m. (if told order i item then one_if_left m else 0) + count_left order item items marks) (sym (some_same mark InWork at))
  where
    one : (b : Bool) (n : ℕ) → ((if b then 0 else 0) + n) + (if b then 1 else 0) ≡ (if b then 1 else 0) + n
    one true n = omega arith
    one false n = omega arith
one-less order item (i ∷ items) (mark ∷ marks) (suc k) of at is_of =
    let rest = one-less order item items marks k of at is_of in
    omega arith

pub counted-off : (s : Standing) (counts less : List ℕ) (k of : ℕ) → Is s k InWork → slice_get s.items k ≡ Some of → AreCounted s counts →
    ((to : ℕ) → slice_index_or less to 0 ≡ slice_index_or counts to 0 - (if told s.order of to then 1 else 0)) → AreCounted (marked k Finished s) less
counted-off s counts less k of at is_of counted off item =
    let one = one-less s.order item s.items s.marks k of at is_of in
    let count = counted item in
    let less = off item in
    omega arith

-- ---- whether a piece may begin

pub may-ready : (s : Standing) (number item : ℕ) (ready : Bool) → slice_get s.items number ≡ Some item → Is s number ToBegin → (ready ≡ true → IsReady s item) × (IsReady s item → ready ≡ true) →
    (ready ≡ true → MayBegin s number) × (MayBegin s number → ready ≡ true)
may-ready s number item ready of at is = (
  λ yes. record { item = item; is_of = of; to_begin = at; is_ready = is.0 yes },
  λ may. is.1 (subst (IsReady s) (some_same may.item item (sym may.is_of ∙ of)) may.is_ready),
)

pub may-begun : (s : Standing) (number : ℕ) (begins : Bool) → begins ≡ false → (Is s number ToBegin → begins ≡ true) → (begins ≡ true → MayBegin s number) × (MayBegin s number → begins ≡ true)
may-begun s number begins not is = (λ yes. no (sym not ∙ yes), λ may. is may.to_begin)

pub may-none : (s : Standing) (number : ℕ) → slice_get s.items number ≡ None → (false ≡ true → MayBegin s number) × (MayBegin s number → false ≡ true)
may-none s number none = (λ yes. no yes, λ may. none_some (sym none ∙ may.is_of))

-- ---- the table

le-times : (n c : ℕ) → n ≤ n * suc c
le-times zero c = omega arith
le-times (suc n) c = let e = le-times n c in omega arith

not-less : (to count : ℕ) → count ≤ to → nat_lt to count ≡ false
not-less to count few = grind arith

row-none : (count from to : ℕ) (told : Bool) → count ≤ to → (if nat_lt from to && nat_lt to count then told else false) ≡ false
row-none count from to told few = on (nat_lt from to) (nat_lt to count) (not-less to count few)
  where
    on : (a b : Bool) → b ≡ false → (if a && b then told else false) ≡ false
    on true b e = ap (λ (c : Bool). if c then told else false) e
    on false b e = refl

-- no item is before one that has no row
told-none : (count from to : ℕ) (table : List Bool) → (count ≤ to) ⊎ (length table ≤ to) → (if nat_lt from to && nat_lt to count then slice_index_or table (to * count + from) false else false) ≡ false
told-none count from to table (inl few) = row-none count from to (slice_index_or table (to * count + from) false) few
told-none zero from to table (inr short) = row-none 0 from to (slice_index_or table (to * 0 + from) false) (omega arith)
told-none (suc c) from to table (inr short) = on (nat_lt from to && nat_lt to (suc c)) (get_or_past table (to * suc c + from) false (let e = le-times to c in omega arith))
  where
    on : (b : Bool) → slice_index_or table (to * suc c + from) false ≡ false → (if b then slice_index_or table (to * suc c + from) false else false) ≡ false
    on true e = e
    on false e = refl

none-past : (order : Order) (item : ℕ) (items : List ℕ) (marks : List Mark) → (order.count ≤ item) ⊎ (length order.table.items ≤ item) → count_left order item items marks ≡ 0
none-past order item [] marks h = refl
none-past order item (x ∷ items) [] h = refl
none-past order item (x ∷ items) (mark ∷ marks) h =
    let first = ap (λ (b : Bool). if b then one_if_left mark else 0) (told-none order.count x item order.table.items h) in
    let rest = none-past order item items marks h in
    omega arith

-- a table with a row for each item before which there may be one
pub all-rows : (order : Order) (items : List ℕ) (marks : List Mark) (counts : List ℕ) → length counts ≡ min order.count (length order.table.items) →
    ((item : ℕ) → item < length counts → slice_index_or counts item 0 ≡ count_left order item items marks) → AreCounted (standing_of items order marks) counts
all-rows order items marks counts rows counted item = on (nat_lt item (length counts)) refl (nat_lt item order.count) refl
  where
    on : (b : Bool) → nat_lt item (length counts) ≡ b → (d : Bool) → nat_lt item order.count ≡ d → slice_index_or counts item 0 ≡ count_left order item items marks
    on true e d f = counted item (grind arith)
    on false e true f = get_or_past counts item 0 (grind arith) ∙ sym (none-past order item items marks (inr (grind arith)))
    on false e false f = get_or_past counts item 0 (grind arith) ∙ sym (none-past order item items marks (inl (grind arith)))
