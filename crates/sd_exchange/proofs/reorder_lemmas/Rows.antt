-- Rows one after another may be done as columns, where no two rows conflict.
use Rattle.std.proofs.Common.{List, [], ◌∷◌}
use Rattle.std.specs.Bool.{⊤}
use Rattle.std.specs.List.{AllByRecursion}
use Rattle.sd_work.specs.Residual.{Term, Terms, also}
use Rattle.sd_work.specs.Touch.{Touch, Touches}
use Rattle.sd_exchange.specs.reorder.Reordered.{Reordered, as_it_is, behind, exchanged}
use Rattle.sd_exchange.specs.reorder.Reordered as order
use Rattle.sd_exchange.proofs.reorder_lemmas.Passing.{AllCompatible}

-- the terms of a row, and then the tail
abbrev pub row : {P A B : Type 0} → (A → B → Term P) → A → List B → Terms P → Terms P
row f a [] tail = tail
row f a (b ∷ bs) tail = also (f a b) (row f a bs tail)

-- one row after another
abbrev pub rows : {P A B : Type 0} → (A → B → Term P) → List A → List B → Terms P → Terms P
rows f [] bs tail = tail
rows f (a ∷ firsts) bs tail = row f a bs (rows f firsts bs tail)

-- the other way round
abbrev pub turned : {P A B : Type 0} → (A → B → Term P) → B → A → Term P
turned f b a = f a b

abbrev pub columns : {P A B : Type 0} → (A → B → Term P) → List A → List B → Terms P → Terms P
columns f firsts bs tail = rows (turned f) bs firsts tail

-- a term does not conflict with what these rows touch
abbrev pub ApartFromAll : {A : Type 0} → (A → Touch → Type 0) → A → List A → Type 0
ApartFromAll W a [] = ⊤
ApartFromAll W a (other ∷ firsts) = AllCompatible (W a) (W other) × ApartFromAll W a firsts

abbrev pub RowsApart : {A : Type 0} → (A → Touch → Type 0) → List A → Type 0
RowsApart W [] = ⊤
RowsApart W (a ∷ firsts) = ApartFromAll W a firsts × RowsApart W firsts

-- a row touches no more than this
abbrev pub RowWithin : {P A B : Type 0} → (A → B → Term P) → (A → Touch → Type 0) → A → List B → Type 0
RowWithin f W a bs = AllByRecursion (λ b. (touch : Touch) → Touches (f a b) touch → W a touch) bs

abbrev pub RowsWithin : {P A B : Type 0} → (A → B → Term P) → (A → Touch → Type 0) → List A → List B → Type 0
RowsWithin f W [] bs = ⊤
RowsWithin f W (a ∷ firsts) bs = RowWithin f W a bs × RowsWithin f W firsts bs

row_behind : {P A B : Type 0} (f : A → B → Term P) (a : A) (bs : List B) (ts us : Terms P) → Reordered ts us → Reordered (row f a bs ts) (row f a bs us)
row_behind f a [] ts us r = r
row_behind f a (b ∷ bs) ts us r = behind (f a b) (row f a bs ts) (row f a bs us) (row_behind f a bs ts us r)

-- a term goes before a row
before_row : {P A B : Type 0} (f : A → B → Term P) (W : A → Touch → Type 0) (a : A) (bs : List B) (t : Term P) (T : Touch → Type 0) (tail : Terms P) → RowWithin f W a bs → AllCompatible (W a) T → ((touch : Touch) → Touches t touch → T touch) →
    Reordered (row f a bs (also t tail)) (also t (row f a bs tail))
before_row f W a [] t T tail w c i = as_it_is (also t tail)
before_row f W a (b ∷ bs) t T tail w c i =
    order.and_then (also (f a b) (row f a bs (also t tail))) (also (f a b) (also t (row f a bs tail))) (also t (also (f a b) (row f a bs tail)))
    (behind (f a b) (row f a bs (also t tail)) (also t (row f a bs tail)) (before_row f W a bs t T tail w.1 c i))
    (exchanged (f a b) t (row f a bs tail) (λ x y h g. c x y (w.0 x h) (i y g)))

-- a column goes before a row
column_first : {P A B : Type 0} (f : A → B → Term P) (W : A → Touch → Type 0) (a : A) (firsts : List A) (b : B) (bs : List B) (tail : Terms P) → RowWithin f W a bs → ApartFromAll W a firsts → RowsWithin f W firsts (b ∷ bs) →
    Reordered (row f a bs (row (turned f) b firsts tail)) (row (turned f) b firsts (row f a bs tail))
column_first f W a [] b bs tail w c i = as_it_is (row f a bs tail)
column_first f W a (other ∷ firsts) b bs tail w c i =
    order.and_then (row f a bs (also (f other b) (row (turned f) b firsts tail))) (also (f other b) (row f a bs (row (turned f) b firsts tail))) (also (f other b) (row (turned f) b firsts (row f a bs tail)))
    (before_row f W a bs (f other b) (W other) (row (turned f) b firsts tail) w c.0 i.0.0)
    (behind (f other b) (row f a bs (row (turned f) b firsts tail)) (row (turned f) b firsts (row f a bs tail)) (column_first f W a firsts b bs tail w c.1 i.1))

fewer : {P A B : Type 0} (f : A → B → Term P) (W : A → Touch → Type 0) (firsts : List A) (b : B) (bs : List B) → RowsWithin f W firsts (b ∷ bs) → RowsWithin f W firsts bs
fewer f W [] b bs h = tt
fewer f W (a ∷ firsts) b bs h = (h.0.1, fewer f W firsts b bs h.1)

-- a row is woven into columns
woven : {P A B : Type 0} (f : A → B → Term P) (W : A → Touch → Type 0) (a : A) (firsts : List A) (bs : List B) (tail : Terms P) → RowWithin f W a bs → ApartFromAll W a firsts → RowsWithin f W firsts bs →
    Reordered (row f a bs (columns f firsts bs tail)) (columns f (a ∷ firsts) bs tail)
woven f W a firsts [] tail w c i = as_it_is tail
woven f W a firsts (b ∷ bs) tail w c i =
    behind (f a b) (row f a bs (row (turned f) b firsts (columns f firsts bs tail))) (row (turned f) b firsts (columns f (a ∷ firsts) bs tail))
    (order.and_then (row f a bs (row (turned f) b firsts (columns f firsts bs tail))) (row (turned f) b firsts (row f a bs (columns f firsts bs tail))) (row (turned f) b firsts (columns f (a ∷ firsts) bs tail))
    (column_first f W a firsts b bs (columns f firsts bs tail) w.1 c i)
    (row_behind (turned f) b firsts (row f a bs (columns f firsts bs tail)) (columns f (a ∷ firsts) bs tail) (woven f W a firsts bs tail w.1 c (fewer f W firsts b bs i))))

no_rows : {P A B : Type 0} (f : A → B → Term P) (bs : List B) (tail : Terms P) → Reordered tail (columns f [] bs tail)
no_rows f [] tail = as_it_is tail
no_rows f (b ∷ bs) tail = no_rows f bs tail

pub rows-columns : {P A B : Type 0} (f : A → B → Term P) (W : A → Touch → Type 0) (firsts : List A) (bs : List B) (tail : Terms P) → RowsApart W firsts → RowsWithin f W firsts bs → Reordered (rows f firsts bs tail) (columns f firsts bs tail)
rows-columns f W [] bs tail c i = no_rows f bs tail
rows-columns f W (a ∷ firsts) bs tail c i =
    order.and_then (row f a bs (rows f firsts bs tail)) (row f a bs (columns f firsts bs tail)) (columns f (a ∷ firsts) bs tail)
    (row_behind f a bs (rows f firsts bs tail) (columns f firsts bs tail) (rows-columns f W firsts bs tail c.1 i.1))
    (woven f W a firsts bs tail i.0 c.0 i.1)
