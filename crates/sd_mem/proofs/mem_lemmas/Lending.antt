-- Memories that take back what was lent, the last container first.
use Rattle.std.proofs.Common.{◌≡◌, ℕ, zero, suc, ◌<◌, List, [], ◌∷◌, ◌++◌, map, length, drop, slice_index_or, slice_set, refl, ap, ◌∙◌, sym, subst, arith}
use Rattle.sd_work.specs.Memory.{Contents, Memory}
use Rattle.sd_mem.specs.mem.Cells.{array_of, stream_of}
use Rattle.sd_mem.specs.declared.mem.cells.Cells.{Cells}
use Rattle.sd_mem.specs.declared.mem.cells.Cells.TheVariants.{W32, W64}
use Rattle.sd_mem.specs.declared.mem.cells.Values.{Values}
use Rattle.sd_mem.specs.declared.mem.cells.Values.TheVariants as waiting
use Rattle.sd_mem.specs.mem.Shaped.{MayHave, MayAllHave}
use Rattle.sd_mem.specs.mem.Holding.{shape_held, contents_held, IsSized}
use Rattle.sd_mem.proofs.mem_lemmas.Held.{contents_changed, changed_to}
use Rattle.std.specs.List.{AllByRecursion}
use Rattle.std.proofs.lemmas.List.{length-map}
use Rattle.sd_mem.specs.declared.mem.holding.Holding.{Holding}
use Rattle.sd_mem.specs.declared.mem.holding.Holding.TheVariants.{Array, Stream}

-- there are as many as extents
pub as_many_fit : (shapes : List (List ℕ)) (memory : List Contents) → MayAllHave shapes memory → length memory ≡ length shapes
as_many_fit [] [] fit = refl
as_many_fit [] (contents ∷ memory) fit = absurd fit
as_many_fit (shape ∷ shapes) [] fit = absurd fit
as_many_fit (shape ∷ shapes) (contents ∷ memory) fit = ap suc (as_many_fit shapes memory fit.1)

-- the container behind so many fits the extents there
pub one_fits : (shapes : List (List ℕ)) (done given : List Contents) (contents : Contents) (shape : List ℕ) → MayAllHave shapes (done ++ contents ∷ given) →
    shape ≡ slice_index_or shapes (length done) shape → MayHave shape contents
one_fits [] [] given contents shape fit is = absurd fit
one_fits [] (first ∷ done) given contents shape fit is = absurd fit
one_fits (first ∷ shapes) [] given contents shape fit is = subst (λ (s : List ℕ). MayHave s contents) (sym is) fit.0
one_fits (first ∷ shapes) (other ∷ done) given contents shape fit is = one_fits shapes done given contents shape fit.1 is

-- the extents of a container are among those of all
pub shape_among : (holdings : List Holding) (number : ℕ) (old : Holding) → old ≡ slice_index_or holdings number old → shape_held old ≡ slice_index_or (map shape_held holdings) number (shape_held old)
shape_among [] number old is = refl
shape_among (first ∷ holdings) zero old is = ap shape_held is
shape_among (first ∷ holdings) (suc number) old is = shape_among holdings number old is

-- what is taken over stands before what was
pub taken_over : (memory : List Contents) (number : ℕ) (contents : Contents) → number < length memory → drop number (slice_set memory number contents) ≡ contents ∷ drop (suc number) memory
taken_over [] number contents within = absurd (omega (arith, within))
taken_over (first ∷ memory) zero contents within = refl
taken_over (first ∷ memory) (suc number) contents within = taken_over memory number contents (omega (arith, within))

one_before : (done given : List Contents) (contents : Contents) → (done ++ contents ∷ []) ++ given ≡ done ++ contents ∷ given
one_before [] given contents = refl
one_before (first ∷ done) given contents = ap (λ (rest : List Contents). first ∷ rest) (one_before done given contents)

lent_behind : (given : List Holding) (last : Holding) → map contents_held (given ++ last ∷ []) ≡ map contents_held given ++ contents_held last ∷ []
lent_behind [] last = refl
lent_behind (first ∷ given) last = ap (λ (rest : List Contents). contents_held first ∷ rest) (lent_behind given last)

pub one_more : (given : List Holding) (last : Holding) → length (given ++ last ∷ []) ≡ suc (length given)
one_more [] last = refl
one_more (first ∷ given) last = ap suc (one_more given last)

-- what is left to take, before what was taken
abbrev pub before_taken : (left holdings : List Holding) → List Contents
before_taken left holdings = map contents_held left ++ drop (length left) (map contents_held holdings)

-- the last one that is left stands before those that were taken
last_left : (left holdings : List Holding) (last : Holding) →
    before_taken (left ++ last ∷ []) holdings ≡ map contents_held left ++ (contents_held last ∷ drop (suc (length left)) (map contents_held holdings))
last_left left holdings last =
    ap (λ (number : ℕ). map contents_held (left ++ last ∷ []) ++ drop number (map contents_held holdings)) (one_more left last)
    ∙ ap (λ (lent : List Contents). lent ++ drop (suc (length left)) (map contents_held holdings)) (lent_behind left last)
    ∙ one_before (map contents_held left) (drop (suc (length left)) (map contents_held holdings)) (contents_held last)

longer : (done given : List Contents) (contents : Contents) → length done < length (done ++ contents ∷ given)
longer [] given contents = omega arith
longer (first ∷ done) given contents = omega (arith, longer done given contents)

-- its container is there
pub is_there : (shapes : List (List ℕ)) (left holdings : List Holding) (last : Holding) (memory : Memory) → map shape_held holdings ≡ shapes → MayAllHave shapes memory →
    before_taken (left ++ last ∷ []) holdings ≡ memory → length left < length holdings
is_there shapes left holdings last memory same fit lent =
    omega (
      arith,
      longer (map contents_held left) (drop (suc (length left)) (map contents_held holdings)) (contents_held last),
      length-map left contents_held,
      length-map holdings shape_held,
      ap length same,
      as_many_fit shapes memory fit,
      ap length (sym (last_left left holdings last) ∙ lent),
    )

-- it may have the extents there
pub may_be_held : (shapes : List (List ℕ)) (left holdings : List Holding) (last old : Holding) (memory : Memory) → map shape_held holdings ≡ shapes → MayAllHave shapes memory →
    before_taken (left ++ last ∷ []) holdings ≡ memory → old ≡ slice_index_or holdings (length left) old → MayHave (shape_held old) (contents_held last)
may_be_held shapes left holdings last old memory same fit lent is =
    one_fits shapes (map contents_held left) (drop (suc (length left)) (map contents_held holdings)) (contents_held last) (shape_held old)
    (subst (MayAllHave shapes) (sym (sym (last_left left holdings last) ∙ lent)) fit)
    (shape_among holdings (length left) old is ∙ ap (λ (s : List (List ℕ)). slice_index_or s (length left) (shape_held old)) same
    ∙ ap (λ (number : ℕ). slice_index_or shapes number (shape_held old)) (sym (length-map left contents_held)))

-- then it is one of those that were taken
pub is_taken : (shapes : List (List ℕ)) (left holdings : List Holding) (last old new : Holding) (memory : Memory) → map shape_held holdings ≡ shapes → MayAllHave shapes memory →
    before_taken (left ++ last ∷ []) holdings ≡ memory → old ≡ slice_index_or holdings (length left) old → contents_held new ≡ contents_held last →
    before_taken left (slice_set holdings (length left) new) ≡ memory
is_taken shapes left holdings last old new memory same fit lent is held =
    ap (λ (contents : List Contents). map contents_held left ++ drop (length left) contents)
    (contents_changed holdings (length left) new old (λ old. contents_held last) is held ∙ changed_to (contents_held last) (length left) (map contents_held holdings))
    ∙ ap (λ (contents : List Contents). map contents_held left ++ contents)
    (taken_over (map contents_held holdings) (length left) (contents_held last)
    (omega (arith, length-map holdings contents_held, is_there shapes left holdings last memory same fit lent)))
    ∙ sym (last_left left holdings last) ∙ lent

none_behind : (lent memory : List Contents) → length memory ≡ length lent → lent ++ drop (length lent) memory ≡ lent
none_behind [] [] same = refl
none_behind [] (contents ∷ memory) same = absurd (omega (arith, same))
none_behind (first ∷ lent) [] same = absurd (omega (arith, same))
none_behind (first ∷ lent) (contents ∷ memory) same = ap (λ (rest : List Contents). first ∷ rest) (none_behind lent memory (omega (arith, same)))

-- the extents are these, and what is left to take stands before what was taken
pub record IsLeft (shapes : List (List ℕ)) (left holdings : List Holding) (memory : Memory) : Type 0 where
  pub shapes_so : map shape_held holdings ≡ shapes
  pub contents_so : before_taken left holdings ≡ memory

-- a size that is set
pub sized_set : (holdings : List Holding) (number : ℕ) (old new : Holding) → old ≡ slice_index_or holdings number old → (IsSized old → IsSized new) → AllByRecursion IsSized holdings →
    AllByRecursion IsSized (slice_set holdings number new)
sized_set [] number old new is keeps sized = tt
sized_set (first ∷ holdings) zero old new is keeps sized = (keeps (subst IsSized (sym is) sized.0), sized.1)
sized_set (first ∷ holdings) (suc number) old new is keeps sized = (sized.0, sized_set holdings number old new is keeps sized.1)

-- none was taken yet
pub none_taken : (shapes : List (List ℕ)) (left holdings : List Holding) (memory : Memory) → map shape_held holdings ≡ shapes → MayAllHave shapes memory → map contents_held left ≡ memory →
    before_taken left holdings ≡ memory
none_taken shapes left holdings memory same fit is =
    ap (λ (number : ℕ). map contents_held left ++ drop number (map contents_held holdings)) (sym (length-map left contents_held))
    ∙ none_behind (map contents_held left) (map contents_held holdings)
    (omega (arith, length-map left contents_held, length-map holdings contents_held, length-map holdings shape_held, ap length same, ap length is, as_many_fit shapes memory fit))
    ∙ is

-- what each container holds it may have
pub all_fit : (holdings : List Holding) → MayAllHave (map shape_held holdings) (map contents_held holdings)
all_fit [] = tt
all_fit (holding ∷ holdings) = (held_fits holding, all_fit holdings)
  where
    held_fits : (holding : Holding) → MayHave (shape_held holding) (contents_held holding)
    held_fits (Array shape cells) = cells_fit cells
      where
        cells_fit : (cells : Cells) → MayHave shape.items (array_of cells)
        cells_fit (W32 cells) = tt
        cells_fit (W64 cells) = tt
    held_fits (Stream values) = values_fit values
      where
        values_fit : (values : Values) → MayHave [] (stream_of values)
        values_fit (waiting.W32 values) = refl
        values_fit (waiting.W64 values) = refl
