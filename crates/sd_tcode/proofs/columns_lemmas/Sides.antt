-- Columns side by side.
use Rattle.std.proofs.Common.{◌≡◌, ℕ, zero, suc, ◌+◌, ◌-◌, ◌*◌, ◌^◌, ◌<◌, ◌≤◌, ℤ, pos, negsuc, ◌+ℤ◌, ◌*ℤ◌, unsigned_abs, FitsSigned, w64, slice_range, List, [], ◌∷◌, map, length, take, drop, get_or, slice_index_or, slice_set, Bool, true, false, nat_eq, Vec, Ok, refl, sym, ap, ◌∙◌, arith, subst}
use Rattle.std.proofs.lemmas.Bool.{eqb-true, eqb-false}
use Rattle.std.specs.declared.alloc.Global.{Global}
use Rattle.std.proofs.Math.ListN.{drop_of_length-le}
use Rattle.std.proofs.Math.Nat.{mul-le-mul_left}
use Rattle.std.proofs.lemmas.List.{drop_more, drop-map, get_or-drop, get_or-map, get_or-take, get_or-set_same, get_or-set_other}
use Rattle.sd_graph.specs.TaskletMeaning.{and_then, two_values}
use Rattle.sd_graph.specs.declared.operator.TwoSign.{TwoSign}
use Rattle.sd_tcode.specs.declared.op.op.Op.{Op}
use Rattle.sd_tcode.specs.op.Machine.{Held, State, after_one, after_all, passed, combined, with_result, state_only}
use Rattle.sd_tcode.specs.declared.columns.columns.Columns.{Columns}
use Rattle.std.proofs.lemmas.Int.{int_wrap-add_left, int_wrap_fits}
use Rattle.sd_num.specs.Wrapped.{wrapped}
use Rattle.sd_tcode.specs.declared.columns.spacing.Spaced.{Spaced}
use Rattle.sd_tcode.specs.columns.Columns.{value_on, registers_of, state_of, register_count}
use Rattle.sd_tcode.specs.columns.Products.{added}

-- one value more is so
pub set_more : (Is : ℕ → ℤ → Type 0) (column : List ℤ) (number : ℕ) (value : ℤ) → number < length column → Is number value →
    ((i : ℕ) → i < number → Is i (slice_index_or column i (pos 0))) → (i : ℕ) → i < number + 1 → Is i (slice_index_or (slice_set column number value) i (pos 0))
set_more Is column number value within here so_far i below = by_same (nat_eq i number) refl
  where
    by_same : (same : Bool) → nat_eq i number ≡ same → Is i (slice_index_or (slice_set column number value) i (pos 0))
    by_same true e =
        let is : i ≡ number = eqb-true i number e in
        subst (λ n. Is n (slice_index_or (slice_set column number value) n (pos 0))) (sym is)
        (subst (Is number) (sym (get_or-set_same column number value (pos 0) within)) here)
    by_same false e =
        let not_this = eqb-false i number e in
        subst (Is i) (sym (get_or-set_other column number i value (pos 0) not_this)) (so_far i (omega (arith, below, not_this)))

-- ---- one run

abbrev Column : Type 0
Column = Vec ℤ Global

-- what a register holds stands in its column
pub register_is : (columns : Columns) (number run : ℕ) (column : Column) → number < register_count columns → column ≡ get_or columns.columns.items number column →
    slice_index_or (registers_of columns run) number (pos 0) ≡ slice_index_or column.items run (pos 0)
register_is columns number run column within is =
    get_or-map (λ (column : Column). slice_index_or column.items run (pos 0)) columns.columns.items number column (pos 0) within
    ∙ ap (λ (column : Column). slice_index_or column.items run (pos 0)) (sym is)

-- a register is given a value
pub gives : (columns after : Columns) (to run : ℕ) (value : ℤ) → registers_of after run ≡ slice_set (registers_of columns run) to value →
    with_result (state_of columns run) to (Ok value) ≡ Ok (state_of after run)
gives columns after to run value is = ap (λ registers. Ok (record { registers = registers; effects = [] })) (sym is)

-- a register is given what a sign makes of two others
pub combines : (columns after : Columns) (sign : TwoSign) (to left right run : ℕ) (first second value : ℤ) →
    slice_index_or (registers_of columns run) left (pos 0) ≡ first → slice_index_or (registers_of columns run) right (pos 0) ≡ second → two_values sign first second ≡ Ok value →
    registers_of after run ≡ slice_set (registers_of columns run) to value → combined (state_of columns run) sign to left right ≡ Ok (state_of after run)
combines columns after sign to left right run first second value first_is second_is made is =
    ap (λ left. with_result (state_of columns run) to (two_values sign left (slice_index_or (registers_of columns run) right (pos 0)))) first_is
    ∙ ap (λ right. with_result (state_of columns run) to (two_values sign first right)) second_is
    ∙ ap (with_result (state_of columns run) to) made
    ∙ gives columns after to run value is

-- ---- instructions

-- one instruction more
pub steps_on : (arrays : List Held) (ops : List Op) (number : ℕ) (op : Op) (state next : State) → number < length ops → op ≡ get_or ops number op → after_one arrays op state ≡ Ok next → passed op state ≡ 0 →
    after_all arrays 0 (drop number ops) state ≡ after_all arrays 0 (drop (number + 1) ops) next
steps_on arrays ops number op state next within is done none =
    ap (λ ops. after_all arrays 0 ops state) (drop_more ops number op within ∙ ap (λ first. first ∷ drop (number + 1) ops) (sym is))
    ∙ ap (λ meant. and_then meant (λ next. after_all arrays (passed op state) (drop (number + 1) ops) next)) done
    ∙ ap (λ pass. after_all arrays pass (drop (number + 1) ops) next) none

pub steps_end : (arrays : List Held) (ops : List Op) (number : ℕ) (state : State) → length ops ≤ number → state_only (after_all arrays 0 (drop number ops) state) ≡ Ok state
steps_end arrays ops number state over = ap (λ ops. state_only (after_all arrays 0 ops state)) (drop_of_length-le ops over)

-- ---- elements side by side

further : (first : ℤ) (a b : ℕ) → first +ℤ pos (a + b) ≡ (first +ℤ pos a) +ℤ pos b
further (pos n) a b = grind arith
further (negsuc n) a b = grind arith

times : (d a b : ℕ) → d * (a + b) ≡ d * a + d * b
times d a b = grind arith

-- from one number on the next ones are so far apart
pub next_at : (numbers : Spaced) (from i first distance : ℕ) → numbers.step ≡ pos distance → pos first ≡ value_on numbers from → first + distance * i < 2 ^ 63 →
    unsigned_abs (value_on numbers (from + i)) ≡ first + distance * i
next_at numbers from i first distance apart here small =
    let fits : FitsSigned w64 (pos (first + distance * i)) = record { sfits = small } in
    let at_from : wrapped (numbers.first +ℤ pos (distance * from)) ≡ pos first = ap (λ step. wrapped (numbers.first +ℤ (step *ℤ pos from))) (sym apart) ∙ sym here in
    ap unsigned_abs
    (ap (λ step. wrapped (numbers.first +ℤ (step *ℤ pos (from + i)))) apart
    ∙ ap (λ more. wrapped (numbers.first +ℤ pos more)) (times distance from i)
    ∙ ap wrapped (further numbers.first (distance * from) (distance * i))
    ∙ sym (int_wrap-add_left w64 (numbers.first +ℤ pos (distance * from)) (pos (distance * i)))
    ∙ ap (λ start. wrapped (start +ℤ pos (distance * i))) at_from
    ∙ int_wrap_fits w64 (pos (first + distance * i)) fits)

-- from one number on the next ones are one apart
pub next_to : (numbers : Spaced) (from i first : ℕ) → numbers.step ≡ pos 1 → pos first ≡ value_on numbers from → first + i < 2 ^ 63 → unsigned_abs (value_on numbers (from + i)) ≡ first + i
next_to numbers from i first one here small =
    let same : 1 * i ≡ i = omega arith in
    next_at numbers from i first 1 one here (subst (λ n. first + n < 2 ^ 63) (sym same) small) ∙ ap (λ n. first + n) same

more_times : (distance i : ℕ) → distance * (i + 1) ≡ distance * i + distance
more_times distance i = grind arith

-- the place of one of so many numbers is before the end
pub not_behind : (first distance count i : ℕ) → i < count → first + distance * i + distance ≤ first + distance * count
not_behind first distance count i below =
    let within : i + 1 ≤ count = omega (arith, below) in
    let more : distance * (i + 1) ≤ distance * count = mul-le-mul_left distance within in
    omega (arith, subst (λ n. n ≤ distance * count) (more_times distance i) more)

map_take : {A : Type 0} (of : A → ℤ) (count : ℕ) (cells : List A) → map of (take count cells) ≡ take count (map of cells)
map_take of zero cells = refl
map_take of (suc count) [] = refl
map_take of (suc count) (cell ∷ cells) = ap (λ (rest : List ℤ). of cell ∷ rest) (map_take of count cells)

-- a part of cells has the elements from its first one on
pub in_part : {A : Type 0} (of : A → ℤ) (cells part : List A) (first end i : ℕ) → part ≡ slice_range cells first end → first + i < end → end ≤ length cells →
    slice_index_or (map of part) i (pos 0) ≡ slice_index_or (map of cells) (first + i) (pos 0)
in_part of cells part first end i is below within =
    ap (λ part. slice_index_or (map of part) i (pos 0)) is
    ∙ ap (λ elements. slice_index_or elements i (pos 0)) (map_take of (end - first) (drop first cells))
    ∙ get_or-take (end - first) (map of (drop first cells)) i (pos 0) (omega (arith, below))
    ∙ ap (λ elements. slice_index_or elements i (pos 0)) (sym (drop-map of first cells))
    ∙ get_or-drop first (map of cells) i (pos 0)

-- ---- values that are added up

-- the same values come to the same sum
pub same_added : (value other : ℕ → ℤ) (number : ℤ) (count : ℕ) → ((run : ℕ) → run < count → value run ≡ other run) → added value number count ≡ added other number count
same_added value other number zero same = refl
same_added value other number (suc count) same =
    λ i. wrapped (same_added value other number count (λ run below. same run (omega (arith, below))) i +ℤ same count (omega arith) i)
