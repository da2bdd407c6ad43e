-- The registers of a run that hold what is read and the values of variables.
use Rattle.std.proofs.Common.{◌≡◌, ℕ, zero, suc, ◌+◌, ◌<◌, ◌≤◌, ℤ, List, [], ◌∷◌, ◌++◌, map, length, take, drop, replicate, get_or, slice_index_or, pos, None, Vec, slice_set, ◌==◌, if◌then◌else◌, refl, sym, ap, ◌∙◌, arith}
use Rattle.std.specs.declared.alloc.Global.{Global}
use Rattle.std.proofs.lemmas.List.{length-map, take_more, take_more_set, map-append}
use Rattle.sd_tcode.specs.op.Machine.{Held}
use Rattle.sd_tcode.specs.tcode.Held.{elements_in, given_by}
use Rattle.sd_tcode.specs.declared.columns.columns.Columns.{Columns}
use Rattle.sd_tcode.specs.declared.columns.spacing.Spaced.{Spaced}
use Rattle.sd_tcode.specs.columns.Columns.{registers_of, register_count, AreKept}
use Rattle.sd_row.specs.declared.row.track.Track.{Track}
use Rattle.sd_row.specs.declared.row.row.Write.{Write}

behind_both : {A : Type 0} (first second third : List A) → (first ++ second) ++ third ≡ first ++ (second ++ third)
behind_both [] second third = refl
behind_both (member ∷ first) second third = ap (λ rest. member ∷ rest) (behind_both first second third)

-- one more is set, behind others
pub one_more : {A B : Type 0} (made : A → B) (front values : List B) (first number : ℕ) (members : List A) (member : A) (value : B) → number < length members → first + number < length values →
    member ≡ get_or members number member → value ≡ made member → take (first + number) values ≡ front ++ map made (take number members) →
    take (first + (number + 1)) (slice_set values (first + number) value) ≡ front ++ map made (take (number + 1) members)
one_more made front values first number members member value within room is value_is so_far =
    let next : first + (number + 1) ≡ (first + number) + 1 = omega arith in
    ap (λ count. take count (slice_set values (first + number) value)) next
    ∙ take_more_set values (first + number) value room
    ∙ ap (λ list. list ++ value ∷ []) so_far
    ∙ behind_both front (map made (take number members)) (value ∷ [])
    ∙ ap (λ value. front ++ (map made (take number members) ++ value ∷ [])) (value_is ∙ ap made is)
    ∙ ap (λ list. front ++ list) (sym (map-append made (take number members) (get_or members number member ∷ [])) ∙ ap (map made) (sym (take_more members number member within)))

-- ---- what the code is given

front_of : (first second : List ℤ) → take (length first) (first ++ second) ≡ first
front_of [] second = refl
front_of (member ∷ first) second = ap (λ rest. member ∷ rest) (front_of first second)

rest_of : (first second : List ℤ) → drop (length first) (first ++ second) ≡ second
rest_of [] second = refl
rest_of (member ∷ first) second = rest_of first second

-- scalars are given by their registers
elements_one : (arrays : List Held) (connectors : ℕ) (scalars : List ℤ) → map (λ array. array.extents) arrays ≡ replicate connectors [] → length scalars ≤ connectors →
    elements_in arrays scalars ≡ map (λ value. value ∷ []) scalars
elements_one [] zero [] none few = refl
elements_one [] zero (value ∷ scalars) none few = absurd (omega (arith, few))
elements_one [] (suc connectors) scalars none few = cc
elements_one (array ∷ arrays) zero scalars none few = cc
elements_one (array ∷ arrays) (suc connectors) [] none few = refl
elements_one (array ∷ arrays) (suc connectors) (value ∷ scalars) none few =
    let here : array.extents ≡ [] = cc in
    let others : map (λ array. array.extents) arrays ≡ replicate connectors [] = cc in
    ap (λ (extents : List ℕ). (if length extents == 0 then value ∷ [] else array.cells) ∷ elements_in arrays scalars) here
    ∙ ap (λ rest. (value ∷ []) ∷ rest) (elements_one arrays connectors scalars others (omega (arith, few)))

each_alone : {A : Type 0} (made : A → ℤ) (members : List A) → map (λ value. value ∷ []) (map made members) ≡ map (λ member. made member ∷ []) members
each_alone made [] = refl
each_alone made (member ∷ members) = ap (λ rest. (made member ∷ []) ∷ rest) (each_alone made members)

made_many : {A : Type 0} (made : A → ℤ) (members : List A) → length (map made members) ≡ length members
made_many made [] = refl
made_many made (member ∷ members) = ap suc (made_many made members)

module _ {A B : Type 0} (seen : A → ℤ) (reads : List A) (told : B → ℤ) (variables : List B) (inputs connectors : ℕ) (fixed : List ℤ) (arrays : List Held)
    (many : inputs ≡ length reads) (is : fixed ≡ map seen reads ++ map told variables) where
  same_front : inputs ≡ length (map seen reads)
  same_front = many ∙ sym (made_many seen reads)

  pub values_given : map (λ array. array.extents) arrays ≡ replicate connectors [] → inputs ≤ connectors → (given_by inputs fixed arrays).values ≡ map (λ read. seen read ∷ []) reads
  values_given none few =
      (λ i. elements_in arrays (take (same_front i) (is i)))
      ∙ ap (elements_in arrays) (front_of (map seen reads) (map told variables))
      ∙ elements_one arrays connectors (map seen reads) none (omega (arith, same_front, few))
      ∙ each_alone seen reads

  pub variables_given : (given_by inputs fixed arrays).variables ≡ map told variables
  variables_given = (λ i. drop (same_front i) (is i)) ∙ rest_of (map seen reads) (map told variables)

pub registers_many : (columns : Columns) (run : ℕ) → length (registers_of columns run) ≡ register_count columns
registers_many columns run = length-map columns.columns.items (λ (column : Vec ℤ Global). slice_index_or column.items run (pos 0))

-- one register more is set, from the first on
pub one_first : {A : Type 0} (made : A → ℤ) (values : List ℤ) (number : ℕ) (members : List A) (member : A) (value : ℤ) → number < length members → number < length values →
    member ≡ get_or members number member → value ≡ made member → take number values ≡ map made (take number members) →
    take (number + 1) (slice_set values number value) ≡ map made (take (number + 1) members)
one_first made values number members member value within room is value_is so_far =
    take_more_set values number value room
    ∙ ap (λ list. list ++ value ∷ []) so_far
    ∙ ap (λ value. map made (take number members) ++ value ∷ []) (value_is ∙ ap made is)
    ∙ sym (map-append made (take number members) (get_or members number member ∷ []))
    ∙ ap (map made) (sym (take_more members number member within))

-- columns that were kept, and kept again
pub kept_again : (before middle after : Columns) → AreKept before middle → AreKept middle after → AreKept before after
kept_again before middle after first second = record {
  registers = second.registers ∙ first.registers;
  runs = second.runs ∙ first.runs;
  wide = λ wide. second.wide (first.wide wide);
}

pub kept_same : (columns : Columns) → AreKept columns columns
kept_same columns = record {
  registers = refl;
  runs = refl;
  wide = λ wide. wide;
}

-- ---- places of lists that are not there

abbrev pub no_numbers : Spaced
no_numbers = record { first = pos 0; step = pos 0 }

abbrev pub no_track : Track
no_track = record { station = record { level = 0; container = 0 }; elements = no_numbers }

abbrev pub no_write : Write
no_write = record { connector = 0; by = None; to = no_track }

none_behind : (values : List ℤ) → values ++ [] ≡ values
none_behind [] = refl
none_behind (value ∷ values) = ap (λ rest. value ∷ rest) (none_behind values)

pub none_more : (first : ℕ) (values : List ℤ) → take (first + 0) values ≡ take first values ++ []
none_more first values =
    let none : first + 0 ≡ first = omega arith in
    ap (λ count. take count values) none ∙ sym (none_behind (take first values))
