-- Frames that may be run.
use Rattle.std.proofs.Common.{◌≡◌, ◌⊎◌, inl, inr, ℕ, zero, suc, ◌<◌, ◌≤◌, ℤ, List, [], ◌∷◌, length, map, replicate, Bool, true, false, ◌&&◌, ◌||◌, ◌==◌, nat_le, nat_lt, refl, sym, ap, ◌∙◌, arith}
use Rattle.std.proofs.lemmas.Bool.{cases_lt}
use Rattle.std.proofs.lemmas.Bool.Decides.{nat_tests}
use Rattle.std.specs.Prelude.{slice_index_or, slice_set}
use Rattle.std.proofs.lemmas.List.{length-set, length-replicate}
use Rattle.sd_range.specs.Points.{product}
use Rattle.sd_range.proofs.TupleLaws.{product-cons}
use Rattle.sd_graph.specs.PlainTree.{TaskletTree}
use Rattle.sd_graph.specs.TaskletMeaning.{Inputs, extents_of_connector}
use Rattle.sd_tasklet.specs.tasklet.Given.{IsWhole}
use Rattle.sd_tcode.specs.tcode.Compiled.{Compiled, IsCodeOf}
use Rattle.sd_tcode.specs.tcode.Held.{IsWholeAt, zero_elements, zeros_for, room_for, may_have, with_element, with_extents, with_variable}

zero_whole : (dims widest : List ℕ) (connector : ℕ) → connector < length (zero_elements dims widest) →
    product (slice_index_or (map (λ count. replicate count 0) dims) connector []) ≤ length (slice_index_or (zero_elements dims widest) connector [])
zero_whole [] widest connector h = absurd (omega arith)
zero_whole (count ∷ dims) [] connector h = absurd (omega arith)
zero_whole (zero ∷ dims) (most ∷ widest) zero h = omega arith
zero_whole (suc count ∷ dims) (most ∷ widest) zero h = omega (arith, product-cons 0 (replicate count 0))
zero_whole (count ∷ dims) (most ∷ widest) (suc connector) h = zero_whole dims widest connector (omega arith)

zero_dims : (dims : List ℕ) (connector : ℕ) → length {A = ℕ} (slice_index_or (map (λ count. replicate count 0) dims) connector []) ≡ slice_index_or dims connector 0
zero_dims [] connector = refl
zero_dims (count ∷ dims) zero = length-replicate count 0
zero_dims (count ∷ dims) (suc connector) = zero_dims dims connector

-- nothing but zeros is whole
pub zeros_whole : (tree : TaskletTree) (code : Compiled) (widest : List ℕ) → IsCodeOf tree code → IsWhole (zeros_for code widest)
zeros_whole tree code widest is = record {
  dimensions = λ connector. let few = is.named.dimensions connector in omega (arith, few, zero_dims code.dims connector, ap (λ l. slice_index_or l connector 0) is.dims);
  elements = zero_whole code.dims widest;
}

lengths_set : (values : List (List ℤ)) (connector at : ℕ) (value : ℤ) → map length (slice_set values connector (slice_set (slice_index_or values connector []) at value)) ≡ map length values
lengths_set [] connector at value = refl
lengths_set (first ∷ rest) zero at value = ap (λ n. n ∷ map length rest) (length-set first at value)
lengths_set (first ∷ rest) (suc connector) at value = ap (λ l. length first ∷ l) (lengths_set rest connector at value)

length_at : (values : List (List ℤ)) (connector : ℕ) → length (slice_index_or values connector []) ≡ slice_index_or (map length values) connector 0
length_at [] connector = refl
length_at (first ∷ rest) zero = refl
length_at (first ∷ rest) (suc connector) = length_at rest connector

-- an element changes no length
pub element_lengths : (inputs : Inputs) (connector at : ℕ) (value : ℤ) (other : ℕ) → length (slice_index_or (with_element inputs connector at value).values other []) ≡ length (slice_index_or inputs.values other [])
element_lengths inputs connector at value other =
    length_at (with_element inputs connector at value).values other ∙ (ap (λ l. slice_index_or l other 0) (lengths_set inputs.values connector at value) ∙ sym (length_at inputs.values other))

-- what is whole stays so with another element
pub element_whole : (inputs : Inputs) (connector at : ℕ) (value : ℤ) → IsWhole inputs → IsWhole (with_element inputs connector at value)
element_whole inputs connector at value whole = record {
  dimensions = whole.dimensions;
  elements = λ other h.
      let few = whole.elements other (omega (arith, h, length-set inputs.values connector (slice_set (slice_index_or inputs.values connector []) at value))) in
      omega (arith, few, element_lengths inputs connector at value other);
}

-- a variable is no part of that
pub variable_whole : (inputs : Inputs) (variable : ℕ) (value : ℤ) → IsWhole inputs → IsWhole (with_variable inputs variable value)
variable_whole inputs variable value whole = record { dimensions = whole.dimensions; elements = whole.elements }

-- what holds of each list, and of one more, holds where that one takes a place
each_set : (P : ℕ → List ℕ → Type 0) (lists : List (List ℕ)) (connector : ℕ) (new : List ℕ) → P connector new → ((k : ℕ) → P k (slice_index_or lists k [])) → (other : ℕ) → P other (slice_index_or (slice_set lists connector new) other [])
each_set P [] connector new here all other = all other
each_set P (first ∷ rest) zero new here all zero = here
each_set P (first ∷ rest) zero new here all (suc other) = all (suc other)
each_set P (first ∷ rest) (suc connector) new here all zero = all zero
each_set P (first ∷ rest) (suc connector) new here all (suc other) = each_set (λ k. P (suc k)) rest connector new here (λ k. all (suc k)) other

both_true : (a b : Bool) → (a && b) ≡ true → (a ≡ true) × (b ≡ true)
both_true true b e = (refl, e)
both_true false b e = cc

either_true : (a b : Bool) → (a || b) ≡ true → (a ≡ true) ⊎ (b ≡ true)
either_true true b e = inl refl
either_true false b e = inr e

-- what a connector has that may have these extents
pub record Fitting (inputs : Inputs) (connector : ℕ) (extents : List ℕ) : Type 0 where
  pub there : connector < length inputs.extents
  pub many : length extents ≡ length (extents_of_connector inputs connector)
  pub room : connector < length inputs.values → product extents ≤ room_for inputs connector

pub may_fit : (inputs : Inputs) (connector : ℕ) (extents : List ℕ) → may_have inputs connector extents ≡ true → Fitting inputs connector extents
may_fit inputs connector extents e =
    let many = length extents == length (extents_of_connector inputs connector) in
    let room = nat_le (length inputs.values) connector || nat_le (product extents) (room_for inputs connector) in
    let first = both_true (nat_lt connector (length inputs.extents)) (many && room) e in
    let second = both_true many room first.1 in
    record {
      there = let is = first.0 in grind (arith, nat_tests, is);
      many = let is = second.0 in grind (arith, nat_tests, is);
      room = λ low. by_case low (either_true (nat_le (length inputs.values) connector) (nat_le (product extents) (room_for inputs connector)) second.1);
    }
  where
    by_case : connector < length inputs.values → (nat_le (length inputs.values) connector ≡ true) ⊎ (nat_le (product extents) (room_for inputs connector) ≡ true) → product extents ≤ room_for inputs connector
    by_case low (inl above) = absurd (grind (arith, nat_tests, above))
    by_case low (inr few) = grind (arith, nat_tests, few)

-- what is whole stays so with extents that a connector may have
pub extents_whole : (inputs : Inputs) (connector : ℕ) (extents : List ℕ) → Fitting inputs connector extents → IsWhole inputs → IsWhole (with_extents inputs connector extents)
extents_whole inputs connector extents fitting whole = record {
  dimensions = each_set (λ k l. length l ≤ 4) inputs.extents connector extents (omega (arith, fitting.many, whole.dimensions connector)) whole.dimensions;
  elements = each_set (λ k l. k < length inputs.values → product l ≤ length (slice_index_or inputs.values k [])) inputs.extents connector extents fitting.room whole.elements;
}

none_beyond : (lists : List (List ℕ)) (k : ℕ) → length lists ≤ k → length (slice_index_or lists k []) ≤ 4
none_beyond [] k h = omega arith
none_beyond (first ∷ rest) zero h = absurd (omega arith)
none_beyond (first ∷ rest) (suc k) h = none_beyond rest k (omega arith)

-- whole at each place
pub whole_by_place : (inputs : Inputs) (many : ℕ) → length inputs.values ≤ many → length inputs.extents ≤ many → ((connector : ℕ) → connector < many → IsWholeAt inputs connector) → IsWhole inputs
whole_by_place inputs many few less each = record {
  dimensions = λ connector. by_place connector (cases_lt connector many);
  elements = λ connector h. (each connector (omega (arith, h, few))).elements h;
}
  where
    by_place : (connector : ℕ) → (connector < many) ⊎ (many ≤ connector) → length (extents_of_connector inputs connector) ≤ 4
    by_place connector (inl low) = (each connector low).dimensions
    by_place connector (inr high) = none_beyond inputs.extents connector (omega (arith, high, less))

pub whole_at : (inputs : Inputs) (connector : ℕ) → IsWhole inputs → IsWholeAt inputs connector
whole_at inputs connector whole = record { dimensions = whole.dimensions connector; elements = whole.elements connector }
