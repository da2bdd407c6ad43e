-- What tuples are: one member of each list, in lexicographic order.
use Rattle.std.proofs.Common.{◌≡◌, inl, inr, ◌*◌, [], ◌∷◌, ℕ, ℤ, ◌<ℤ◌, List, length, map, refl, ap, sym, ◌∙◌, subst, arith}
use Rattle.std.specs.List.{All, AllByRecursion, AllPairs, AllZip, Contains, flat_map, fold}
use Rattle.std.proofs.lemmas.List.{length-append, length-map}
use Rattle.std.proofs.lemmas.List.Elements.{All-map, All-weaker}
use Rattle.std.proofs.lemmas.List.Kept.{AllPairs-cons}
use Rattle.sd_range.specs.Points.{tuples, product, Precedes}
use Rattle.sd_range.proofs.Members.{Contains-nil, Contains-first, Contains-cases, Contains-map, Contains-from_map, Contains-flat_map, Contains-from_flat_map, All-flat_map, AllPairs-head, AllPairs-tail, AllPairs-append}

-- the tuples that begin with one of these numbers
abbrev pub begun_by : List ℤ → List (List ℤ) → List (List ℤ)
begun_by firsts inner = flat_map (λ first. map (λ rest. first ∷ rest) inner) firsts

-- a tuple has one member of each list
pub one_of_each : (lists : List (List ℤ)) (tuple : List ℤ) → Contains (tuples lists) tuple → AllZip Contains lists tuple
one_of_each [] tuple member = elim (Contains-cases [] [] tuple member) [
  | inl empty ↦ subst (AllZip Contains []) empty tt
  | inr none ↦ absurd (Contains-nil tuple none)
]
one_of_each (firsts ∷ others) tuple member =
    let begun = Contains-from_flat_map (λ first. map (λ rest. first ∷ rest) (tuples others)) firsts tuple member in
    let rest = Contains-from_map (λ rest. begun.0 ∷ rest) (tuples others) tuple begun.2 in
    subst (AllZip Contains (firsts ∷ others)) rest.2 (begun.1, one_of_each others rest.0 rest.1)

-- each such choice is a tuple
pub each_choice : (lists : List (List ℤ)) (tuple : List ℤ) → AllZip Contains lists tuple → Contains (tuples lists) tuple
each_choice [] [] choice = Contains-first [] []
each_choice [] (number ∷ tuple) choice = absurd choice
each_choice (firsts ∷ others) [] choice = absurd choice
each_choice (firsts ∷ others) (number ∷ tuple) choice =
    Contains-flat_map (λ first. map (λ rest. first ∷ rest) (tuples others)) firsts number (number ∷ tuple) choice.0
    (Contains-map (λ rest. number ∷ rest) (tuples others) tuple (each_choice others tuple choice.1))

-- a product from a number on is that number times the product
product_from : (all : ℕ) (counts : List ℕ) → fold (λ all count. all * count) all counts ≡ all * product counts
product_from all [] = omega arith
product_from all (count ∷ counts) = omega (arith, product_from (all * count) counts, ap (λ n. all * n) (product_from (1 * count) counts))

-- the product of a number and others
pub product-cons : (count : ℕ) (counts : List ℕ) → product (count ∷ counts) ≡ count * product counts
product-cons count counts = omega (arith, product_from (1 * count) counts)

-- there are as many as one for each number and each tuple of the others
length-begun_by : (firsts : List ℤ) (inner : List (List ℤ)) → length (begun_by firsts inner) ≡ length firsts * length inner
length-begun_by [] inner = omega arith
length-begun_by (first ∷ firsts) inner =
    length-append (map (λ rest. first ∷ rest) inner) (begun_by firsts inner)
    ∙ omega (arith, length-map inner (λ rest. first ∷ rest), length-begun_by firsts inner)

-- there are as many tuples as the product of the lengths
pub length-tuples : (lists : List (List ℤ)) → length (tuples lists) ≡ product (map length lists)
length-tuples [] = refl
length-tuples (firsts ∷ others) =
    length-begun_by firsts (tuples others)
    ∙ ap (λ count. length firsts * count) (length-tuples others)
    ∙ sym (product-cons (length firsts) (map length others))

-- a number before both tuples leaves their order
begun_each : (first : ℤ) (point : List ℤ) (others : List (List ℤ)) → All (Precedes point) others → All (Precedes (first ∷ point)) (map (λ rest. first ∷ rest) others)
begun_each first point others each =
    All-map (Precedes (first ∷ point)) (λ rest. first ∷ rest) others (λ k d below. inr (refl, each k d below))

-- tuples that begin with the same number are in the order of their rests
begun-in_order : (first : ℤ) (inner : List (List ℤ)) → AllPairs Precedes inner → AllPairs Precedes (map (λ rest. first ∷ rest) inner)
begun-in_order first [] rising = λ i j d before below. absurd (omega arith)
begun-in_order first (point ∷ inner) rising =
    AllPairs-cons Precedes (first ∷ point) (map (λ rest. first ∷ rest) inner)
    (begun_each first point inner (AllPairs-head Precedes point inner rising))
    (begun-in_order first inner (AllPairs-tail Precedes point inner rising))

-- a tuple with a lesser first number precedes each with a greater one
begun_before : (first : ℤ) (rest : List ℤ) (laters : List ℤ) (inner : List (List ℤ)) → All (λ later. first <ℤ later) laters → All (Precedes (first ∷ rest)) (begun_by laters inner)
begun_before first rest laters inner above =
    All-flat_map (Precedes (first ∷ rest)) (λ later. map (λ other. later ∷ other) inner) laters
    (All-weaker (λ later. first <ℤ later) (λ later. All (Precedes (first ∷ rest)) (map (λ other. later ∷ other) inner))
    (λ later less. All-map (Precedes (first ∷ rest)) (λ other. later ∷ other) inner (λ k d below. inl less)) laters above)

-- tuples whose first numbers rise, and whose rests are in order, are in order
begun_by-in_order : (firsts : List ℤ) (inner : List (List ℤ)) → AllPairs (λ a b. a <ℤ b) firsts → AllPairs Precedes inner → AllPairs Precedes (begun_by firsts inner)
begun_by-in_order [] inner rising order = λ i j d before below. absurd (omega arith)
begun_by-in_order (first ∷ firsts) inner rising order =
    AllPairs-append Precedes (map (λ rest. first ∷ rest) inner) (begun_by firsts inner)
    (begun-in_order first inner order)
    (begun_by-in_order firsts inner (AllPairs-tail (λ a b. a <ℤ b) first firsts rising) order)
    (All-map (λ point. All (Precedes point) (begun_by firsts inner)) (λ rest. first ∷ rest) inner
    (λ k d below. begun_before first _ firsts inner (AllPairs-head (λ a b. a <ℤ b) first firsts rising)))

-- tuples of lists that rise come in lexicographic order
pub tuples-in_order : (lists : List (List ℤ)) → AllByRecursion (AllPairs (λ a b. a <ℤ b)) lists → AllPairs Precedes (tuples lists)
tuples-in_order [] rising = λ i j d before below. absurd (omega arith)
tuples-in_order (firsts ∷ others) rising = begun_by-in_order firsts (tuples others) rising.0 (tuples-in_order others rising.1)
