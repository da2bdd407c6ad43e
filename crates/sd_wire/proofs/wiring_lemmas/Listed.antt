-- A stable sort gives the edges by a number of each.
use Rattle.std.proofs.Common.{◌≡◌, ℕ, zero, suc, ◌+◌, ◌<◌, ◌≤◌, List, [], ◌∷◌, length, Bool, true, false, not, ◌&&◌, nat_eq, nat_lt, cond, None, refl, sym, ap, ◌∙◌, arith, slice_index_or}
use Rattle.std.specs.Prelude.{⊤}
use Rattle.std.proofs.lemmas.Bool.{ltb-true, ltb-false, eqb-true, eqb-false}
use Rattle.std.specs.List.{filter}
use Rattle.std.specs.Ordering.{nat_cmp, is_lt}
use Rattle.std.specs.declared.cmp.Ordering.TheVariants.{Less, Equal, Greater}
use Rattle.std.specs.Cmp.{nat_cmp_is}
use Rattle.std.specs.List.Sorted.{IsNonDecreasingBy, IsStableByKey, ties}
use Rattle.std.proofs.lemmas.List.Elements.{filter_agree}
use Rattle.sd_graph.specs.declared.wired.Edge.{Edge}
use Rattle.sd_wire.specs.wiring.Listing.{inserted, listed_by}

equal_numbers : (a b : ℕ) → a ≡ b → nat_eq a b ≡ true
equal_numbers a b same = go (nat_eq a b) refl where
  go : (is : Bool) → nat_eq a b ≡ is → nat_eq a b ≡ true
  go true is = is
  go false is = absurd (eqb-false a b is same)

other_numbers : (a b : ℕ) → (a ≡ b → ⊥) → nat_eq a b ≡ false
other_numbers a b differ = go (nat_eq a b) refl where
  go : (is : Bool) → nat_eq a b ≡ is → nat_eq a b ≡ false
  go true is = absurd (differ (eqb-true a b is))
  go false is = is

-- two numbers are one where neither is less
tie_of : (a b : ℕ) → nat_eq b a ≡ not (is_lt (nat_cmp a b)) && not (is_lt (nat_cmp b a))
tie_of a b = go (nat_lt a b) (nat_lt b a) refl refl where
  go : (less more : Bool) → nat_lt a b ≡ less → nat_lt b a ≡ more → nat_eq b a ≡ not (is_lt (nat_cmp a b)) && not (is_lt (nat_cmp b a))
  go true more is is_more =
      let less = ltb-true a b is in
      rw (sym (nat_cmp_is a b Less less)) (other_numbers b a (λ same. omega (arith, same, less)))
  go false true is is_more =
      let more = ltb-true b a is_more in
      rw (sym (nat_cmp_is a b Greater more), sym (nat_cmp_is b a Less more)) (other_numbers b a (λ same. omega (arith, same, more)))
  go false false is is_more =
      let same : a ≡ b = omega (arith, ltb-false a b is, ltb-false b a is_more) in
      rw (sym (nat_cmp_is a b Equal same), sym (nat_cmp_is b a Equal (sym same))) (equal_numbers b a (sym same))

abbrev pub first_or : Edge → List Edge → Edge
first_or edge [] = edge
first_or edge (first ∷ others) = first

abbrev pub behind_first : List Edge → List Edge
behind_first [] = []
behind_first (first ∷ others) = others

module _ (number : Edge → ℕ) where
  -- none has a lesser number
  abbrev pub AreAtLeast : ℕ → List Edge → Type 0
  AreAtLeast n [] = ⊤
  AreAtLeast n (edge ∷ edges) = (n ≤ number edge) × AreAtLeast n edges

  -- the numbers do not fall
  abbrev pub Ascend : List Edge → Type 0
  Ascend [] = ⊤
  Ascend (edge ∷ edges) = AreAtLeast (number edge) edges × Ascend edges

  at_least_less : (n m : ℕ) → n ≤ m → (edges : List Edge) → AreAtLeast m edges → AreAtLeast n edges
  at_least_less n m less [] all = tt
  at_least_less n m less (edge ∷ edges) all = (omega (arith, less, all.0), at_least_less n m less edges all.1)

  at_least_inserted : (n : ℕ) (edge : Edge) → n ≤ number edge → (edges : List Edge) → AreAtLeast n edges → AreAtLeast n (inserted number edge edges)
  at_least_inserted n edge least [] all = (least, tt)
  at_least_inserted n edge least (first ∷ others) all = go (at_least_inserted n edge least others all.1) (nat_lt (number first) (number edge)) refl where
    go : AreAtLeast n (inserted number edge others) → (b : Bool) → nat_lt (number first) (number edge) ≡ b → AreAtLeast n (inserted number edge (first ∷ others))
    go rest true is = rw is (all.0, rest)
    go rest false is = rw is (least, all)

  inserted_ascend : (edge : Edge) (edges : List Edge) → Ascend edges → Ascend (inserted number edge edges)
  inserted_ascend edge [] up = (tt, tt)
  inserted_ascend edge (first ∷ others) up = go (inserted_ascend edge others up.1) (nat_lt (number first) (number edge)) refl where
    go : Ascend (inserted number edge others) → (b : Bool) → nat_lt (number first) (number edge) ≡ b → Ascend (inserted number edge (first ∷ others))
    go rest true is = rw is (at_least_inserted (number first) edge (omega (arith, ltb-true (number first) (number edge) is)) others up.0, rest)
    go rest false is =
        let least : number edge ≤ number first = ltb-false (number first) (number edge) is in
        rw is ((least, at_least_less (number edge) (number first) least others up.0), up)

  listed_ascend : (edges : List Edge) → Ascend (listed_by number edges)
  listed_ascend [] = tt
  listed_ascend (edge ∷ edges) = inserted_ascend edge (listed_by number edges) (listed_ascend edges)

  -- those with a number
  abbrev pub with_it : ℕ → List Edge → List Edge
  with_it n edges = filter (λ edge. nat_eq (number edge) n) edges

  passed : (n : ℕ) (edge : Edge) (edges : List Edge) → nat_eq (number edge) n ≡ true → with_it n (edge ∷ edges) ≡ edge ∷ with_it n edges
  passed n edge edges is = rw is refl

  left_out : (n : ℕ) (edge : Edge) (edges : List Edge) → nat_eq (number edge) n ≡ false → with_it n (edge ∷ edges) ≡ with_it n edges
  left_out n edge edges is = rw is refl

  inserted_with : (n : ℕ) (edge : Edge) (edges : List Edge) → with_it n (inserted number edge edges) ≡ with_it n (edge ∷ edges)
  inserted_with n edge [] = refl
  inserted_with n edge (first ∷ others) = go (inserted_with n edge others) (nat_lt (number first) (number edge)) (nat_eq (number first) n) (nat_eq (number edge) n) refl refl refl where
    go : with_it n (inserted number edge others) ≡ with_it n (edge ∷ others) → (less a b : Bool) → nat_lt (number first) (number edge) ≡ less → nat_eq (number first) n ≡ a → nat_eq (number edge) n ≡ b → with_it n (inserted number edge (first ∷ others)) ≡ with_it n (edge ∷ first ∷ others)
    go rest false a b is is_a is_b = rw is refl
    go rest true true true is is_a is_b = absurd (omega (arith, ltb-true (number first) (number edge) is, eqb-true (number first) n is_a, eqb-true (number edge) n is_b))
    go rest true true false is is_a is_b =
        rw is (passed n first (inserted number edge others) is_a ∙ ap (λ all. first ∷ all) (rest ∙ left_out n edge others is_b)
        ∙ sym (passed n first others is_a) ∙ sym (left_out n edge (first ∷ others) is_b))
    go rest true false true is is_a is_b =
        rw is (left_out n first (inserted number edge others) is_a ∙ rest ∙ passed n edge others is_b
        ∙ ap (λ all. edge ∷ all) (sym (left_out n first others is_a)) ∙ sym (passed n edge (first ∷ others) is_b))
    go rest true false false is is_a is_b =
        rw is (left_out n first (inserted number edge others) is_a ∙ rest ∙ left_out n edge others is_b
        ∙ sym (left_out n first others is_a) ∙ sym (left_out n edge (first ∷ others) is_b))

  listed_with : (n : ℕ) (edges : List Edge) → with_it n (listed_by number edges) ≡ with_it n edges
  listed_with n [] = refl
  listed_with n (edge ∷ edges) = inserted_with n edge (listed_by number edges) ∙ go (listed_with n edges) (nat_eq (number edge) n) refl where
    go : with_it n (listed_by number edges) ≡ with_it n edges → (b : Bool) → nat_eq (number edge) n ≡ b → with_it n (edge ∷ listed_by number edges) ≡ with_it n (edge ∷ edges)
    go rest true is = passed n edge (listed_by number edges) is ∙ ap (λ all. edge ∷ all) rest ∙ sym (passed n edge edges is)
    go rest false is = left_out n edge (listed_by number edges) is ∙ rest ∙ sym (left_out n edge edges is)

  below_none : (n m : ℕ) → n < m → (edges : List Edge) → AreAtLeast m edges → with_it n edges ≡ []
  below_none n m less [] all = refl
  below_none n m less (edge ∷ edges) all =
      left_out n edge edges (other_numbers (number edge) n (λ same. omega (arith, same, less, all.0))) ∙ below_none n m less edges all.1

  -- an edge with a number is among those with it
  among : (edge : Edge) (edges : List Edge) → with_it (number edge) (edge ∷ edges) ≡ [] → ⊥
  among edge edges none =
      let is = ap length (sym (passed (number edge) edge edges (equal_numbers (number edge) (number edge) refl)) ∙ none) in
      omega (arith, is)

  -- behind two edges with one number
  tails : (n : ℕ) (x y : Edge) (xs ys : List Edge) → with_it n (x ∷ xs) ≡ with_it n (y ∷ ys) → number x ≡ number y → (is : Bool) → nat_eq (number x) n ≡ is → with_it n xs ≡ with_it n ys
  tails n x y xs ys same equal true is =
      ap behind_first (sym (passed n x xs is) ∙ same ∙ passed n y ys (equal_numbers (number y) n (sym equal ∙ eqb-true (number x) n is)))
  tails n x y xs ys same equal false is =
      sym (left_out n x xs is) ∙ same ∙ left_out n y ys (other_numbers (number y) n (λ other. eqb-false (number x) n is (equal ∙ other)))

  -- edges whose numbers do not fall are told by those with each number
  unique : (xs ys : List Edge) → Ascend xs → Ascend ys → ((n : ℕ) → with_it n xs ≡ with_it n ys) → xs ≡ ys
  unique [] [] up_x up_y same = refl
  unique [] (y ∷ ys) up_x up_y same = absurd (among y ys (sym (same (number y))))
  unique (x ∷ xs) [] up_x up_y same = absurd (among x xs (same (number x)))
  unique (x ∷ xs) (y ∷ ys) up_x up_y same = go (unique xs ys up_x.1 up_y.1) (nat_lt (number x) (number y)) (nat_lt (number y) (number x)) refl refl where
    go : (((n : ℕ) → with_it n xs ≡ with_it n ys) → xs ≡ ys) → (less more : Bool) → nat_lt (number x) (number y) ≡ less → nat_lt (number y) (number x) ≡ more → x ∷ xs ≡ y ∷ ys
    go rest true more is is_more =
        let less = ltb-true (number x) (number y) is in
        absurd (among x xs (same (number x) ∙ below_none (number x) (number y) less (y ∷ ys) (omega arith, up_y.0)))
    go rest false true is is_more =
        let less = ltb-true (number y) (number x) is_more in
        absurd (among y ys (sym (same (number y)) ∙ below_none (number y) (number x) less (x ∷ xs) (omega arith, up_x.0)))
    go rest false false is is_more =
        let equal : number x ≡ number y = omega (arith, ltb-false (number x) (number y) is, ltb-false (number y) (number x) is_more) in
        let both = sym (passed (number x) x xs (equal_numbers (number x) (number x) refl)) ∙ same (number x) ∙ passed (number x) y ys (equal_numbers (number y) (number x) (sym equal)) in
        let others = rest (λ n. tails n x y xs ys (same n) equal (nat_eq (number x) n) refl) in
        (λ i. ap (first_or x) both i ∷ others i)

  at_least_from : (n : ℕ) (edges : List Edge) → ((j : ℕ) (d : Edge) → j < length edges → n ≤ number (slice_index_or edges j d)) → AreAtLeast n edges
  at_least_from n [] all = tt
  at_least_from n (edge ∷ edges) all = (all 0 edge (omega arith), at_least_from n edges (λ j d below. all (suc j) d (omega (arith, below))))

  ascend_from : (edges : List Edge) → IsNonDecreasingBy number edges → Ascend edges
  ascend_from [] up = tt
  ascend_from (edge ∷ edges) up = (
    at_least_from (number edge) edges (λ j d below. up 0 (suc j) d (omega arith) (omega (arith, below))),
    ascend_from edges (λ i j d order below. up (suc i) (suc j) d (omega (arith, order)) (omega (arith, below))),
  )

  -- what a stable sort by the number gives
  pub sorted_is_listed : (some : ℕ → Edge) → ((n : ℕ) → number (some n) ≡ n) → (before after : List Edge) → IsNonDecreasingBy number after → IsStableByKey number nat_cmp before after →
      after ≡ listed_by number before
  sorted_is_listed some is before after up stable =
      unique after (listed_by number before) (ascend_from after up) (listed_ascend before) (λ n. told n after ∙ stable (some n) ∙ sym (told n before) ∙ sym (listed_with n before)) where
        told : (n : ℕ) (edges : List Edge) → with_it n edges ≡ filter (ties (λ x y. is_lt (nat_cmp (number x) (number y))) (some n)) edges
        told n edges = filter_agree (λ edge. nat_eq (number edge) n) (ties (λ x y. is_lt (nat_cmp (number x) (number y))) (some n))
            (λ edge. ap (nat_eq (number edge)) (sym (is n)) ∙ tie_of (number (some n)) (number edge)) edges
