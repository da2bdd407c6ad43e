-- Members that are noted one after another, each of them once, are as many as those of a list that have one of their keys.
use Rattle.std.proofs.Common.{◌≡◌, ◌∙◌, ℕ, ◌+◌, List, [], ◌∷◌, ◌++◌, map, length, Bool, true, false, not, ◌&&◌, ◌||◌, if◌then◌else◌, refl, ap, sym, arith, length-append}
use Rattle.std.specs.Prelude.{⊤}
use Rattle.std.specs.Bool.{Decides}
use Rattle.std.specs.List.{AllByRecursion, filter, list_any}
use Rattle.std.proofs.lemmas.List.Folds.{list_any-append}
use Rattle.std.proofs.lemmas.List.Elements.{filter-append}
use Rattle.std.proofs.lemmas.Map.Views.{any-filter_same}

-- ---- counts

-- how many members pass a test
abbrev pub count : {A : Type 0} → (A → Bool) → List A → ℕ
count test [] = 0
count test (member ∷ members) = (if test member then 1 else 0) + count test members

pub count_alike : {A : Type 0} (test other : A → Bool) (members : List A) → AllByRecursion (λ member. test member ≡ other member) members → count test members ≡ count other members
count_alike test other [] alike = refl
count_alike test other (member ∷ members) alike = λ i. (if alike.0 i then 1 else 0) + count_alike test other members alike.1 i

count_none : {A : Type 0} (members : List A) (test : A → Bool) → ((member : A) → test member ≡ false) → count test members ≡ 0
count_none [] test none = refl
count_none (member ∷ members) test none = (λ i. (if none member i then 1 else 0) + count_none members test none i) ∙ omega arith

pub all_of_each : {A : Type 0} (P : A → Type 0) (members : List A) → ((member : A) → P member) → AllByRecursion P members
all_of_each P [] each = tt
all_of_each P (member ∷ members) each = (each member, all_of_each P members each)

-- ---- keys

module _ {K : Type 0} (same : K → K → Bool) (decides : (a b : K) → Decides (same a b) (a ≡ b)) where
  abbrev pub has : List K → K → Bool
  has keys key = list_any (same key) keys

  -- with one more key, unless it is there
  abbrev pub with_key : (known : List K) → K → List K
  with_key known key = if has known key then known else known ++ key ∷ []

  -- with those of these keys that pass a test
  abbrev pub noted : (test : K → Bool) → (known : List K) → List K → List K
  noted test known [] = known
  noted test known (key ∷ keys) = noted test (if test key then with_key known key else known) keys

  itself : (key : K) → same key key ≡ true
  itself key = (decides key key).1 refl

  -- two keys are the same in either order
  other_way : (a b : K) → same a b ≡ false → same b a ≡ false
  other_way a b differ = by (same b a) refl
    where
      by : (is : Bool) → same b a ≡ is → is ≡ false
      by true e =
          let found : same a b ≡ true = (decides a b).1 (sym ((decides b a).0 e)) in
          sym found ∙ differ
      by false e = refl

  -- ---- which keys are noted

  has_one : (is_there : Bool) (known : List K) (key wanted : K) → has known key ≡ is_there → has (if is_there then known else known ++ key ∷ []) wanted ≡ (has known wanted || same wanted key)
  has_one true known key wanted there = by (same wanted key) refl
    where
      or_false : (test : Bool) → test ≡ (test || false)
      or_false true = refl
      or_false false = refl

      or_true : (test : Bool) → test ≡ true → test ≡ (test || true)
      or_true true is = refl
      or_true false is = cc

      by : (is : Bool) → same wanted key ≡ is → has known wanted ≡ (has known wanted || is)
      by true e = or_true (has known wanted) (ap (λ key. has known key) ((decides wanted key).0 e) ∙ there)
      by false e = or_false (has known wanted)
  has_one false known key wanted there = list_any-append (same wanted) known (key ∷ []) ∙ ap (λ last. has known wanted || last) (or_none (same wanted key))
    where
      or_none : (test : Bool) → (test || false) ≡ test
      or_none true = refl
      or_none false = refl

  has_step : (passes : Bool) (test : K → Bool) (known : List K) (key wanted : K) → test key ≡ passes →
      has (if passes then with_key known key else known) wanted ≡ (has known wanted || (same wanted key && test wanted))
  has_step true test known key wanted passes = has_one (has known key) known key wanted refl ∙ ap (λ found. has known wanted || found) (by (same wanted key) refl)
    where
      by : (is : Bool) → same wanted key ≡ is → is ≡ (is && test wanted)
      by true e = sym (ap test ((decides wanted key).0 e) ∙ passes)
      by false e = refl
  has_step false test known key wanted passes = by (same wanted key) (has known wanted) refl
    where
      by : (is there : Bool) → same wanted key ≡ is → there ≡ (there || (is && test wanted))
      by is true e = refl
      by true false e = sym (ap test ((decides wanted key).0 e) ∙ passes)
      by false false e = refl

  joined_tests : (known first rest passes : Bool) → ((known || (first && passes)) || (rest && passes)) ≡ (known || ((first || rest) && passes))
  joined_tests true first rest passes = refl
  joined_tests false true rest true = refl
  joined_tests false true true false = refl
  joined_tests false true false false = refl
  joined_tests false false rest passes = refl

  pub has_noted : (test : K → Bool) (known keys : List K) (wanted : K) → has (noted test known keys) wanted ≡ (has known wanted || (has keys wanted && test wanted))
  has_noted test known [] wanted = by (has known wanted)
    where
      by : (there : Bool) → there ≡ (there || false)
      by true = refl
      by false = refl
  has_noted test known (key ∷ keys) wanted =
      has_noted test (if test key then with_key known key else known) keys wanted
      ∙ ap (λ found. found || (has keys wanted && test wanted)) (has_step (test key) test known key wanted refl)
      ∙ joined_tests (has known wanted) (same wanted key) (has keys wanted) (test wanted)

  -- ---- those of all keys that pass a test

  filtered_step : (passes is_there : Bool) (test : K → Bool) (known : List K) (key : K) → test key ≡ passes → has known key ≡ is_there →
      filter test (if is_there then known else known ++ key ∷ []) ≡ (if passes then with_key (filter test known) key else filter test known)
  filtered_step true true test known key passes there =
      let found : has (filter test known) key ≡ true = any-filter_same (same key) test true (λ other e. sym (ap test ((decides key other).0 e)) ∙ passes) known ∙ there in
      rw found refl
  filtered_step true false test known key passes there =
      let found : has (filter test known) key ≡ false = any-filter_same (same key) test true (λ other e. sym (ap test ((decides key other).0 e)) ∙ passes) known ∙ there in
      rw found (filter-append test known (key ∷ []) ∙ ap (λ kept. filter test known ++ (if kept then key ∷ [] else [])) passes)
  filtered_step false true test known key passes there = refl
  filtered_step false false test known key passes there =
      filter-append test known (key ∷ []) ∙ ap (λ kept. filter test known ++ (if kept then key ∷ [] else [])) passes ∙ nothing (filter test known)
    where
      nothing : (keys : List K) → keys ++ [] ≡ keys
      nothing [] = refl
      nothing (key ∷ keys) = ap (λ rest. key ∷ rest) (nothing keys)

  abbrev pub all_noted : (known : List K) → List K → List K
  all_noted known [] = known
  all_noted known (key ∷ keys) = all_noted (with_key known key) keys

  pub filtered_noted : (test : K → Bool) (known keys : List K) → filter test (all_noted known keys) ≡ noted test (filter test known) keys
  filtered_noted test known [] = refl
  filtered_noted test known (key ∷ keys) =
      filtered_noted test (with_key known key) keys ∙ ap (λ known. noted test known keys) (filtered_step (test key) (has known key) test known key refl refl)

  -- ---- how many are noted

  module _ {E : Type 0} (key_of : E → K) where
    -- no two members have one key
    abbrev pub Differ : List E → Type 0
    Differ [] = ⊤
    Differ (member ∷ members) = AllByRecursion (λ other. same (key_of other) (key_of member) ≡ false) members × Differ members

    -- two tests that differ at one member alone
    module _ (test other : E → Bool) (key : K) (at_it : (member : E) → same (key_of member) key ≡ true → (test member ≡ true) × (other member ≡ false))
        (elsewhere : (member : E) → same (key_of member) key ≡ false → test member ≡ other member) where
      others_alike : (member : E) (members : List E) → same (key_of member) key ≡ true → AllByRecursion (λ other. same (key_of other) (key_of member) ≡ false) members →
          AllByRecursion (λ member. test member ≡ other member) members
      others_alike member [] is differ = tt
      others_alike member (next ∷ members) is differ =
          (elsewhere next (sym (ap (λ key. same (key_of next) key) ((decides (key_of member) key).0 is)) ∙ differ.0), others_alike member members is differ.1)

      one_more : (members : List E) → Differ members → has (map key_of members) key ≡ true → count test members ≡ 1 + count other members
      one_more [] differ there = cc
      one_more (member ∷ members) differ there = by (same (key_of member) key) refl (one_more members differ.1)
        where
          by : (is : Bool) → same (key_of member) key ≡ is → (has (map key_of members) key ≡ true → count test members ≡ 1 + count other members) →
              (if test member then 1 else 0) + count test members ≡ 1 + ((if other member then 1 else 0) + count other members)
          by true is rest =
              let here : (test member ≡ true) × (other member ≡ false) = at_it member is in
              rw (here.0, here.1, count_alike test other members (others_alike member members is differ.0)) (omega arith)
          by false is rest =
              let none : same key (key_of member) ≡ false = other_way (key_of member) key is in
              let later : has (map key_of members) key ≡ true = sym (ap (λ first. first || has (map key_of members) key) none) ∙ there in
              let alike : test member ≡ other member = elsewhere member is in
              rw alike (omega (arith, rest later))

    module _ (test : K → Bool) (all : List E) (differ : Differ all) (within : (key : K) → test key ≡ true → has (map key_of all) key ≡ true) where
      -- of the members of all those whose keys are noted anew
      abbrev pub is_new : (known keys : List K) → E → Bool
      is_new known keys member = (has keys (key_of member) && test (key_of member)) && not (has known (key_of member))

      step : (passes is_there : Bool) (known : List K) (key : K) (keys : List K) → test key ≡ passes → has known key ≡ is_there →
          length known + count (is_new known (key ∷ keys)) all
          ≡ length (if passes then (if is_there then known else known ++ key ∷ []) else known) + count (is_new (if passes then (if is_there then known else known ++ key ∷ []) else known) keys) all
      step false is_there known key keys passes there = ap (λ more. length known + more) (count_alike (is_new known (key ∷ keys)) (is_new known keys) all (all_of_each _ all alike))
        where
          by : (is rest : Bool) (member : E) → same (key_of member) key ≡ is → (((is || rest) && test (key_of member)) && not (has known (key_of member))) ≡ ((rest && test (key_of member)) && not (has known (key_of member)))
          by true rest member e =
              let fails : test (key_of member) ≡ false = ap test ((decides (key_of member) key).0 e) ∙ passes in
              rw fails (none rest)
            where
              none : (rest : Bool) → false ≡ ((rest && false) && not (has known (key_of member)))
              none true = refl
              none false = refl
          by false rest member e = refl

          alike : (member : E) → is_new known (key ∷ keys) member ≡ is_new known keys member
          alike member = by (same (key_of member) key) (has keys (key_of member)) member refl
      step true true known key keys passes there = ap (λ more. length known + more) (count_alike (is_new known (key ∷ keys)) (is_new known keys) all (all_of_each _ all alike))
        where
          by : (is rest : Bool) (member : E) → same (key_of member) key ≡ is → (((is || rest) && test (key_of member)) && not (has known (key_of member))) ≡ ((rest && test (key_of member)) && not (has known (key_of member)))
          by true rest member e =
              let is_known : has known (key_of member) ≡ true = ap (λ key. has known key) ((decides (key_of member) key).0 e) ∙ there in
              rw is_known (none (test (key_of member)) (rest && test (key_of member)))
            where
              none : (first second : Bool) → (first && false) ≡ (second && false)
              none true true = refl
              none true false = refl
              none false true = refl
              none false false = refl
          by false rest member e = refl

          alike : (member : E) → is_new known (key ∷ keys) member ≡ is_new known keys member
          alike member = by (same (key_of member) key) (has keys (key_of member)) member refl
      step true false known key keys passes there =
          omega (arith, length-append known (key ∷ []), one_more (is_new known (key ∷ keys)) (is_new (known ++ key ∷ []) keys) key at_it elsewhere all differ (within key passes))
        where
          now_has : (member : E) → has (known ++ key ∷ []) (key_of member) ≡ (has known (key_of member) || same (key_of member) key)
          now_has member = has_one false known key (key_of member) there

          at_it : (member : E) → same (key_of member) key ≡ true → (is_new known (key ∷ keys) member ≡ true) × (is_new (known ++ key ∷ []) keys member ≡ false)
          at_it member e =
              let it : key_of member ≡ key = (decides (key_of member) key).0 e in
              let does_pass : test (key_of member) ≡ true = ap test it ∙ passes in
              let is_known : has known (key_of member) ≡ false = ap (λ key. has known key) it ∙ there in
              let is_now : has (known ++ key ∷ []) (key_of member) ≡ true = now_has member ∙ ap (λ first. first || same (key_of member) key) is_known ∙ e in
              (rw (e, does_pass, is_known) refl, ap (λ found. (has keys (key_of member) && test (key_of member)) && not found) is_now ∙ none (has keys (key_of member) && test (key_of member)))
            where
              none : (first : Bool) → (first && false) ≡ false
              none true = refl
              none false = refl

          elsewhere : (member : E) → same (key_of member) key ≡ false → is_new known (key ∷ keys) member ≡ is_new (known ++ key ∷ []) keys member
          elsewhere member e =
              let is_now : has (known ++ key ∷ []) (key_of member) ≡ has known (key_of member) =
              now_has member ∙ ap (λ last. has known (key_of member) || last) e ∙ or_none (has known (key_of member)) in
              ap (λ found. ((found || has keys (key_of member)) && test (key_of member)) && not (has known (key_of member))) e
              ∙ ap (λ found. (has keys (key_of member) && test (key_of member)) && not found) (sym is_now)
            where
              or_none : (test : Bool) → (test || false) ≡ test
              or_none true = refl
              or_none false = refl

      pub noted_counted : (known keys : List K) → length (noted test known keys) ≡ length known + count (is_new known keys) all
      noted_counted known [] = omega (arith, count_none all (is_new known []) (λ member. refl))
      noted_counted known (key ∷ keys) =
          noted_counted (if test key then with_key known key else known) keys ∙ sym (step (test key) (has known key) known key keys refl refl)
