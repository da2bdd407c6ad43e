-- Accesses that are clear of each other, put together from parts.
use Rattle.std.specs.List.{AllByRecursion, All, Contains}
use Rattle.std.specs.List.Sorted.{IsPermutation}
use Rattle.std.proofs.lemmas.Bool.{true≢false, eqb-true}
use Rattle.std.proofs.lemmas.List.{take-append-drop, take_all}
use Rattle.std.proofs.lemmas.List.Elements.{All-contains, All-push, Contains-append_cases}
use Rattle.std.proofs.lemmas.List.Sorted.{Contains-permutation}
use Rattle.std.proofs.Common.{◌≡◌, ◌⊎◌, inl, inr, ℕ, ◌+◌, ◌<◌, ◌≤◌, nat_eq, not, Bool, true, false, List, [], ◌∷◌, ◌++◌, Option, length, get_or, take, drop, map, append-nil, refl, ap, sym, ◌∙◌, subst}
use Rattle.sd_num.specs.declared.resolution.Resolution.{Resolution}
use Rattle.sd_range.proofs.Members.{Contains-nil, Contains-first, Contains-later, Contains-cases, Contains-from_map}
use Rattle.sd_subset.specs.boxes.Box.{Parameter, Box}
use Rattle.sd_subset.proofs.boxes_lemmas.Walks.{take-next}
use Rattle.sd_graph.specs.Mode.{Mode, Read, Write, Resolve, Push, Take, do_conflict, resolution_number}
use Rattle.sd_prop.specs.propagation.Accesses.{Access}
use Rattle.sd_prop.specs.propagation.Scopes.{Over, Scope}
use Rattle.sd_race.specs.race.Pairs.{IsAccepted, AreHarmlessOver, pair_of, pairs_among}
use Rattle.sd_race.specs.race.Race.{Race}
use Rattle.sd_race.specs.checking.Found.{IsFirstOf}
use Rattle.sd_race.specs.checking.Clear.{Encloses, AreElsewhere, DoAgree, AreClear, IsFrontClear}
use Rattle.sd_race.specs.declared.checking.placed.Placed.{Placed}
use Rattle.sd_race.proofs.race_lemmas.Members.{accepted-turned}
use Rattle.sd_race.proofs.checking_lemmas.Searching.{first_later}
use Rattle.sd_race.proofs.checking_lemmas.Enclosing.{harmless_over-within}

-- a member of a list is before a place or from it on
parted : {X : Type 0} (n : ℕ) (xs : List X) (x : X) → Contains xs x → Contains (take n xs) x ⊎ Contains (drop n xs) x
parted n xs x member = Contains-append_cases (take n xs) (drop n xs) x (subst (λ all. Contains all x) (sym (take-append-drop n xs)) member)

-- what holds of each so far, with one more
pub all-next : {X : Type 0} (P : X → Type 0) (xs : List X) (i : ℕ) (one : X) → i < length xs → one ≡ get_or xs i one → All P (take i xs) → P one → All P (take (i + 1) xs)
all-next P xs i one below is all here = subst (All P) (sym (take-next xs i one below is)) (All-push P (take i xs) one all here)

-- and of all
pub all-whole : {X : Type 0} (P : X → Type 0) (xs : List X) (i : ℕ) → length xs ≤ i → All P (take i xs) → All P xs
all-whole P xs i over all = subst (All P) (take_all i xs over) all

module _ (scope : Scope) where
  pub clear-parts : (n : ℕ) (some others : List Placed) → AreClear scope (take n some) others → AreClear scope (drop n some) others → AreClear scope some others
  clear-parts n some others front back one other member second = elim (parted n some one member) [
    | inl before ↦ front one other before second
    | inr behind ↦ back one other behind second
  ]

  pub clear-turned : (some others : List Placed) → AreClear scope some others → AreClear scope others some
  clear-turned some others clear one other member second = accepted-turned scope other.access.now one.access.now (clear other one second member)

  pub clear-other_parts : (n : ℕ) (some others : List Placed) → AreClear scope some (take n others) → AreClear scope some (drop n others) → AreClear scope some others
  clear-other_parts n some others front back one other member second = elim (parted n others other second) [
    | inl before ↦ front one other member before
    | inr behind ↦ back one other member behind
  ]

  pub clear-among : (n : ℕ) (items : List Placed) → AreClear scope (take n items) (take n items) → AreClear scope (drop n items) (drop n items) → AreClear scope (take n items) (drop n items) → AreClear scope items items
  clear-among n items front back between =
      clear-parts n items items
      (clear-other_parts n (take n items) items front between)
      (clear-other_parts n (drop n items) items (clear-turned (take n items) (drop n items) between) back)

  -- of two parts that are told otherwise
  pub clear-both : (n : ℕ) (items front back : List Placed) → front ≡ take n items → back ≡ drop n items → AreClear scope front front → AreClear scope back back → AreClear scope front back → AreClear scope items items
  clear-both n items front back is is' first second between =
      clear-among n items
      (subst (λ part. AreClear scope part part) is first)
      (subst (λ part. AreClear scope part part) is' second)
      (subst (λ part. AreClear scope (take n items) part) is' (subst (λ part. AreClear scope part back) is between))

  -- one access more
  pub clear-next : (some others : List Placed) (i : ℕ) (first : Placed) → i < length some → first ≡ get_or some i first → AreClear scope (take i some) others →
      All (λ other. IsAccepted (pair_of scope first.access.now other.access.now)) others → AreClear scope (take (i + 1) some) others
  clear-next some others i first below is clear accepted one other member second =
      elim (Contains-append_cases (take i some) (first ∷ []) one (subst (λ all. Contains all one) (take-next some i first below is) member)) [
        | inl before ↦ clear one other before second
        | inr here ↦ elim (Contains-cases first [] one here) [
          | inl same ↦ subst (λ (x : Placed). IsAccepted (pair_of scope x.access.now other.access.now)) same (All-contains (λ (x : Placed). IsAccepted (pair_of scope first.access.now x.access.now)) others other accepted second)
          | inr none ↦ absurd (Contains-nil one none)
        ]
      ]

  -- all of them
  pub clear-whole : (some others : List Placed) (i : ℕ) → length some ≤ i → AreClear scope (take i some) others → AreClear scope some others
  clear-whole some others i all clear = subst (λ part. AreClear scope part others) (take_all i some all) clear

  pub elsewhere-clear : (some others : List Placed) → AreElsewhere some others → AreClear scope some others
  elsewhere-clear some others elsewhere one other member second = λ same conflict. absurd (elsewhere one other member second same)

  pub agreed-clear : (some others : List Placed) → DoAgree some others → AreClear scope some others
  agreed-clear some others agree one other member second = λ same conflict. absurd (true≢false (sym conflict ∙ agree one other member second))

  -- what harmless boxes enclose
  pub enclosed-clear : (some others : List Placed) (whole beyond : Box) → All (λ (one : Placed). Encloses whole one.access.now.box) some → All (λ (one : Placed). Encloses beyond one.access.now.box) others →
      AreHarmlessOver scope.over scope.around whole beyond → AreClear scope some others
  enclosed-clear some others whole beyond enclosed enclosed' harmless one other member second = λ same conflict.
      harmless_over-within scope.over scope.around whole one.access.now.box beyond other.access.now.box
      (All-contains (λ (x : Placed). Encloses whole x.access.now.box) some one enclosed member)
      (All-contains (λ (x : Placed). Encloses beyond x.access.now.box) others other enclosed' second) harmless

-- either way
pub elsewhere-turned : (some others : List Placed) → AreElsewhere some others → AreElsewhere others some
elsewhere-turned some others elsewhere one other member second same = elsewhere other one second member (sym same)

not-false : (test : Bool) → not test ≡ false → test ≡ true
not-false true is = refl
not-false false is = cc

same_number : (m n : ℕ) → not (nat_eq m n) ≡ false → m ≡ n
same_number m n is = eqb-true m n (not-false (nat_eq m n) is)

same_resolution : (by also : Resolution) → resolution_number by ≡ resolution_number also → (other : Mode) → do_conflict (Resolve also) other ≡ do_conflict (Resolve by) other
same_resolution by also same Read = refl
same_resolution by also same Write = refl
same_resolution by also same (Resolve other) = ap (λ n. not (nat_eq n (resolution_number other))) (sym same)
same_resolution by also same Push = refl
same_resolution by also same Take = refl

-- a mode that agrees with another conflicts as it does
agreeing : (mode first : Mode) → do_conflict mode first ≡ false → (other : Mode) → do_conflict first other ≡ do_conflict mode other
agreeing Read Read is other = refl
agreeing Read Write is other = cc
agreeing Read (Resolve by) is other = cc
agreeing Read Push is other = cc
agreeing Read Take is other = cc
agreeing Write first is other = cc
agreeing (Resolve by) Read is other = cc
agreeing (Resolve by) Write is other = cc
agreeing (Resolve by) (Resolve also) is other = same_resolution by also (same_number (resolution_number by) (resolution_number also) is) other
agreeing (Resolve by) Push is other = cc
agreeing (Resolve by) Take is other = cc
agreeing Push Read is other = cc
agreeing Push Write is other = cc
agreeing Push (Resolve by) is other = cc
agreeing Push Push is other = refl
agreeing Push Take is other = cc
agreeing Take first is other = cc

-- modes that agree with one agree
pub agreed : (mode : Mode) (some others : List Placed) → All (λ (one : Placed). do_conflict mode one.access.now.mode ≡ false) some → All (λ (one : Placed). do_conflict mode one.access.now.mode ≡ false) others → DoAgree some others
agreed mode some others first then one other member second =
    agreeing mode one.access.now.mode (All-contains (λ (x : Placed). do_conflict mode x.access.now.mode ≡ false) some one first member) other.access.now.mode
    ∙ All-contains (λ (x : Placed). do_conflict mode x.access.now.mode ≡ false) others other then second

-- an access is in its place
found : (accesses : List Access) (some : List Placed) (one : Access) → IsPermutation accesses (map (λ (placed : Placed). placed.access.now) some) → Contains accesses one →
    (placed : Placed) × Contains some placed × (placed.access.now ≡ one)
found accesses some one placed member =
    Contains-from_map (λ (placed : Placed). placed.access.now) some one (Contains-permutation accesses (map (λ (placed : Placed). placed.access.now) some) one placed member)

-- accesses in another order are clear where they are
pub placed-clear : (scope : Scope) (accesses behind : List Access) (some others : List Placed) → IsPermutation accesses (map (λ (one : Placed). one.access.now) some) → IsPermutation behind (map (λ (one : Placed). one.access.now) others) →
    AreClear scope some some → AreClear scope some others → IsFrontClear scope accesses behind
placed-clear scope accesses behind some others placed placed' among between one other member second =
    let here = found accesses some one placed member in
    let known : (x : Access) → Contains accesses x → IsAccepted (pair_of scope one x) = λ x at.
    let there = found accesses some x placed at in
    subst (λ a. IsAccepted (pair_of scope a x)) here.2 (subst (λ a. IsAccepted (pair_of scope here.0.access.now a)) there.2 (among here.0 there.0 here.1 there.1)) in
    elim (Contains-append_cases accesses behind other second) [
      | inl before ↦ known other before
      | inr after ↦
          let there = found behind others other placed' after in
          subst (λ a. IsAccepted (pair_of scope a other)) here.2 (subst (λ a. IsAccepted (pair_of scope here.0.access.now a)) there.2 (between here.0 there.0 here.1 there.1))
    ]

-- each of these pairs is accepted
each-pair : (scope : Scope) (access : Access) (others : List Access) → ((other : Access) → Contains others other → IsAccepted (pair_of scope access other)) → AllByRecursion IsAccepted (map (pair_of scope access) others)
each-pair scope access [] each = tt
each-pair scope access (other ∷ others) each = (each other (Contains-first other others), each-pair scope access others (λ x at. each x (Contains-later other others x at)))

-- no race is at accesses that are clear, so the first is behind them
pub front_passed : (scope : Scope) (front behind : List Access) → IsFrontClear scope front behind → (race : Option Race) → IsFirstOf (pairs_among scope behind) race → IsFirstOf (pairs_among scope (front ++ behind)) race
front_passed scope [] behind clear race first = first
front_passed scope (access ∷ front) behind clear race first =
    first_later (map (pair_of scope access) (access ∷ (front ++ behind))) (pairs_among scope (front ++ behind)) race
    (each-pair scope access (access ∷ (front ++ behind)) (λ other at. clear access other (Contains-first access front) at))
    (front_passed scope front behind (λ one other member second. clear one other (Contains-later access front one member) (Contains-later access (front ++ behind) other second)) race first)

-- boxes that are harmless in one telling are so in another
pub harmless-told : (over over' : Over) (around around' : List Parameter) (box box' other other' : Box) → over ≡ over' → around ≡ around' → box ≡ box' → other ≡ other' → AreHarmlessOver over around box other → AreHarmlessOver over' around' box' other'
harmless-told over over' around around' box box' other other' is_over is_around is_box is_other harmless =
    subst (λ o. AreHarmlessOver o around' box' other') is_over (subst (λ a. AreHarmlessOver over a box' other') is_around (subst (λ b. AreHarmlessOver over around b other') is_box (subst (λ b. AreHarmlessOver over around box b) is_other harmless)))

-- and behind the first of two parts
pub part_passed : (scope : Scope) (n : ℕ) (left front behind : List Access) → front ≡ take n left → behind ≡ drop n left → IsFrontClear scope front behind → (race : Option Race) → IsFirstOf (pairs_among scope behind) race → IsFirstOf (pairs_among scope left) race
part_passed scope n left front behind is is' clear race first =
    subst (λ all. IsFirstOf (pairs_among scope all) race) (ap (λ part. part ++ behind) is ∙ ap (λ part. take n left ++ part) is' ∙ take-append-drop n left)
    (front_passed scope front behind clear race first)

-- and behind all
pub all_passed : (scope : Scope) (left none : List Access) → none ≡ [] → IsFrontClear scope left none → (race : Option Race) → IsFirstOf (pairs_among scope none) race → IsFirstOf (pairs_among scope left) race
all_passed scope left none is clear race first =
    subst (λ all. IsFirstOf (pairs_among scope all) race) (ap (λ part. left ++ part) is ∙ append-nil left) (front_passed scope left none clear race first)
