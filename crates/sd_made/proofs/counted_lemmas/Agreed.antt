-- Where names and numbers of a list's own containers stand for each other, an item has as many access nodes by the names as by the numbers.
use Rattle.std.proofs.Common.{◌≡◌, ◌∙◌, ℕ, List, [], ◌∷◌, ◌++◌, map, length, nat_eq, Bool, true, false, not, ◌&&◌, ◌||◌, if◌then◌else◌, bytes_eq, refl, ap, sym, arith}
use Rattle.std.specs.Bool.{Decides}
use Rattle.std.specs.List.{AllByRecursion, filter}
use Rattle.std.proofs.lemmas.List.Folds.{list_any-append}
use Rattle.std.proofs.lemmas.Slice.Eq.{bytes_eq-Decides}
use Rattle.sd_graph.specs.PlainTree.{KindTree}
use Rattle.sd_graph.specs.ContainerParts.{Containers}
use Rattle.sd_graph.specs.Wiring.{Use, has_number, kind_uses}
use Rattle.sd_graph.proofs.Among.{nat_eq_same}
use Rattle.sd_wire.specs.declared.wiring.access.Access.{Access}
use Rattle.sd_wire.specs.declared.wiring.access.Access.TheVariants.{Reads, Writes}
use Rattle.sd_wire.specs.wiring.Mentioned.{is_of, with_number, with_numbers, has_access}
use Rattle.sd_source.specs.nodes.Items.{Name}
use Rattle.sd_source.specs.nodes.Names.{is_among, noted_own}
use Rattle.sd_made.specs.counted.Drawn.{read_anew, written, current_behind}
use Rattle.sd_made.specs.counted.Counted.{more}
use Rattle.sd_made.proofs.counted_lemmas.Noted.{count, count_alike, noted, all_noted, has_noted, filtered_noted, Differ, is_new, noted_counted}

pub nat_eq-Decides : (m n : ℕ) → Decides (nat_eq m n) (m ≡ n)
nat_eq-Decides m n = (λ e. grind (arith, e), nat_eq_same m n)

-- ---- the numbers of an item

both_filters : (test other : ℕ → Bool) (numbers : List ℕ) → filter test (filter other numbers) ≡ filter (λ number. other number && test number) numbers
both_filters test other [] = refl
both_filters test other (number ∷ numbers) = by (other number) (both_filters test other numbers)
  where
    by : (is : Bool) → filter test (filter other numbers) ≡ filter (λ number. other number && test number) numbers →
        filter test (if is then number ∷ filter other numbers else filter other numbers)
        ≡ (if is && test number then number ∷ filter (λ number. other number && test number) numbers else filter (λ number. other number && test number) numbers)
    by true rest = ap (λ others. if test number then number ∷ others else others) rest
    by false rest = rest

numbers_noted : (known numbers : List ℕ) → with_numbers known numbers ≡ all_noted nat_eq nat_eq-Decides known numbers
numbers_noted known [] = refl
numbers_noted known (number ∷ numbers) = numbers_noted (with_number known number) numbers

abbrev containers_in : List Use → List ℕ
containers_in uses = map (λ use'. use'.container) uses

-- an item that does something to a container mentions it
one_use : (same swapped does : Bool) (rest others : Bool) → same ≡ swapped → (rest ≡ true → others ≡ true) → ((same && does) || rest) ≡ true → (swapped || others) ≡ true
one_use true true does rest others e so is = refl
one_use true false does rest others e so is = cc
one_use false true does rest others e so is = refl
one_use false false does rest others e so is = so is

same_number : (m n : ℕ) → nat_eq m n ≡ nat_eq n m
same_number m n = grind arith

pub mentions : (access : Access) (uses : List Use) (container : ℕ) → has_access access uses container ≡ true → has_number (containers_in uses) container ≡ true
mentions access [] container is = is
mentions access (use' ∷ uses) container is =
    one_use (nat_eq use'.container container) (nat_eq container use'.container) (is_of access use'.mode) (has_access access uses container) (has_number (containers_in uses) container)
    (same_number use'.container container) (mentions access uses container) is

-- the numbers that are mentioned and pass a test
numbers_passed : (test : ℕ → Bool) (uses : List Use) → filter test (with_numbers [] (containers_in uses)) ≡ noted nat_eq nat_eq-Decides test [] (containers_in uses)
numbers_passed test uses = ap (filter test) (numbers_noted [] (containers_in uses)) ∙ filtered_noted nat_eq nat_eq-Decides test [] (containers_in uses)

module _ (uses : List Use) (own : List ℕ) where
  abbrev reads_anew : (current : List ℕ) → ℕ → Bool
  reads_anew current number = (has_access Reads uses number && has_number own number) && not (has_number current number)

  abbrev writes_own : ℕ → Bool
  writes_own number = has_access Writes uses number && has_number own number

-- ---- the names of an item

names_noted : (own known names : List Name) → noted_own own known names ≡ noted bytes_eq bytes_eq-Decides (is_among own) known names
names_noted own known [] = refl
names_noted own known (name ∷ names) = names_noted own (if is_among own name then (if is_among known name then known else known ++ name ∷ []) else known) names

-- a name is noted where it is known, or is a list's own and one of the names
pub among_own : (own known names : List Name) (wanted : Name) → is_among (noted_own own known names) wanted ≡ (is_among known wanted || (is_among names wanted && is_among own wanted))
among_own own known names wanted =
    ap (λ names. is_among names wanted) (names_noted own known names) ∙ has_noted bytes_eq bytes_eq-Decides (is_among own) known names wanted

-- ---- tests that agree

-- an own container is read anew, by its number and by its name
agree_read : (xs does own current names own_names known : Bool) → (does ≡ true → xs ≡ true) → own ≡ true → own_names ≡ true → does ≡ names → current ≡ known →
    ((xs && ((does && own) && not current)) && true) ≡ ((names && own_names) && not known)
agree_read true true true true true true true so o n d c = refl
agree_read true true true false true true false so o n d c = refl
agree_read true false true current false true known so o n d c = refl
agree_read false false true current false true known so o n d c = refl
agree_read false true own current names own_names known so o n d c =
    let no : false ≡ true = so refl in
    cc
agree_read xs does own current names own_names known so o n d c = cc

-- and whether it is noted then
agree_noted : (xs does own names own_names : Bool) → (does ≡ true → xs ≡ true) → own ≡ true → own_names ≡ true → does ≡ names → (xs && (does && own)) ≡ (names && own_names)
agree_noted true true true true true so o n d = refl
agree_noted xs false true false true so o n d = by xs
  where
    by : (xs : Bool) → (xs && false) ≡ false
    by true = refl
    by false = refl
agree_noted false true own names own_names so o n d =
    let no : false ≡ true = so refl in
    cc
agree_noted xs does own names own_names so o n d = cc

-- which containers are current behind an item
agree_current : (current read written known names others : Bool) → read ≡ (names && not current) → written ≡ others → current ≡ known → ((current || read) || written) ≡ ((known || names) || others)
agree_current true read written true names others r w c = refl
agree_current false true written false true others r w c = refl
agree_current false false written false false others r w c = w
agree_current current read written known names others r w c = cc

-- ---- entries, each a name with a number

module _ {E : Type 0} (name_of : E → Name) (number_of : E → ℕ) where
  abbrev pub NumbersDiffer : List E → Type 0
  NumbersDiffer all = Differ nat_eq nat_eq-Decides number_of all

  abbrev pub NamesDiffer : List E → Type 0
  NamesDiffer all = Differ bytes_eq bytes_eq-Decides name_of all

  -- a list's own containers, by numbers and by names
  pub record IsOwn (all : List E) (own : List ℕ) (own_names : List Name) : Type 0 where
    pub numbers : (number : ℕ) → has_number own number ≡ has_number (map number_of all) number
    pub names : (name : Name) → is_among own_names name ≡ is_among (map name_of all) name
    pub numbers_differ : NumbersDiffer all
    pub names_differ : NamesDiffer all

  -- those with a current access node are the same
  abbrev pub AreCurrent : List E → (current : List ℕ) → (known : List Name) → Type 0
  AreCurrent all current known = AllByRecursion (λ entry. has_number current (number_of entry) ≡ is_among known (name_of entry)) all

  -- what is done to them by numbers is what is done to them by names
  abbrev pub DoAgree : List E → Access → List Use → List Name → Type 0
  DoAgree all access uses names = AllByRecursion (λ entry. has_access access uses (number_of entry) ≡ is_among names (name_of entry)) all

  one_first : (same rest : Bool) → same ≡ true → (same || rest) ≡ true
  one_first true rest is = refl
  one_first false rest is = cc

  one_later : (same rest : Bool) → rest ≡ true → (same || rest) ≡ true
  one_later true rest is = refl
  one_later false rest is = is

  all_later : {A : Type 0} (P Q : A → Type 0) (members : List A) → ((member : A) → P member → Q member) → AllByRecursion P members → AllByRecursion Q members
  all_later P Q [] so all = tt
  all_later P Q (member ∷ members) so all = (so member all.0, all_later P Q members so all.1)

  numbers_there : (all : List E) → AllByRecursion (λ entry. has_number (map number_of all) (number_of entry) ≡ true) all
  numbers_there [] = tt
  numbers_there (entry ∷ all) = (
    one_first (nat_eq (number_of entry) (number_of entry)) (has_number (map number_of all) (number_of entry)) (nat_eq_same (number_of entry) (number_of entry) refl),
    all_later (λ other. has_number (map number_of all) (number_of other) ≡ true) (λ other. has_number (map number_of (entry ∷ all)) (number_of other) ≡ true) all
        (λ other is. one_later (nat_eq (number_of other) (number_of entry)) (has_number (map number_of all) (number_of other)) is) (numbers_there all),
  )

  pub names_there : (all : List E) → AllByRecursion (λ entry. is_among (map name_of all) (name_of entry) ≡ true) all
  names_there [] = tt
  names_there (entry ∷ all) = (
    one_first (bytes_eq (name_of entry) (name_of entry)) (is_among (map name_of all) (name_of entry)) ((bytes_eq-Decides (name_of entry) (name_of entry)).1 refl),
    all_later (λ other. is_among (map name_of all) (name_of other) ≡ true) (λ other. is_among (map name_of (entry ∷ all)) (name_of other) ≡ true) all
        (λ other is. one_later (bytes_eq (name_of other) (name_of entry)) (is_among (map name_of all) (name_of other)) is) (names_there all),
  )

  module _ (all : List E) (own : List ℕ) (own_names : List Name) (is : IsOwn all own own_names) where
    abbrev AreOwn : List E → Type 0
    AreOwn members = AllByRecursion (λ entry. has_number own (number_of entry) ≡ true) members

    abbrev HaveNames : List E → Type 0
    HaveNames members = AllByRecursion (λ entry. is_among own_names (name_of entry) ≡ true) members

    are_own : AreOwn all
    are_own =
        all_later (λ entry. has_number (map number_of all) (number_of entry) ≡ true) (λ entry. has_number own (number_of entry) ≡ true) all (λ entry there. is.numbers (number_of entry) ∙ there) (numbers_there all)

    have_names : HaveNames all
    have_names =
        all_later (λ entry. is_among (map name_of all) (name_of entry) ≡ true) (λ entry. is_among own_names (name_of entry) ≡ true) all (λ entry there. is.names (name_of entry) ∙ there) (names_there all)

    -- how many are noted by their names
    names_counted : (known names : List Name) → more own_names known names ≡ count (is_new bytes_eq bytes_eq-Decides name_of (is_among own_names) all is.names_differ (λ name passes. sym (is.names name) ∙ passes) known names) all
    names_counted known names =
        let within : (name : Name) → is_among own_names name ≡ true → is_among (map name_of all) name ≡ true = λ name passes. sym (is.names name) ∙ passes in
        omega (
          arith,
          ap (λ (names : List Name). length names) (names_noted own_names known names),
          noted_counted bytes_eq bytes_eq-Decides name_of (is_among own_names) all is.names_differ within known names,
        )

    -- by their numbers, where a test asks for an own container
    module _ (test : ℕ → Bool) (within : (number : ℕ) → test number ≡ true → has_number (map number_of all) number ≡ true) where
      numbers_counted : (uses : List Use) → length (filter test (with_numbers [] (containers_in uses))) ≡ count (is_new nat_eq nat_eq-Decides number_of test all is.numbers_differ within [] (containers_in uses)) all
      numbers_counted uses =
          omega (
            arith,
            ap (λ (numbers : List ℕ). length numbers) (numbers_passed test uses),
            noted_counted nat_eq nat_eq-Decides number_of test all is.numbers_differ within [] (containers_in uses),
          )

    second_passes : (first second third : Bool) → ((first && second) && third) ≡ true → second ≡ true
    second_passes true true third e = refl
    second_passes true false third e = e
    second_passes false second third e = cc

    last_passes : (first second : Bool) → (first && second) ≡ true → second ≡ true
    last_passes true second e = e
    last_passes false second e = cc

    module _ (kind : KindTree) (containers : Containers) where
      abbrev uses : List Use
      uses = kind_uses kind containers

      read_is : (current : List ℕ) → read_anew kind containers own current ≡ filter (reads_anew uses own current) (with_numbers [] (containers_in uses))
      read_is current =
          ap (filter (λ container. not (has_number current container))) (both_filters (has_number own) (has_access Reads uses) (with_numbers [] (containers_in uses)))
          ∙ both_filters (λ container. not (has_number current container)) (λ number. has_access Reads uses number && has_number own number) (with_numbers [] (containers_in uses))

      written_is : written kind containers own ≡ filter (writes_own uses own) (with_numbers [] (containers_in uses))
      written_is = both_filters (has_number own) (has_access Writes uses) (with_numbers [] (containers_in uses))

      read_within : (current : List ℕ) (number : ℕ) → reads_anew uses own current number ≡ true → has_number (map number_of all) number ≡ true
      read_within current number passes = sym (is.numbers number) ∙ second_passes (has_access Reads uses number) (has_number own number) (not (has_number current number)) passes

      written_within : (number : ℕ) → writes_own uses own number ≡ true → has_number (map number_of all) number ≡ true
      written_within number passes = sym (is.numbers number) ∙ last_passes (has_access Writes uses number) (has_number own number) passes

      read_alike : (current : List ℕ) (known names : List Name) (members : List E) → AreOwn members → HaveNames members → AreCurrent members current known → DoAgree members Reads uses names →
          AllByRecursion
          (λ entry. ((has_number (containers_in uses) (number_of entry) && ((has_access Reads uses (number_of entry) && has_number own (number_of entry)) && not (has_number current (number_of entry)))) && true)
          ≡ ((is_among names (name_of entry) && is_among own_names (name_of entry)) && not (is_among known (name_of entry)))) members
      read_alike current known names [] owns named are agree = tt
      read_alike current known names (entry ∷ members) owns named are agree = (
        agree_read (has_number (containers_in uses) (number_of entry)) (has_access Reads uses (number_of entry)) (has_number own (number_of entry)) (has_number current (number_of entry))
            (is_among names (name_of entry)) (is_among own_names (name_of entry)) (is_among known (name_of entry)) (mentions Reads uses (number_of entry)) owns.0 named.0 agree.0 are.0,
        read_alike current known names members owns.1 named.1 are.1 agree.1,
      )

      pub read_same : (current : List ℕ) (known names : List Name) → AreCurrent all current known → DoAgree all Reads uses names → length (read_anew kind containers own current) ≡ more own_names known names
      read_same current known names are agree =
          ap (λ (numbers : List ℕ). length numbers) (read_is current) ∙ numbers_counted (reads_anew uses own current) (read_within current) uses
          ∙ count_alike _ _ all (read_alike current known names all are_own have_names are agree) ∙ sym (names_counted known names)

      written_alike : (names : List Name) (members : List E) → AreOwn members → HaveNames members → DoAgree members Writes uses names →
          AllByRecursion
          (λ entry. ((has_number (containers_in uses) (number_of entry) && (has_access Writes uses (number_of entry) && has_number own (number_of entry))) && true)
          ≡ ((is_among names (name_of entry) && is_among own_names (name_of entry)) && true)) members
      written_alike names [] owns named agree = tt
      written_alike names (entry ∷ members) owns named agree = (
        ap (λ noted. noted && true)
            (agree_noted (has_number (containers_in uses) (number_of entry)) (has_access Writes uses (number_of entry)) (has_number own (number_of entry))
            (is_among names (name_of entry)) (is_among own_names (name_of entry)) (mentions Writes uses (number_of entry)) owns.0 named.0 agree.0),
        written_alike names members owns.1 named.1 agree.1,
      )

      pub written_same : (names : List Name) → DoAgree all Writes uses names → length (written kind containers own) ≡ more own_names [] names
      written_same names agree =
          ap (λ (numbers : List ℕ). length numbers) written_is ∙ numbers_counted (writes_own uses own) written_within uses
          ∙ count_alike _ _ all (written_alike names all are_own have_names agree) ∙ sym (names_counted [] names)

      -- ---- what is current behind it

      has_read : (current : List ℕ) (number : ℕ) → has_number (read_anew kind containers own current) number ≡ (has_number (containers_in uses) number && reads_anew uses own current number)
      has_read current number =
          ap (λ (numbers : List ℕ). has_number numbers number) (read_is current ∙ numbers_passed (reads_anew uses own current) uses)
          ∙ has_noted nat_eq nat_eq-Decides (reads_anew uses own current) [] (containers_in uses) number

      has_written : (number : ℕ) → has_number (written kind containers own) number ≡ (has_number (containers_in uses) number && writes_own uses own number)
      has_written number =
          ap (λ (numbers : List ℕ). has_number numbers number) (written_is ∙ numbers_passed (writes_own uses own) uses)
          ∙ has_noted nat_eq nat_eq-Decides (writes_own uses own) [] (containers_in uses) number

      has_behind : (current : List ℕ) (number : ℕ) → has_number (current_behind kind containers own current) number
          ≡ ((has_number current number || has_number (read_anew kind containers own current) number) || has_number (written kind containers own) number)
      has_behind current number =
          list_any-append (nat_eq number) (current ++ read_anew kind containers own current) (written kind containers own)
          ∙ ap (λ first. first || has_number (written kind containers own) number) (list_any-append (nat_eq number) current (read_anew kind containers own current))

      known_behind : (known reads writes : List Name) (name : Name) → is_among (noted_own own_names (noted_own own_names known reads) writes) name
          ≡ ((is_among known name || (is_among reads name && is_among own_names name)) || (is_among writes name && is_among own_names name))
      known_behind known reads writes name =
          among_own own_names (noted_own own_names known reads) writes name
          ∙ ap (λ first. first || (is_among writes name && is_among own_names name)) (among_own own_names known reads name)

      read_there : (xs does own current names own_names : Bool) → (does ≡ true → xs ≡ true) → own ≡ true → own_names ≡ true → does ≡ names → (xs && ((does && own) && not current)) ≡ ((names && own_names) && not current)
      read_there true true true current true true so o n d = refl
      read_there true false true current false true so o n d = refl
      read_there false false true current false true so o n d = refl
      read_there false true own current names own_names so o n d =
          let no : false ≡ true = so refl in
          cc
      read_there xs does own current names own_names so o n d = cc

      current_alike : (current : List ℕ) (known reads writes : List Name) (members : List E) → AreOwn members → HaveNames members → AreCurrent members current known →
          DoAgree members Reads uses reads → DoAgree members Writes uses writes → AreCurrent members (current_behind kind containers own current) (noted_own own_names (noted_own own_names known reads) writes)
      current_alike current known reads writes [] owns named are read write = tt
      current_alike current known reads writes (entry ∷ members) owns named are read write =
          let number : ℕ = number_of entry in
          let name : Name = name_of entry in (
            has_behind current number
                ∙ agree_current (has_number current number) (has_number (read_anew kind containers own current) number) (has_number (written kind containers own) number) (is_among known name)
                (is_among reads name && is_among own_names name) (is_among writes name && is_among own_names name)
                (has_read current number ∙ read_there (has_number (containers_in uses) number) (has_access Reads uses number) (has_number own number) (has_number current number) (is_among reads name) (is_among own_names name)
                (mentions Reads uses number) owns.0 named.0 read.0)
                (has_written number ∙ agree_noted (has_number (containers_in uses) number) (has_access Writes uses number) (has_number own number) (is_among writes name) (is_among own_names name)
                (mentions Writes uses number) owns.0 named.0 write.0)
                are.0
                ∙ sym (known_behind known reads writes name),
            current_alike current known reads writes members owns.1 named.1 are.1 read.1 write.1,
          )

      pub current_same : (current : List ℕ) (known reads writes : List Name) → AreCurrent all current known → DoAgree all Reads uses reads → DoAgree all Writes uses writes →
          AreCurrent all (current_behind kind containers own current) (noted_own own_names (noted_own own_names known reads) writes)
      current_same current known reads writes are read write = current_alike current known reads writes all are_own have_names are read write
