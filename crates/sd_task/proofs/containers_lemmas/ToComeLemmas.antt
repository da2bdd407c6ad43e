-- Names that are still to come when a container is declared.
use Rattle.std.proofs.Common.{◌≡◌, ◌∙◌, List, [], ◌∷◌, ◌++◌, map, Bool, true, false, ◌||◌, refl, ap, sym, subst, true≢false, bytes_eq}
use Rattle.std.specs.List.{AllByRecursion, IsDistinct, list_any}
use Rattle.std.specs.Cmp.Lexicographic.{nat_list_eq_equiv}
use Rattle.std.proofs.lemmas.List.{append_assoc}
use Rattle.std.proofs.lemmas.List.Folds.{list_any-append}
use Rattle.std.proofs.lemmas.Map.Keys.{IsDistinct-head, IsDistinct-tail}
use Rattle.std.proofs.lemmas.Map.Steps.{list_any_congr}
use Rattle.sd_graph.specs.TreeParts.{has_name}
use Rattle.sd_graph.specs.declared.container.Container.{Container}
use Rattle.sd_lex.specs.PlainTree.{Block}
use Rattle.sd_program.specs.Names.{Name}
use Rattle.sd_task.specs.containers.Declarations.{Containers, names_in_use}
use Rattle.sd_program.specs.DeclaredNames.{declared_names_all}
use Rattle.sd_task.specs.containers.NamesToCome.{AreToCome, Declares}
use Rattle.sd_task.proofs.containers_lemmas.ListLemmas.{neither, none_of_two, all_among}
use Rattle.sd_task.proofs.containers_lemmas.DeclaredLemmas.{names_joined_all}

-- ---- one more container

one_more_name : (containers : Containers) (name : Name) (container : Container) (other : Name) → has_name containers other ≡ false → bytes_eq other name ≡ false → has_name (containers ++ (name, container) ∷ []) other ≡ false
one_more_name [] name container other new apart = neither (bytes_eq other name) false apart refl
one_more_name (first ∷ containers) name container other new apart =
    let news = none_of_two (bytes_eq other first.0) (has_name containers other) new in
    neither (bytes_eq other first.0) (has_name (containers ++ (name, container) ∷ []) other) news.0 (one_more_name containers name container other news.1 apart)

others_new : (containers : Containers) (name : Name) (container : Container) (later : List Name) → AllByRecursion (λ other. bytes_eq name other ≡ false) later →
    AllByRecursion (λ other. has_name containers other ≡ false) later → AllByRecursion (λ other. has_name (containers ++ (name, container) ∷ []) other ≡ false) later
others_new containers name container [] apart new = tt
others_new containers name container (other ∷ later) apart new =
    (one_more_name containers name container other new.0 (nat_list_eq_equiv.symm other name ∙ apart.0), others_new containers name container later apart.1 new.1)

-- the first name to come is declared
pub one_declared : (declared : List Name) (before after : Containers) (name : Name) (container : Container) →
    (has_name before name ≡ false → after ≡ before ++ (name, container) ∷ []) → Declares declared before (name ∷ []) (before ++ (name, container) ∷ []) after
one_declared declared before after name container grown later come =
    let same : after ≡ before ++ (name, container) ∷ [] = grown come.new.0 in (
      same,
      subst (λ containers. AreToCome declared containers later) (sym same)
          (record {
            different = IsDistinct-tail bytes_eq name later come.different;
            declared_too = come.declared_too.1;
            new = others_new before name container later (IsDistinct-head bytes_eq name later come.different) come.new.1;
          }),
    )

-- a name that is not in use
apart_from_declared : (declared : List Name) (fresh : Name) (later : List Name) → list_any (bytes_eq fresh) declared ≡ false → AllByRecursion (λ other. list_any (bytes_eq other) declared ≡ true) later →
    AllByRecursion (λ other. bytes_eq fresh other ≡ false) later
apart_from_declared declared fresh [] new all = tt
apart_from_declared declared fresh (other ∷ later) new all = (by (bytes_eq fresh other) refl, apart_from_declared declared fresh later new all.1)
  where
    by : (test : Bool) → bytes_eq fresh other ≡ test → bytes_eq fresh other ≡ false
    by false apart = apart
    by true same = absurd (true≢false (sym all.0 ∙ sym (list_any_congr nat_list_eq_equiv fresh other declared same) ∙ new))

pub in_use_split : (declared : List Name) (containers : Containers) (name : Name) → list_any (bytes_eq name) (names_in_use declared containers) ≡ (list_any (bytes_eq name) declared || has_name containers name)
in_use_split declared containers name = list_any-append (bytes_eq name) declared (map (λ entry. entry.0) containers) ∙ ap (λ found. list_any (bytes_eq name) declared || found) (named containers)
  where
    named : (containers : Containers) → list_any (bytes_eq name) (map (λ entry. entry.0) containers) ≡ has_name containers name
    named [] = refl
    named (first ∷ containers) = ap (λ found. bytes_eq name first.0 || found) (named containers)

pub fresh_new : (declared : List Name) (containers : Containers) (fresh : Name) → list_any (bytes_eq fresh) (names_in_use declared containers) ≡ false → has_name containers fresh ≡ false
fresh_new declared containers fresh new = (none_of_two (list_any (bytes_eq fresh) declared) (has_name containers fresh) (sym (in_use_split declared containers fresh) ∙ new)).1

pub fresh_declared : (declared : List Name) (before after : Containers) (fresh : Name) (container : Container) → list_any (bytes_eq fresh) (names_in_use declared before) ≡ false →
    after ≡ before ++ (fresh, container) ∷ [] → Declares declared before [] (before ++ (fresh, container) ∷ []) after
fresh_declared declared before after fresh container new same later come =
    let news = none_of_two (list_any (bytes_eq fresh) declared) (has_name before fresh) (sym (in_use_split declared before fresh) ∙ new) in (
      same,
      subst (λ containers. AreToCome declared containers later) (sym same)
          (record {
            different = come.different;
            declared_too = come.declared_too;
            new = others_new before fresh container later (apart_from_declared declared fresh later news.0 come.declared_too) come.new;
          }),
    )

-- ---- a list of names, and then the names of a block

-- of a block behind others: with F the containers that it makes of those before it
pub declares_both : (declared : List Name) (before between after made : Containers) (first : List Name) (block : Block) (F : Containers → Containers) → Declares declared before first made between →
    Declares declared between (declared_names_all block []) (F between) after → Declares declared before (declared_names_all block first) (F made) after
declares_both declared before between after made first block F one other later come =
    let all : AreToCome declared before (first ++ (declared_names_all block [] ++ later)) =
    subst (AreToCome declared before) (ap (λ names. names ++ later) (names_joined_all block first) ∙ append_assoc first (declared_names_all block []) later) come in
    let here = one (declared_names_all block [] ++ later) all in
    let there = other later here.1 in
    (there.0 ∙ ap F here.0, there.1)

-- what is declared so far of a block, which is a statement and the rest here
pub declares_more : (declared : List Name) (before between after made : Containers) (names first : List Name) (block : Block) (F : Containers → Containers) (step : Containers → Containers) →
    ((later : List Name) → AreToCome declared before (names ++ later) → (F (step between) ≡ made) × AreToCome declared between (declared_names_all block first ++ later)) →
    Declares declared between first (step between) after →
    (later : List Name) → AreToCome declared before (names ++ later) → (F after ≡ made) × AreToCome declared after (declared_names_all block [] ++ later)
declares_more declared before between after made names first block F step so_far one later come =
    let here = so_far later come in
    let all : AreToCome declared between (first ++ (declared_names_all block [] ++ later)) =
    subst (AreToCome declared between) (ap (λ names. names ++ later) (names_joined_all block first) ∙ append_assoc first (declared_names_all block []) later) here.1 in
    let there = one (declared_names_all block [] ++ later) all in
    (ap F there.0 ∙ here.0, there.1)

-- ---- all names of a program

none_named : (names : List Name) → AllByRecursion (λ name. has_name [] name ≡ false) names
none_named [] = tt
none_named (name ∷ names) = (refl, none_named names)

pub all_to_come : (names : List Name) → IsDistinct bytes_eq names → AreToCome names [] names
all_to_come names different = record { different = different; declared_too = all_among names; new = none_named names }
