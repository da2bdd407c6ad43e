-- Names in lists.
use Rattle.std.proofs.Common.{◌≡◌, ◌∙◌, List, [], ◌∷◌, ◌++◌, Bool, true, false, ◌||◌, refl, bytes_eq}
use Rattle.std.specs.List.{AllByRecursion, IsDistinct, list_any}
use Rattle.std.specs.Cmp.Lexicographic.{nat_list_eq_equiv}
use Rattle.std.proofs.lemmas.Slice.Eq.{bytes_eq-Decides}
use Rattle.std.proofs.lemmas.Map.Keys.{IsDistinct-head, IsDistinct-tail}
use Rattle.sd_program.specs.Names.{Name}

pub neither : (first second : Bool) → first ≡ false → second ≡ false → (first || second) ≡ false
neither false second one other = other
neither true second one other = cc

pub none_of_two : (first second : Bool) → (first || second) ≡ false → (first ≡ false) × (second ≡ false)
none_of_two false second none = (refl, none)
none_of_two true second none = cc

pub second_of_two : (first second : Bool) → second ≡ true → (first || second) ≡ true
second_of_two false second holds = holds
second_of_two true second holds = refl

pub bytes_same : (left right : Name) → bytes_eq left right ≡ true → left ≡ right
bytes_same left right = (bytes_eq-Decides left right).0

-- names of which one is not the other
pub bytes_apart : (left right : Name) → (left ≡ right → ⊥) → bytes_eq left right ≡ false
bytes_apart left right apart = by (bytes_eq left right) refl
  where
    by : (test : Bool) → bytes_eq left right ≡ test → bytes_eq left right ≡ false
    by true same = absurd (apart (bytes_same left right same))
    by false other = other

-- each name of a list is one of it
among_more : (first : Name) (names some : List Name) → AllByRecursion (λ name. list_any (bytes_eq name) names ≡ true) some → AllByRecursion (λ name. list_any (bytes_eq name) (first ∷ names) ≡ true) some
among_more first names [] all = tt
among_more first names (name ∷ some) all = (second_of_two (bytes_eq name first) (list_any (bytes_eq name) names) all.0, among_more first names some all.1)

first_of_two : (first second : Bool) → first ≡ true → (first || second) ≡ true
first_of_two true second holds = refl
first_of_two false second holds = cc

pub all_among : (names : List Name) → AllByRecursion (λ name. list_any (bytes_eq name) names ≡ true) names
all_among [] = tt
all_among (name ∷ names) = (first_of_two (bytes_eq name name) (list_any (bytes_eq name) names) (nat_list_eq_equiv.refl name), among_more name names names (all_among names))

-- in a list of names that are all different, a name is none of those before it
apart_from : (first name : Name) (front rest : List Name) → AllByRecursion (λ other. bytes_eq first other ≡ false) (front ++ name ∷ rest) → bytes_eq name first ≡ false
apart_from first name [] rest all = nat_list_eq_equiv.symm name first ∙ all.0
apart_from first name (other ∷ front) rest all = apart_from first name front rest all.1

pub none_before : (front : List Name) (name : Name) (rest : List Name) → IsDistinct bytes_eq (front ++ name ∷ rest) → list_any (bytes_eq name) front ≡ false
none_before [] name rest different = refl
none_before (first ∷ front) name rest different =
    neither (bytes_eq name first) (list_any (bytes_eq name) front) (apart_from first name front rest (IsDistinct-head bytes_eq first (front ++ name ∷ rest) different))
    (none_before front name rest (IsDistinct-tail bytes_eq first (front ++ name ∷ rest) different))
