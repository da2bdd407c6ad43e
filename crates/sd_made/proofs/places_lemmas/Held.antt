-- Names in force stand for containers that are there and are what the source knows of them, and for variables in force.
use Rattle.std.proofs.Common.{◌≡◌, ◌∙◌, ◌⊎◌, inl, inr, ℕ, ◌+◌, ◌<◌, ◌≤◌, List, [], ◌∷◌, ◌++◌, length, Option, Some, Bool, true, false, cond, nat_eq, refl, subst, arith, bytes_eq}
use Rattle.std.proofs.lemmas.List.Folds.{list_any-append}
use Rattle.sd_lex.specs.PlainTree.{Dimension}
use Rattle.sd_graph.specs.PlainTree.{GraphTree}
use Rattle.sd_graph.specs.ContainerParts.{Containers, container_at, is_stream}
use Rattle.sd_graph.specs.InForce.{IsInForce}
use Rattle.sd_graph.specs.Wiring.{has_number}
use Rattle.sd_graph.specs.declared.container.Container.{Container}
use Rattle.sd_graph.proofs.Among.{nat_eq_same, or_first, or_second}
use Rattle.sd_program.specs.Names.{Name, Named, in_force}
use Rattle.sd_program.specs.Place.{Holder, of_dimensions, of_values}
use Rattle.sd_task.specs.in_force.Names.{with_numbered}
use Rattle.sd_task.specs.in_force.Ranges.{parameters_of}
use Rattle.sd_validity.specs.rules.GraphParts.{variables_of, symbols_in}
use Rattle.sd_validity.specs.rules.Places.{param_numbers}

-- ---- containers

-- an array of so many dimensions, or a stream; where no extent is written an array has one all the same
abbrev pub IsOf : Holder → Container → Type 0
IsOf (of_dimensions count) container = (is_stream container.kind ≡ false) × (1 ≤ count → length container.extents ≡ count)
IsOf of_values container = (is_stream container.kind ≡ true) × (container.extents ≡ [])

-- the container of a number is in force and what is known of it
abbrev pub IsHeld : Containers → (private : List ℕ) → Holder → (container : ℕ) → Type 0
IsHeld all private holder container = IsInForce all private container × IsOf holder (container_at all container)

-- so it is of each name in force
abbrev pub AreHeld : Containers → (private : List ℕ) → (known : Named Holder) → (numbers : Named ℕ) → Type 0
AreHeld all private known numbers =
    (name : Name) (holder : Holder) → in_force known name ≡ Some holder → (container : ℕ) × (in_force numbers name ≡ Some container) × IsHeld all private holder container

pub none_held : (all : Containers) (private : List ℕ) → AreHeld all private [] []
none_held all private name holder e = cc

held_first : (all : Containers) (private : List ℕ) (same : Bool) (first holder : Holder) (known : Option Holder) (container : ℕ) (numbers : Option ℕ) → IsHeld all private first container →
    (known ≡ Some holder → (found : ℕ) × (numbers ≡ Some found) × IsHeld all private holder found) → cond same (Some first) known ≡ Some holder →
    (found : ℕ) × (cond same (Some container) numbers ≡ Some found) × IsHeld all private holder found
held_first all private true first holder known container numbers held others e =
    let same : Some first ≡ Some holder = e in
    (container, refl, subst (λ holder. IsHeld all private holder container) (inside first holder same) held)
  where
    inside : (first holder : Holder) → Some first ≡ Some holder → first ≡ holder
    inside first holder e = cc
held_first all private false first holder known container numbers held others e = others e

-- one more name
pub one_more_held : (all : Containers) (private : List ℕ) (known : Named Holder) (numbers : Named ℕ) (name : Name) (holder : Holder) (container : ℕ) → IsHeld all private holder container →
    AreHeld all private known numbers → AreHeld all private ((name, holder) ∷ known) ((name, container) ∷ numbers)
one_more_held all private known numbers name holder container held are other wanted e =
    held_first all private (bytes_eq other name) holder wanted (in_force known other) container (in_force numbers other) held (are other wanted) e

either_in_force : (all : Containers) (inner outer : List ℕ) (container : ℕ) → ((container : ℕ) → has_number outer container ≡ true → has_number inner container ≡ true) →
    IsInForce all outer container → IsInForce all inner container
either_in_force all inner outer container more (there, inl whole) = (there, inl whole)
either_in_force all inner outer container more (there, inr inside) = (there, inr (more container inside))

-- so it is where more private containers are in force
pub held_inside : (all : Containers) (inner outer : List ℕ) (known : Named Holder) (numbers : Named ℕ) → ((container : ℕ) → has_number outer container ≡ true → has_number inner container ≡ true) →
    AreHeld all outer known numbers → AreHeld all inner known numbers
held_inside all inner outer known numbers more are name holder e =
    let found : (container : ℕ) × (in_force numbers name ≡ Some container) × IsHeld all outer holder container = are name holder e in
    (found.0, found.1, (either_in_force all inner outer found.0 more found.2.0, found.2.1))

-- ---- lists of numbers

pub in_first : (own private : List ℕ) (number : ℕ) → has_number own number ≡ true → has_number (own ++ private) number ≡ true
in_first own private number e = list_any-append (nat_eq number) own private ∙ or_first (has_number own number) (has_number private number) e

pub in_second : (own private : List ℕ) (number : ℕ) → has_number private number ≡ true → has_number (own ++ private) number ≡ true
in_second own private number e = list_any-append (nat_eq number) own private ∙ or_second (has_number own number) (has_number private number) e

pub has_first : (number : ℕ) (others : List ℕ) → has_number (number ∷ others) number ≡ true
has_first number others = or_first (nat_eq number number) (has_number others number) (nat_eq_same number number refl)

-- ---- variables

-- the graph has the variable, which is a size symbol, a parameter of a scope here, or one of the loops here
abbrev pub IsVariable : GraphTree → (params loops : List ℕ) → (variable : ℕ) → Type 0
IsVariable tree params loops variable =
    (variable < length (variables_of tree)) × ((variable < symbols_in tree) ⊎ ((has_number params variable ≡ true) ⊎ (has_number loops variable ≡ true)))

abbrev pub AreVariables : GraphTree → (params loops : List ℕ) → Named ℕ → Type 0
AreVariables tree params loops numbers = (name : Name) (variable : ℕ) → in_force numbers name ≡ Some variable → IsVariable tree params loops variable

-- so it is where more parameters and loops are about
either_variable : (tree : GraphTree) (params inner loops further : List ℕ) (variable : ℕ) → ((number : ℕ) → has_number params number ≡ true → has_number inner number ≡ true) →
    ((number : ℕ) → has_number loops number ≡ true → has_number further number ≡ true) → IsVariable tree params loops variable → IsVariable tree inner further variable
either_variable tree params inner loops further variable more longer (there, inl symbol) = (there, inl symbol)
either_variable tree params inner loops further variable more longer (there, inr (inl param)) = (there, inr (inl (more variable param)))
either_variable tree params inner loops further variable more longer (there, inr (inr loop)) = (there, inr (inr (longer variable loop)))

pub variables_inside : (tree : GraphTree) (params inner loops further : List ℕ) (numbers : Named ℕ) → ((number : ℕ) → has_number params number ≡ true → has_number inner number ≡ true) →
    ((number : ℕ) → has_number loops number ≡ true → has_number further number ≡ true) → AreVariables tree params loops numbers → AreVariables tree inner further numbers
variables_inside tree params inner loops further numbers more longer are name variable e = either_variable tree params inner loops further variable more longer (are name variable e)

-- what one of more names stands for is one of their numbers, or it is an earlier name
one_numbered : (same : Bool) (next number : ℕ) (count : ℕ) (known : Option ℕ) → cond same (Some next) known ≡ Some number → ((next ≤ number) × (number < next + (count + 1))) ⊎ (known ≡ Some number)
one_numbered true next number count known e =
    let same : next ≡ number = inside next number e in
    inl (omega (arith, same), omega (arith, same))
  where
    inside : (next number : ℕ) → Some next ≡ Some number → next ≡ number
    inside next number e = cc
one_numbered false next number count known e = inr e

pub numbered : (names : List Name) (next : ℕ) (known : Named ℕ) (name : Name) (number : ℕ) → in_force (with_numbered names next known) name ≡ Some number →
    ((next ≤ number) × (number < next + length names)) ⊎ (in_force known name ≡ Some number)
numbered [] next known name number e = inr e
numbered (first ∷ names) next known name number e = elim (numbered names (next + 1) ((first, next) ∷ known) name number e) [
  | inl within ↦ inl (omega (arith, within.0), omega (arith, within.1))
  | inr earlier ↦ elim (one_numbered (bytes_eq name first) next number (length names) (in_force known name) earlier) [
    | inl own ↦ inl (own.0, omega (arith, own.1))
    | inr known ↦ inr known
  ]
]

-- the parameters of a map have its ranges' numbers
one_param : (rest : List ℕ) (first number : ℕ) (same : Bool) → nat_eq number first ≡ same → first ≤ number → (first + 1 ≤ number → has_number rest number ≡ true) → has_number (first ∷ rest) number ≡ true
one_param rest first number true e least later = or_first (nat_eq number first) (has_number rest number) e
one_param rest first number false e least later =
    let other : first + 1 ≤ number = grind (arith, e, least) in
    or_second (nat_eq number first) (has_number rest number) (later other)

pub are_params : (ranges : List Dimension) (variables : Named ℕ) (first number : ℕ) → first ≤ number → number < first + length ranges → has_number (param_numbers (parameters_of variables ranges first)) number ≡ true
are_params [] variables first number least most = absurd (omega (arith, least, most))
are_params (range ∷ ranges) variables first number least most =
    one_param (param_numbers (parameters_of variables ranges (first + 1))) first number (nat_eq number first) refl least (λ other. are_params ranges variables (first + 1) number other (omega (arith, most)))
