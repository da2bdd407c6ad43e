-- The places of names in force are kept by each line, and by the ends of blocks that began behind them.
use Rattle.std.proofs.Common.{◌≡◌, ℕ, zero, suc, ◌+◌, ◌<◌, List, [], ◌∷◌, length, take, Bool, true, false, not, cond, if◌then◌else◌, Option, Some, None, is_some, bytes_eq, refl, ap, sym, ◌∙◌, subst, arith}
use Rattle.std.specs.Bool.{⊤}
use Rattle.sd_lex.specs.PlainTree.{StatementTree, map_scope, for_loop, set}
use Rattle.sd_names.specs.declared.meaning.Meaning.{Meaning}
use Rattle.sd_names.specs.declared.meaning.Meaning.TheVariants.{Symbol, Variable, Worker, Input, Local}
use Rattle.sd_names.specs.Names.{Name, Names, listed, put, place_of, meaning_of, with_meaning, all_meaning}
use Rattle.sd_uses.specs.Twice.{declares_local}
use Rattle.sd_context.specs.context.Declaring.{with_local, with_worker, statement_names, element_names}
use Rattle.sd_read.proofs.readable_lemmas.kept.Affine.{none_is_not_some}
use Rattle.sd_read.proofs.readable_lemmas.kept.InForce.{listed-put}
use Rattle.sd_read.proofs.readable_lemmas.kept.Passing.{false_is_not_true}
use Rattle.sd_made_valid.proofs.read_shapes_lemmas.Values.{IsListed}

-- ---- one entry more

pub put_listed : (entries : List (Name × Meaning)) (name : Name) (meaning : Meaning) (wanted : Name) → IsListed entries wanted → IsListed (put entries name meaning) wanted
put_listed entries name meaning wanted is = ap is_some (listed-put entries name meaning wanted) ∙ by_test (bytes_eq wanted name) where
  by_test : (test : Bool) → is_some (if test then Some meaning else listed entries wanted) ≡ true
  by_test true = refl
  by_test false = is

pub put_place : (entries : List (Name × Meaning)) (name : Name) (meaning : Meaning) (wanted : Name) → IsListed entries wanted → place_of (put entries name meaning) wanted ≡ place_of entries wanted
put_place [] name meaning wanted is = false_is_not_true is
put_place (entry ∷ entries) name meaning wanted is = by_same (bytes_eq name entry.0) (put_place entries name meaning wanted) where
  by_here : (here : Bool) → is_some (if here then Some entry.1 else listed entries wanted) ≡ true → (IsListed entries wanted → place_of (put entries name meaning) wanted ≡ place_of entries wanted) →
      cond (not here) (1 + place_of (put entries name meaning) wanted) 0 ≡ cond (not here) (1 + place_of entries wanted) 0
  by_here true is later = refl
  by_here false is later = ap (λ place. 1 + place) (later is)

  by_same : (same : Bool) → (IsListed entries wanted → place_of (put entries name meaning) wanted ≡ place_of entries wanted) →
      place_of (if same then (entry.0, meaning) ∷ entries else entry ∷ put entries name meaning) wanted ≡ place_of (entry ∷ entries) wanted
  by_same true later = refl
  by_same false later = by_here (bytes_eq wanted entry.0) is later

-- ---- behind a line

abbrev IsSymbol : Option Meaning → Type 0
IsSymbol (Some Symbol) = ⊤
IsSymbol other = ⊥

-- names that are listed keep their places, and none is a size symbol that was none
pub record IsGrown (before after : List (Name × Meaning)) : Type 0 where
  pub kept : (name : Name) → IsListed before name → IsListed after name × (place_of after name ≡ place_of before name)
  pub symbols : (name : Name) → listed after name ≡ Some Symbol → listed before name ≡ Some Symbol

pub as_it_was : (entries : List (Name × Meaning)) → IsGrown entries entries
as_it_was entries = record { kept = λ name is. (is, refl); symbols = λ name is. is }

then_grown : (first second third : List (Name × Meaning)) → IsGrown first second → IsGrown second third → IsGrown first third
then_grown first second third grown more = record {
  kept = λ name is. let one' = grown.kept name is in let two' = more.kept name one'.0 in (two'.0, two'.1 ∙ one'.1);
  symbols = λ name is. grown.symbols name (more.symbols name is);
}

pub put_grown : (entries : List (Name × Meaning)) (name : Name) (meaning : Meaning) → (IsSymbol (Some meaning) → ⊥) → IsGrown entries (put entries name meaning)
put_grown entries name meaning none = record {
  kept = λ wanted is. (put_listed entries name meaning wanted is, put_place entries name meaning wanted is);
  symbols = λ wanted is. by_test wanted (bytes_eq wanted name) (sym (listed-put entries name meaning wanted) ∙ is);
} where
  by_test : (wanted : Name) (test : Bool) → (if test then Some meaning else listed entries wanted) ≡ Some Symbol → listed entries wanted ≡ Some Symbol
  by_test wanted true is = absurd (none (subst IsSymbol (sym is) tt))
  by_test wanted false is = is

variables_grown : (parameters : List Name) (names : Names) → IsGrown names.meanings (all_meaning Variable names parameters).meanings
variables_grown [] names = as_it_was names.meanings
variables_grown (parameter ∷ parameters) names =
    then_grown names.meanings (put names.meanings parameter Variable) (all_meaning Variable (with_meaning names parameter Variable) parameters).meanings
    (put_grown names.meanings parameter Variable (λ none. none)) (variables_grown parameters (with_meaning names parameter Variable))

local_grown : (names : Names) (name : Name) → IsGrown names.meanings (with_local names name).meanings
local_grown names name = by_test (declares_local (meaning_of names name)) where
  by_test : (test : Bool) → IsGrown names.meanings (if test then with_meaning names name Local else names).meanings
  by_test true = put_grown names.meanings name Local (λ none. none)
  by_test false = as_it_was names.meanings

pub statement_grown : (names : Names) (s : StatementTree) → IsGrown names.meanings (statement_names names s).meanings
statement_grown names (map_scope at parameters ranges body) = variables_grown parameters names
statement_grown names (for_loop at name begin end step body) = put_grown names.meanings name Variable (λ none. none)
statement_grown names (set at name value) = local_grown names name
statement_grown names s = as_it_was names.meanings

worker_grown : (worker : Option Name) (names : Names) → IsGrown names.meanings (with_worker worker names).meanings
worker_grown None names = as_it_was names.meanings
worker_grown (Some name) names = put_grown names.meanings name Worker (λ none. none)

element_grown : (scoped : Bool) (names : Names) (element : Name) → IsGrown names.meanings (element_names scoped names element).meanings
element_grown true names element = put_grown names.meanings element (Input 0) (λ none. none)
element_grown false names element = as_it_was names.meanings

pub consumer_grown : (scoped : Bool) (names : Names) (element : Name) (worker : Option Name) → IsGrown names.meanings (with_worker worker (element_names scoped names element)).meanings
consumer_grown scoped names element worker =
    then_grown names.meanings (element_names scoped names element).meanings (with_worker worker (element_names scoped names element)).meanings (element_grown scoped names element) (worker_grown worker (element_names scoped names element))

-- ---- behind a block

pub taken_listed : {A : Type 0} (entries : List (Name × A)) (count : ℕ) (name : Name) (a : A) → listed (take count entries) name ≡ Some a → listed entries name ≡ Some a
taken_listed [] zero name a is = is
taken_listed [] (suc count) name a is = is
taken_listed (entry ∷ entries) zero name a is = none_is_not_some a is
taken_listed (entry ∷ entries) (suc count) name a is = by_test (bytes_eq name entry.0) is (taken_listed entries count name a) where
  by_test : (test : Bool) → (if test then Some entry.1 else listed (take count entries) name) ≡ Some a → (listed (take count entries) name ≡ Some a → listed entries name ≡ Some a) →
      (if test then Some entry.1 else listed entries name) ≡ Some a
  by_test true is later = is
  by_test false is later = later is

pub taken_kept : (entries : List (Name × Meaning)) (count : ℕ) (name : Name) → IsListed entries name → place_of entries name < count →
    IsListed (take count entries) name × (place_of (take count entries) name ≡ place_of entries name)
taken_kept [] count name is within = false_is_not_true is
taken_kept (entry ∷ entries) zero name is within = absurd (omega (arith, within))
taken_kept (entry ∷ entries) (suc count) name is within = by_here (bytes_eq name entry.0) is within (taken_kept entries count name) where
  by_here : (here : Bool) → is_some (if here then Some entry.1 else listed entries name) ≡ true → cond (not here) (1 + place_of entries name) 0 < suc count →
      (IsListed entries name → place_of entries name < count → IsListed (take count entries) name × (place_of (take count entries) name ≡ place_of entries name)) →
      (is_some (if here then Some entry.1 else listed (take count entries) name) ≡ true) × (cond (not here) (1 + place_of (take count entries) name) 0 ≡ cond (not here) (1 + place_of entries name) 0)
  by_here true is within later = (refl, refl)
  by_here false is within later = let inside = later is (omega (arith, within)) in (inside.0, ap (λ place. 1 + place) inside.1)

-- a name that is listed has a place
pub placed_within : (entries : List (Name × Meaning)) (name : Name) → IsListed entries name → place_of entries name < length entries
placed_within [] name is = false_is_not_true is
placed_within (entry ∷ entries) name is = by_here (bytes_eq name entry.0) is (placed_within entries name) where
  by_here : (here : Bool) → is_some (if here then Some entry.1 else listed entries name) ≡ true → (IsListed entries name → place_of entries name < length entries) → cond (not here) (1 + place_of entries name) 0 < suc (length entries)
  by_here true is later = omega arith
  by_here false is later = omega (arith, later is)
