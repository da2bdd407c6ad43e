-- Connectors in force, and those among the first that are.
use Rattle.std.proofs.Common.{◌≡◌, ◌≤◌, ℕ, zero, suc, List, [], ◌∷◌, ◌++◌, length, take, Bool, true, false, if◌then◌else◌, Some, bytes_eq, refl, sym, subst, arith}
use Rattle.std.specs.Bool.{⊤}
use Rattle.std.specs.List.{AllByRecursion}
use Rattle.std.proofs.lemmas.Slice.Eq.{bytes_eq-Decides}
use Rattle.sd_names.specs.declared.meaning.Meaning.{Meaning}
use Rattle.sd_names.specs.declared.meaning.Meaning.TheVariants.{Symbol, Variable, Program, Worker, Input, Output, Local}
use Rattle.sd_names.specs.Names.{Name, listed, put, is_input, is_output}
use Rattle.sd_read.proofs.readable_lemmas.kept.Passing.{false_is_not_true}
use Rattle.sd_tie.specs.tasklets.Connected.{IsAmong}
use Rattle.sd_tie.proofs.joined_lemmas.Connectors.{none_among, among_more}

-- a connector is among these
abbrev pub IsOf : (ins outs : List Name) → Name × Meaning → Type 0
IsOf ins outs (name, Input dimensions) = IsAmong ins name
IsOf ins outs (name, Output dimensions) = IsAmong outs name
IsOf ins outs (name, meaning) = ⊤

-- of all that is in force
abbrev pub AreOf : (ins outs : List Name) → List (Name × Meaning) → Type 0
AreOf ins outs entries = AllByRecursion (IsOf ins outs) entries

-- and of the first of it, so many
abbrev pub FirstOf : ℕ → (ins outs : List Name) → List (Name × Meaning) → Type 0
FirstOf zero ins outs entries = ⊤
FirstOf (suc count) ins outs [] = ⊤
FirstOf (suc count) ins outs (entry ∷ entries) = IsOf ins outs entry × FirstOf count ins outs entries

-- no connector
abbrev pub IsPlain : Meaning → Type 0
IsPlain (Input dimensions) = ⊥
IsPlain (Output dimensions) = ⊥
IsPlain meaning = ⊤

pub plain_of : (ins outs : List Name) (name : Name) (meaning : Meaning) → IsPlain meaning → IsOf ins outs (name, meaning)
plain_of ins outs name Symbol plain = tt
plain_of ins outs name Variable plain = tt
plain_of ins outs name (Program signature) plain = tt
plain_of ins outs name Worker plain = tt
plain_of ins outs name (Input dimensions) plain = absurd plain
plain_of ins outs name (Output dimensions) plain = absurd plain
plain_of ins outs name Local plain = tt

-- where none are known there is none
none_of : (ins outs : List Name) (name : Name) (meaning : Meaning) → IsOf [] [] (name, meaning) → IsOf ins outs (name, meaning)
none_of ins outs name Symbol of = tt
none_of ins outs name Variable of = tt
none_of ins outs name (Program signature) of = tt
none_of ins outs name Worker of = tt
none_of ins outs name (Input dimensions) of = none_among name of
none_of ins outs name (Output dimensions) of = none_among name of
none_of ins outs name Local of = tt

pub none_all : (ins outs : List Name) (entries : List (Name × Meaning)) → AreOf [] [] entries → AreOf ins outs entries
none_all ins outs [] all = tt
none_all ins outs (entry ∷ entries) all = (none_of ins outs entry.0 entry.1 all.0, none_all ins outs entries all.1)

more_of : (ins outs more_ins more_outs : List Name) (name : Name) (meaning : Meaning) → IsOf ins outs (name, meaning) → IsOf (ins ++ more_ins) (outs ++ more_outs) (name, meaning)
more_of ins outs more_ins more_outs name Symbol of = tt
more_of ins outs more_ins more_outs name Variable of = tt
more_of ins outs more_ins more_outs name (Program signature) of = tt
more_of ins outs more_ins more_outs name Worker of = tt
more_of ins outs more_ins more_outs name (Input dimensions) of = among_more ins more_ins name of
more_of ins outs more_ins more_outs name (Output dimensions) of = among_more outs more_outs name of
more_of ins outs more_ins more_outs name Local of = tt

pub more_all : (ins outs more_ins more_outs : List Name) (entries : List (Name × Meaning)) → AreOf ins outs entries → AreOf (ins ++ more_ins) (outs ++ more_outs) entries
more_all ins outs more_ins more_outs [] all = tt
more_all ins outs more_ins more_outs (entry ∷ entries) all = (more_of ins outs more_ins more_outs entry.0 entry.1 all.0, more_all ins outs more_ins more_outs entries all.1)

-- ---- the first ones

pub first_all : (count : ℕ) (ins outs : List Name) (entries : List (Name × Meaning)) → AreOf ins outs entries → FirstOf count ins outs entries
first_all zero ins outs entries all = tt
first_all (suc count) ins outs [] all = tt
first_all (suc count) ins outs (entry ∷ entries) all = (all.0, first_all count ins outs entries all.1)

pub taken_all : (count : ℕ) (ins outs : List Name) (entries : List (Name × Meaning)) → FirstOf count ins outs entries → AreOf ins outs (take count entries)
taken_all zero ins outs entries first = tt
taken_all (suc count) ins outs [] first = tt
taken_all (suc count) ins outs (entry ∷ entries) first = (first.0, taken_all count ins outs entries first.1)

pub first_taken : (count taken : ℕ) (ins outs : List Name) (entries : List (Name × Meaning)) → FirstOf count ins outs entries → FirstOf count ins outs (take taken entries)
first_taken zero taken ins outs entries first = tt
first_taken (suc count) zero ins outs entries first = tt
first_taken (suc count) (suc taken) ins outs [] first = tt
first_taken (suc count) (suc taken) ins outs (entry ∷ entries) first = (first.0, first_taken count taken ins outs entries first.1)

pub first_more : (count : ℕ) (ins outs : List Name) (entries more : List (Name × Meaning)) → count ≤ length entries → FirstOf count ins outs entries → FirstOf count ins outs (entries ++ more)
first_more zero ins outs entries more few first = tt
first_more (suc count) ins outs [] more few first = absurd (omega (arith, few))
first_more (suc count) ins outs (entry ∷ entries) more few first = (first.0, first_more count ins outs entries more (omega (arith, few)) first.1)

-- ---- a name more

pub plain_first : (count : ℕ) (ins outs : List Name) (entries : List (Name × Meaning)) (name : Name) (meaning : Meaning) → IsPlain meaning → FirstOf count ins outs entries → FirstOf count ins outs (put entries name meaning)
plain_first zero ins outs entries name meaning plain first = tt
plain_first (suc zero) ins outs [] name meaning plain first = (plain_of ins outs name meaning plain, tt)
plain_first (suc (suc count)) ins outs [] name meaning plain first = (plain_of ins outs name meaning plain, tt)
plain_first (suc count) ins outs (entry ∷ entries) name meaning plain first = by_test (bytes_eq name entry.0) (plain_first count ins outs entries name meaning plain first.1) where
  by_test : (test : Bool) → FirstOf count ins outs (put entries name meaning) → FirstOf (suc count) ins outs (if test then (entry.0, meaning) ∷ entries else entry ∷ put entries name meaning)
  by_test true later = (plain_of ins outs entry.0 meaning plain, first.1)
  by_test false later = (first.0, later)

pub plain_all : (ins outs : List Name) (entries : List (Name × Meaning)) (name : Name) (meaning : Meaning) → IsPlain meaning → AreOf ins outs entries → AreOf ins outs (put entries name meaning)
plain_all ins outs [] name meaning plain all = (plain_of ins outs name meaning plain, tt)
plain_all ins outs (entry ∷ entries) name meaning plain all = by_test (bytes_eq name entry.0) (plain_all ins outs entries name meaning plain all.1) where
  by_test : (test : Bool) → AreOf ins outs (put entries name meaning) → AreOf ins outs (if test then (entry.0, meaning) ∷ entries else entry ∷ put entries name meaning)
  by_test true later = (plain_of ins outs entry.0 meaning plain, all.1)
  by_test false later = (all.0, later)

pub longer : (entries : List (Name × Meaning)) (name : Name) (meaning : Meaning) → length entries ≤ length (put entries name meaning)
longer [] name meaning = omega arith
longer (entry ∷ entries) name meaning = by_test (bytes_eq name entry.0) (longer entries name meaning) where
  by_test : (test : Bool) → length entries ≤ length (put entries name meaning) → length (entry ∷ entries) ≤ length (if test then (entry.0, meaning) ∷ entries else entry ∷ put entries name meaning)
  by_test true later = omega arith
  by_test false later = omega (arith, later)

-- ---- what is in force

input_listed : (ins outs : List Name) (name : Name) (meaning : Meaning) → is_input (Some meaning) ≡ true → IsOf ins outs (name, meaning) → IsAmong ins name
input_listed ins outs name Symbol is of = false_is_not_true is
input_listed ins outs name Variable is of = false_is_not_true is
input_listed ins outs name (Program signature) is of = false_is_not_true is
input_listed ins outs name Worker is of = false_is_not_true is
input_listed ins outs name (Input dimensions) is of = of
input_listed ins outs name (Output dimensions) is of = false_is_not_true is
input_listed ins outs name Local is of = false_is_not_true is

output_listed : (ins outs : List Name) (name : Name) (meaning : Meaning) → is_output (Some meaning) ≡ true → IsOf ins outs (name, meaning) → IsAmong outs name
output_listed ins outs name Symbol is of = false_is_not_true is
output_listed ins outs name Variable is of = false_is_not_true is
output_listed ins outs name (Program signature) is of = false_is_not_true is
output_listed ins outs name Worker is of = false_is_not_true is
output_listed ins outs name (Input dimensions) is of = false_is_not_true is
output_listed ins outs name (Output dimensions) is of = of
output_listed ins outs name Local is of = false_is_not_true is

pub input_among : (ins outs : List Name) (entries : List (Name × Meaning)) (name : Name) → AreOf ins outs entries → is_input (listed entries name) ≡ true → IsAmong ins name
input_among ins outs [] name all is = false_is_not_true is
input_among ins outs (entry ∷ entries) name all is = by_test (bytes_eq name entry.0) refl (input_among ins outs entries name all.1) is where
  by_test : (test : Bool) → bytes_eq name entry.0 ≡ test → (is_input (listed entries name) ≡ true → IsAmong ins name) → is_input (if test then Some entry.1 else listed entries name) ≡ true → IsAmong ins name
  by_test true same later is = subst (IsAmong ins) (sym ((bytes_eq-Decides name entry.0).0 same)) (input_listed ins outs entry.0 entry.1 is all.0)
  by_test false same later is = later is

pub output_among : (ins outs : List Name) (entries : List (Name × Meaning)) (name : Name) → AreOf ins outs entries → is_output (listed entries name) ≡ true → IsAmong outs name
output_among ins outs [] name all is = false_is_not_true is
output_among ins outs (entry ∷ entries) name all is = by_test (bytes_eq name entry.0) refl (output_among ins outs entries name all.1) is where
  by_test : (test : Bool) → bytes_eq name entry.0 ≡ test → (is_output (listed entries name) ≡ true → IsAmong outs name) → is_output (if test then Some entry.1 else listed entries name) ≡ true → IsAmong outs name
  by_test true same later is = subst (IsAmong outs) (sym ((bytes_eq-Decides name entry.0).0 same)) (output_listed ins outs entry.0 entry.1 is all.0)
  by_test false same later is = later is
