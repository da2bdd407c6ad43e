-- Variables in force that are size symbols or of lower levels.
use Rattle.std.proofs.Common.{◌≡◌, ◌⊎◌, inl, inr, ℕ, ◌+◌, ◌<◌, ◌≤◌, List, [], ◌∷◌, length, Some, arith}
use Rattle.std.specs.List.{AllByRecursion}
use Rattle.sd_program.specs.Names.{Name, Named, in_force}
use Rattle.sd_task.specs.in_force.Names.{with_numbered}
use Rattle.sd_validity.specs.levels.Levels.{IsSizeOrLower}
use Rattle.sd_made.proofs.places_lemmas.Held.{numbered}

pub all_so : {A : Type 0} (P Q : A → Type 0) → ((one : A) → P one → Q one) → (members : List A) → AllByRecursion P members → AllByRecursion Q members
all_so P Q so [] all = tt
all_so P Q so (member ∷ members) all = (so member all.0, all_so P Q so members all.1)

-- with so many size symbols
module _ (symbols : ℕ) (level : ℕ → ℕ) where
  -- a size symbol, or a variable of a level below this
  abbrev pub IsBelow : (depth variable : ℕ) → Type 0
  IsBelow depth variable = (variable < symbols) ⊎ (level variable < depth)

  abbrev pub AreBelow : (depth : ℕ) → Named ℕ → Type 0
  AreBelow depth numbers = (name : Name) (variable : ℕ) → in_force numbers name ≡ Some variable → IsBelow depth variable

  deeper : (depth variable : ℕ) → IsBelow depth variable → IsBelow (depth + 1) variable
  deeper depth variable (inl symbol) = inl symbol
  deeper depth variable (inr lower) = inr (omega (arith, lower))

  -- so it may be named by a variable of the level
  pub named_by : (depth own variable : ℕ) → level own ≡ depth → IsBelow depth variable → IsSizeOrLower symbols level own variable
  named_by depth own variable e (inl symbol) = inl symbol
  named_by depth own variable e (inr lower) = inr (omega (arith, lower, e))

  pub below_deeper : (depth : ℕ) (numbers : Named ℕ) → AreBelow depth numbers → AreBelow (depth + 1) numbers
  below_deeper depth numbers are name variable e = deeper depth variable (are name variable e)

  -- with variables of the level itself, one deeper
  pub below_more : (names : List Name) (next depth : ℕ) (numbers : Named ℕ) → ((number : ℕ) → next ≤ number → number < next + length names → level number ≡ depth) → AreBelow depth numbers →
      AreBelow (depth + 1) (with_numbered names next numbers)
  below_more names next depth numbers own are name variable e = elim (numbered names next numbers name variable e) [
    | inl within ↦ inr (omega (arith, own variable within.0 within.1))
    | inr earlier ↦ deeper depth variable (are name variable earlier)
  ]

  -- the size symbols
  pub symbols_below : (names : List Name) → length names ≡ symbols → AreBelow 0 (with_numbered names 0 [])
  symbols_below names e name variable found = elim (numbered names 0 [] name variable found) [ inl within ↦ inl (omega (arith, within.1, e)) | inr earlier ↦ cc ]
