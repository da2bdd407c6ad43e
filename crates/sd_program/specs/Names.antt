-- Names with what they stand for, the newest first.
use Rattle.std.specs.Prelude.{ℕ, List, Option, bytes_eq}
use Rattle.std.specs.Map.{lookup}

-- a name, as its bytes
abbrev pub Name : Type 0
Name = List ℕ

-- names in force
abbrev pub Named : Type 0 → Type 0
Named A = List (Name × A)

-- what a name stands for; None where it is not in force
abbrev pub in_force : {A : Type 0} → Named A → Name → Option A
in_force names name = lookup (bytes_eq name) names
