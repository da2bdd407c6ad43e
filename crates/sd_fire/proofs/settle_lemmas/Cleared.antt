-- Memories that stay clear, and those that do not.
use Rattle.std.proofs.Common.{◌≡◌, ℕ, zero, suc, List, [], ◌∷◌, map, get_or, Bool, true, false, ◌&&◌, refl, ◌∙◌, rules}
use Rattle.sd_fire.specs.settle.Cleared.{ClearsTo}

pub clear-inside : (cleared : List Bool) (clear : ℕ) → ClearsTo cleared clear → ClearsTo (true ∷ cleared) (suc clear)
clear-inside cleared clear clears zero = search rules
clear-inside cleared clear clears (suc level) = clears level ∙ search rules

pub nothing-clear : ClearsTo [] 0
nothing-clear level = search rules

-- behind an unfinished point
flag-off : (cleared : List Bool) (level : ℕ) → get_or (map (λ flag. false && flag) cleared) level false ≡ false
flag-off [] level = refl
flag-off (flag ∷ cleared) zero = refl
flag-off (flag ∷ cleared) (suc level) = flag-off cleared level

flag-on : (cleared : List Bool) (level : ℕ) → get_or (map (λ flag. true && flag) cleared) level false ≡ get_or cleared level false
flag-on [] level = refl
flag-on (flag ∷ cleared) zero = refl
flag-on (flag ∷ cleared) (suc level) = flag-on cleared level

pub clear-here : (cleared : List Bool) (clear : ℕ) → ClearsTo cleared clear → ClearsTo (map (λ flag. true && flag) cleared) clear
clear-here cleared clear clears level = flag-on cleared level ∙ clears level

pub none-clear : (cleared : List Bool) → ClearsTo (map (λ flag. false && flag) cleared) 0
none-clear cleared level = flag-off cleared level ∙ search rules
