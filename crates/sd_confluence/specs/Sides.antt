-- Moves of two parts of a list or a pool, and terms that are alike.
use Rattle.std.specs.Prelude.{◌≡◌, ◌≢◌, ◌⊎◌, ℕ, zero, suc, [], ◌∷◌, ⊤}
use Rattle.sd_work.specs.Memory.{Memory}
use Rattle.sd_work.specs.Residual.{Term, leaf, list, owning, nested, ended, pool, Terms, none, also, Actives, idle, busy}
use Rattle.sd_work.specs.Moves.{Path}
use Rattle.sd_confluence.specs.Alike.{AreAlike}

-- two paths lead into two parts of one list or of one pool, wherever it stands: of a pool into two active terms, or into one and to the take of a value, but not to two takes
abbrev mutual
  pub AreOfTwoParts : {P : Type 0} → Term P → (path other : Path) → Type 0
  AreOfTwoParts (leaf place work) path other = ⊥
  AreOfTwoParts (list kind before parts) [] other = ⊥
  AreOfTwoParts (list kind before parts) (i ∷ path) [] = ⊥
  AreOfTwoParts (list kind before parts) (i ∷ path) (j ∷ other) = (i ≢ j) ⊎ ((i ≡ j) × AreOfTwoInPart parts i path other)
  AreOfTwoParts (owning own part) path other = AreOfTwoParts part path other
  AreOfTwoParts (nested body exits own state values part) path other = AreOfTwoParts part path other
  AreOfTwoParts (ended own) path other = ⊥
  AreOfTwoParts (pool level container body active closed) [] other = ⊥
  AreOfTwoParts (pool level container body active closed) (n ∷ []) other = ⊥
  AreOfTwoParts (pool level container body active closed) (n ∷ i ∷ path) [] = ⊥
  AreOfTwoParts (pool level container body active closed) (n ∷ i ∷ path) (m ∷ []) = ⊥
  AreOfTwoParts (pool level container body active closed) (zero ∷ i ∷ path) (zero ∷ j ∷ other) = ⊥
  AreOfTwoParts (pool level container body active closed) (zero ∷ i ∷ path) (suc m ∷ j ∷ other) = ⊤
  AreOfTwoParts (pool level container body active closed) (suc n ∷ i ∷ path) (zero ∷ j ∷ other) = ⊤
  AreOfTwoParts (pool level container body active closed) (suc n ∷ i ∷ path) (suc m ∷ j ∷ other) = (i ≢ j) ⊎ ((i ≡ j) × AreOfTwoInActive active i path other)

  pub AreOfTwoInPart : {P : Type 0} → Terms P → ℕ → (path other : Path) → Type 0
  AreOfTwoInPart none number path other = ⊥
  AreOfTwoInPart (also part parts) zero path other = AreOfTwoParts part path other
  AreOfTwoInPart (also part parts) (suc number) path other = AreOfTwoInPart parts number path other

  pub AreOfTwoInActive : {P : Type 0} → Actives P → ℕ → (path other : Path) → Type 0
  AreOfTwoInActive idle number path other = ⊥
  AreOfTwoInActive (busy value part active) zero path other = AreOfTwoParts part path other
  AreOfTwoInActive (busy value part active) (suc number) path other = AreOfTwoInActive active number path other

-- two terms are equal but for the order of values in the streams of their memories
abbrev mutual
  pub AreTermsAlike : {P : Type 0} → Term P → Term P → Type 0
  AreTermsAlike {P} term (leaf place work) = term ≡ leaf place work
  AreTermsAlike {P} term (list kind before parts) = (others : Terms P) × (term ≡ list kind before others) × AreAllAlike others parts
  AreTermsAlike {P} term (owning own part) = (memory : Memory) × (other : Term P) × (term ≡ owning memory other) × AreAlike memory own × AreTermsAlike other part
  AreTermsAlike {P} term (nested body exits own state values part) =
      (memory : Memory) × (other : Term P) × (term ≡ nested body exits memory state values other) × AreAlike memory own × AreTermsAlike other part
  AreTermsAlike {P} term (ended own) = (memory : Memory) × (term ≡ ended memory) × AreAlike memory own
  AreTermsAlike {P} term (pool level container body active closed) = (others : Actives P) × (term ≡ pool level container body others closed) × AreActivesAlike others active

  pub AreAllAlike : {P : Type 0} → Terms P → Terms P → Type 0
  AreAllAlike {P} terms none = terms ≡ none
  AreAllAlike {P} terms (also part parts) = (first : Term P) × (others : Terms P) × (terms ≡ also first others) × AreTermsAlike first part × AreAllAlike others parts

  pub AreActivesAlike : {P : Type 0} → Actives P → Actives P → Type 0
  AreActivesAlike {P} actives idle = actives ≡ idle
  AreActivesAlike {P} actives (busy value part active) = (first : Term P) × (others : Actives P) × (actives ≡ busy value first others) × AreTermsAlike first part × AreActivesAlike others active
