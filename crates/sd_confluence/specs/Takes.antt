-- Takes of one pool, and terms that differ in the order of active terms alone.
use Rattle.std.specs.Prelude.{◌≡◌, ◌≢◌, ◌⊎◌, ℕ, zero, suc, ℤ, [], ◌∷◌}
use Rattle.sd_work.specs.Residual.{Term, leaf, list, owning, nested, ended, pool, Terms, none, also, Actives, idle, busy}
use Rattle.sd_work.specs.Moves.{Path}

-- two paths lead to the takes of two positions of one pool, wherever it stands
abbrev mutual
  pub AreTwoTakes : {P : Type 0} → Term P → (path other : Path) → Type 0
  AreTwoTakes (leaf place work) path other = ⊥
  AreTwoTakes (list kind before parts) [] other = ⊥
  AreTwoTakes (list kind before parts) (i ∷ path) [] = ⊥
  AreTwoTakes (list kind before parts) (i ∷ path) (j ∷ other) = (i ≡ j) × AreTwoTakesInPart parts i path other
  AreTwoTakes (owning own part) path other = AreTwoTakes part path other
  AreTwoTakes (nested body exits own state values part) path other = AreTwoTakes part path other
  AreTwoTakes (ended own) path other = ⊥
  AreTwoTakes (pool level container body active closed) [] other = ⊥
  AreTwoTakes (pool level container body active closed) (n ∷ []) other = ⊥
  AreTwoTakes (pool level container body active closed) (n ∷ i ∷ path) [] = ⊥
  AreTwoTakes (pool level container body active closed) (n ∷ i ∷ path) (m ∷ []) = ⊥
  AreTwoTakes (pool level container body active closed) (zero ∷ i ∷ path) (zero ∷ j ∷ other) = i ≢ j
  AreTwoTakes (pool level container body active closed) (zero ∷ i ∷ path) (suc m ∷ j ∷ other) = ⊥
  AreTwoTakes (pool level container body active closed) (suc n ∷ i ∷ path) (zero ∷ j ∷ other) = ⊥
  AreTwoTakes (pool level container body active closed) (suc n ∷ i ∷ path) (suc m ∷ j ∷ other) = (i ≡ j) × AreTwoTakesInActive active i path other

  pub AreTwoTakesInPart : {P : Type 0} → Terms P → ℕ → (path other : Path) → Type 0
  AreTwoTakesInPart none number path other = ⊥
  AreTwoTakesInPart (also part parts) zero path other = AreTwoTakes part path other
  AreTwoTakesInPart (also part parts) (suc number) path other = AreTwoTakesInPart parts number path other

  pub AreTwoTakesInActive : {P : Type 0} → Actives P → ℕ → (path other : Path) → Type 0
  AreTwoTakesInActive idle number path other = ⊥
  AreTwoTakesInActive (busy value part active) zero path other = AreTwoTakes part path other
  AreTwoTakesInActive (busy value part active) (suc number) path other = AreTwoTakesInActive active number path other

-- a position behind the take of another one: a later one is one less
abbrev pub position_behind : (taken position : ℕ) → ℕ
position_behind taken zero = zero
position_behind zero (suc position) = position
position_behind (suc taken) (suc position) = suc (position_behind taken position)

-- the path of a take behind another one of the same pool; the position is its last number
abbrev pub behind_take : (taken path : Path) → Path
behind_take [] path = path
behind_take (i ∷ taken) [] = []
behind_take (i ∷ []) (j ∷ path) = position_behind i j ∷ path
behind_take (i ∷ k ∷ taken) (j ∷ path) = j ∷ behind_take (k ∷ taken) path

-- active terms with one put in somewhere
abbrev pub IsPutInto : {P : Type 0} → (value : ℤ) → Term P → (others : Actives P) → (all : Actives P) → Type 0
IsPutInto {P} value part idle all = all ≡ busy value part idle
IsPutInto {P} value part (busy other next others) all =
    (all ≡ busy value part (busy other next others)) ⊎ ((rest : Actives P) × (all ≡ busy other next rest) × IsPutInto value part others rest)

-- two terms are equal but for the order of active terms in pools
abbrev mutual
  pub AreTermsReordered : {P : Type 0} → Term P → Term P → Type 0
  AreTermsReordered {P} term (leaf place work) = term ≡ leaf place work
  AreTermsReordered {P} term (list kind before parts) = (others : Terms P) × (term ≡ list kind before others) × AreAllReordered others parts
  AreTermsReordered {P} term (owning own part) = (other : Term P) × (term ≡ owning own other) × AreTermsReordered other part
  AreTermsReordered {P} term (nested body exits own state values part) = (other : Term P) × (term ≡ nested body exits own state values other) × AreTermsReordered other part
  AreTermsReordered {P} term (ended own) = term ≡ ended own
  AreTermsReordered {P} term (pool level container body active closed) = (others : Actives P) × (term ≡ pool level container body others closed) × AreActivesReordered others active

  pub AreAllReordered : {P : Type 0} → Terms P → Terms P → Type 0
  AreAllReordered {P} terms none = terms ≡ none
  AreAllReordered {P} terms (also part parts) = (first : Term P) × (others : Terms P) × (terms ≡ also first others) × AreTermsReordered first part × AreAllReordered others parts

  pub AreActivesReordered : {P : Type 0} → Actives P → Actives P → Type 0
  AreActivesReordered {P} actives idle = actives ≡ idle
  AreActivesReordered {P} actives (busy value part active) =
      (first : Term P) × (others : Actives P) × IsPutInto value first others actives × AreTermsReordered first part × AreActivesReordered others active
