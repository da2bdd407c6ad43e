-- What instructions change of a state, and what stays.
use Rattle.std.proofs.Common.{◌≡◌, ◌≢◌, ℕ, ◌+◌, ◌<◌, ◌≤◌, ℤ, pos, length, refl, ◌∙◌, arith}
use Rattle.std.proofs.lemmas.List.{get_or-set_same, get_or-set_other, length-set}
use Rattle.sd_tcode.specs.op.Machine.{State, register, with_register}

-- the registers below a number are as they were, and so are the effects
pub record Kept (free : ℕ) (state after : State) : Type 0 where
  pub many : length after.registers ≡ length state.registers
  pub effects : after.effects ≡ state.effects
  pub rest : (i : ℕ) → i < free → register after i ≡ register state i

-- the same but for one register, which has a value
pub record Leaves (free to : ℕ) (value : ℤ) (state after : State) : Type 0 where
  pub many : length after.registers ≡ length state.registers
  pub effects : after.effects ≡ state.effects
  pub value_is : register after to ≡ value
  pub rest : (i : ℕ) → i < free → i ≢ to → register after i ≡ register state i

pub written : (free to : ℕ) (value : ℤ) (state : State) → to < length state.registers → Leaves free to value state (with_register state to value)
written free to value state h = record {
  many = length-set state.registers to value;
  effects = refl;
  value_is = get_or-set_same state.registers to value (pos 0) h;
  rest = λ i low other. get_or-set_other state.registers to i value (pos 0) other;
}

pub kept_then : (free more to : ℕ) (value : ℤ) (state middle after : State) → free ≤ more → Kept free state middle → Leaves more to value middle after → Leaves free to value state after
kept_then free more to value state middle after h k l = record {
  many = l.many ∙ k.many;
  effects = l.effects ∙ k.effects;
  value_is = l.value_is;
  rest = λ i low other. l.rest i (omega arith) other ∙ k.rest i low;
}

pub stays : (free : ℕ) (state : State) → Kept free state state
stays free state = record { many = refl; effects = refl; rest = λ i low. refl }

-- a value in the first free register leaves all registers below it
pub kept_free : (free : ℕ) (value : ℤ) (state after : State) → Leaves (free + 1) free value state after → Kept free state after
kept_free free value state after l = record { many = l.many; effects = l.effects; rest = λ i low. l.rest i (omega arith) (λ e. absurd (omega (arith, e))) }

pub kept_twice : (free more : ℕ) (state middle after : State) → free ≤ more → Kept free state middle → Kept more middle after → Kept free state after
kept_twice free more state middle after h k l = record {
  many = l.many ∙ k.many;
  effects = l.effects ∙ k.effects;
  rest = λ i low. l.rest i (omega arith) ∙ k.rest i low;
}
