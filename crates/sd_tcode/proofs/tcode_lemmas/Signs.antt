-- Signs between values, and the instructions of signs.
use Rattle.std.proofs.Common.{◌≡◌, ◌⊎◌, inl, inr, ℕ, ◌<◌, ℤ, Ok, Err, Bool, true, false, not, int_lt, int_le, if◌then◌else◌, refl, sym, ap, List}
use Rattle.std.specs.Ordering.{int_eq}
use Rattle.sd_graph.specs.TaskletMeaning.{Meaning, and_then, holds, truth, two_values, two_sides}
use Rattle.sd_graph.specs.declared.operator.OneSign.{OneSign}
use Rattle.sd_graph.specs.declared.operator.OneSign.TheVariants as before
use Rattle.sd_graph.specs.declared.operator.TwoSign.{TwoSign}
use Rattle.sd_graph.specs.declared.operator.TwoSign.TheVariants as between
use Rattle.sd_tcode.specs.op.Machine.{Held, State, register}
use Rattle.sd_tcode.specs.op.Within.{Room, IsWithin}
use Rattle.sd_tcode.specs.tcode.Emitted.{one_op, two_op, is_lazy, is_comparison, test_op, unless_op}
use Rattle.sd_tcode.specs.declared.op.op.Op.{Op}
use Rattle.sd_tcode.specs.declared.op.op.Op.TheVariants.{SkipIfZero}
use Rattle.sd_tcode.proofs.tcode_lemmas.Flow.{Jumps}

pub two_target : (room : Room) (sign : TwoSign) (to left right : ℕ) → IsWithin room (two_op sign to left right) → to < room.registers
two_target room between.Or to left right h = h.0.1
two_target room between.And to left right h = h.0.1
two_target room between.Less to left right h = h.0.1
two_target room between.LessEqual to left right h = h.0.1
two_target room between.Greater to left right h = h.0.1
two_target room between.GreaterEqual to left right h = h.0.1
two_target room between.Equal to left right h = h.0.1
two_target room between.Differ to left right h = h.0.1
two_target room between.BitOr to left right h = h.0.1
two_target room between.BitXor to left right h = h.0.1
two_target room between.BitAnd to left right h = h.0.1
two_target room between.Add to left right h = h.0.1
two_target room between.Sub to left right h = h.0.1
two_target room between.Mul to left right h = h.0.1
two_target room between.FloorDiv to left right h = h.0.1
two_target room between.Mod to left right h = h.0.1
two_target room between.Min to left right h = h.0.1
two_target room between.Max to left right h = h.0.1

pub one_target : (room : Room) (sign : OneSign) (to of : ℕ) → IsWithin room (one_op sign to of) → to < room.registers
one_target room before.Not to of h = h.0.1
one_target room before.Neg to of h = h.0.1
one_target room before.Inv to of h = h.0.1

abbrev pub choose : Bool → Meaning ℤ → Meaning ℤ → Meaning ℤ
choose b first second = if b then first else second

or_strict : (left value : ℤ) (b : Bool) → choose b (Ok left) (Ok (if b then left else value)) ≡ Ok (if b then left else value)
or_strict left value true = refl
or_strict left value false = refl

and_strict : (left value : ℤ) (b : Bool) → choose (not b) (Ok left) (Ok (if b then value else left)) ≡ Ok (if b then value else left)
and_strict left value true = refl
and_strict left value false = refl

-- where the second value is there or no sign is lazy, both sides are evaluated
pub sides_strict : (sign : TwoSign) (left : ℤ) (right : Meaning ℤ) → (is_lazy sign ≡ false) ⊎ ((value : ℤ) × (right ≡ Ok value)) → two_sides sign left right ≡ and_then right (two_values sign left)
sides_strict between.Or left right (inl h) = cc
sides_strict between.Or left right (inr h) = rw h.1 (or_strict left h.0 (holds left))
sides_strict between.And left right (inl h) = cc
sides_strict between.And left right (inr h) = rw h.1 (and_strict left h.0 (holds left))
sides_strict between.Less left right h = refl
sides_strict between.LessEqual left right h = refl
sides_strict between.Greater left right h = refl
sides_strict between.GreaterEqual left right h = refl
sides_strict between.Equal left right h = refl
sides_strict between.Differ left right h = refl
sides_strict between.BitOr left right h = refl
sides_strict between.BitXor left right h = refl
sides_strict between.BitAnd left right h = refl
sides_strict between.Add left right h = refl
sides_strict between.Sub left right h = refl
sides_strict between.Mul left right h = refl
sides_strict between.FloorDiv left right h = refl
sides_strict between.Mod left right h = refl
sides_strict between.Min left right h = refl
sides_strict between.Max left right h = refl

-- a lazy sign: its jump is taken where the first value decides, and else the second value is the result
pub or_decided : (left : ℤ) (b : Bool) (right : Meaning ℤ) → b ≡ true → choose b (Ok left) (and_then right (λ value. Ok (if b then left else value))) ≡ Ok left
or_decided left true right h = refl
or_decided left false right h = cc

pub or_open : (left : ℤ) (b : Bool) (right : Meaning ℤ) → b ≡ false → choose b (Ok left) (and_then right (λ value. Ok (if b then left else value))) ≡ right
or_open left true right h = cc
or_open left false (Ok value) h = refl
or_open left false (Err kind) h = refl

pub and_decided : (left : ℤ) (b : Bool) (right : Meaning ℤ) → b ≡ false → choose (not b) (Ok left) (and_then right (λ value. Ok (if b then value else left))) ≡ Ok left
and_decided left true right h = cc
and_decided left false right h = refl

pub and_open : (left : ℤ) (b : Bool) (right : Meaning ℤ) → b ≡ true → choose (not b) (Ok left) (and_then right (λ value. Ok (if b then value else left))) ≡ right
and_open left true (Ok value) h = refl
and_open left true (Err kind) h = refl
and_open left false right h = cc

-- how many instructions the test passes
pub test_jumps : (arrays : List Held) (skips : Bool) (value count : ℕ) (state : State) (b : Bool) → holds (register state value) ≡ b →
    Jumps arrays (test_op skips value count) state (if b then (if skips then count else 0) else (if skips then 0 else count))
test_jumps arrays true value count state true h = (refl, rw h refl)
test_jumps arrays true value count state false h = (refl, rw h refl)
test_jumps arrays false value count state true h = (refl, rw h refl)
test_jumps arrays false value count state false h = (refl, rw h refl)

-- a comparison is not lazy
pub comparison_strict : (sign : TwoSign) → is_comparison sign ≡ true → is_lazy sign ≡ false
comparison_strict between.Or h = cc
comparison_strict between.And h = cc
comparison_strict between.Less h = refl
comparison_strict between.LessEqual h = refl
comparison_strict between.Greater h = refl
comparison_strict between.GreaterEqual h = refl
comparison_strict between.Equal h = refl
comparison_strict between.Differ h = refl
comparison_strict between.BitOr h = refl
comparison_strict between.BitXor h = refl
comparison_strict between.BitAnd h = refl
comparison_strict between.Add h = refl
comparison_strict between.Sub h = refl
comparison_strict between.Mul h = refl
comparison_strict between.FloorDiv h = refl
comparison_strict between.Mod h = refl
comparison_strict between.Min h = refl
comparison_strict between.Max h = refl

-- another sign has its value in a register
pub other_op : (sign : TwoSign) (left right value : ℕ) → is_comparison sign ≡ false → unless_op sign left right value ≡ SkipIfZero value
other_op between.Or left right value h = refl
other_op between.And left right value h = refl
other_op between.Less left right value h = cc
other_op between.LessEqual left right value h = cc
other_op between.Greater left right value h = cc
other_op between.GreaterEqual left right value h = cc
other_op between.Equal left right value h = cc
other_op between.Differ left right value h = cc
other_op between.BitOr left right value h = refl
other_op between.BitXor left right value h = refl
other_op between.BitAnd left right value h = refl
other_op between.Add left right value h = refl
other_op between.Sub left right value h = refl
other_op between.Mul left right value h = refl
other_op between.FloorDiv left right value h = refl
other_op between.Mod left right value h = refl
other_op between.Min left right value h = refl
other_op between.Max left right value h = refl

truth_holds : (b : Bool) → holds (truth b) ≡ b
truth_holds true = refl
truth_holds false = refl

-- what a comparison comes to decides whether its jump is taken
abbrev pub IsCompared : List Held → (test : ℕ → Op) → State → Meaning ℤ → Type 0
IsCompared arrays test state meant = (b : Bool) × (meant ≡ Ok (truth b)) × ((count : ℕ) → Jumps arrays (test count) state (if holds (truth b) then 0 else count))

pub compares : (arrays : List Held) (sign : TwoSign) (left right value : ℕ) (state : State) → is_comparison sign ≡ true →
    IsCompared arrays (unless_op sign left right value) state (two_values sign (register state left) (register state right))
compares arrays between.Or left right value state h = cc
compares arrays between.And left right value state h = cc
compares arrays between.Less left right value state h = let b = int_lt (register state left) (register state right) in (b, refl, λ count. (refl, ap (λ holds. if holds then 0 else count) (sym (truth_holds b))))
compares arrays between.LessEqual left right value state h = let b = int_le (register state left) (register state right) in (b, refl, λ count. (refl, ap (λ holds. if holds then 0 else count) (sym (truth_holds b))))
compares arrays between.Greater left right value state h = let b = int_lt (register state right) (register state left) in (b, refl, λ count. (refl, ap (λ holds. if holds then 0 else count) (sym (truth_holds b))))
compares arrays between.GreaterEqual left right value state h = let b = int_le (register state right) (register state left) in (b, refl, λ count. (refl, ap (λ holds. if holds then 0 else count) (sym (truth_holds b))))
compares arrays between.Equal left right value state h = let b = int_eq (register state left) (register state right) in (b, refl, λ count. (refl, ap (λ holds. if holds then 0 else count) (sym (truth_holds b))))
compares arrays between.Differ left right value state h = let b = not (int_eq (register state left) (register state right)) in (b, refl, λ count. (refl, ap (λ holds. if holds then 0 else count) (sym (truth_holds b))))
compares arrays between.BitOr left right value state h = cc
compares arrays between.BitXor left right value state h = cc
compares arrays between.BitAnd left right value state h = cc
compares arrays between.Add left right value state h = cc
compares arrays between.Sub left right value state h = cc
compares arrays between.Mul left right value state h = cc
compares arrays between.FloorDiv left right value state h = cc
compares arrays between.Mod left right value state h = cc
compares arrays between.Min left right value state h = cc
compares arrays between.Max left right value state h = cc
