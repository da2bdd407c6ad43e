-- A jump is written after the instructions that it passes.
use Rattle.std.proofs.Common.{◌≡◌, ◌<◌, ◌≤◌, ℕ, suc, pos, ◌+◌, ◌-◌, List, [], ◌∷◌, ◌++◌, length, Bool, true, false, refl, sym, ap, ◌∙◌, arith, append_assoc, length-append}
use Rattle.std.specs.Prelude.{slice_set}
use Rattle.std.proofs.lemmas.List.{append-nil}
use Rattle.std.proofs.Math.Seq.{set-append_seam}
use Rattle.sd_tcode.specs.tcode.Emitted.{operand_register, unless_op, test_op, either_code, locals_code, second_code, condition_op, is_lazy, is_ready, jumps_where}
use Rattle.sd_tcode.specs.declared.tcode.layout.Layout.{Layout}
use Rattle.sd_compile.specs.Jumps.{with_count}
use Rattle.sd_tcode.specs.declared.op.op.Op.{Op}
use Rattle.sd_tcode.specs.declared.op.op.Op.TheVariants.{Skip, Copy, Number}
use Rattle.sd_graph.specs.PlainTree.{ValueTree, literal, variable, local, input, one, two, choice}
use Rattle.sd_graph.specs.declared.operator.TwoSign.{TwoSign}
use Rattle.sd_graph.specs.declared.operator.TwoSign.TheVariants as between

two_writes : (c a b : List Op) (x y i j : Op) → slice_set (slice_set (c ++ x ∷ (a ++ y ∷ b)) (length c) i) (length (c ++ i ∷ a)) j ≡ c ++ i ∷ (a ++ j ∷ b)
two_writes c a b x y i j =
    ap (λ l. slice_set l (length (c ++ i ∷ a)) j) (set-append_seam c x (a ++ y ∷ b) i ∙ sym (append_assoc c (i ∷ a) (y ∷ b)))
    ∙ set-append_seam (c ++ i ∷ a) y b j
    ∙ append_assoc c (i ∷ a) (j ∷ b)

pub joined : (base a b c1 c2 c3 c4 : List Op) (x y : Op) (test : ℕ → Op) (n1 n2 : ℕ) → n1 ≡ length base → c1 ≡ base ++ x ∷ [] → c2 ≡ c1 ++ a → n2 ≡ length c2 → c3 ≡ c2 ++ y ∷ [] → c4 ≡ c3 ++ b →
    slice_set (slice_set c4 n1 (test (n2 - n1))) n2 (Skip (length c4 - n2 - 1)) ≡ base ++ either_code test a b
joined base a b c1 c2 c3 c4 x y test n1 n2 m1 e1 e2 m2 e3 e4 =
    let l1 = ap length e1 ∙ length-append base (x ∷ []) in
    let l2 = ap length e2 ∙ length-append c1 a in
    let l3 = ap length e3 ∙ length-append c2 (y ∷ []) in
    let l4 = ap length e4 ∙ length-append c3 b in
    let i = test (n2 - n1) in
    let j = Skip (length c4 - n2 - 1) in
    let d1 : n2 - n1 ≡ length a + 1 = omega arith in
    let d2 : length c4 - n2 - 1 ≡ length b = omega arith in
    let at2 : n2 ≡ length (base ++ i ∷ a) = omega (arith, length-append base (i ∷ a)) in
    let all : c4 ≡ (((base ++ x ∷ []) ++ a) ++ y ∷ []) ++ b = cc in
    let flat : (((base ++ x ∷ []) ++ a) ++ y ∷ []) ++ b ≡ base ++ x ∷ (a ++ y ∷ b) = simp append_assoc in
    ap (λ l. slice_set (slice_set l n1 i) n2 j) (all ∙ flat)
    ∙ ap (λ n. slice_set (slice_set (base ++ x ∷ (a ++ y ∷ b)) n i) n2 j) m1
    ∙ ap (λ n. slice_set (slice_set (base ++ x ∷ (a ++ y ∷ b)) (length base) i) n j) at2
    ∙ two_writes base a b x y i j
    ∙ ap (λ n. base ++ test n ∷ (a ++ j ∷ b)) d1
    ∙ ap (λ n. base ++ test (length a + 1) ∷ (a ++ Skip n ∷ b)) d2

-- the same behind the code before the test
pub choice_joined : (ops when a b c0 c1 c2 c3 c4 : List Op) (x y : Op) (test : ℕ → Op) (n1 n2 : ℕ) → c0 ≡ ops ++ when → n1 ≡ length c0 → c1 ≡ c0 ++ x ∷ [] → c2 ≡ c1 ++ a → n2 ≡ length c2 → c3 ≡ c2 ++ y ∷ [] → c4 ≡ c3 ++ b →
    slice_set (slice_set c4 n1 (test (n2 - n1))) n2 (Skip (length c4 - n2 - 1)) ≡ ops ++ (when ++ either_code test a b)
choice_joined ops when a b c0 c1 c2 c3 c4 x y test n1 n2 e0 m1 e1 e2 m2 e3 e4 =
    joined c0 a b c1 c2 c3 c4 x y test n1 n2 m1 e1 e2 m2 e3 e4
    ∙ ap (λ l. l ++ either_code test a b) e0
    ∙ append_assoc ops when (either_code test a b)

-- ---- a jump that is told how many instructions it passes

pub test_counted : (skips : Bool) (value count : ℕ) → with_count (test_op skips value 0) count ≡ test_op skips value count
test_counted true value count = refl
test_counted false value count = refl

op_counted : (sign : TwoSign) (left right value count : ℕ) → with_count (unless_op sign left right value 0) count ≡ unless_op sign left right value count
op_counted between.Or left right value count = refl
op_counted between.And left right value count = refl
op_counted between.Less left right value count = refl
op_counted between.LessEqual left right value count = refl
op_counted between.Greater left right value count = refl
op_counted between.GreaterEqual left right value count = refl
op_counted between.Equal left right value count = refl
op_counted between.Differ left right value count = refl
op_counted between.BitOr left right value count = refl
op_counted between.BitXor left right value count = refl
op_counted between.BitAnd left right value count = refl
op_counted between.Add left right value count = refl
op_counted between.Sub left right value count = refl
op_counted between.Mul left right value count = refl
op_counted between.FloorDiv left right value count = refl
op_counted between.Mod left right value count = refl
op_counted between.Min left right value count = refl
op_counted between.Max left right value count = refl

condition_counted : (layout : Layout) (free : ℕ) (when : ValueTree) (count : ℕ) → with_count (condition_op layout free when 0) count ≡ condition_op layout free when count
condition_counted layout free (literal value) count = refl
condition_counted layout free (variable place) count = refl
condition_counted layout free (local number) count = refl
condition_counted layout free (input connector at) count = refl
condition_counted layout free (one sign of) count = refl
condition_counted layout free (two sign left right) count = op_counted sign (operand_register layout free left) (operand_register layout (free + 1) right) free count
condition_counted layout free (choice value when other) count = refl

pub either_counted : (op : Op) (test : ℕ → Op) (first second : List Op) → ((count : ℕ) → with_count op count ≡ test count) → either_code (with_count op) first second ≡ either_code test first second
either_counted op test first second h = ap (λ jump. jump ∷ (first ++ Skip (length second) ∷ second)) (h (length first + 1))

pub condition_either : (layout : Layout) (free : ℕ) (when : ValueTree) (op : Op) (first second : List Op) → op ≡ condition_op layout free when 0 → either_code (with_count op) first second ≡ either_code (condition_op layout free when) first second
condition_either layout free when op first second is = either_counted op (condition_op layout free when) first second (λ count. ap (λ jump. with_count jump count) is ∙ condition_counted layout free when count)

-- a second value that is jumped over
pub is_jumped : (sign : TwoSign) (left to right : ℕ) (value : ValueTree) (jumped straight : List Op) → is_lazy sign ≡ true → is_ready value ≡ false →
    either_code (test_op (jumps_where sign) left) jumped (Copy to left ∷ []) ≡ second_code sign left to right value jumped straight
is_jumped sign left to right value jumped straight h g = rw (h, g) refl

-- the code of the locals, one after another
pub locals_first : (ops : List Op) (first count : ℕ) → ops ++ locals_code (first + 0) (count - 0) ≡ ops ++ locals_code first count
locals_first ops first count = let e : first + 0 ≡ first = omega arith in let g : count - 0 ≡ count = omega arith in (λ i. ops ++ locals_code (e i) (g i))

pub locals_none : (ops : List Op) (first count k : ℕ) → count ≤ k → ops ++ locals_code (first + k) (count - k) ≡ ops
locals_none ops first count k h = let e : count - k ≡ 0 = omega arith in ap (λ n. ops ++ locals_code (first + k) n) e ∙ append-nil ops

pub locals_step : (ops next all : List Op) (first count k to : ℕ) → k < count → to ≡ first + k → next ≡ ops ++ Number to (pos 0) ∷ [] → ops ++ locals_code (first + k) (count - k) ≡ all ++ locals_code first count →
    next ++ locals_code (first + (k + 1)) (count - (k + 1)) ≡ all ++ locals_code first count
locals_step ops next all first count k to h t n e =
    let less : suc (count - (k + 1)) ≡ count - k = omega arith in
    let place : first + (k + 1) ≡ first + k + 1 = omega arith in
    ap (λ l. l ++ locals_code (first + (k + 1)) (count - (k + 1))) n
    ∙ (append_assoc ops (Number to (pos 0) ∷ []) (locals_code (first + (k + 1)) (count - (k + 1)))
    ∙ ((λ i. ops ++ Number (t i) (pos 0) ∷ locals_code (place i) (count - (k + 1)))
    ∙ (ap (λ c. ops ++ locals_code (first + k) c) less ∙ e)))
