-- The signs of statements mean what the signs of code mean.
use Rattle.std.proofs.Common.{◌≡◌, ℤ, Option, Some, None, option_map, Ok, if◌then◌else◌, refl, ap}
use Rattle.sd_lex.specs.declared.syntax.memlet.Lambda.{Lambda}
use Rattle.sd_lex.specs.declared.syntax.memlet.Lambda.TheVariants as lambda
use Rattle.sd_lex.specs.declared.syntax.operator.OneSign.{OneSign}
use Rattle.sd_lex.specs.declared.syntax.operator.OneSign.TheVariants as one_signs
use Rattle.sd_lex.specs.declared.syntax.operator.TwoSign.{TwoSign}
use Rattle.sd_lex.specs.declared.syntax.operator.TwoSign.TheVariants as two_signs
use Rattle.sd_graph.specs.TaskletMeaning as graph
use Rattle.sd_graph.specs.TaskletMeaning.{Meaning, and_then}
use Rattle.sd_task.specs.task.Operators.{one_sign, two_sign}
use Rattle.sd_task.specs.task.Links as links
use Rattle.sd_says.specs.Operators.{one_value, two_values, decides, two_sides, resolution_of}

pub one_same : (sign : OneSign) (value : ℤ) → graph.one_value (one_sign sign) value ≡ one_value sign value
one_same one_signs.Not value = refl
one_same one_signs.Neg value = refl
one_same one_signs.Inv value = refl

two_same : (sign : TwoSign) (left : ℤ) → graph.two_values (two_sign sign) left ≡ two_values sign left
two_same two_signs.Or left = refl
two_same two_signs.And left = refl
two_same two_signs.Less left = refl
two_same two_signs.LessEqual left = refl
two_same two_signs.Greater left = refl
two_same two_signs.GreaterEqual left = refl
two_same two_signs.Equal left = refl
two_same two_signs.Differ left = refl
two_same two_signs.BitOr left = refl
two_same two_signs.BitXor left = refl
two_same two_signs.BitAnd left = refl
two_same two_signs.Add left = refl
two_same two_signs.Sub left = refl
two_same two_signs.Mul left = refl
two_same two_signs.FloorDiv left = refl
two_same two_signs.Mod left = refl
two_same two_signs.Min left = refl
two_same two_signs.Max left = refl

decides_same : (sign : TwoSign) (left : ℤ) → graph.decides (two_sign sign) left ≡ decides sign left
decides_same two_signs.Or left = refl
decides_same two_signs.And left = refl
decides_same two_signs.Less left = refl
decides_same two_signs.LessEqual left = refl
decides_same two_signs.Greater left = refl
decides_same two_signs.GreaterEqual left = refl
decides_same two_signs.Equal left = refl
decides_same two_signs.Differ left = refl
decides_same two_signs.BitOr left = refl
decides_same two_signs.BitXor left = refl
decides_same two_signs.BitAnd left = refl
decides_same two_signs.Add left = refl
decides_same two_signs.Sub left = refl
decides_same two_signs.Mul left = refl
decides_same two_signs.FloorDiv left = refl
decides_same two_signs.Mod left = refl
decides_same two_signs.Min left = refl
decides_same two_signs.Max left = refl

pub sides_same : (sign : TwoSign) (left : ℤ) (right : Meaning ℤ) → graph.two_sides (two_sign sign) left right ≡ two_sides sign left right
sides_same sign left right = λ i. if decides_same sign left i then Ok left else and_then right (two_same sign left i)

pub resolution_same : (named : Lambda) → links.resolution_of named ≡ resolution_of named
resolution_same lambda.Sum = refl
resolution_same lambda.Product = refl
resolution_same lambda.Min = refl
resolution_same lambda.Max = refl
resolution_same lambda.And = refl
resolution_same lambda.Or = refl
resolution_same lambda.Xor = refl
resolution_same lambda.Last = refl

pub resolutions_same : (named : Option Lambda) → option_map links.resolution_of named ≡ option_map resolution_of named
resolutions_same None = refl
resolutions_same (Some named) = ap Some (resolution_same named)
