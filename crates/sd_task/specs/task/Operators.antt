-- The signs of the syntax tree as those of a graph's code.
use Rattle.sd_lex.specs.declared.syntax.operator.OneSign.{OneSign}
use Rattle.sd_lex.specs.declared.syntax.operator.OneSign.TheVariants as from_one
use Rattle.sd_lex.specs.declared.syntax.operator.TwoSign.{TwoSign}
use Rattle.sd_lex.specs.declared.syntax.operator.TwoSign.TheVariants as from_two
use Rattle.sd_graph.specs.declared.operator.OneSign as graph_one
use Rattle.sd_graph.specs.declared.operator.OneSign.TheVariants as to_one
use Rattle.sd_graph.specs.declared.operator.TwoSign as graph_two
use Rattle.sd_graph.specs.declared.operator.TwoSign.TheVariants as to_two

abbrev pub one_sign : OneSign → graph_one.OneSign
one_sign from_one.Not = to_one.Not
one_sign from_one.Neg = to_one.Neg
one_sign from_one.Inv = to_one.Inv

abbrev pub two_sign : TwoSign → graph_two.TwoSign
two_sign from_two.Or = to_two.Or
two_sign from_two.And = to_two.And
two_sign from_two.Less = to_two.Less
two_sign from_two.LessEqual = to_two.LessEqual
two_sign from_two.Greater = to_two.Greater
two_sign from_two.GreaterEqual = to_two.GreaterEqual
two_sign from_two.Equal = to_two.Equal
two_sign from_two.Differ = to_two.Differ
two_sign from_two.BitOr = to_two.BitOr
two_sign from_two.BitXor = to_two.BitXor
two_sign from_two.BitAnd = to_two.BitAnd
two_sign from_two.Add = to_two.Add
two_sign from_two.Sub = to_two.Sub
two_sign from_two.Mul = to_two.Mul
two_sign from_two.FloorDiv = to_two.FloorDiv
two_sign from_two.Mod = to_two.Mod
two_sign from_two.Min = to_two.Min
two_sign from_two.Max = to_two.Max
