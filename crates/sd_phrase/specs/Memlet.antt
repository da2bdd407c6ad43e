-- A lambda and a memlet as they are written, and the plain forms of the code's.
use Rattle.std.specs.Prelude.{ℕ, ℤ, List, Option, option_map, string_bytes}
use Rattle.sd_lex.specs.declared.syntax.memlet.Lambda.{Lambda}
use Rattle.sd_lex.specs.PlainTree.{Dimension}
use Rattle.sd_lex.specs.TreeFold.{dimensions_of}
use Rattle.sd_phrase.specs.declared.memlet.WrittenMemlet.{WrittenMemlet}
use Rattle.sd_phrase.specs.declared.lambda.WrittenLambda.{WrittenLambda}

-- a lambda `lambda first, second: ..`: its two names as they are written, and its kind where it is one of the eight
pub record LambdaTree : Type 0 where
  pub first : List ℕ
  pub second : List ℕ
  pub kind : Option Lambda

-- the memlet of a connector line, with the lambda as written
pub record MemletTree : Type 0 where
  pub name : List ℕ
  pub volume : Option ℤ
  pub lambda : Option LambdaTree
  pub dimensions : List Dimension

-- the plain form of a lambda
abbrev pub lambda_tree_of : WrittenLambda → LambdaTree
lambda_tree_of combined = record { first = string_bytes combined.first; second = string_bytes combined.second; kind = combined.kind }

-- the plain form of a memlet
abbrev pub memlet_tree_of : WrittenMemlet → MemletTree
memlet_tree_of moved = record { name = string_bytes moved.name; volume = moved.volume; lambda = option_map lambda_tree_of moved.lambda; dimensions = dimensions_of moved.dims.items }
