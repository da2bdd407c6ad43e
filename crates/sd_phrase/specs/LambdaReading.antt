-- Lambdas.
use Rattle.std.specs.Option.{option_and_then, option_map}
use Rattle.std.specs.Prelude.{ℕ, List, codes, Option, Some, None, Bool, false, ◌&&◌, ◌||◌, if◌then◌else◌}
use Rattle.std.specs.Str.{bytes_eq}
use Rattle.sd_lex.specs.PlainTree.{Expression, named, two}
use Rattle.sd_lex.specs.declared.syntax.memlet.Lambda.{Lambda}
use Rattle.sd_lex.specs.declared.syntax.memlet.Lambda.TheVariants.{Sum, Product, Min as Min_kind, Max as Max_kind, And, Or, Xor, Last}
use Rattle.sd_lex.specs.declared.syntax.operator.TwoSign.{TwoSign}
use Rattle.sd_lex.specs.declared.syntax.operator.TwoSign.TheVariants.{Add, Mul, Min, Max, BitAnd, BitOr, BitXor}
use Rattle.sd_phrase.specs.ExpressionReading.{expression}
use Rattle.sd_phrase.specs.Memlet.{LambdaTree}
use Rattle.sd_phrase.specs.Phrase.{next, name_first}
use Rattle.sd_phrase.specs.Readings.{reading_map, if_some}
use Rattle.sd_phrase.specs.declared.reading.Reading.{Reading}
use Rattle.sd_phrase.specs.declared.word.Piece.{Piece}

-- the kind of a sign between the two names of a lambda
abbrev pub kind_of_sign : TwoSign → Option Lambda
kind_of_sign Add = Some Sum
kind_of_sign Mul = Some Product
kind_of_sign Min = Some Min_kind
kind_of_sign Max = Some Max_kind
kind_of_sign BitAnd = Some And
kind_of_sign BitOr = Some Or
kind_of_sign BitXor = Some Xor
kind_of_sign sign = None

-- the expression is this name alone
abbrev pub is_name_alone : List ℕ → Expression → Bool
is_name_alone name (named other) = bytes_eq other name
is_name_alone name body = false

-- the two parts are the two names, in either order
abbrev pub is_pair : (first second : List ℕ) → (left right : Expression) → Bool
is_pair first second left right = (is_name_alone first left && is_name_alone second right) || (is_name_alone second left && is_name_alone first right)

-- the kind of a lambda with two different names: the later value, or the two names in either order about one of seven signs
abbrev pub kind_of_body : (first second : List ℕ) → Expression → Option Lambda
kind_of_body first second (named name) = if bytes_eq name second then Some Last else None
kind_of_body first second (two sign left right) = if is_pair first second left right then kind_of_sign sign else None
kind_of_body first second body = None

-- the kind of a lambda; one whose names are the same has none
abbrev pub kind_of : (first second : List ℕ) → Expression → Option Lambda
kind_of first second body = if bytes_eq first second then None else kind_of_body first second body

-- a lambda of its parts
abbrev pub lambda_tree : (first second : List ℕ) → Expression → LambdaTree
lambda_tree first second body = record { first = first; second = second; kind = kind_of first second body }

-- what stands behind `lambda`: the two names, and what is behind their colon
pub record LambdaNames : Type 0 where
  pub first : List ℕ
  pub second : List ℕ
  pub rest : List Piece

-- the second name, and what is behind its colon
abbrev pub lambda_second : List ℕ → (first : List ℕ) → List Piece → Option LambdaNames
lambda_second text first ts = option_and_then (λ found. option_map (λ rest. record { first = first; second = found.0; rest = rest }) (next text (codes ":") found.1)) (name_first text ts)

-- `x, y:` behind the word `lambda`
abbrev pub lambda_names : List ℕ → List Piece → Option LambdaNames
lambda_names text ts = option_and_then (λ found. option_and_then (lambda_second text found.0) (next text (codes ",") found.1)) (name_first text ts)

-- a lambda with its body
abbrev pub lambda_by : List ℕ → (first second : List ℕ) → List Piece → Reading LambdaTree
lambda_by text first second body = reading_map (lambda_tree first second) (expression text false 64 body)

-- `lambda x, y: E`
abbrev pub lambda_whole : List ℕ → List Piece → Reading LambdaTree
lambda_whole text ts = if_some (option_and_then (lambda_names text) (next text (codes "lambda") ts)) (λ names. lambda_by text names.first names.second names.rest)
