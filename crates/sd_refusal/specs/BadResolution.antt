-- Error 9: a lambda is none of the eight kinds.
use Rattle.std.specs.Prelude.{Bool, true, false, Option, Some, None}
use Rattle.sd_lex.specs.declared.syntax.memlet.Lambda.{Lambda}
use Rattle.sd_phrase.specs.Memlet.{LambdaTree}
use Rattle.sd_line.specs.line.Head.{HeadTree}
use Rattle.sd_uses.specs.Uses.{lambda_of}

abbrev pub is_none_kind : Option Lambda → Bool
is_none_kind None = true
is_none_kind (Some lambda) = false

abbrev pub has_no_kind : Option LambdaTree → Bool
has_no_kind None = false
has_no_kind (Some lambda) = is_none_kind lambda.kind

abbrev pub has_bad_resolution : HeadTree → Bool
has_bad_resolution head = has_no_kind (lambda_of head)
