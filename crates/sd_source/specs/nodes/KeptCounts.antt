-- The same limits, with no count kept beyond one more than the limit.
use Rattle.std.specs.Prelude.{ℕ, suc, min, List, [], ◌∷◌, Option, None}
use Rattle.sd_lex.specs.PlainTree.{FunctionTree}
use Rattle.sd_source.specs.nodes.Names.{put}
use Rattle.sd_source.specs.nodes.NodeLimits.{count_in_all, graph_over, lesser}
use Rattle.sd_source.specs.nodes.SourceNodes.{parameters_of, states_of}
use Rattle.sd_source.specs.declared.nodes.functions.Functions.{Functions}
use Rattle.sd_source.specs.declared.nodes.limits.Limits.{Limits}

-- with one more function
abbrev pub with_kept_function : Limits → Functions → FunctionTree → Functions
with_kept_function limits functions function = record {
  parameters = put functions.parameters function.name (parameters_of functions.parameters function);
  counts = put functions.counts function.name (min (suc limits.all) (count_in_all functions.counts (states_of functions.parameters function)));
}

-- the least line at which one of the functions behind these passes a limit
abbrev pub kept_over : Limits → Functions → List FunctionTree → Option ℕ
kept_over limits before [] = None
kept_over limits before (function ∷ functions) =
    lesser (graph_over limits before.counts (states_of before.parameters function)) (kept_over limits (with_kept_function limits before function) functions)
