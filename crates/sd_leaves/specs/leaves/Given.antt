-- What code is given where a scope stands, and what it answers.
use Rattle.std.specs.Prelude.{ℤ, List, ◌++◌, map, Result, Ok, Err}
use Rattle.sd_num.specs.Wrapped.{wrapped}
use Rattle.sd_range.specs.Affine.{variable_value}
use Rattle.sd_graph.specs.PlainTree.{TaskletTree}
use Rattle.sd_graph.specs.TaskletMeaning.{Inputs}
use Rattle.sd_graph.specs.Context.{Context, link_extents}
use Rattle.sd_graph.specs.Unfold.{pending_of}
use Rattle.sd_graph.specs.declared.link.Link.{Link}
use Rattle.sd_tasklet.specs.tasklet.Kept.{told}
use Rattle.sd_tasklet.specs.declared.tasklet.effect.Effect.{Effect}
use Rattle.sd_work.specs.Leaf.{Pending}

-- the elements of each input, the extents of the connectors and the values of the variables
abbrev pub given_at : Context → TaskletTree → (ins outs : List Link) → (values : List (List ℤ)) → Inputs
given_at context code ins outs values = record {
  values = values;
  extents = map (link_extents context) (ins ++ outs);
  variables = map (λ variable. wrapped (variable_value context.values variable)) code.variables;
}

-- an answer in other words
abbrev pub told_by : {A B E : Type 0} → (A → B) → Result A E → Result B E
told_by told (Ok value) = Ok (told value)
told_by told (Err error) = Err error

-- what is to do for an effect of code that is given this
abbrev pub pending_told : Context → Inputs → (ins outs : List Link) → Effect → Pending
pending_told context inputs ins outs effect = pending_of context ins outs (told inputs effect)
