-- Where the points of a row stand.
use Rattle.std.specs.Prelude.{◌≡◌, ℕ, ℤ, List, [], ◌∷◌, ◌++◌}
use Rattle.sd_range.specs.declared.range.Range.{Range}
use Rattle.sd_range.specs.Range.{range_values, counted_from}
use Rattle.sd_range.specs.Variables.{with_variable}
use Rattle.sd_graph.specs.PlainTree.{TaskletTree}
use Rattle.sd_graph.specs.Context.{Context, private_memory}
use Rattle.sd_graph.specs.Unfold.{at_point}
use Rattle.sd_graph.specs.declared.link.Link.{Link}
use Rattle.sd_scope.specs.even.Even.{spaced, IsEven}
use Rattle.sd_rows.specs.declared.rows.steps.Steps.{Steps}
use Rattle.sd_row.specs.row.Setting.{Setting}

-- the value of the last parameter at the point of this number
abbrev pub step_to : Steps → (k : ℕ) → ℤ
step_to steps k = spaced steps.first steps.step k

-- from one place to the next only a variable differs, which takes the values of the last parameter
pub record IsAlong (steps : Steps) (others : List ℤ) (context : ℕ → Context) : Type 0 where
  pub values : (k : ℕ) → (context k).values ≡ with_variable steps.variable (step_to steps k) others
  pub reach : (k : ℕ) → (context k).reach ≡ (context 0).reach
  pub containers : (k : ℕ) → (context k).containers ≡ (context 0).containers
  pub even : (number : ℕ) → IsEven ((context 0).reach number).find

-- the same between two contexts, so many points apart
pub record IsFromTo (steps : Steps) (gaps : ℕ) (begin end : Context) (others : List ℤ) (context : ℕ → Context) : Type 0 where
  pub along : IsAlong steps others context
  pub first : begin ≡ context 0
  pub last : end ≡ context gaps

-- the row of a map whose other parameters have these values
abbrev pub row_of : TaskletTree → (ins outs : List Link) → (line : ℕ) → (params : List (ℕ × Range)) → (private : List ℕ) → Context → (row : List ℤ) → Steps → Setting
row_of tree ins outs line params private context row steps = record {
  tree = tree;
  ins = ins;
  outs = outs;
  line = line;
  context = λ k. at_point context params private (row ++ step_to steps k ∷ []);
  own = private_memory context.containers private;
}

-- the last of the parameters, behind these others, takes these values
pub record IsLast (params outer : List (ℕ × Range)) (values : List ℤ) (steps : Steps) : Type 0 where
  pub range : Range
  pub all : params ≡ outer ++ (steps.variable, range) ∷ []
  pub taken : range_values values range ≡ counted_from steps.first steps.step steps.count
