-- Code that is set up for a tasklet with its numbers in variables.
use Rattle.std.proofs.Common.{◌≡◌, ◌+◌, ◌<◌, ◌^◌, ℤ, List, ◌∷◌, [], ◌++◌, map, length, replicate, Some, sym, ap, ◌∙◌, subst}
use Rattle.std.proofs.lemmas.List.{length-append, length-map, length-replicate}
use Rattle.sd_num.specs.Wrapped.{wrapped}
use Rattle.sd_range.specs.Affine.{variable_value}
use Rattle.sd_graph.specs.PlainTree.{TaskletTree}
use Rattle.sd_graph.specs.TaskletMeaning.{Inputs, meaning_of}
use Rattle.sd_graph.specs.Context.{Context, link_elements}
use Rattle.sd_graph.specs.declared.link.Link.{Link}
use Rattle.sd_tasklet.specs.literals.Literals.{lifted_tasklet, with_numbers}
use Rattle.sd_tasklet.proofs.literals_lemmas.LiftedMeaning.{meaning-lifted}
use Rattle.sd_tcode.specs.tcode.Compiled.{Compiled, IsCodeOf}
use Rattle.sd_tcode.specs.tcode.Held.{given}
use Rattle.sd_tcode.specs.declared.tcode.frame.Frame.{Frame}
use Rattle.sd_leaves.specs.leaves.Given.{given_at}
use Rattle.sd_tcode.specs.columns.Columns.{value_on}
use Rattle.sd_tcode.specs.declared.columns.spacing.Spaced.{Spaced}
use Rattle.sd_row.specs.row.Row.{reference_on}
use Rattle.sd_row.specs.declared.instance.accesses.Accesses.{Accesses}
use Rattle.sd_row.specs.instance.Fit.{IsRunner}
use Rattle.sd_row.specs.instance.Known.{AreKnown, IsSetUp}
use Rattle.sd_rows.specs.consume.Body.{IsBody, HasSingles}

module _ (tree made : TaskletTree) (numbers : List ℤ) (lifted : made ≡ lifted_tasklet numbers tree) (ins outs : List Link) (compiled : Compiled) (frame : Frame)
    (runner : IsRunner made ins outs compiled frame) (here standing : Context) (accesses : Accesses) (known : AreKnown tree ins outs 0 here standing accesses) where
  own_many : length accesses.variables.items ≡ length tree.variables
  own_many = sym (sym (length-map tree.variables (λ variable. wrapped (variable_value here.values variable))) ∙ ap length known.variables ∙ length-map accesses.variables.items (λ numbers. value_on numbers 0))

  all_many : length made.variables ≡ length tree.variables + length numbers
  all_many = ap (λ (code : TaskletTree). length code.variables) lifted ∙ length-append tree.variables (replicate (length numbers) 0) ∙ ap (λ many. length tree.variables + many) (length-replicate (length numbers) 0)

  module _ (own : List Spaced) (behind : List ℤ) (own_is : own ≡ accesses.variables.items) (behind_is : behind ≡ numbers) where
    both_many : length made.variables ≡ length own + length behind
    both_many = all_many ∙ ap (λ many. many + length numbers) (sym own_many) ∙ ap (λ (own : List Spaced). length own + length numbers) (sym own_is) ∙ ap (λ (behind : List ℤ). length own + length behind) (sym behind_is)

    -- there is a variable for each value
    pub variables_many : length (given frame).variables ≡ length own + length behind
    variables_many = runner.room.variables ∙ both_many

    pub variables_few : length own + length behind < 2 ^ 32
    variables_few = subst (λ many. many < 2 ^ 32) both_many runner.room.few_variables

  module _ (after : Inputs) (own : List Spaced) (behind : List ℤ) (own_is : own ≡ accesses.variables.items) (behind_is : behind ≡ numbers)
      (is : after ≡ record (given frame) { variables = map (λ numbers. value_on numbers 0) own ++ behind }) where
    -- with these values it means what the tasklet means
    pub body_is : IsSetUp made ins outs compiled (given frame) here → IsBody tree ins outs compiled after here
    body_is set =
        let extents : after.extents ≡ (given frame).extents = ap (λ (inputs : Inputs). inputs.extents) is in
        let variables : after.variables ≡ map (λ variable. wrapped (variable_value here.values variable)) tree.variables ++ numbers =
        ap (λ (inputs : Inputs). inputs.variables) is ∙ ap (λ (own : List Spaced). map (λ numbers. value_on numbers 0) own ++ behind) own_is ∙ ap (λ (behind : List ℤ). map (λ numbers. value_on numbers 0) accesses.variables.items ++ behind) behind_is
        ∙ ap (λ own. own ++ numbers) (sym known.variables) in
        record {
          compiled_tree = made;
          code = set.code;
          extents = extents ∙ set.extents;
          means = λ values.
              let same : record after { values = values } ≡ with_numbers numbers (given_at here tree ins outs values) = (λ i. record { values = values; extents = (extents ∙ set.extents) i; variables = variables i }) in
              ap (meaning_of made) same ∙ ap (λ code. meaning_of code (with_numbers numbers (given_at here tree ins outs values))) lifted
              ∙ meaning-lifted numbers tree (given_at here tree ins outs values) (length-map tree.variables (λ variable. wrapped (variable_value here.values variable)));
        }

    -- and has an element for each input
    pub singles_are : HasSingles (length accesses.reads.items) after
    singles_are =
        let reads : length ins ≡ length accesses.reads.items = sym (length-map ins (link_elements here)) ∙ ap length known.reads ∙ length-map accesses.reads.items (λ track. Some (reference_on track 0) ∷ []) in
        subst (HasSingles (length accesses.reads.items)) (sym is) (record {
          singles = runner.room.singles;
          reads = runner.room.reads ∙ reads;
          few = subst (λ many. many < 2 ^ 32) reads runner.room.few_reads;
        })

-- what is given may have other elements
pub body_stays : (tree : TaskletTree) (ins outs : List Link) (old new : Compiled) (before after : Inputs) (here : Context) → new ≡ old → after.extents ≡ before.extents → after.variables ≡ before.variables →
    IsBody tree ins outs old before here → IsBody tree ins outs new after here
body_stays tree ins outs old new before after here code extents variables body = record {
  compiled_tree = body.compiled_tree;
  code = subst (IsCodeOf body.compiled_tree) (sym code) body.code;
  extents = extents ∙ body.extents;
  means = λ values.
      let same : record after { values = values } ≡ record before { values = values } = (λ i. record { values = values; extents = extents i; variables = variables i }) in
      ap (meaning_of body.compiled_tree) same ∙ body.means values;
}
