-- Effects through links whose targets are known.
use Rattle.std.proofs.Common.{◌≡◌, ℕ, zero, suc, ◌+◌, ◌-◌, ◌<◌, ◌≤◌, ℤ, List, [], ◌∷◌, ◌++◌, map, length, Option, Some, None, true, false, nat_lt, if◌then◌else◌, slice_get, slice_index_or, refl, sym, ap, ◌∙◌, subst, arith}
use Rattle.std.specs.List.{AllZip}
use Rattle.std.proofs.lemmas.Bool.Decides.{nat_tests}
use Rattle.sd_range.specs.declared.range.Range.{Range}
use Rattle.sd_range.specs.declared.subset.Dim.{Dim}
use Rattle.sd_range.specs.declared.subset.Dim.TheVariants.{Index, Span}
use Rattle.sd_work.specs.declared.fault.FaultKind.TheVariants.{Subscript}
use Rattle.sd_work.specs.BigStep.{Reached}
use Rattle.sd_graph.specs.TaskletMeaning.{Inputs, extents_of_connector}
use Rattle.sd_graph.specs.Context.{Context, link_extents, span_counts}
use Rattle.sd_graph.specs.Unfold.{pending_by}
use Rattle.sd_graph.specs.declared.link.Link.{Link}
use Rattle.sd_tasklet.specs.tasklet.Kept.{told}
use Rattle.sd_tasklet.specs.declared.tasklet.effect.Effect.{Effect}
use Rattle.sd_leaves.specs.leaves.Done.{IsDone, performing}
use Rattle.sd_leaves.specs.leaves.Given.{pending_told}
use Rattle.sd_leaves.proofs.leaves_lemmas.Doing.{write_outside}
use Rattle.sd_row.specs.declared.instance.target.Target.{Target}
use Rattle.sd_row.specs.instance.Known.{IsTarget, AreTargets}

-- ---- ranges

-- behind a dimension that is no range there are as many
pub index_passed : (dims rest : List Dim) (dim : Dim) (values : List ℤ) → dims ≡ dim ∷ rest → ((range : Range) → dim ≡ Span range → ⊥) → length (span_counts dims values) ≡ length (span_counts rest values)
index_passed dims rest (Index at) values is none = ap (λ dims. length (span_counts dims values)) is
index_passed dims rest (Span range) values is none = absurd (none range refl)

-- behind a range there is one less
pub range_passed : (dims rest : List Dim) (dim : Dim) (range : Range) (values : List ℤ) → dims ≡ dim ∷ rest → dim ≡ Span range → length (span_counts dims values) ≡ length (span_counts rest values) + 1
range_passed dims rest dim range values is spans =
    ap (λ dims. length (span_counts dims values)) (is ∙ ap (λ (dim : Dim). dim ∷ rest) spans) ∙ omega arith

-- ---- lists side by side

pub zip_at : {A B : Type 0} (Is : A → B → Type 0) (members : List A) (others : List B) (number : ℕ) (member : A) → AllZip Is members others → slice_get members number ≡ Some member →
    (other : B) × (slice_get others number ≡ Some other) × Is member other
zip_at Is [] others number member all there = cc
zip_at Is (first ∷ members) [] number member all there = absurd all
zip_at Is (first ∷ members) (other ∷ others) zero member all there = (other, refl, subst (λ m. Is m other) (same first member there) all.0)
  where
    same : {A : Type 0} (a b : A) → Some a ≡ Some b → a ≡ b
    same a b is = cc
zip_at Is (first ∷ members) (other ∷ others) (suc number) member all there = zip_at Is members others number member all.1 there

-- what is made of a member
pub made_of : {A B : Type 0} (made : A → B) (members : List A) (number : ℕ) (member : A) (none : B) → slice_get members number ≡ Some member → slice_index_or (map made members) number none ≡ made member
made_of made [] number member none there = cc
made_of made (first ∷ members) zero member none there = ap made (same first member there)
  where
    same : {A : Type 0} (a b : A) → Some a ≡ Some b → a ≡ b
    same a b is = cc
made_of made (first ∷ members) (suc number) member none there = made_of made members number member none there

-- what is made of a member behind others
pub made_behind : {A B : Type 0} (made : A → B) (first second : List A) (connector number : ℕ) (member : A) (none : B) → connector ≡ length first + number → slice_get second number ≡ Some member →
    slice_index_or (map made (first ++ second)) connector none ≡ made member
made_behind made [] second connector number member none is there =
    let same : connector ≡ number = omega (arith, is) in
    ap (λ n. slice_index_or (map made second) n none) same ∙ made_of made second number member none there
made_behind made (one ∷ first) second zero number member none is there = absurd (omega (arith, is))
made_behind made (one ∷ first) second (suc connector) number member none is there = made_behind made first second connector number member none (omega (arith, is)) there

-- ---- effects through no link

module _ (context : Context) (given : Inputs) (ins outs : List Link) (effect : Effect) (now : Reached) where
  -- one on an input
  pub on_input : effect.connector < length ins → IsDone (performing (pending_told context given ins outs effect ∷ [])) now (Some Subscript) now
  on_input input =
      let is_in : nat_lt effect.connector (length ins) ≡ true = grind (arith, nat_tests) in
      subst (λ test. IsDone (performing ((if test then pending_by context None (told given effect) else pending_by context (slice_get outs (effect.connector - length ins)) (told given effect)) ∷ [])) now (Some Subscript) now) (sym is_in)
      (write_outside None now effect.value)

  -- one behind the outputs
  pub on_none : length ins ≤ effect.connector → slice_get outs (effect.connector - length ins) ≡ None → IsDone (performing (pending_told context given ins outs effect ∷ [])) now (Some Subscript) now
  on_none output none =
      let not_in : nat_lt effect.connector (length ins) ≡ false = grind (arith, nat_tests) in
      subst (λ test. IsDone (performing ((if test then pending_by context None (told given effect) else pending_by context (slice_get outs (effect.connector - length ins)) (told given effect)) ∷ [])) now (Some Subscript) now) (sym not_in)
      (subst (λ (link : Option Link). IsDone (performing (pending_by context link (told given effect) ∷ [])) now (Some Subscript) now) (sym none)
      (write_outside None now effect.value))

-- ---- outputs

module _ (inputs : ℕ) (ins outs : List Link) (given : Inputs) (targets : List Target) (k : ℕ) (context standing : Context) (are : AreTargets inputs ins outs given targets k context standing) where
  -- the extents of an output are those of its link
  pub extents_there : (connector : ℕ) (link : Link) → length ins ≤ connector → slice_get outs (connector - length ins) ≡ Some link → extents_of_connector given connector ≡ link_extents context link
  extents_there connector link output there =
      let is : connector ≡ length ins + (connector - length ins) = omega (arith, output) in
      ap (λ (extents : List (List ℕ)). slice_index_or extents connector []) are.extents
      ∙ made_behind (link_extents context) ins outs connector (connector - length ins) link [] is there

  pub target_there : (number : ℕ) (link : Link) (target : Target) → slice_get outs number ≡ Some link → ((other : Target) → slice_get targets number ≡ Some other → target ≡ other) → IsTarget k context standing link target
  target_there number link target there is =
      let found = zip_at (IsTarget k context standing) outs targets number link are.targets there in
      subst (λ (t : Target). IsTarget k context standing link t) (sym (is found.0 found.1)) found.2
