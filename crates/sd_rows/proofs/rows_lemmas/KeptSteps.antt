-- Steps through the points of a row whose effects are kept.
use Rattle.std.proofs.Common.{◌≡◌, ℕ, ℤ, zero, suc, ◌<◌, List, [], ◌∷◌, length, get_or, Option, Some, None, Result, Ok, Err, IfOk, sym, ap, ◌∙◌, subst, arith}
use Rattle.std.specs.Option.{MatchOption}
use Rattle.std.specs.Bool.{⊤}
use Rattle.std.specs.List.{AllByRecursion}
use Rattle.sd_range.specs.declared.range.Range.{Range}
use Rattle.sd_graph.specs.PlainTree.{TaskletTree}
use Rattle.sd_graph.specs.Context.{Context}
use Rattle.sd_graph.specs.Unfold.{at_point}
use Rattle.sd_graph.specs.declared.link.Link.{Link}
use Rattle.sd_tcode.specs.tcode.Compiled.{Compiled, IsCodeOf}
use Rattle.sd_tcode.specs.tcode.Held.{IsReady, given}
use Rattle.sd_tcode.specs.declared.tcode.frame.Frame.{Frame}
use Rattle.sd_row.specs.row.Setting.{Setting}
use Rattle.sd_row.specs.declared.instance.accesses.Accesses.{Accesses}
use Rattle.sd_row.specs.instance.Fit.{IsRunner}
use Rattle.sd_row.specs.instance.Known.{IsSetUp, HasRoom, AreOutward}
use Rattle.sd_rows.specs.rows.Kept.{IsKeptRow}

-- what is found is so, where it is otherwise
pub told_so : {A E : Type 0} (told meant : A → Type 0) (answer : Result (Option A) E) → ((value : A) → told value → meant value) →
    IfOk answer (λ found. MatchOption found ⊤ told) → IfOk answer (λ found. MatchOption found ⊤ meant)
told_so told meant (Ok (Some value)) follows is = follows value is
told_so told meant (Ok None) follows is = is
told_so told meant (Err error) follows is = tt

-- one of those that all are so
pub all_member : {A : Type 0} (Is : A → Type 0) (members : List A) (number : ℕ) (member : A) → AllByRecursion Is members → number < length members → member ≡ get_or members number member → Is member
all_member Is [] number member all within is = absurd (omega (arith, within))
all_member Is (first ∷ members) zero member all within is = subst Is (sym is) all.0
all_member Is (first ∷ members) (suc number) member all within is = all_member Is members number member all.1 (omega (arith, within)) is

-- without private containers all are further out
above : (context : Context) (params : List (ℕ × Range)) (private : List ℕ) (point : List ℤ) (number : ℕ) → private ≡ [] → 0 < ((at_point context params private point).reach number).level
above context params private point number none = subst (λ (private : List ℕ). 0 < ((at_point context params private point).reach number).level) (sym none) (omega arith)

pub all_outward : (context : Context) (params : List (ℕ × Range)) (private : List ℕ) (point : List ℤ) (outs : List Link) → private ≡ [] → AreOutward (at_point context params private point) outs
all_outward context params private point [] none = tt
all_outward context params private point (link ∷ outs) none = (above context params private point link.memlet.container none, all_outward context params private point outs none)

module _ (tree : TaskletTree) (ins outs : List Link) (accesses : Accesses) (compiled after : Compiled) (frame new : Frame)
    (runner : IsRunner tree ins outs compiled frame) (room : HasRoom (length accesses.reads.items) (length accesses.variables.items) (given frame))
    (code : after ≡ compiled) (extents : (given new).extents ≡ (given frame).extents) where
  -- the frame is as fit as before
  pub runner_again : IsReady after new → HasRoom (length accesses.reads.items) (length accesses.variables.items) (given new) → IsRunner tree ins outs after new
  runner_again ready more = record {
    code = subst (IsCodeOf tree) (sym code) runner.code;
    ready = ready;
    room = record {
      singles = more.singles;
      reads = more.reads ∙ sym room.reads ∙ runner.room.reads;
      variables = more.variables ∙ sym room.variables ∙ runner.room.variables;
      few_reads = runner.room.few_reads;
      few_variables = runner.room.few_variables;
    };
    connectors = ap length extents ∙ runner.connectors;
    scalars = runner.scalars;
  }

-- the code is set up at each point
pub set_again : (setting : Setting) (standing : Context) (accesses : Accesses) (count k : ℕ) (compiled after : Compiled) (frame new : Frame) → IsKeptRow setting compiled (given frame) standing accesses count → k < count →
    after ≡ compiled → (given new).extents ≡ (given frame).extents → IsSetUp setting.tree setting.ins setting.outs after (given new) (setting.context k)
set_again setting standing accesses count k compiled after frame new row within code extents =
    let set = row.set k within in
    record { code = subst (IsCodeOf setting.tree) (sym code) set.code; extents = extents ∙ set.extents }
