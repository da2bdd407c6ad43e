-- How a row that is run by its tracks ends.
use Rattle.std.proofs.Common.{◌≡◌, ℤ, List, [], ◌∷◌, drop, Result, Ok, Err, IfOk, OnOk, refl, ap, sym, ◌∙◌, subst}
use Rattle.sd_work.specs.Memory.{Memory}
use Rattle.sd_work.specs.Change.{innermost}
use Rattle.sd_work.specs.BigStep.{Reached}
use Rattle.sd_graph.specs.ContainerParts.{Containers}
use Rattle.sd_graph.specs.Context.{private_memory}
use Rattle.sd_tcode.specs.tcode.Compiled.{Compiled}
use Rattle.sd_tcode.specs.declared.tcode.frame.Frame.{Frame}
use Rattle.sd_mem.specs.machine.ComesTo.{IsEnd}
use Rattle.sd_mem.specs.declared.machine.end.End.{End}
use Rattle.sd_row.specs.declared.row.row.Row.{Row}
use Rattle.sd_rows.specs.declared.rows.steps.Steps.{Steps}
use Rattle.sd_row.specs.declared.row.row_run.RowEnd.{RowEnd}
use Rattle.sd_rows.specs.declared.rows.map.TaskMap.{TaskMap}
use Rattle.sd_rows.specs.rows.Map.{tree_of, context_at, row_at, own_memory}
use Rattle.sd_rows.specs.rows.Code.{IsInstance}
use Rattle.sd_row.specs.row.Point.{IsOver, below}
use Rattle.sd_row.specs.row.Setting.{Setting, IsSetting, IsRowOf, row_coming, end_of_row}
use Rattle.sd_row.proofs.row_lemmas.RowSteps.{row_entered, over_entered, bare_private}

module _ (task : TaskMap) (row : List ℤ) (steps : Steps) where
  abbrev setting : Setting
  setting = row_at task row steps

  -- it is a row of the code
  in_setting : (tracks : Row) (compiled : Compiled) (frame : Frame) → task.private.now ≡ [] → IsInstance (tree_of task) task.ins.now task.outs.now compiled frame → IsRowOf setting compiled tracks steps.count →
      IsSetting tracks compiled steps.count setting
  in_setting tracks compiled frame none instance is = record {
    code = instance.code;
    connectors = instance.connectors;
    at = is.at;
    bare = bare_private (context_at task).containers task.private.now none;
  }

  -- the memory of its points
  entered_is : (containers : Containers) (own : Memory) (old entered : Reached) → containers ≡ (context_at task).containers → own ≡ private_memory containers task.private.now → entered.memories ≡ own ∷ old.memories →
      entered.memories ≡ setting.own ∷ old.memories
  entered_is containers own old entered same_containers same_own same =
      same ∙ ap (λ (own : Memory). own ∷ old.memories) (same_own ∙ ap (λ (c : Containers). private_memory c task.private.now) same_containers)

  pub over_own : (containers : Containers) (own : Memory) (old entered : Reached) → containers ≡ (context_at task).containers → own ≡ private_memory containers task.private.now → entered.memories ≡ own ∷ old.memories →
      IsOver setting.own entered
  over_own containers own old entered same_containers same_own same = over_entered setting old entered (entered_is containers own old entered same_containers same_own same)

  -- what is done inside it is what the row comes to
  pub inside_ends : (containers : Containers) (own : Memory) (old entered after now : Reached) (end : RowEnd) →
      containers ≡ (context_at task).containers → own ≡ private_memory containers task.private.now → entered.memories ≡ own ∷ old.memories → entered.turns ≡ old.turns →
      now.memories ≡ drop 1 after.memories → now.turns ≡ after.turns →
      IsEnd (row_coming setting 0 steps.count (below entered)) (below entered) (end_of_row setting end) (below after) →
      IsEnd (row_coming setting 0 steps.count old) old (end_of_row setting end) now
  inside_ends containers own old entered after now end same_containers same_own same turns dropped kept ends =
      row_entered setting steps.count old entered after now (end_of_row setting end) (entered_is containers own old entered same_containers same_own same) turns dropped kept ends

  pub tracks_end : (containers : Containers) (tracks : Row) (compiled : Compiled) (frame : Frame) (own : Memory) (old entered after now : Reached) (end : RowEnd) → task.private.now ≡ [] →
      IsInstance (tree_of task) task.ins.now task.outs.now compiled frame → IsRowOf setting compiled tracks steps.count →
      containers ≡ (context_at task).containers → own ≡ private_memory containers task.private.now → entered.memories ≡ own ∷ old.memories → entered.turns ≡ old.turns →
      now.memories ≡ drop 1 after.memories → now.turns ≡ after.turns →
      ((setting : Setting) → IsSetting tracks compiled steps.count setting → IsOver setting.own entered → IsEnd (row_coming setting 0 steps.count (below entered)) (below entered) (end_of_row setting end) (below after)) →
      IsEnd (row_coming setting 0 steps.count old) old (end_of_row setting end) now
  tracks_end containers tracks compiled frame own old entered after now end none instance is same_containers same_own same turns dropped kept ends =
      inside_ends containers own old entered after now end same_containers same_own same turns dropped kept
      (ends setting (in_setting tracks compiled frame none instance is) (over_own containers own old entered same_containers same_own same))

  -- and it is given back as it was lent
  pub given_back : (tracks : Row) (compiled : Compiled) (frame : Frame) (own given : Memory) (old lent after : Reached) → task.private.now ≡ [] →
      IsInstance (tree_of task) task.ins.now task.outs.now compiled frame → IsRowOf setting compiled tracks steps.count → own ≡ own_memory task → lent.memories ≡ own ∷ old.memories →
      ((setting : Setting) → IsSetting tracks compiled steps.count setting → IsOver setting.own lent → IsOver setting.own after) → given ≡ innermost after.memories → given ≡ own_memory task
  given_back tracks compiled frame own given old lent after none instance is same_own same keeps given_is =
      given_is ∙ ap innermost (keeps setting (in_setting tracks compiled frame none instance is) (over_own (context_at task).containers own old lent refl same_own same))

  -- what is so is so however the row ends
  pub kept_so : {E : Type 0} (told : Result End E) (Is : Type 0) → Is → OnOk told Is
  kept_so (Ok end) Is is = is
  kept_so (Err error) Is is = tt

  -- the map ends as the row does
  pub row_told : {E : Type 0} (told : Result End E) (end : RowEnd) (old now : Reached) → IfOk told (λ told. told ≡ end_of_row setting end) → IsEnd (row_coming setting 0 steps.count old) old (end_of_row setting end) now →
      IfOk told (λ end. IsEnd (row_coming setting 0 steps.count old) old end now)
  row_told (Ok told) end old now is ends = subst (λ (e : End). IsEnd (row_coming setting 0 steps.count old) old e now) (sym is) ends
  row_told (Err error) end old now is ends = tt
