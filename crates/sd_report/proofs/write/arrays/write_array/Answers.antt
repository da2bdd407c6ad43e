use Rattle.std.proofs.Common.{◌≡◌, [], ◌∷◌, ◌++◌, ap, sym, ◌∙◌, subst, rules, append_assoc, append-nil}
use Rattle.std.proofs.lemmas.Result.{err_from_is_err_and, IfOk-weaker, IfErr-weaker}
use Rattle.sd_work.specs.Memory.{elements_of}
use Rattle.sd_graph.specs.TreeFold.{graph_tree}
use Rattle.sd_io.specs.Sink.{Appends, AppendsPrefix}
use Rattle.sd_mem.specs.mem.Cells.{array_lent}
use Rattle.sd_json.specs.AnswerText.{container_head, container_line, elements_text}
use Rattle.sd_report.proofs.write_lemmas.SinkLemmas.{Appends-nothing, Appends-trans, AppendsPrefix-later, AppendsPrefix-none}
use Rattle.sd_report.proofs.write_lemmas.Parts.{line_ended}
use Rattle.sd_report.proofs.write.arrays.write_array.Goals as goal

pub returns-in_default-clause-err : goal.returns-in_default-clause-err
returns-in_default-clause-err g c = AppendsPrefix-none _ _ _ (Appends-nothing _)

pub returns-in_err-line-clause-err : goal.returns-in_err-line-clause-err
returns-in_err-line-clause-err g c =
    let old = g.K.Sink.taken c.args.out.now in
    let p = err_from_is_err_and c.from_residual.result c.from_residual.ensures.1 in
    let tree = graph_tree c.args.bound.now.graph in
    let memory = c.args.memory.now in
    let begin = c.into_bytes.result.items in
    let text = elements_text (elements_of (array_lent c.cells-elements.result)) in
    let head : begin ≡ container_head tree c.args.argument = ap (λ bytes. bytes.items) c.into_bytes.ensures.value ∙ c.in-Ok.ensures in
    let whole : container_line tree memory c.args.argument ≡ (begin ++ text) ++ 10 ∷ [] = λ i. (sym head i ++ elements_text (sym c.cells-elements.ensures.elements i)) ++ 10 ∷ [] in
    rw p.1
    (AppendsPrefix-later old old _ (container_line tree memory c.args.argument) [] (begin ++ text) (10 ∷ []) whole (Appends-nothing old) c.in_err-line.ensures.err)

pub returns-then-is_err-clause-err : goal.returns-then-is_err-clause-err
returns-then-is_err-clause-err g c =
    let old = g.K.Sink.taken c.args.out.now in
    let tree = graph_tree c.args.bound.now.graph in
    let memory = c.args.memory.now in
    let begin = c.into_bytes.result.items in
    let text = elements_text (elements_of (array_lent c.cells-elements.result)) in
    let line = c.in_ok-line.line.items in
    let front = c.in_ok-line.ensures.ok.0 in
    let head : begin ≡ container_head tree c.args.argument = ap (λ bytes. bytes.items) c.into_bytes.ensures.value ∙ c.in-Ok.ensures in
    let whole : container_line tree memory c.args.argument ≡ begin ++ (text ++ 10 ∷ []) = (λ i. (sym head i ++ elements_text (sym c.cells-elements.ensures.elements i)) ++ 10 ∷ []) ∙ append_assoc begin text (10 ∷ []) in
    let parts = line_ended (container_line tree memory c.args.argument) begin text front line whole c.in_ok-line.ensures.ok.1 in
    let between = g.K.Sink.taken c.write_elements.new.out in
    AppendsPrefix-later old between between (container_line tree memory c.args.argument) front [] (line ++ 10 ∷ []) parts c.in_ok-line.ensures.ok.2
    (AppendsPrefix-none between between [] (Appends-nothing between))

pub returns-clause-ok : goal.returns-clause-ok
returns-clause-ok g c =
    let old = g.K.Sink.taken c.args.out.now in
    let tree = graph_tree c.args.bound.now.graph in
    let memory = c.args.memory.now in
    let begin = c.into_bytes.result.items in
    let text = elements_text (elements_of (array_lent c.cells-elements.result)) in
    let line = c.in_ok-line.line.items in
    let front = c.in_ok-line.ensures.ok.0 in
    let head : begin ≡ container_head tree c.args.argument = ap (λ bytes. bytes.items) c.into_bytes.ensures.value ∙ c.in-Ok.ensures in
    let whole : container_line tree memory c.args.argument ≡ begin ++ (text ++ 10 ∷ []) = (λ i. (sym head i ++ elements_text (sym c.cells-elements.ensures.elements i)) ++ 10 ∷ []) ∙ append_assoc begin text (10 ∷ []) in
    let parts = line_ended (container_line tree memory c.args.argument) begin text front line whole c.in_ok-line.ensures.ok.1 in
    let new = g.K.Sink.taken c.write_text.new.out in
    let ended : c.as_slice.result.now ≡ line ++ 10 ∷ [] = search rules in
    let between = g.K.Sink.taken c.write_elements.new.out in
    IfOk-weaker c.write_text.result (λ _. Appends between new c.as_slice.result.now) (λ _. Appends old new (container_line tree memory c.args.argument))
    (λ _ appended. subst (Appends old new) (sym parts) (Appends-trans old between new front (line ++ 10 ∷ []) c.in_ok-line.ensures.ok.2 (subst (Appends between new) ended appended)))
    c.write_text.ensures.ok

pub returns-clause-err : goal.returns-clause-err
returns-clause-err g c =
    let old = g.K.Sink.taken c.args.out.now in
    let tree = graph_tree c.args.bound.now.graph in
    let memory = c.args.memory.now in
    let begin = c.into_bytes.result.items in
    let text = elements_text (elements_of (array_lent c.cells-elements.result)) in
    let line = c.in_ok-line.line.items in
    let front = c.in_ok-line.ensures.ok.0 in
    let head : begin ≡ container_head tree c.args.argument = ap (λ bytes. bytes.items) c.into_bytes.ensures.value ∙ c.in-Ok.ensures in
    let whole : container_line tree memory c.args.argument ≡ begin ++ (text ++ 10 ∷ []) = (λ i. (sym head i ++ elements_text (sym c.cells-elements.ensures.elements i)) ++ 10 ∷ []) ∙ append_assoc begin text (10 ∷ []) in
    let parts = line_ended (container_line tree memory c.args.argument) begin text front line whole c.in_ok-line.ensures.ok.1 in
    let new = g.K.Sink.taken c.write_text.new.out in
    let ended : c.as_slice.result.now ≡ line ++ 10 ∷ [] = search rules in
    let between = g.K.Sink.taken c.write_elements.new.out in
    IfErr-weaker c.write_text.result (λ _. AppendsPrefix between new c.as_slice.result.now) (λ _. AppendsPrefix old new (container_line tree memory c.args.argument))
    (λ _ prefix. AppendsPrefix-later old between new (container_line tree memory c.args.argument) front (line ++ 10 ∷ []) []
    (parts ∙ ap (λ bytes. front ++ bytes) (sym (append-nil (line ++ 10 ∷ []))))
    c.in_ok-line.ensures.ok.2 (subst (AppendsPrefix between new) ended prefix))
    c.write_text.ensures.err
