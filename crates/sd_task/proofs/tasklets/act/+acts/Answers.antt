use Rattle.std.proofs.Common.{rules, arith, ◌≡◌, ◌+◌, ◌≤◌, ◌∷◌, ◌∙◌, ap, sym, subst, length, drop, map, Option, Some, None, option_map}
use Rattle.std.proofs.lemmas.Grind.{common_steps}
use Rattle.std.proofs.lemmas.List.{drop_more}
use Rattle.sd_graph.specs.PlainTree.{ActTree, ActTrees}
use Rattle.sd_graph.specs.TreeFold.{act_tree}
use Rattle.sd_lex.specs.TreeFold.{statement_of, block_of}
use Rattle.sd_task.specs.in_force.Stack.{oldest}
use Rattle.sd_task.proofs.in_force_lemmas.ListLemmas.{drop_all}
use Rattle.sd_task.specs.tasklets.Code.{act_of, acts_of, followed_by}
use Rattle.sd_task.proofs.tasklets_lemmas.CodeLemmas.{acts_before, acts_before_more, acts_before_none, acts_stepped}
use Rattle.sd_task.proofs.tasklet_names_lemmas.LocalLemmas.{behind_keeps, behind_longer}
use Rattle.sd_task.proofs.tasklets.act.+acts.Goals as goal
use Rattle.sd_task.proofs.tasklets.act.+acts.Goals.{acts-in-Some+in_ok-push, acts-in_default}

pub acts-loop-statement-preserved : goal.acts-loop-statement-preserved
acts-loop-statement-preserved t c =
    let first = c.args.locals.now.names in
    let behind = c.in_ok-act.ensures.locals in
    let invariant = c.loop-statement.invariant in
    let variables = c.args.variables.now in
    let ins = c.args.connectors.now.ins in
    let outs = c.args.connectors.now.outs in
    let used = c.args.used.now.keys in
    let body = c.args.body.now in
    let locals = c.loop-statement.locals in
    let new = c.act.new.locals in
    let at = c.loop-statement.statement-index in
    let statement = c.statement-item.result in
    let made = map act_tree c.loop-statement.acts.items in
    let rest : ActTrees = acts_of variables ins outs used (block_of (drop (at + 1) body)) new.names new.next in
    let dropped : drop at body ≡ statement ∷ drop (at + 1) body = drop_more body at statement (search rules) ∙ ap (λ s. s ∷ drop (at + 1) body) (sym c.statement-item.is) in
    let before = ap (λ left. acts_before made (acts_of variables ins outs used (block_of left) locals.names locals.next)) (sym dropped) ∙ invariant.made in
    let stepped : (act : Option ActTree) → act ≡ act_of variables ins outs used (statement_of statement) locals.names locals.next → acts_before made (followed_by act rest) ≡ acts_of variables ins outs used (block_of body) first c.args.locals.now.next =
    λ act act_is. acts_stepped variables ins outs used _ made act (statement_of statement) (block_of (drop (at + 1) body)) locals.names new.names locals.next new.next act_is behind c.in_ok-act.ensures.next before in
    record {
      made = elim c.match-branch-2.branch [
        | acts-in-Some+in_ok-push w ↦
            ap (λ acts. acts_before (map act_tree acts.items) rest) w.acts-is
            ∙ ap (λ items. acts_before (map act_tree items) rest) w.in_ok-push.ensures.items
            ∙ acts_before_more c.loop-statement.acts.items w.in-Some.act rest
            ∙ stepped (Some (act_tree w.in-Some.act)) (sym (ap (option_map act_tree) w.in-Some.is) ∙ c.in_ok-act.ensures.act)
        | acts-in_default w ↦
            ap (λ acts. acts_before (map act_tree acts.items) rest) w.acts-is
            ∙ stepped None (sym (ap (option_map act_tree) w.in_default.is) ∙ c.in_ok-act.ensures.act)
      ];
      next = grind (arith, common_steps);
      kept = ap (λ names. oldest (length first) names) behind ∙ behind_keeps c.args.variables.now c.args.connectors.now.ins c.args.connectors.now.outs (statement_of c.statement-item.result) c.loop-statement.locals.names c.loop-statement.locals.next (length first) invariant.long ∙ invariant.kept;
      long = subst (λ names. length first ≤ length names) (sym behind) (behind_longer c.args.variables.now c.args.connectors.now.ins c.args.connectors.now.outs (statement_of c.statement-item.result) c.loop-statement.locals.names c.loop-statement.locals.next (length first) invariant.long);
    }

pub acts-returns-clause-acts : goal.acts-returns-clause-acts
acts-returns-clause-acts t c =
    let locals = c.loop-statement.locals in
    let made = map act_tree c.loop-statement.acts.items in
    let done : length c.args.body.now ≤ c.loop-statement.statement-index = search rules in
    sym (acts_before_none made)
    ∙ ap (λ rest. acts_before made (acts_of c.args.variables.now c.args.connectors.now.ins c.args.connectors.now.outs c.args.used.now.keys (block_of rest) locals.names locals.next)) (sym (drop_all c.loop-statement.statement-index c.args.body.now done))
    ∙ c.loop-statement.invariant.made
